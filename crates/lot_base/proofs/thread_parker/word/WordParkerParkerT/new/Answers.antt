use Rattle.std.proofs.Common.{List, [], ◌∷◌, ◌++◌, ap, sym, ◌∙◌, subst, replicate, rules}
use Rattle.atomic_table.specs.Table.{opening}
use Rattle.lot_base.specs.declared.thread_parker.LoadedSlot.{LoadedSlot}
use Rattle.lot_base.specs.WordParkerRule.{ParkerOrderly}
use Rattle.lot_base.proofs.WordParkerLemmas.{starts}
use Rattle.lot_base.proofs.thread_parker.word.WordParkerParkerT.new.Goals as goal

pub new-requires : goal.new-requires
new-requires g c =
    let fits = g.L.Payload.fits in
    let key = c.args.key.now in
    let slot = c.new-slot.result in
    let made = c.push_reserved.ensures.items ∙ ap (λ xs. xs ++ slot ∷ []) c.in_ok-slots.ensures.items in
    subst (λ (xs : List (LoadedSlot _ _)). ParkerOrderly fits key (opening (replicate 15 0) xs key))
    (sym made) (starts fits key slot (record { owner = search rules; unparked = search rules }) (search rules))
