use Rattle.std.proofs.Common.{List, Option, Some, [], ◌∷◌, ◌++◌, ap, sym, ◌∙◌, subst, replicate}
use Rattle.atomic_table.specs.Table.{opening}
use Rattle.lot_word_lock.specs.WordView.{resting}
use Rattle.lot_word_lock.proofs.WordKeyLemmas.{Keyed, opens_keyed}
use Rattle.lot_word_lock.proofs.word_lock.WordLock.new.Goals as goal

pub new-requires : goal.new-requires
new-requires g c =
    let fits = g.T.Fits.fits in
    let key = c.args.key.now in
    let made = c.push_reserved.ensures.items ∙ ap (λ xs. xs ++ Some c.args.value ∷ []) c.in_ok-slots.ensures.items in
    subst (λ (xs : List (Option g.row.T.Denot)). Keyed fits key (opening (replicate 24 0) xs (key, resting)))
    (sym made) (opens_keyed fits key c.args.value c.requires)
