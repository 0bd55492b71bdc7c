use Rattle.std.proofs.Common.{List, Option, Some, [], ◌∷◌, ◌++◌, ap, ◌∙◌, subst, sym}
use Rattle.atomic_table.specs.Table.{opening}
use Rattle.lock_words.specs.PhaseRule.{resting}
use Rattle.lock_words.proofs.PhaseKeys.{Keyed, opens_keyed}
use Rattle.lock_words.proofs.phases.Phases.new.Goals as goal

pub new-requires : goal.new-requires
new-requires g c =
    let told = g.M.Tells.told in
    let fits = g.M.Tells.fits in
    let key = c.args.queue.now in
    let made = c.push_reserved.ensures.items ∙ ap (λ xs. xs ++ Some c.args.title ∷ []) c.in_ok-slots.ensures.items in
    subst (λ (xs : List (Option g.row.M.Denot)). Keyed told fits key (opening (0 ∷ []) xs (key, resting)))
    (sym made) (opens_keyed told fits key c.args.title c.requires.fits c.requires.nobody)
