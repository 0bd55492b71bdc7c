use Rattle.std.proofs.Common.{◌≡◌, List, [], ◌∷◌, sym, ap, ◌∙◌, arith}
use Rattle.lot_history.specs.declared.view.Piece.{Piece}
use Rattle.lot_history.specs.declared.view.Piece.TheVariants.{Numbers, Undealt}
use Rattle.lot_history.specs.Views.{rest_of}
use Rattle.lot_history.specs.Witness.{pieces_of}
use Rattle.thread_tests.proofs.titles.deal_one.Goals as goal
use Rattle.thread_tests.proofs.titles.deal_one.Goals.{After-give-lists}

-- what the witness has without the lists
listless : (c : After-give-lists) → pieces_of c.give-lists.new.me ≡ Undealt 0 1 ∷ Numbers [] ∷ []
listless c = c.give-lists.ensures.rest ∙ ap rest_of c.requires.nobody

pub deal-requires : goal.deal-requires
deal-requires c =
    let now = listless (goal.at.deal-requires c).After-give-lists in (
      c.give-lists.ensures.still.witness,
      (now ∙ ap (λ (ps : List Piece). Undealt 0 1 ∷ ps) (sym (ap rest_of now)), omega arith),
    )
