use Rattle.std.proofs.Common.{◌≡◌, false, List, [], ◌∷◌, ◌++◌, refl, sym, ap, ◌∙◌}
use Rattle.lot_machine.specs.declared.status.Status.TheVariants as status
use Rattle.lot_history.specs.declared.view.Piece.{Piece}
use Rattle.lot_history.specs.declared.view.Piece.TheVariants.{Thread, Timing, Title, TitledLists}
use Rattle.lot_history.specs.Views.{rest_of}
use Rattle.lot_history.specs.Witness.{pieces_in, pieces_of}
use Rattle.thread_tests.proofs.titles.enter_with.Goals as goal
use Rattle.thread_tests.proofs.titles.enter_with.Goals.{After-take-4}

-- what the witness has before the step
taken : (c : After-take-4)
    → pieces_of c.take-4.new.me ≡ TitledLists 1 1 0 [] ∷ Title 0 [] ∷ Thread 0 status.Running ∷ Timing 0 false ∷ []
taken c =
    let lists : pieces_of c.take.new.me ≡ TitledLists 1 1 0 [] ∷ [] = c.take.ensures.pieces
    ∙ (ap (λ (ps : List Piece). ps ++ pieces_in c.args.lists) c.requires.bare ∙ c.requires.lists) in
    let both : pieces_of c.take-2.new.me ≡ TitledLists 1 1 0 [] ∷ Title 0 [] ∷ [] = c.take-2.ensures.pieces
    ∙ (ap (λ (ps : List Piece). ps ++ pieces_in c.args.title) lists
    ∙ ap (λ (ps : List Piece). TitledLists 1 1 0 [] ∷ ps) c.requires.title) in
    let thread : pieces_of c.take-3.new.me ≡ TitledLists 1 1 0 [] ∷ Title 0 [] ∷ Thread 0 status.Running ∷ [] =
    c.take-3.ensures.pieces ∙ (ap (λ (ps : List Piece). ps ++ pieces_in c.args.thread.0) both
    ∙ ap (λ (ps : List Piece). TitledLists 1 1 0 [] ∷ Title 0 [] ∷ ps) c.requires.thread) in
    c.take-4.ensures.pieces ∙ (ap (λ (ps : List Piece). ps ++ pieces_in c.args.thread.1) thread
    ∙ ap (λ (ps : List Piece). TitledLists 1 1 0 [] ∷ Title 0 [] ∷ Thread 0 status.Running ∷ ps) c.requires.timing)

pub enter_titled-requires-clause-titled : goal.enter_titled-requires-clause-titled
enter_titled-requires-clause-titled c =
    let now = taken (goal.at.enter_titled-requires-clause-titled c).After-take-4 in record {
      limit = 1;
      size = 1;
      place = 0;
      standing = [];
      numbers = [];
      timed = false;
      are = now ∙ ap (λ (ps : List Piece).
          TitledLists 1 1 0 [] ∷ Title 0 [] ∷ Thread 0 status.Running ∷ Timing 0 false ∷ ps)
          (sym (ap (λ (ps : List Piece). rest_of (rest_of (rest_of (rest_of ps)))) now));
      here = refl;
    }
