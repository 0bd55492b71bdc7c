use Rattle.std.proofs.Common.{◌≡◌, true, false, List, [], ◌∷◌, ◌++◌, refl, sym, ap, ◌∙◌, arith}
use Rattle.lot_machine.specs.declared.status.Status.TheVariants as status
use Rattle.lot_machine.proofs.RecordLemmas.{times_recorded-removed}
use Rattle.lot_history.specs.declared.view.Piece.{Piece}
use Rattle.lot_history.specs.declared.view.Piece.TheVariants.{Numbers, Records, Thread, Timing}
use Rattle.lot_history.specs.Views.{first_of, rest_of}
use Rattle.lot_history.specs.Witness.{pieces_in, pieces_of}
use Rattle.lot_history.proofs.NumberLemmas.{one_more_set}
use Rattle.thread_tests.proofs.witnesses.register_and_retire.Goals as goal
use Rattle.thread_tests.proofs.witnesses.register_and_retire.Goals.{After-acquire}

-- what the witness has once a key is recorded, and what the numbers' part has
acquired : (c : After-acquire)
    → (pieces_of c.acquire.new.me ≡ Thread 0 status.Running ∷ Records 0 (7 ∷ []) ∷ Timing 0 false ∷ [])
    × (pieces_in c.give-numbers.result ≡ Numbers (true ∷ []) ∷ [])
acquired c =
    let listless : pieces_of c.give-lists.new.me ≡ Numbers [] ∷ [] =
    c.give-lists.ensures.rest ∙ ap rest_of c.requires.nobody in
    let registered : pieces_of c.register.new.me
    ≡ Numbers (true ∷ []) ∷ Thread 0 status.Running ∷ Records 0 [] ∷ Timing 0 false ∷ [] = c.register.ensures.pieces
    ∙ ap (λ (ps : List Piece). Numbers (true ∷ []) ∷ Thread 0 status.Running ∷ Records 0 [] ∷ Timing 0 false ∷ rest_of ps)
    listless in
    let own : pieces_of c.give-numbers.new.me ≡ Thread 0 status.Running ∷ Records 0 [] ∷ Timing 0 false ∷ [] =
    c.give-numbers.ensures.rest ∙ ap rest_of registered in (
      c.acquire.ensures.pieces
          ∙ ap (λ (ps : List Piece). Thread 0 status.Running ∷ Records 0 (7 ∷ []) ∷ rest_of (rest_of ps)) own,
      c.give-numbers.ensures.first ∙ ap first_of registered,
    )

pub release-requires : goal.release-requires
release-requires c =
    let now = (acquired (goal.at.release-requires c).After-acquire).0 in (
      c.acquire.ensures.still.witness,
      record {
        keys = 7 ∷ [];
        pieces = now ∙ ap (λ (ps : List Piece). Thread 0 status.Running ∷ Records 0 (7 ∷ []) ∷ ps)
            (sym (ap (λ (ps : List Piece). rest_of (rest_of ps)) now));
        less = times_recorded-removed (7 ∷ []) 0 7 0 (omega arith) refl;
      },
    )

pub retire-requires : goal.retire-requires
retire-requires c =
    let (before, numbers) = acquired (goal.at.retire-requires c).After-acquire in
    let released : pieces_of c.release.new.me ≡ Thread 0 status.Running ∷ Records 0 [] ∷ Timing 0 false ∷ [] =
    c.release.ensures.pieces
    ∙ ap (λ (ps : List Piece). Thread 0 status.Running ∷ Records 0 [] ∷ rest_of (rest_of ps)) before in
    let now : pieces_of c.take.new.me
    ≡ Thread 0 status.Running ∷ Records 0 [] ∷ Timing 0 false ∷ Numbers (true ∷ []) ∷ [] =
    c.take.ensures.pieces ∙ (ap (λ (ps : List Piece). ps ++ pieces_in c.give-numbers.result) released
    ∙ ap (λ (ps : List Piece). Thread 0 status.Running ∷ Records 0 [] ∷ Timing 0 false ∷ ps) numbers) in (
      c.take.ensures.still.witness,
      record {
        keys = [];
        timed = false;
        uses = true ∷ [];
        pieces = now
            ∙ ap (λ (ps : List Piece).
            Thread 0 status.Running ∷ Records 0 [] ∷ Timing 0 false ∷ Numbers (true ∷ []) ∷ ps)
            (sym (ap (λ (ps : List Piece). rest_of (rest_of (rest_of (rest_of ps)))) now));
        more = one_more_set (false ∷ []) 0 (omega arith) refl;
      },
    )
