use Rattle.std.proofs.Common.{List, [], ◌∷◌, sym, ◌∙◌, subst}
use Rattle.lot_machine.specs.declared.status.Status.TheVariants.{Running}
use Rattle.lot_machine.specs.declared.step.Step.TheVariants as step
use Rattle.lot_history.specs.Moves.{Moves}
use Rattle.lot_history.specs.Witness.{max_threads_of}
use Rattle.lot_history.specs.declared.view.Piece.{Piece}
use Rattle.lot_history.specs.declared.view.Piece.TheVariants.{Records, Thread}
use Rattle.lot_threads.specs.Members.{Is}
use Rattle.lot_threads.proofs.RecordingLemmas.{acquires_on, refuses_on}
use Rattle.lot_threads.proofs.deadlock.acquire_resource.Goals as goal
use Rattle.lot_threads.proofs.deadlock.acquire_resource.Goals.{then-is_ok, else-is_ok}

pub add_recording-requires-clause-moves : goal.add_recording-requires-clause-moves
add_recording-requires-clause-moves g c =
    let bound = max_threads_of c.history.result.now in
    let number = c.thread_data.inside.number in
    let key = c.args.key in
    let keys = c.thread_data.inside.keys in
    let after = c.acquire-acquired.new.self in
    let found = c.acquire-acquired.result in
    let told = c.acquire-acquired.ensures in
    let given = c.if-is_ok.answer in
    subst (λ (pieces : List Piece). Moves bound (Is (step.Acquire number key) given) (Thread number Running ∷ pieces)
    (Thread number Running ∷ Records number after ∷ [])) (sym c.thread_data.invariant.has_recorded.pieces)
    (elim c.if-is_ok.branch [
      | then-is_ok w ↦ acquires_on bound number key keys after found told.ok told.err given
          (sym c.is_ok.ensures.value ∙ w.if-is_ok.true) w.answer-is
      | else-is_ok w ↦ refuses_on bound number key keys after found told.ok told.err given
          (sym c.is_ok.ensures.value ∙ w.if-is_ok.false) w.answer-is
    ])
