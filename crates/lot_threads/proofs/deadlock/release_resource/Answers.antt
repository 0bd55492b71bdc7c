use Rattle.std.proofs.Common.{List, [], ◌∷◌, sym, subst}
use Rattle.lot_machine.specs.declared.status.Status.TheVariants.{Running}
use Rattle.lot_machine.specs.declared.step.Answer.TheVariants as answer
use Rattle.lot_machine.specs.declared.step.Step.TheVariants as step
use Rattle.lot_history.specs.Moves.{Moves}
use Rattle.lot_history.specs.Witness.{max_threads_of}
use Rattle.lot_history.specs.declared.view.Piece.{Piece}
use Rattle.lot_history.specs.declared.view.Piece.TheVariants.{Records, Thread}
use Rattle.lot_history.proofs.RecordLemmas.{releases}
use Rattle.lot_threads.specs.Members.{Is}
use Rattle.lot_threads.proofs.deadlock.release_resource.Goals as goal

pub add_recording-requires-clause-moves : goal.add_recording-requires-clause-moves
add_recording-requires-clause-moves g c =
    let bound = max_threads_of c.history.result.now in
    let number = c.thread_data.inside.number in
    let key = c.args.key in
    subst (λ (pieces : List Piece). Moves bound (Is (step.Release number key) answer.Released)
    (Thread number Running ∷ pieces) (Thread number Running ∷ Records number c.release.new.self ∷ []))
    (sym c.thread_data.invariant.has_recorded.pieces)
    (releases bound number key c.thread_data.inside.keys c.release.new.self c.release.ensures)
