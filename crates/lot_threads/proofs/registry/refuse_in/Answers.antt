use Rattle.std.proofs.Common.{List, [], map, sym, subst, arith}
use Rattle.lot_machine.specs.declared.step.Answer.TheVariants as answer
use Rattle.lot_machine.specs.declared.step.Step.TheVariants as step
use Rattle.lot_machine.specs.Numbers.{is_in_use}
use Rattle.lot_history.specs.Moves.{Moves}
use Rattle.lot_history.specs.Witness.{max_threads_of}
use Rattle.lot_history.specs.declared.view.Piece.{Piece}
use Rattle.lot_history.proofs.NumberLemmas.{is_full}
use Rattle.lot_threads.specs.Members.{Is}
use Rattle.lot_threads.proofs.NumberLemmas.{all_in_use}
use Rattle.lot_threads.proofs.registry.refuse_in.Goals as goal

-- no number is free
pub add_full-requires-clause-moves : goal.add_full-requires-clause-moves
add_full-requires-clause-moves c =
    let bound = max_threads_of c.args.history.now in
    let numbers = c.args.numbers.now in
    subst (λ (ps : List Piece). Moves bound (Is step.Register answer.Full) ps ps) (sym c.requires.piece)
    (is_full bound (map is_in_use numbers) []
    (λ k low. all_in_use numbers k (omega (arith, low, c.requires.count)) c.requires.full))
