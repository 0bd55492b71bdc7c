use Rattle.std.proofs.Common.{List, [], ◌∷◌, map, slice_set, false, sym, subst, arith}
use Rattle.std.proofs.lemmas.Option.{slice_get_within}
use Rattle.lot_machine.specs.declared.status.Status.TheVariants.{Running}
use Rattle.lot_machine.specs.declared.step.Answer.TheVariants as answer
use Rattle.lot_machine.specs.declared.step.Step.TheVariants as step
use Rattle.lot_machine.specs.declared.numbers.Use.{Use}
use Rattle.lot_machine.specs.declared.numbers.Use.TheVariants.{Free, Registered}
use Rattle.lot_machine.specs.Numbers.{is_in_use}
use Rattle.lot_history.specs.Moves.{Moves}
use Rattle.lot_history.specs.Witness.{max_threads_of}
use Rattle.lot_history.specs.declared.view.Piece.{Piece}
use Rattle.lot_history.specs.declared.view.Piece.TheVariants.{Records, Thread, Timing}
use Rattle.lot_history.proofs.NumberLemmas.{registers}
use Rattle.lot_threads.specs.Cells.{numbers_in}
use Rattle.lot_threads.specs.Members.{Is}
use Rattle.lot_threads.proofs.NumberLemmas.{one_more_registered, use_at}
use Rattle.lot_threads.proofs.registry.register_in.Goals as goal

-- the least free number is registered
pub add_registered-requires-clause-moves : goal.add_registered-requires-clause-moves
add_registered-requires-clause-moves c =
    let bound = max_threads_of c.args.history.now in
    let numbers = c.args.numbers.now in
    let number = c.args.number in
    let least = c.requires.least in
    let low = slice_get_within numbers number Free least.free in
    subst (λ (ps : List Piece). Moves bound (Is step.Register (answer.Registered number)) ps
    (numbers_in c.register-node.new.self ∷ Thread number Running ∷ Records number [] ∷ Timing number false ∷ [])) (sym c.requires.piece)
    (subst (λ (after : List Use). Moves bound (Is step.Register (answer.Registered number)) (numbers_in numbers ∷ [])
    (numbers_in after ∷ Thread number Running ∷ Records number [] ∷ Timing number false ∷ [])) (sym c.register-node.ensures.registered)
    (registers bound (map is_in_use numbers) [] number (map is_in_use (slice_set numbers number Registered))
    (omega (arith, low, c.requires.count)) (one_more_registered numbers number least)
    (λ k below. use_at numbers k Registered (least.least k below))))
