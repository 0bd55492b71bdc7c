-- What interleaved answers tell of parks: their outcomes, and how many threads were unparked and came back.
use Rattle.std.specs.Prelude.{ℕ, ◌==◌, ◌&&◌, Bool, false}
use Rattle.lot_machine.specs.declared.step.Answer.TheVariants as answer
use Rattle.lot_simulator.specs.declared.interleaved.FineAnswer.{FineAnswer}
use Rattle.lot_simulator.specs.declared.interleaved.FineAnswer.TheVariants as fine
use Rattle.lot_simulator.specs.declared.interleaved.FineStep.{FineStep}
use Rattle.lot_simulator.specs.declared.interleaved.FineStep.TheVariants.{Look, Enter, Return}
use Rattle.lot_machine.specs.Steps.{is_outcome}
use Rattle.lot_machine.specs.Totals.{unparked_by, returned_by}

-- how many threads an answer tells of that were unparked
abbrev pub unparked_in : FineAnswer → ℕ
unparked_in (fine.Answer given) = unparked_by given
unparked_in _ = 0

-- and that came back, unparked
abbrev pub returned_in : FineAnswer → ℕ
returned_in (fine.Answer given) = returned_by given
returned_in _ = 0

-- whether this thread parked in a step
abbrev pub parks_in : ℕ → FineStep → FineAnswer → Bool
parks_in number (Enter thread _ _ _ _) (fine.Answer answer.Entered) = thread == number
parks_in number _ _ = false

-- whether a step gave this thread the outcome of its park
abbrev pub ends_park_in : ℕ → FineStep → FineAnswer → Bool
ends_park_in number (Look thread) (fine.Answer given) = is_outcome given && thread == number
ends_park_in number (Return thread) (fine.Answer given) = is_outcome given && thread == number
ends_park_in number _ _ = false
