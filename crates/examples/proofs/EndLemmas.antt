-- The end of a park on a record.
use Rattle.std.proofs.Common.{◌≡◌, ℕ, Result, Ok, Err, refl, subst}
use Rattle.std.specs.Prelude.{IsOk}
use Rattle.lot_simulator.specs.Lot.{machine}
use Rattle.lot_machine.specs.Steps.{IsStep}
use Rattle.lot_machine.specs.declared.step.Answer.{Answer}
use Rattle.lot_machine.specs.declared.step.Answer.TheVariants as answer
use Rattle.lot_machine.specs.declared.step.Step.TheVariants.{Resolve}
use Rattle.lot_machine.proofs.AnswerLemmas.{memory-open}
use Rattle.lot_simulator.specs.JournalLaws.{EndsHaveRoom}
use Rattle.lot_simulator.specs.Record.{IsRecord, IsRecorded, result_for}
use Rattle.lot_simulator.specs.RecordState.{RecordState}
use Rattle.lot_simulator.specs.declared.record.RecordError.{RecordError}
use Rattle.lot_simulator.specs.declared.record.RecordError.TheVariants as refused

result_for-memory : (given : Answer) → Err refused.NoMemory ≡ result_for given → given ≡ answer.NoMemory
result_for-memory answer.NoMemory is = refl
result_for-memory _ is = cc

-- it is never refused
pub end-done : (old new : RecordState) (thread : ℕ) (result : Result Answer RecordError) → IsRecord old → EndsHaveRoom
    → IsRecorded old (Resolve thread) result new → IsOk result
end-done old new thread (Ok given) kept room is = refl
end-done old new thread (Err refused.JournalFull) kept room (lacks, _) = absurd ((room old thread kept).1 lacks)
end-done old new thread (Err refused.NoMemory) kept room (roomy, given, is, does, journal, capacity, size) =
    absurd ((memory-open (machine old.lot) (Resolve thread) (machine new.lot)).0
    (subst (λ answered. IsStep (machine old.lot) (Resolve thread) answered (machine new.lot)) (result_for-memory given is)
    does)).0
