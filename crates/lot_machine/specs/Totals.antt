-- How many threads unparks took, and how many of them came back.
use Rattle.std.specs.Prelude.{◌≡◌, ℕ, ◌+◌, List}
use Rattle.std.specs.List.{count_by, range_with_len, sum_by}
use Rattle.lot_machine.specs.declared.step.Answer.{Answer}
use Rattle.lot_machine.specs.declared.step.Answer.TheVariants as answer
use Rattle.lot_machine.specs.declared.step.Step.{Step}
use Rattle.lot_machine.specs.Machine.{Machine, IsConsistent}
use Rattle.lot_machine.specs.Status.{is_taken}
use Rattle.lot_machine.specs.Run.{IsRun}
use Rattle.lot_machine.specs.Steps.{IsStep}

-- how many threads an answer tells of that were unparked
abbrev pub unparked_by : Answer → ℕ
unparked_by (answer.Unpark result) = result.unparked_threads
unparked_by (answer.Count count) = count
unparked_by _ = 0

-- and that came back, unparked
abbrev pub returned_by : Answer → ℕ
returned_by (answer.Unparked token) = 1
returned_by _ = 0

-- how many threads were taken and have not come back
abbrev pub taken_threads_of : Machine → ℕ
taken_threads_of m = count_by (λ number. is_taken (m.status number)) (range_with_len 0 m.max_threads)

-- in every run the threads that were taken before, and those that its unparks took, are as many as those that came back
-- and those that are still taken at its end
abbrev pub UnparkedThreadsComeBack : Type 0
UnparkedThreadsComeBack = (m : Machine) (steps : List Step) (answers : List Answer) (last : Machine) → IsConsistent m
    → IsRun IsStep m steps answers last →
    taken_threads_of m + sum_by unparked_by answers ≡ sum_by returned_by answers + taken_threads_of last
