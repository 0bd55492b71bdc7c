-- What a run of the interleaved machine amounts to.
use Rattle.std.specs.Prelude.{◌≡◌, ℕ, ◌+◌, List}
use Rattle.std.specs.List.{sum_by}
use Rattle.lot_machine.specs.declared.step.Step.{Step}
use Rattle.lot_simulator.specs.declared.interleaved.FineAnswer.{FineAnswer}
use Rattle.lot_simulator.specs.declared.interleaved.FineStep.{FineStep}
use Rattle.lot_simulator.specs.Copies.{AreCopies}
use Rattle.lot_simulator.specs.InterleavedState.{FineState}
use Rattle.lot_simulator.specs.InterleavedSteps.{IsFineStep}
use Rattle.lot_simulator.specs.InterleavedView.{answers_of, sequential_steps, sequential_view, steps_of}
use Rattle.lot_machine.specs.Status.{is_parked}
use Rattle.lot_simulator.specs.InterleavedOutcomes.{unparked_in, returned_in, parks_in, ends_park_in}
use Rattle.lot_machine.specs.Run.{IsRun, OutcomesAlternate}
use Rattle.lot_machine.specs.Steps.{IsStep}
use Rattle.lot_machine.specs.Totals.{taken_threads_of}

-- a run from one state to another, and its sequential steps, copied
pub record AmountsTo (s last : FineState) (steps : List FineStep) (answers : List FineAnswer)
    (told : List Step) : Type 0 where
  -- it is a run of the interleaved machine, and these are its sequential steps
  pub run : IsRun IsFineStep s steps answers last
  pub sequential : AreCopies (steps_of (sequential_steps s steps answers last run)) told
  -- with their answers they are a run of the machine with one list for each key
  pub machine_run : IsRun IsStep (sequential_view s) told (answers_of (sequential_steps s steps answers last run))
      (sequential_view last)
  -- in its answers each thread's parks and their outcomes take turns
  pub outcomes : (number : ℕ) → OutcomesAlternate (parks_in number) (ends_park_in number)
      (is_parked ((sequential_view s).status number)) steps answers
  -- and the threads that were taken before, and those that its answers count as unparked, are as many as those that its
  -- answers tell of as come back and those that are still taken at its end
  pub come_back : taken_threads_of (sequential_view s) + sum_by unparked_in answers
      ≡ sum_by returned_in answers + taken_threads_of (sequential_view last)
