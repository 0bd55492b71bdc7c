-- The state of a test: the machine of the lot, the words that its threads share, and how far each thread has come.
use Rattle.std.specs.Prelude.{ℕ, if◌then◌else◌, List, [], nat_lt}
use Rattle.lot_machine.specs.declared.status.Status.TheVariants as status
use Rattle.lot_machine.specs.Machine.{Machine}
use Rattle.lot_litmus.specs.declared.state.Progress.{Progress}

pub record Configuration : Type 0 where
  pub machine : Machine
  pub words : List ℕ
  pub threads : List Progress

-- the threads of a test, all of them running, and nobody waits
abbrev pub first_machine : ℕ → Machine
first_machine threads =
    record {
      lists = λ _. [];
      status = λ number. if nat_lt number threads then status.Running else status.Free;
      records = λ _ _. 0;
      max_threads = threads;
    }
