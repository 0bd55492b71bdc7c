-- The configuration that a search's state stands for.
use Rattle.std.specs.Prelude.{List, [], map, slice_get, Option, Some, None}
use Rattle.lot_machine.specs.declared.status.Status.{Status}
use Rattle.lot_machine.specs.declared.status.Status.TheVariants as status
use Rattle.lot_machine.specs.Machine.{Machine, Waiter}
use Rattle.lot_litmus.specs.declared.queue.Entry.{Entry}
use Rattle.lot_litmus.specs.declared.queue.Queue.{Queue}
use Rattle.lot_litmus.specs.declared.state.Standing.{Standing}
use Rattle.lot_litmus.specs.declared.state.Standing.TheVariants as standing
use Rattle.lot_litmus.specs.declared.state.State.{State}
use Rattle.lot_litmus.specs.Queues.{entries_of}
use Rattle.lot_litmus.specs.Configuration.{Configuration}
use Rattle.lot_litmus.specs.Steps.{is_timed}

abbrev pub waiter_of : Entry → Waiter
waiter_of entry =
    record {
      number = entry.thread.number;
      park_token = record { 0 = entry.token };
      timed = is_timed entry.timing;
    }

abbrev pub status_by : Option Standing → Status
status_by None = status.Free
status_by (Some standing.Running) = status.Running
status_by (Some (standing.Waiting timing)) = status.Waiting (is_timed timing)
status_by (Some standing.Late) = status.Late
status_by (Some (standing.Taken token)) = status.Taken (record { 0 = token })

abbrev pub waiters_by : Option Queue → List Waiter
waiters_by None = []
waiters_by (Some queue) = map waiter_of (entries_of queue)

abbrev pub machine_of : List Queue → List Standing → Machine
machine_of queues standings =
    record {
      lists = λ key. waiters_by (slice_get queues key);
      status = λ number. status_by (slice_get standings number);
      records = λ _ _. 0;
      max_threads = 6;
    }

abbrev pub configuration_of : State → Configuration
configuration_of s =
    record { machine = machine_of s.queues s.standings; words = s.words; threads = s.threads }
