use Rattle.std.proofs.Common.{◌≡◌, ℕ, take, map, slice_get}
use Rattle.lot_machine.specs.Machine.{statuses_with_taken}
use Rattle.lot_litmus.specs.Queues.{entries_of}
use Rattle.lot_litmus.specs.View.{waiter_of, status_by}
use Rattle.lot_litmus.proofs.state.State.take_all.Given as goal

abbrev pub invariant-loop-index : goal.invariant-loop-index
invariant-loop-index l =
    ((k : ℕ) → status_by (slice_get l.self.standings k)
    ≡ statuses_with_taken (record { 0 = l.token }) (map waiter_of (take l.index (entries_of l.taken)))
    (λ j. status_by (slice_get l.fn.self.standings j)) k) × (l.self.queues ≡ l.fn.self.queues)
    × (l.self.words ≡ l.fn.self.words) × (l.self.threads ≡ l.fn.self.threads)
