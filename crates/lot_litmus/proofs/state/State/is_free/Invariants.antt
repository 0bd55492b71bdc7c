use Rattle.std.proofs.Common.{◌≡◌, drop, not}
use Rattle.std.specs.Prelude.{slice_index_or, false}
use Rattle.lot_litmus.specs.Steps.{all_pass}
use Rattle.lot_litmus.proofs.state.State.is_free.Given as goal

abbrev pub invariant-loop-other : goal.invariant-loop-other
invariant-loop-other l =
    all_pass (λ other. not (slice_index_or other.locked l.bucket.number false)) (drop l.other-index l.other-items)
    ≡ all_pass (λ other. not (slice_index_or other.locked l.bucket.number false)) l.other-items
