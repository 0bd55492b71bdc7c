use Rattle.std.proofs.Common.{◌≡◌, ℕ, ◌<◌, false}
use Rattle.std.specs.Prelude.{slice_get, Some}
use Rattle.lot_litmus.specs.Search.{is_hopeful}
use Rattle.lot_litmus.proofs.search.Search.are_lost.Given as goal

abbrev pub invariant-loop-index : goal.invariant-loop-index
invariant-loop-index l =
    (i : ℕ) → i < l.index → slice_get l.marks i ≡ Some false
    → is_hopeful l.test l.marks (slice_get l.self.states.items i) (slice_get l.self.leads.items i) ≡ false
