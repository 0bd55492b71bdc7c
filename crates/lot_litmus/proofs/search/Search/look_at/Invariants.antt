use Rattle.std.proofs.Common.{◌≡◌, ℕ, ◌<◌, length}
use Rattle.std.specs.Prelude.{slice_get, Some}
use Rattle.lot_litmus.specs.declared.state.State.{State}
use Rattle.lot_litmus.specs.Search.{Grows, IsLead}
use Rattle.lot_litmus.proofs.search.Search.look_at.Given as goal

abbrev pub invariant-loop-number : goal.invariant-loop-number
invariant-loop-number l = record {
  threads : (s : State) → slice_get l.fn.self.states.items l.index ≡ Some s → 0 < l.number → length s.threads ≡ 6;
  six : length l.leads.to ≡ 6;
  grows : Grows l.fn.self.states.items l.self.states.items;
  same : l.self.leads.items ≡ l.fn.self.leads.items;
  leads : (s : State) (thread : ℕ) → slice_get l.fn.self.states.items l.index ≡ Some s → thread < l.number
      → IsLead l.test l.self.states.items s thread (slice_get l.leads.to thread);
}
