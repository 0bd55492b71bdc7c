use Rattle.std.proofs.Common.{◌≡◌, drop}
use Rattle.lot_litmus.specs.Steps.{lets_in, all_pass}
use Rattle.lot_litmus.proofs.state.State.lets_in.Given as goal

abbrev pub invariant-loop-other : goal.invariant-loop-other
invariant-loop-other l =
    all_pass (λ other. lets_in l.access other.inside) (drop l.other-index l.other-items)
    ≡ all_pass (λ other. lets_in l.access other.inside) l.other-items
