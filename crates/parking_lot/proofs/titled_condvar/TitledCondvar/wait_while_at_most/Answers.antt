use Rattle.std.proofs.Common.{sym, ap}
use Rattle.parking_lot.specs.Guards.{titled_value_of}
use Rattle.parking_lot.proofs.titled_condvar.TitledCondvar.wait_while_at_most.Goals as goal

pub returns-then-not-timed_out-clause-answered : goal.returns-then-not-timed_out-clause-answered
returns-then-not-timed_out-clause-answered g c = (
  _,
  _,
  _,
  _,
  record { met = c.condition-timed_out.ensures.met },
  sym (ap titled_value_of c.new-guard.ensures),
  c.loop.invariant.is_first,
)
