use Rattle.std.proofs.Common.{◌≡◌}
use denote.Param.Always.{always_mut}
use Rattle.std.specs.Iterator.Runs.{CallKeepsClosure}
use Rattle.parking_lot.specs.Guards.{titled_mutex_of}
use Rattle.parking_lot.proofs.titled_condvar.TitledCondvar.wait_while_at_most.Given as goal

-- what holds before each look at the condition
pub record Turn (Asks : Type 0) (Keeps : Type 0) (Stays : Type 0) : Type 0 where
  pub can_ask : Asks
  pub is_first : Keeps
  pub is_same : Stays

-- the condition can be asked, and is the first one where asking changes nothing of it, and the guard is one of the
-- first one's mutex
abbrev pub invariant-loop : goal.invariant-loop
invariant-loop g turn = Turn
    (always_mut g.C.FnMut turn.condition)
    (CallKeepsClosure g.C.FnMut turn.initial.condition → turn.condition ≡ turn.initial.condition)
    (titled_mutex_of turn.guard ≡ titled_mutex_of turn.initial.guard)
