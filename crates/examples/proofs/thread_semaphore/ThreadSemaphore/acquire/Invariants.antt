use Rattle.examples.specs.SameMember.{IsSameMember}
use Rattle.examples.proofs.thread_semaphore.ThreadSemaphore.acquire.Given as goal

-- the member stays the same
abbrev pub invariant-loop : goal.invariant-loop
invariant-loop g l = record {
  can_next : (goal.iterator-loop g).can_next l.iterator';
  is_finite : (goal.iterator-loop g).is_finite l.iterator';
  same : IsSameMember l.fn.member l.member;
}
