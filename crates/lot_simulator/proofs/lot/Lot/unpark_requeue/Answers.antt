use Rattle.std.proofs.Common.{◌∙◌, sym}
use Rattle.lot_simulator.proofs.LotThreadLemmas.{lot_of}
use Rattle.lot_simulator.proofs.LotLemmas.{answer-requeue, few-waiting}
use Rattle.lot_simulator.proofs.RequeueLotLemmas.{CanCommit-requeue, uses-requeue, IsLotStep-requeue}
use Rattle.lot_simulator.proofs.lot.Lot.unpark_requeue.Goals as goal

pub requeue_waiters-taken-requires-clause-callback : goal.requeue_waiters-taken-requires-clause-callback
requeue_waiters-taken-requires-clause-callback g c op chosen other =
    let callable = rw (← c.self.view_is) at c.requires.callback in
    let few = few-waiting (lot_of c.self.inside) c.self.invariant.0 c.args.from in
    rw (answer-requeue c.self.inside.table.cells c.args.from few op) (callable op chosen other)

pub commit-requires : goal.commit-requires
commit-requires g c =
    let done = c.requeue_waiters-taken.ensures.requeued in
    CanCommit-requeue (lot_of c.self.inside) c.args.from c.args.to c.self.invariant.0 done.op done.taken.0 _ _
    done.threads done.taken.2

pub invariant_of-self : goal.invariant_of-self
invariant_of-self g c =
    let done = c.requeue_waiters-taken.ensures.requeued in
    rw c.commit.ensures (
      (IsLotStep-requeue (lot_of c.self.inside) c.args.from c.args.to c.self.invariant.0 done.op done.taken.0 _ _
          done.threads done.taken.2 _ done.lists).is_lot,
      c.requeue_waiters-taken.ensures.numbers ∙ c.self.invariant.1
          ∙ sym (uses-requeue (lot_of c.self.inside) c.args.from c.args.to c.self.invariant.0 done.op done.taken.0 _ _
          done.threads done.taken.2),
    )

pub returns-clause-requeued : goal.returns-clause-requeued
returns-clause-requeued g c =
    let done = c.requeue_waiters-taken.ensures.requeued in
    rw (c.commit.ensures, ← c.self.view_is)
    (record {
      op = done.op;
      chosen = done.chosen;
      answer = done.answer
          ∙ answer-requeue c.self.inside.table.cells c.args.from
          (few-waiting (lot_of c.self.inside) c.self.invariant.0 c.args.from) done.op;
      taken = (
        done.taken.0,
        done.taken.1,
        (IsLotStep-requeue (lot_of c.self.inside) c.args.from c.args.to c.self.invariant.0 done.op done.taken.0 _ _
            done.threads done.taken.2 _ done.lists).means,
      );
    })
