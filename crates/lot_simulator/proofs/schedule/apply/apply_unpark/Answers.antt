use Rattle.lot_simulator.proofs.schedule.apply.apply_unpark.Goals as goal

pub returns-in-Requeue : goal.returns-in-Requeue
returns-in-Requeue c = rw c.in-Requeue.is c.apply_requeue.ensures
