use Rattle.std.proofs.Common.{rules, ◌≡◌, ◌∙◌, sym, ap, refl, slice_set, true}
use Rattle.lot_machine.specs.declared.status.Status.TheVariants.{Waiting, Late}
use Rattle.lot_machine.specs.Status.{is_queued, is_timed}
use Rattle.lot_machine.specs.Machine.{with_status}
use Rattle.lot_simulator.specs.Lot.{machine, use_of}
use Rattle.lot_simulator.proofs.LotThreadLemmas.{lot_of, IsLotStep, IsLotStep-status, uses-status, threads-kept}
use Rattle.lot_simulator.proofs.lot.Lot.deadline.Goals as goal
use Rattle.lot_simulator.proofs.lot.Lot.deadline.Goals.{In_ok-deadline, After-from_residual-in_err-deadline}

waited : (c : In_ok-deadline) → Waiting true ≡ c.in_ok-ok_or.field-0.now.status
waited c = sym (c.in_ok-deadline.ensures.fits.0 refl)

step : (c : In_ok-deadline)
    →
    IsLotStep
    (record {
      buckets = c.self.inside.table.cells;
      threads = slice_set c.self.inside.threads.items c.args.number c.deadline.new.self;
    }) (with_status (machine (lot_of c.self.inside)) c.args.number Late)
step c =
    IsLotStep-status (lot_of c.self.inside) c.args.number c.in_ok-ok_or.field-0.now c.deadline.new.self Late
    c.self.invariant.0 (rw c.in_ok-ok_or.ensures.ok_part at c.get_mut.ensures.item).3.0
    ((rw c.in_ok-ok_or.ensures.ok_part at c.get_mut.ensures.item).3.1 _) c.in_ok-deadline.ensures.ok
    (ap is_queued (waited c)) (ap is_timed (waited c)) (λ same. cc)

pub invariant_of-self-2 : goal.invariant_of-self-2
invariant_of-self-2 c = (
  (step c).is_lot,
  c.self.invariant.1
      ∙ sym (uses-status (lot_of c.self.inside) c.args.number c.in_ok-ok_or.field-0.now c.deadline.new.self Late
      c.self.invariant.0 (rw c.in_ok-ok_or.ensures.ok_part at c.get_mut.ensures.item).3.0
      ((rw c.in_ok-ok_or.ensures.ok_part at c.get_mut.ensures.item).3.1 _) c.in_ok-deadline.ensures.ok
      (ap use_of (waited c))),
)

pub returns-clause-ok : goal.returns-clause-ok
returns-clause-ok c = rw (← c.self.view_is) (step c).means

-- a thread that refuses stays as it was
kept : (c : After-from_residual-in_err-deadline) → slice_set c.self.inside.threads.items c.args.number c.deadline.new.self
    ≡ c.self.inside.threads.items
kept c =
    threads-kept c.self.inside.threads.items c.args.number c.in_ok-ok_or.field-0.now c.deadline.new.self
    ((rw c.in_ok-ok_or.ensures.ok_part at c.get_mut.ensures.item).3.1 _) c.in_err-deadline.ensures.err

pub invariant_of-self-in_err-deadline : goal.invariant_of-self-in_err-deadline
invariant_of-self-in_err-deadline c =
    let same = kept c in
    rw same c.self.invariant

pub returns-in_err-deadline-clause-err : goal.returns-in_err-deadline-clause-err
returns-in_err-deadline-clause-err c =
    let same = kept c in
    rw (same, ← c.self.view_is) (search rules)
