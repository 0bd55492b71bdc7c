use Rattle.std.proofs.Common.{rules, ◌≡◌, ◌∙◌, sym, slice_set}
use Rattle.lot_machine.specs.declared.status.Status.TheVariants.{Running}
use Rattle.lot_machine.specs.Machine.{after_acquire}
use Rattle.lot_simulator.specs.Lot.{machine}
use Rattle.lot_simulator.proofs.LotThreadLemmas.{lot_of, IsLotStep, IsLotStep-acquired, uses-recorded, threads-kept}
use Rattle.lot_simulator.proofs.lot.Lot.acquire.Goals as goal
use Rattle.lot_simulator.proofs.lot.Lot.acquire.Goals.{In_ok-acquire, After-from_residual-in_err-acquire}

runs : (c : In_ok-acquire) → Running ≡ c.in_ok-thread.thread.now.status
runs c = sym (c.in_ok-acquire.ensures.fits.0 (λ refused. cc))

step : (c : In_ok-acquire)
    →
    IsLotStep
    (record {
      buckets = c.self.inside.table.cells;
      threads = slice_set c.self.inside.threads.items c.args.number c.acquire.new.self;
    }) (after_acquire (machine (lot_of c.self.inside)) c.args.number c.args.key)
step c =
    IsLotStep-acquired (lot_of c.self.inside) c.args.number c.args.key c.in_ok-thread.thread.now c.acquire.new.self
    c.self.invariant.0 (rw c.in_ok-thread.ensures.ok_part at c.get_mut.ensures.item).3.0
    ((rw c.in_ok-thread.ensures.ok_part at c.get_mut.ensures.item).3.1 _) c.in_ok-acquire.ensures.kept
    c.in_ok-acquire.ensures.ok (runs c)

pub invariant_of-self-2 : goal.invariant_of-self-2
invariant_of-self-2 c = (
  (step c).is_lot,
  c.self.invariant.1
      ∙ sym (uses-recorded (lot_of c.self.inside) c.args.number c.in_ok-thread.thread.now c.acquire.new.self
      ((rw c.in_ok-thread.ensures.ok_part at c.get_mut.ensures.item).3.1 _) c.in_ok-acquire.ensures.kept),
)

pub returns-clause-ok : goal.returns-clause-ok
returns-clause-ok c = rw (← c.self.view_is) (step c).means

-- a thread that refuses stays as it was
kept : (c : After-from_residual-in_err-acquire) → slice_set c.self.inside.threads.items c.args.number c.acquire.new.self
    ≡ c.self.inside.threads.items
kept c =
    threads-kept c.self.inside.threads.items c.args.number c.in_ok-thread.thread.now c.acquire.new.self
    ((rw c.in_ok-thread.ensures.ok_part at c.get_mut.ensures.item).3.1 _) c.in_err-acquire.ensures.err

pub invariant_of-self-in_err-acquire : goal.invariant_of-self-in_err-acquire
invariant_of-self-in_err-acquire c =
    let same = kept c in
    rw same c.self.invariant

pub returns-in_err-acquire-clause-err : goal.returns-in_err-acquire-clause-err
returns-in_err-acquire-clause-err c =
    let same = kept c in
    rw (same, ← c.self.view_is) (search rules)
