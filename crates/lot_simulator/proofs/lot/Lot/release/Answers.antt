use Rattle.std.proofs.Common.{rules, ◌≡◌, ◌∙◌, sym, refl, slice_set}
use Rattle.lot_machine.specs.declared.status.Status.TheVariants.{Running}
use Rattle.lot_machine.specs.Machine.{after_release}
use Rattle.lot_simulator.specs.Lot.{machine}
use Rattle.lot_simulator.proofs.LotThreadLemmas.{lot_of, IsLotStep, IsLotStep-released, uses-recorded, threads-kept}
use Rattle.lot_simulator.proofs.lot.Lot.release.Goals as goal
use Rattle.lot_simulator.proofs.lot.Lot.release.Goals.{In_ok-release, After-from_residual-in_err-release}

runs : (c : In_ok-release) → Running ≡ c.in_ok-ok_or.field-0.now.status
runs c = sym (c.in_ok-release.ensures.fits.0 refl)

step : (c : In_ok-release)
    →
    IsLotStep
    (record {
      buckets = c.self.inside.table.cells;
      threads = slice_set c.self.inside.threads.items c.args.number c.release.new.self;
    }) (after_release (machine (lot_of c.self.inside)) c.args.number c.args.key)
step c =
    IsLotStep-released (lot_of c.self.inside) c.args.number c.args.key c.in_ok-ok_or.field-0.now c.release.new.self
    c.self.invariant.0 (rw c.in_ok-ok_or.ensures.ok_part at c.get_mut.ensures.item).3.0
    ((rw c.in_ok-ok_or.ensures.ok_part at c.get_mut.ensures.item).3.1 _) c.in_ok-release.ensures.kept
    c.in_ok-release.ensures.ok (runs c)

pub invariant_of-self-2 : goal.invariant_of-self-2
invariant_of-self-2 c = (
  (step c).is_lot,
  c.self.invariant.1
      ∙ sym (uses-recorded (lot_of c.self.inside) c.args.number c.in_ok-ok_or.field-0.now c.release.new.self
      ((rw c.in_ok-ok_or.ensures.ok_part at c.get_mut.ensures.item).3.1 _) c.in_ok-release.ensures.kept),
)

pub returns-clause-ok : goal.returns-clause-ok
returns-clause-ok c = rw (← c.self.view_is) (step c).means

-- a thread that refuses stays as it was
kept : (c : After-from_residual-in_err-release) → slice_set c.self.inside.threads.items c.args.number c.release.new.self
    ≡ c.self.inside.threads.items
kept c =
    threads-kept c.self.inside.threads.items c.args.number c.in_ok-ok_or.field-0.now c.release.new.self
    ((rw c.in_ok-ok_or.ensures.ok_part at c.get_mut.ensures.item).3.1 _) c.in_err-release.ensures.err

pub invariant_of-self-in_err-release : goal.invariant_of-self-in_err-release
invariant_of-self-in_err-release c =
    let same = kept c in
    rw same c.self.invariant

pub returns-in_err-release-clause-err : goal.returns-in_err-release-clause-err
returns-in_err-release-clause-err c =
    let same = kept c in
    rw (same, ← c.self.view_is) (search rules)
