use Rattle.std.proofs.Common.{rules, ◌≡◌, ◌∙◌, sym, ap, refl, slice_set}
use Rattle.lot_machine.specs.declared.status.Status.TheVariants.{Running}
use Rattle.lot_machine.specs.declared.numbers.Use.TheVariants as use_is
use Rattle.lot_machine.specs.Machine.{after_retire}
use Rattle.lot_simulator.specs.LotState.{ThreadState}
use Rattle.lot_simulator.specs.Lot.{machine, use_of, uses}
use Rattle.lot_simulator.proofs.CommitLemmas.{uses-set}
use Rattle.lot_simulator.proofs.LotThreadLemmas.{lot_of, IsLotStep, IsLotStep-after_retire, threads-kept}
use Rattle.lot_simulator.proofs.lot.Lot.retire.Goals as goal
use Rattle.lot_simulator.proofs.lot.Lot.retire.Goals.{After-release, After-from_residual-in_err-retire}

ran : (c : After-release) → Running ≡ c.in_ok-ok_or.field-0.now.status
ran c = sym (c.in_ok-retire.ensures.fits.0 refl)

step : (c : After-release)
    →
    IsLotStep
    (record {
      buckets = c.release.new.self.cells;
      threads = slice_set c.self.inside.threads.items c.args.number c.retire.new.self;
    }) (after_retire (machine (lot_of c.self.inside)) c.args.number)
step c =
    rw c.release.ensures.cells
    (IsLotStep-after_retire (lot_of c.self.inside) c.args.number c.in_ok-ok_or.field-0.now c.retire.new.self
    c.self.invariant.0 (rw c.in_ok-ok_or.ensures.ok_part at c.get_mut.ensures.item).3.0
    ((rw c.in_ok-ok_or.ensures.ok_part at c.get_mut.ensures.item).3.1 _) c.in_ok-retire.ensures.ok (ran c))

pub invariant_of-self-2 : goal.invariant_of-self-2
invariant_of-self-2 c = (
  (step c).is_lot,
  c.release.ensures.numbers ∙ ap (λ numbers. slice_set numbers c.args.number use_is.Free) c.self.invariant.1
      ∙ sym (uses-set c.self.inside.threads.items c.args.number c.retire.new.self
      ∙ ap (λ (thread : ThreadState). slice_set (uses c.self.inside.threads.items) c.args.number (use_of thread.status))
      c.in_ok-retire.ensures.ok),
)

pub returns-clause-ok : goal.returns-clause-ok
returns-clause-ok c = rw (← c.self.view_is) (step c).means

-- a thread that refuses stays as it was
kept : (c : After-from_residual-in_err-retire) → slice_set c.self.inside.threads.items c.args.number c.retire.new.self
    ≡ c.self.inside.threads.items
kept c =
    threads-kept c.self.inside.threads.items c.args.number c.in_ok-ok_or.field-0.now c.retire.new.self
    ((rw c.in_ok-ok_or.ensures.ok_part at c.get_mut.ensures.item).3.1 _) c.in_err-retire.ensures.err

pub invariant_of-self-in_err-retire : goal.invariant_of-self-in_err-retire
invariant_of-self-in_err-retire c =
    let same = kept c in
    rw same c.self.invariant

pub returns-in_err-retire-clause-err : goal.returns-in_err-retire-clause-err
returns-in_err-retire-clause-err c =
    let same = kept c in
    rw (same, ← c.self.view_is) (search rules)
