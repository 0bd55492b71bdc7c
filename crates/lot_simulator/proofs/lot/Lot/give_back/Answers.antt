use Rattle.std.proofs.Common.{rules, ◌≡◌, ◌∙◌, sym, ap, slice_set}
use Rattle.lot_machine.specs.declared.status.Status.TheVariants.{Running, Taken}
use Rattle.lot_machine.specs.Status.{is_queued, is_timed}
use Rattle.lot_machine.specs.Machine.{with_status}
use Rattle.lot_simulator.specs.Lot.{machine, use_of}
use Rattle.lot_simulator.proofs.LotThreadLemmas.{lot_of, IsLotStep, IsLotStep-status, uses-status, threads-kept}
use Rattle.lot_simulator.proofs.lot.Lot.give_back.Goals as goal
use Rattle.lot_simulator.proofs.lot.Lot.give_back.Goals.{In_ok-token, After-from_residual-in_err-token}

was_taken : (c : In_ok-token) → Taken c.in_ok-token.token ≡ c.in_ok-ok_or.field-0.now.status
was_taken c = sym c.in_ok-token.ensures.ok.0

step : (c : In_ok-token)
    →
    IsLotStep
    (record {
      buckets = c.self.inside.table.cells;
      threads = slice_set c.self.inside.threads.items c.args.number c.give_back.new.self;
    }) (with_status (machine (lot_of c.self.inside)) c.args.number Running)
step c =
    IsLotStep-status (lot_of c.self.inside) c.args.number c.in_ok-ok_or.field-0.now c.give_back.new.self Running
    c.self.invariant.0 (rw c.in_ok-ok_or.ensures.ok_part at c.get_mut.ensures.item).3.0
    ((rw c.in_ok-ok_or.ensures.ok_part at c.get_mut.ensures.item).3.1 _) c.in_ok-token.ensures.ok.1
    (ap is_queued (was_taken c)) (ap is_timed (was_taken c)) (λ same. cc)

pub invariant_of-self-2 : goal.invariant_of-self-2
invariant_of-self-2 c = (
  (step c).is_lot,
  c.self.invariant.1
      ∙ sym (uses-status (lot_of c.self.inside) c.args.number c.in_ok-ok_or.field-0.now c.give_back.new.self Running
      c.self.invariant.0 (rw c.in_ok-ok_or.ensures.ok_part at c.get_mut.ensures.item).3.0
      ((rw c.in_ok-ok_or.ensures.ok_part at c.get_mut.ensures.item).3.1 _) c.in_ok-token.ensures.ok.1
      (ap use_of (was_taken c))),
)

pub returns-clause-ok : goal.returns-clause-ok
returns-clause-ok c = (
  rw (← c.self.view_is) (ap (λ thread. thread.status) (sym
      ((rw c.in_ok-ok_or.ensures.ok_part at c.get_mut.ensures.item).3.1 _)) ∙ sym (was_taken c)),
  rw (← c.self.view_is) (step c).means,
)

-- a thread that refuses stays as it was
kept : (c : After-from_residual-in_err-token) → slice_set c.self.inside.threads.items c.args.number c.give_back.new.self
    ≡ c.self.inside.threads.items
kept c =
    threads-kept c.self.inside.threads.items c.args.number c.in_ok-ok_or.field-0.now c.give_back.new.self
    ((rw c.in_ok-ok_or.ensures.ok_part at c.get_mut.ensures.item).3.1 _) c.in_err-token.ensures.err

pub invariant_of-self-in_err-token : goal.invariant_of-self-in_err-token
invariant_of-self-in_err-token c =
    let same = kept c in
    rw same c.self.invariant

pub returns-in_err-token-clause-err : goal.returns-in_err-token-clause-err
returns-in_err-token-clause-err c =
    let same = kept c in
    rw (same, ← c.self.view_is) (search rules)
