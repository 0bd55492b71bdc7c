use Rattle.std.proofs.Common.{subst, ◌≡◌, ◌∙◌, sym, ap, refl, slice_set, get_or, set-set}
use Rattle.std.proofs.lemmas.List.{get_or-set_same}
use Rattle.lot_base.specs.Node.{fields}
use Rattle.lot_base.specs.NodeFields.{NodeFields}
use Rattle.lot_simulator.specs.Represents.{with_node}
use Rattle.lot_simulator.specs.Lot.{machine, thread_at, use_of}
use Rattle.lot_simulator.specs.LotState.{ThreadState}
use Rattle.lot_machine.specs.Machine.{after_enter}
use Rattle.lot_machine.specs.declared.status.Status.TheVariants.{Running, Waiting}
use Rattle.lot_simulator.proofs.CommitLemmas.{ne-free-running, below_from_status, uses-same}
use Rattle.lot_simulator.proofs.LotThreadLemmas.{lot_of, IsLotStep, IsLotStep-after_enter}
use Rattle.lot_simulator.proofs.LotLemmas.{IsLotStep-stayed}
use Rattle.lot_simulator.proofs.lot.Lot.enter.Given as given
use Rattle.lot_simulator.proofs.lot.Lot.enter.Goals as goal
use Rattle.lot_simulator.proofs.lot.Lot.enter.Goals.{In-Ok, After-stop_waiting}

-- the node as it enters
prepared : (g : given.Over) (c : In-Ok g) → fields c.prepare.new.self
    ≡ record {
      number = c.args.number;
      key = c.args.key;
      park_token = c.args.park_token;
      unpark_token = (fields c.deref_mut.result.now).unpark_token;
      timed = c.args.timed;
    }
prepared g c =
    c.prepare.ensures
    ∙
    ap
    (λ number.
    record {
      number = number;
      key = c.args.key;
      park_token = c.args.park_token;
      unpark_token = (fields c.deref_mut.result.now).unpark_token;
      timed = c.args.timed;
    })
    (ap (λ node. (fields node).number) c.deref_mut.ensures.value ∙ c.in_ok-node.ensures.node)

step : (g : given.Over) (c : In-Ok g)
    → IsLotStep (record { buckets = c.enter.new.self.cells; threads = c.start_waiting.new.threads.items })
    (after_enter (machine (lot_of c.self.inside)) c.args.number c.args.key c.args.park_token c.args.timed)
step g c =
    rw (c.in-Ok.ensures.entered, c.in_ok-node.ensures.ok)
    (subst
    (λ (node : NodeFields).
    IsLotStep
    (record {
      buckets = with_node (lot_of c.self.inside).buckets node;
      threads = slice_set c.self.inside.threads.items c.args.number
          (record (thread_at c.self.inside.threads.items c.args.number) {
            key = c.args.key;
            status = Waiting c.args.timed;
          });
    })
    (after_enter (machine (lot_of c.self.inside)) c.args.number c.args.key c.args.park_token c.args.timed))
    (sym (prepared g c))
    (IsLotStep-after_enter (lot_of c.self.inside) c.args.number c.args.key c.args.park_token
    (fields c.deref_mut.result.now).unpark_token c.args.timed c.self.invariant.0 c.in-Ok.ensures.table
    (c.in_ok-node.ensures.fits.0 refl)))

pub invariant_of-self-in-Ok : goal.invariant_of-self-in-Ok
invariant_of-self-in-Ok g c = (
  (step g c).is_lot,
  rw (c.in-Ok.ensures.numbers, c.in_ok-node.ensures.ok)
      (c.self.invariant.1
      ∙ sym (uses-same c.self.inside.threads.items c.args.number _
      (ap use_of (sym (c.in_ok-node.ensures.fits.0 refl))))),
)

pub returns-in-Ok-clause-entered : goal.returns-in-Ok-clause-entered
returns-in-Ok-clause-entered g c = rw (← c.self.view_is) (step g c).means

-- the thread as it stops waiting
stopped : (g : given.Over) (c : After-stop_waiting g)
    → c.stop_waiting.new.self
    ≡ record (thread_at c.self.inside.threads.items c.args.number) { key = c.args.key; status = Running }
stopped g c =
    let threads = c.self.inside.threads.items in
    let waiting : ThreadState = record (thread_at threads c.args.number) {
      key = c.args.key;
      status = Waiting c.args.timed;
    } in
    let running = c.in_ok-node.ensures.fits.0 refl in
    c.stop_waiting.ensures
    ∙ ap (λ (thread : ThreadState). record thread { status = Running })
    (c.index_mut.ensures.value
    ∙ ap (λ items. get_or items c.args.number c.index_mut.result.now) c.in_ok-node.ensures.ok
    ∙ get_or-set_same threads c.args.number waiting _
    (below_from_status threads c.args.number (λ free. ne-free-running (sym running ∙ free))))

-- the threads as they are then
threads_after : (g : given.Over) (c : After-stop_waiting g)
    → slice_set c.start_waiting.new.threads.items c.args.number c.stop_waiting.new.self
    ≡ slice_set c.self.inside.threads.items c.args.number
    (record (thread_at c.self.inside.threads.items c.args.number) { key = c.args.key; status = Running })
threads_after g c =
    ap (λ items. slice_set items c.args.number c.stop_waiting.new.self) c.in_ok-node.ensures.ok
    ∙ set-set c.self.inside.threads.items c.args.number _ c.stop_waiting.new.self
    ∙ ap (slice_set c.self.inside.threads.items c.args.number) (stopped g c)

stayed : (g : given.Over) (c : After-stop_waiting g)
    →
    IsLotStep
    (record {
      buckets = c.enter.new.self.cells;
      threads = slice_set c.start_waiting.new.threads.items c.args.number c.stop_waiting.new.self;
    }) (machine (lot_of c.self.inside))
stayed g c =
    rw (c.in-Err.ensures.refused, threads_after g c)
    (IsLotStep-stayed (lot_of c.self.inside) c.args.number
    (record (thread_at c.self.inside.threads.items c.args.number) { key = c.args.key; status = Running })
    c.self.invariant.0 (c.self.invariant.0.numbers c.args.number) (c.in_ok-node.ensures.fits.0 refl) refl refl)

pub invariant_of-self-in-Err : goal.invariant_of-self-in-Err
invariant_of-self-in-Err g c =
    let at = (goal.at.invariant_of-self-in-Err g c).After-stop_waiting in (
      (stayed g at).is_lot,
      rw (at.in-Err.ensures.numbers, threads_after g at)
          (at.self.invariant.1
          ∙ sym (uses-same at.self.inside.threads.items at.args.number _
          (ap use_of (sym (at.in_ok-node.ensures.fits.0 refl))))),
    )

pub returns-in-Err-clause-entered : goal.returns-in-Err-clause-entered
returns-in-Err-clause-entered g c =
    let at = (goal.at.returns-in-Err-clause-entered g c).After-stop_waiting in
    rw (← at.self.view_is) (stayed g at).means
