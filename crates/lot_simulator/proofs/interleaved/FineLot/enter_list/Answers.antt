use Rattle.std.proofs.Common.{◌≡◌, ◌∙◌, ◌<◌, ap, sym, subst, rules, true, false, None, get_or, length, set-set}
use Rattle.std.proofs.Common.{slice_set}
use Rattle.std.proofs.lemmas.List.{get_or-set_same, get_or_read}
use Rattle.lot_base.specs.Node.{fields}
use Rattle.lot_base.specs.NodeFields.{NodeFields}
use Rattle.lot_simulator.specs.declared.interleaved.FineAnswer.TheVariants as fine
use Rattle.lot_simulator.specs.declared.interleaved.FineStep.TheVariants.{Enter}
use Rattle.lot_machine.specs.declared.status.Status.TheVariants.{Running, Waiting}
use Rattle.lot_machine.specs.declared.step.Answer.TheVariants.{Entered, Invalid}
use Rattle.lot_simulator.specs.FineLot.{fine_state, fine_thread_at, plain_threads}
use Rattle.lot_simulator.specs.FineLotState.{FineLotState, FineThreadState}
use Rattle.lot_simulator.specs.InterleavedSteps.{IsFineStep, is_held}
use Rattle.lot_simulator.specs.Lot.{use_of, uses}
use Rattle.lot_simulator.specs.Private.FineThread.{with_state}
use Rattle.lot_simulator.specs.Represents.{with_node}
use Rattle.lot_machine.specs.Status.{is_running}
use Rattle.lot_simulator.proofs.FineLotLemmas.{fine_lot_of}
use Rattle.lot_simulator.proofs.FineStateLemmas.{DoneStep, DoneStep-kept, key_read_is, no_key_read, ne-running-late}
use Rattle.lot_simulator.proofs.FineStateLemmas.{number_is, set_lot, status_is, step_of, uses-changed, uses-kept}
use Rattle.lot_simulator.proofs.FineTableLemmas.{DoneStep-entered, Enter-invalid, below-running}
use Rattle.lot_simulator.proofs.interleaved.FineLot.enter_list.Goals as goal
use Rattle.lot_simulator.proofs.interleaved.FineLot.enter_list.Goals.{After-enter}

runs : (c : After-enter) → (fine_state (fine_lot_of c.self.inside)).threads_view.status c.args.thread ≡ Running
runs c =
    subst (λ (lot : FineLotState). (fine_state lot).threads_view.status c.args.thread ≡ Running) (sym c.self.view_is)
    c.requires.runs

free : (c : After-enter) → is_held (fine_state (fine_lot_of c.self.inside)) c.args.key ≡ false
free c =
    subst (λ (lot : FineLotState). is_held (fine_state lot) c.args.key ≡ false) (sym c.self.view_is) c.requires.free

below : (c : After-enter) → c.args.thread < length c.self.inside.threads.items
below c = below-running (fine_lot_of c.self.inside) c.args.thread (runs c)

read : (c : After-enter) → c.index_mut.result.now ≡ fine_thread_at c.self.inside.threads.items c.args.thread
read c =
    get_or_read c.self.inside.threads.items c.args.thread c.index_mut.result.now (below c) c.index_mut.ensures.value _

running : (c : After-enter) → c.index_mut.result.now.thread.status ≡ Running
running c =
    sym (status_is (fine_lot_of c.self.inside) c.self.invariant.0 c.args.thread c.index_mut.result.now
    c.index_mut.result.now (below c) (read c)) ∙ runs c

-- the node as it enters
prepared : (c : After-enter) → fields c.prepare.new.self
    ≡ record {
      number = c.args.thread;
      key = c.args.key;
      park_token = c.args.park_token;
      unpark_token = (fields c.deref_mut.result.now).unpark_token;
      timed = c.args.timed;
    }
prepared c =
    let started = rw c.unwrap-node.ensures at c.start_waiting.ensures.ok in
    c.prepare.ensures
    ∙
    ap
    (λ number.
    record {
      number = number;
      key = c.args.key;
      park_token = c.args.park_token;
      unpark_token = (fields c.deref_mut.result.now).unpark_token;
      timed = c.args.timed;
    })
    (ap (λ node. (fields node).number) c.deref_mut.ensures.value ∙ started.0
    ∙ number_is (fine_lot_of c.self.inside) c.self.invariant.0 c.args.thread c.index_mut.result.now
    c.index_mut.result.now (below c) (read c))

-- the thread that waits, as it is read again
waiting : (c : After-enter) (again : FineThreadState)
    → again ≡ get_or (slice_set c.self.inside.threads.items c.args.thread c.start_waiting.new.self) c.args.thread again
    → again ≡ with_state c.index_mut.result.now (Waiting c.args.timed) None
waiting c again at =
    let started = rw c.unwrap-node.ensures at c.start_waiting.ensures.ok in
    at
    ∙ get_or-set_same c.self.inside.threads.items c.args.thread c.start_waiting.new.self _ (below c)
    ∙ started.2

-- the thread as it is left in the list
entering : (c : goal.After-self-in-Ok-1) → c.set_key_word.new.self
    ≡ record c.index_mut.result.now {
      thread = record c.index_mut.result.now.thread { status = Waiting c.args.timed; key = c.args.key };
      key_read = None;
    }
entering c =
    let at = (goal.at.invariant_of-self c).After-enter in
    c.set_key_word.ensures
    ∙ ap (λ (t : FineThreadState). record t { thread = record t.thread { key = c.args.key } })
    (waiting at c.index_mut-in-Ok.result.now c.index_mut-in-Ok.ensures.value)

entered : (c : goal.After-self-in-Ok-1) → DoneStep (fine_lot_of c.self.inside)
    (record {
      buckets = c.enter.new.self.cells;
      threads = slice_set (slice_set c.self.inside.threads.items c.args.thread c.start_waiting.new.self) c.args.thread
          c.set_key_word.new.self;
      callers = c.self.inside.callers.items;
    }) (Enter c.args.thread c.args.key c.args.valid c.args.park_token c.args.timed) (fine.Answer Entered)
entered c =
    let at = (goal.at.invariant_of-self c).After-enter in
    let lot = fine_lot_of c.self.inside in
    let asked : c.args.valid ≡ true = search rules in
    rw (c.in-Ok.ensures.entered, set-set c.self.inside.threads.items c.args.thread _ c.set_key_word.new.self)
    (subst
    (λ (node : NodeFields). DoneStep lot
    (set_lot lot c.args.thread c.set_key_word.new.self (with_node lot.buckets node) lot.callers)
    (Enter c.args.thread c.args.key c.args.valid c.args.park_token c.args.timed) (fine.Answer Entered))
    (sym (prepared at))
    (subst
    (λ valid. DoneStep lot
    (set_lot lot c.args.thread c.set_key_word.new.self
    (with_node lot.buckets
    (record {
      number = c.args.thread;
      key = c.args.key;
      park_token = c.args.park_token;
      unpark_token = (fields c.deref_mut.result.now).unpark_token;
      timed = c.args.timed;
    })) lot.callers) (Enter c.args.thread c.args.key valid c.args.park_token c.args.timed) (fine.Answer Entered))
    (sym asked)
    (DoneStep-entered lot c.self.invariant.0 c.args.thread c.index_mut.result.now c.set_key_word.new.self (below at)
    (read at) c.args.key c.args.park_token (fields c.deref_mut.result.now).unpark_token c.args.timed
    c.in-Ok.ensures.table (running at) (free at) (entering c))))

pub invariant_of-self : goal.invariant_of-self
invariant_of-self c =
    let at = (goal.at.invariant_of-self c).After-enter in
    let now = c.index_mut.result.now in (
      (entered c).is_lot,
      c.in-Ok.ensures.numbers ∙ c.self.invariant.1
          ∙ sym (ap (λ threads. uses (plain_threads threads))
          (set-set c.self.inside.threads.items c.args.thread _ c.set_key_word.new.self)
          ∙ uses-changed (fine_lot_of c.self.inside) c.self.invariant.0 c.args.thread now c.set_key_word.new.self
          (below at) (read at) (Waiting c.args.timed) c.args.key None now.slot (entering c)
          (ap use_of (sym (running at)))),
    )

pub returns-in-Ok : goal.returns-in-Ok
returns-in-Ok c = step_of c.self.view_is (entered c)

stayed : (c : goal.After-self-in-Err-1) → c.stop_waiting.new.self ≡ c.index_mut.result.now
stayed c =
    let at = (goal.at.invariant_of-self-in-Err c).After-enter in
    let lot = fine_lot_of c.self.inside in
    let now = c.index_mut.result.now in
    let unread = no_key_read lot c.self.invariant.0 c.args.thread now now (below at) (read at)
    (λ late. ne-running-late (sym (running at) ∙ late)) in
    c.stop_waiting.ensures
    ∙ ap (λ (t : FineThreadState). with_state t Running None)
    (waiting at c.index_mut-in-Err.result.now c.index_mut-in-Err.ensures.value)
    ∙ (λ i. with_state now (sym (running at) i)
    ((sym unread ∙ key_read_is lot c.self.invariant.0 c.args.thread now now (below at) (read at)) i))

refused : (c : goal.After-self-in-Err-1) → DoneStep (fine_lot_of c.self.inside)
    (record {
      buckets = c.enter.new.self.cells;
      threads = slice_set (slice_set c.self.inside.threads.items c.args.thread c.start_waiting.new.self) c.args.thread
          c.stop_waiting.new.self;
      callers = c.self.inside.callers.items;
    }) (Enter c.args.thread c.args.key c.args.valid c.args.park_token c.args.timed) (fine.Answer Invalid)
refused c =
    let at = (goal.at.invariant_of-self-in-Err c).After-enter in
    let lot = fine_lot_of c.self.inside in
    let asked : c.args.valid ≡ false = search rules in
    rw (c.in-Err.ensures.refused, set-set c.self.inside.threads.items c.args.thread _ c.stop_waiting.new.self)
    (DoneStep-kept lot c.self.invariant.0 c.args.thread c.index_mut.result.now c.stop_waiting.new.self (below at)
    (read at) (Enter c.args.thread c.args.key c.args.valid c.args.park_token c.args.timed) (fine.Answer Invalid)
    (stayed c)
    (subst
    (λ valid. IsFineStep (fine_state lot) (Enter c.args.thread c.args.key valid c.args.park_token c.args.timed)
    (fine.Answer Invalid) (fine_state lot)) (sym asked)
    (Enter-invalid (fine_state lot) c.args.thread c.args.key c.args.park_token c.args.timed
    (ap is_running (runs at)) (free at))))

pub invariant_of-self-in-Err : goal.invariant_of-self-in-Err
invariant_of-self-in-Err c =
    let at = (goal.at.invariant_of-self-in-Err c).After-enter in (
      (refused c).is_lot,
      c.in-Err.ensures.numbers ∙ c.self.invariant.1
          ∙ sym (ap (λ threads. uses (plain_threads threads))
          (set-set c.self.inside.threads.items c.args.thread _ c.stop_waiting.new.self)
          ∙ uses-kept (fine_lot_of c.self.inside) c.self.invariant.0 c.args.thread c.index_mut.result.now
          c.stop_waiting.new.self (below at) (read at) (stayed c)),
    )

pub returns-in-Err : goal.returns-in-Err
returns-in-Err c = step_of c.self.view_is (refused c)
