use Rattle.std.proofs.Common.{◌≡◌, ◌∙◌, ◌∷◌, sym, ap, refl, get_or, slice_get, slice_set, Some, arith}
use Rattle.std.proofs.lemmas.List.{get_or_read}
use Rattle.std.proofs.lemmas.Option.{slice_get_read}
use Rattle.lot_simulator.specs.declared.interleaved.FineAnswer.TheVariants as fine
use Rattle.lot_simulator.specs.declared.interleaved.FineStep.TheVariants.{Commit}
use Rattle.lot_machine.specs.declared.step.Answer.TheVariants.{Misfit}
use Rattle.lot_simulator.specs.FineLot.{fine_state, fine_thread_at}
use Rattle.lot_simulator.specs.FineLotState.{FineThreadState}
use Rattle.lot_simulator.specs.InterleavedState.{TakenThread}
use Rattle.lot_machine.specs.Status.{is_queued}
use Rattle.lot_simulator.proofs.FineCallerLemmas.{Commit-misfit, DoneStep-commit, DoneStep-kept_caller, HandsOn}
use Rattle.lot_simulator.proofs.FineCallerLemmas.{hands_on}
use Rattle.lot_simulator.proofs.FineAnswerLemmas.{step_of_misfit, None-refused}
use Rattle.lot_simulator.proofs.FineLotLemmas.{fine_lot_of}
use Rattle.lot_simulator.proofs.FineStateLemmas.{DoneStep, number_is, set_lot, slot_is, status_is, step_of}
use Rattle.lot_simulator.proofs.FineStateLemmas.{uses-changed}
use Rattle.lot_simulator.proofs.interleaved.FineLot.commit.Goals as goal
use Rattle.lot_simulator.proofs.interleaved.FineLot.commit.Goals.{After-deref}

pub returns-in_err-node : goal.returns-in_err-node
returns-in_err-node c =
    let lot = fine_lot_of c.self.inside in
    let now = c.in_ok-unparking.unparking.now in
    let at : slice_get lot.callers c.args.caller ≡ Some now =
    slice_get_read _ _ _ _ refl
    (rw c.in_ok-unparking.ensures.ok_part at c.get_mut.ensures.item).3.0 ((rw c.in_ok-unparking.ensures.ok_part at c.get_mut.ensures.item).3.1 _) in
    let kept = rw (None-refused c.hand_on.result _ _ c.in_err-node.ensures.value) at c.hand_on.ensures.none in
    step_of_misfit c.from_residual-in_err-node.result _ c.from_residual-in_err-node.ensures.1 c.self.view_is
    (DoneStep-kept_caller lot c.args.caller now c.hand_on.new.self at kept.0 (Commit c.args.caller)
    (fine.Answer Misfit) c.self.invariant.0 (Commit-misfit (fine_state lot) c.args.caller now at kept.1))

-- the thread that is handed its node, by the number that was read of the node
abbrev first : (c : After-deref) → TakenThread
first c = record { number = c.deref.result.now.number; token = c.in_ok-node.node.value.unpark_token }

hands : (c : After-deref) → HandsOn (fine_lot_of c.self.inside) c.args.caller c.hand_on.new.self (first c)
hands c =
    let (section, rest, opened, takes, set) = rw c.in_ok-node.ensures.ok_part at c.hand_on.ensures.some in
    hands_on (fine_lot_of c.self.inside) c.self.invariant.0 c.args.caller c.in_ok-unparking.unparking.now c.hand_on.new.self
    (slice_get_read _ _ _ _ refl
    (rw c.in_ok-unparking.ensures.ok_part at c.get_mut.ensures.item).3.0
    ((rw c.in_ok-unparking.ensures.ok_part at c.get_mut.ensures.item).3.1 _)) section (first c) rest
    opened (takes
    ∙ ap (λ number. record { number = number; token = c.in_ok-node.node.value.unpark_token } ∷ rest)
    (ap (λ node. node.number) (sym c.deref.ensures))) set

pub index_mut-requires : goal.index_mut-requires
index_mut-requires c =
    omega (arith, (hands (goal.at.index_mut-requires c).After-deref).below, c.self.inside.threads.ok.0)

-- the thread as it was read
read : (c : After-deref) (thread : FineThreadState)
    → thread ≡ get_or c.self.inside.threads.items c.deref.result.now.number thread
    → thread ≡ fine_thread_at c.self.inside.threads.items c.deref.result.now.number
read c thread value =
    get_or_read c.self.inside.threads.items c.deref.result.now.number thread (hands c).below value _

pub unpark-requires-clause-number : goal.unpark-requires-clause-number
unpark-requires-clause-number c =
    let d = (goal.at.unpark-requires-clause-number c).After-deref in
    let thread = c.index_mut.result.now in
    ap (λ node. node.number) (sym c.deref.ensures)
    ∙ sym (number_is (fine_lot_of c.self.inside) c.self.invariant.0 c.deref.result.now.number thread thread
    (hands d).below (read d thread c.index_mut.ensures.value))

pub unpark-requires-clause-queued : goal.unpark-requires-clause-queued
unpark-requires-clause-queued c =
    let d = (goal.at.unpark-requires-clause-queued c).After-deref in
    let thread = c.index_mut.result.now in
    ap is_queued (sym (status_is (fine_lot_of c.self.inside) c.self.invariant.0 c.deref.result.now.number thread
    thread (hands d).below (read d thread c.index_mut.ensures.value)))
    ∙ (hands d).queued

pub unpark-requires-clause-empty : goal.unpark-requires-clause-empty
unpark-requires-clause-empty c =
    let d = (goal.at.unpark-requires-clause-empty c).After-deref in
    let thread = c.index_mut.result.now in
    sym (slot_is (fine_lot_of c.self.inside) c.self.invariant.0 c.deref.result.now.number thread thread
    (hands d).below (read d thread c.index_mut.ensures.value))
    ∙ (hands d).empty

step : (c : After-deref) (thread handed : FineThreadState)
    → thread ≡ get_or c.self.inside.threads.items c.deref.result.now.number thread
    → handed ≡ record thread { slot = Some (first c).token } → DoneStep (fine_lot_of c.self.inside)
    (set_lot (fine_lot_of c.self.inside) c.deref.result.now.number handed c.self.inside.table.cells
    (slice_set c.self.inside.callers.items c.args.caller c.hand_on.new.self)) (Commit c.args.caller)
    (fine.Committed c.deref.result.now.number)
step c thread handed value put =
    DoneStep-commit (fine_lot_of c.self.inside) c.self.invariant.0 c.args.caller c.hand_on.new.self (first c) (hands c)
    thread handed (read c thread value) put

pub invariant_of-self-2 : goal.invariant_of-self-2
invariant_of-self-2 c =
    let d = (goal.at.invariant_of-self-2 c).After-deref in
    let thread = c.index_mut.result.now in (
      (step d thread c.unpark.new.self c.index_mut.ensures.value c.unpark.ensures).is_lot,
      c.self.invariant.1
          ∙ sym (uses-changed (fine_lot_of c.self.inside) c.self.invariant.0 c.deref.result.now.number thread
          c.unpark.new.self (hands d).below (read d thread c.index_mut.ensures.value) thread.thread.status
          thread.thread.key thread.key_read (Some (first d).token) c.unpark.ensures refl),
    )

pub returns : goal.returns
returns c =
    let d = (goal.at.returns c).After-deref in
    step_of c.self.view_is
    (step d c.index_mut.result.now c.unpark.new.self c.index_mut.ensures.value c.unpark.ensures)
