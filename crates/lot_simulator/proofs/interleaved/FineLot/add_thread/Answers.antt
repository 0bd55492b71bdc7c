use Rattle.std.proofs.Common.{◌≡◌, ◌∙◌, ◌<◌, ap, arith, sym, subst, false, length, slice_set}
use Rattle.std.proofs.lemmas.List.{get_or_read}
use Rattle.std.specs.Prelude.{not, ◌&&◌}
use Rattle.lot_simulator.specs.declared.interleaved.FineAnswer.TheVariants as fine
use Rattle.lot_simulator.specs.declared.interleaved.FineStep.TheVariants.{Register}
use Rattle.lot_machine.specs.declared.step.Answer.TheVariants.{NoMemory, Registered}
use Rattle.lot_machine.specs.declared.numbers.Use.TheVariants as use_is
use Rattle.lot_simulator.specs.FineLot.{fine_state, fine_thread_at, plain_lot, plain_threads}
use Rattle.lot_simulator.specs.FineLotState.{FineLotState, FineThreadState}
use Rattle.lot_simulator.specs.InterleavedSteps.{IsFineStep, is_full, is_growth_blocked}
use Rattle.lot_simulator.specs.Lot.{use_of, uses}
use Rattle.lot_machine.specs.Machine.{IsLeastFree}
use Rattle.lot_machine.specs.Size.{IsSizeFor}
use Rattle.lot_machine.specs.Numbers.{count_registered}
use Rattle.lot_simulator.proofs.CommitLemmas.{uses-set}
use Rattle.lot_simulator.proofs.FineLotLemmas.{fine_lot_of}
use Rattle.lot_simulator.proofs.FineStateLemmas.{DoneStep, number_is, plain-length, plain-set, set_lot, status_is}
use Rattle.lot_simulator.proofs.FineStateLemmas.{step_of}
use Rattle.lot_simulator.proofs.FineTableLemmas.{DoneStep-registered, Register-no_memory}
use Rattle.lot_simulator.proofs.UseLemmas.{IsLeastFree-given}
use Rattle.lot_simulator.proofs.interleaved.FineLot.add_thread.Goals as goal
use Rattle.lot_simulator.proofs.interleaved.FineLot.add_thread.Goals.{After-index_mut, After-new}

some : (c : After-new) → is_full (fine_state (fine_lot_of c.self.inside)) ≡ false
some c =
    subst (λ (lot : FineLotState). is_full (fine_state lot) ≡ false) (sym c.self.view_is) c.requires.not_full

free : (c : After-new) → is_growth_blocked (fine_state (fine_lot_of c.self.inside)) ≡ false
free c =
    subst (λ (lot : FineLotState). is_growth_blocked (fine_state lot) ≡ false) (sym c.self.view_is)
    c.requires.not_blocked

pub returns-in_default : goal.returns-in_default
returns-in_default c =
    let at = (goal.at.returns-in_default c).After-new in
    subst (λ (lot : FineLotState). IsFineStep (fine_state lot) Register (fine.Answer NoMemory) (fine_state lot))
    c.self.view_is
    (Register-no_memory (fine_lot_of c.self.inside) c.self.inside.table.numbers c.self.invariant.1 (some at) (free at))

pub returns-in_default-register : goal.returns-in_default-register
returns-in_default-register c =
    let at = (goal.at.returns-in_default-register c).After-new in
    rw (← c.self.view_is, c.in_default-register.ensures.err)
    (Register-no_memory (fine_lot_of c.self.inside) c.self.inside.table.numbers c.self.invariant.1 (some at) (free at))

least : (c : After-index_mut)
    → IsLeastFree (fine_state (fine_lot_of c.self.inside)).threads_view c.in-Ok-register.number
least c =
    IsLeastFree-given (plain_lot (fine_lot_of c.self.inside)) c.self.inside.table.numbers c.in-Ok-register.number
    c.self.invariant.1 c.in-Ok-register.ensures.number.0

below : (c : After-index_mut) → c.in-Ok-register.number < length c.self.inside.threads.items
below c = let low = (least c).below in omega (arith, low, plain-length c.self.inside.threads.items)

read : (c : After-index_mut)
    → c.index_mut.result.now ≡ fine_thread_at c.self.inside.threads.items c.in-Ok-register.number
read c =
    get_or_read c.self.inside.threads.items c.in-Ok-register.number c.index_mut.result.now (below c)
    c.index_mut.ensures.value _

pub register-requires-2-clause-number : goal.register-requires-2-clause-number
register-requires-2-clause-number c =
    let at = (goal.at.register-requires-2-clause-number c).After-index_mut in
    sym (number_is (fine_lot_of c.self.inside) c.self.invariant.0 c.in-Ok-register.number c.index_mut.result.now
    c.index_mut.result.now (below at) (read at))

pub register-requires-2-clause-free : goal.register-requires-2-clause-free
register-requires-2-clause-free c =
    let at = (goal.at.register-requires-2-clause-free c).After-index_mut in
    sym (status_is (fine_lot_of c.self.inside) c.self.invariant.0 c.in-Ok-register.number c.index_mut.result.now
    c.index_mut.result.now (below at) (read at)) ∙ (least at).free

numbers : (c : goal.After-self-1) → c.register.new.self.numbers
    ≡ uses (plain_threads (slice_set c.self.inside.threads.items c.in-Ok-register.number c.register-2.new.self))
numbers c =
    let threads = c.self.inside.threads.items in
    c.in-Ok-register.ensures.number.1
    ∙ ap (λ numbers. slice_set numbers c.in-Ok-register.number use_is.Registered) c.self.invariant.1
    ∙ sym (ap uses (plain-set threads c.in-Ok-register.number c.register-2.new.self)
    ∙ uses-set (plain_threads threads) c.in-Ok-register.number c.register-2.new.self.thread
    ∙ ap (λ (t : FineThreadState). slice_set (uses (plain_threads threads)) c.in-Ok-register.number
    (use_of t.thread.status)) c.register-2.ensures)

step : (c : goal.After-self-1) → DoneStep (fine_lot_of c.self.inside)
    (set_lot (fine_lot_of c.self.inside) c.in-Ok-register.number c.register-2.new.self c.register.new.self.cells
    c.self.inside.callers.items) Register (fine.Answer (Registered c.in-Ok-register.number))
step c =
    let at = (goal.at.invariant_of-self-2 c).After-index_mut in
    let new = (goal.at.invariant_of-self-2 c).After-new in
    DoneStep-registered (fine_lot_of c.self.inside) c.self.invariant.0 c.in-Ok-register.number c.index_mut.result.now
    c.register-2.new.self (below at) (read at) c.register.new.self.cells c.in-Ok-register.ensures.lists (least at)
    c.register-2.ensures
    (subst (λ numbers. IsSizeFor (count_registered numbers) (length c.self.inside.table.cells)
    (length c.register.new.self.cells)) (numbers c) c.in-Ok-register.ensures.size)
    (λ i. not (some new i) && free new i)

pub invariant_of-self-2 : goal.invariant_of-self-2
invariant_of-self-2 c = ((step c).is_lot, numbers c)

pub returns : goal.returns
returns c = step_of c.self.view_is (step c)
