use Rattle.std.proofs.Common.{◌≡◌, arith, sym, subst, true, false, length}
use Rattle.lot_simulator.specs.declared.interleaved.FineAnswer.TheVariants as fine
use Rattle.lot_simulator.specs.declared.interleaved.FineStep.TheVariants.{Register}
use Rattle.lot_machine.specs.declared.step.Answer.TheVariants.{Full}
use Rattle.lot_simulator.specs.FineLot.{fine_state}
use Rattle.lot_simulator.specs.FineLotState.{FineLotState}
use Rattle.lot_simulator.specs.InterleavedSteps.{IsFineStep, is_full, is_growth_blocked}
use Rattle.lot_machine.specs.Numbers.{count_registered}
use Rattle.lot_simulator.proofs.FineLotLemmas.{fine_lot_of}
use Rattle.lot_simulator.proofs.FineTableLemmas.{Register-blocked, Register-full, is_full-some}
use Rattle.lot_simulator.proofs.interleaved.FineLot.register.Goals as goal
use Rattle.lot_simulator.proofs.interleaved.FineLot.register.Goals.{After-is_growth_blocked}

pub returns-then-registered-len : goal.returns-then-registered-len
returns-then-registered-len c =
    let lot = fine_lot_of c.self.inside in
    let all : count_registered c.self.inside.table.numbers ≡ length c.self.inside.threads.items = omega arith in
    subst (λ (lot : FineLotState). IsFineStep (fine_state lot) Register (fine.Answer Full) (fine_state lot))
    c.self.view_is (Register-full lot c.self.inside.table.numbers c.self.invariant.1 all)

some : (c : After-is_growth_blocked) → is_full (fine_state (fine_lot_of c.self.inside)) ≡ false
some c =
    is_full-some (fine_lot_of c.self.inside) c.self.inside.table.numbers c.self.invariant.1
    (λ all. c.if-registered-len.false (omega (arith, all)))

pub returns-then-is_growth_blocked : goal.returns-then-is_growth_blocked
returns-then-is_growth_blocked c =
    let at = (goal.at.returns-then-is_growth_blocked c).After-is_growth_blocked in
    let lot = fine_lot_of c.self.inside in
    let blocked : is_growth_blocked (fine_state lot) ≡ true =
    subst (λ (lot : FineLotState). is_growth_blocked (fine_state lot) ≡ true) (sym c.self.view_is)
    (sym c.if-is_growth_blocked.ensures) in
    subst (λ (lot : FineLotState). IsFineStep (fine_state lot) Register fine.Blocked (fine_state lot)) c.self.view_is
    (Register-blocked lot c.self.inside.table.numbers c.self.invariant.1 (some at) blocked)

pub add_thread-requires-clause-not_full : goal.add_thread-requires-clause-not_full
add_thread-requires-clause-not_full c =
    subst (λ (lot : FineLotState). is_full (fine_state lot) ≡ false) c.self.view_is
    (some (goal.at.add_thread-requires-clause-not_full c).After-is_growth_blocked)
