use Rattle.std.proofs.Common.{◌≡◌, ◌∙◌, ◌+◌, ◌*◌, ap, sym, subst, length}
use Rattle.std.specs.Prelude.{nat_lt, ◌&&◌}
use Rattle.lot_simulator.specs.FineLot.{fine_state}
use Rattle.lot_simulator.specs.FineLotState.{FineLotState}
use Rattle.lot_simulator.specs.InterleavedSteps.{is_any_open, is_growth_blocked}
use Rattle.lot_machine.specs.Machine.{threads_of}
use Rattle.lot_simulator.proofs.FineLotLemmas.{fine_lot_of}
use Rattle.lot_simulator.proofs.FineTableLemmas.{registered-threads}
use Rattle.lot_simulator.proofs.interleaved.FineLot.is_growth_blocked.Goals as goal
use Rattle.lot_simulator.proofs.interleaved.FineLot.is_growth_blocked.Goals.{After-is_too_small_for_one_more}

-- whether the table is too small for one more of the state's threads
small_is : (c : After-is_too_small_for_one_more) → c.is_too_small_for_one_more.result
    ≡ nat_lt (length c.self.inside.table.cells)
    (3 * (threads_of (fine_state (fine_lot_of c.self.inside)).threads_view + 1))
small_is c =
    c.is_too_small_for_one_more.ensures
    ∙ ap (λ threads. nat_lt (length c.self.inside.table.cells) (3 * (threads + 1)))
    (registered-threads (fine_lot_of c.self.inside) c.self.inside.table.numbers c.self.invariant.1)

pub returns-then-is_too_small_for_one_more : goal.returns-then-is_too_small_for_one_more
returns-then-is_too_small_for_one_more c =
    let at = (goal.at.returns-then-is_too_small_for_one_more c).After-is_too_small_for_one_more in
    subst (λ (lot : FineLotState). c.is_any_open.result ≡ is_growth_blocked (fine_state lot)) c.self.view_is
    (subst (λ (lot : FineLotState). c.is_any_open.result ≡ is_any_open (fine_state lot)) (sym c.self.view_is)
    c.is_any_open.ensures
    ∙ ap (λ small. small && is_any_open (fine_state (fine_lot_of c.self.inside)))
    (sym c.if-is_too_small_for_one_more.true ∙ small_is at))

pub returns-else-is_too_small_for_one_more : goal.returns-else-is_too_small_for_one_more
returns-else-is_too_small_for_one_more c =
    let at = (goal.at.returns-else-is_too_small_for_one_more c).After-is_too_small_for_one_more in
    subst (λ (lot : FineLotState). c.is_too_small_for_one_more.result ≡ is_growth_blocked (fine_state lot))
    c.self.view_is
    (c.if-is_too_small_for_one_more.false
    ∙ ap (λ small. small && is_any_open (fine_state (fine_lot_of c.self.inside)))
    (sym c.if-is_too_small_for_one_more.false ∙ small_is at))
