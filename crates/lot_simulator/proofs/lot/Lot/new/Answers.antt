use Rattle.std.proofs.Common.{◌∙◌, ◌<◌, ◌≤◌, sym, ap, ⊎_elim, rules}
use Rattle.std.proofs.lemmas.Bool.{cases_lt}
use Rattle.lot_machine.specs.declared.numbers.TheConstants.{MAX_THREADS}
use Rattle.lot_simulator.specs.Lot.{uses}
use Rattle.lot_machine.specs.Machine.{new_machine}
use Rattle.lot_simulator.proofs.LotThreadLemmas.{IsLotStep}
use Rattle.lot_simulator.proofs.LotLemmas.{IsLotStep-new}
use Rattle.lot_simulator.proofs.TableLemmas.{nodes-empty}
use Rattle.lot_simulator.proofs.UseLemmas.{uses-free}
use Rattle.lot_simulator.proofs.lot.Lot.new.Goals as goal
use Rattle.lot_simulator.proofs.lot.Lot.new.Goals.{In_ok-threads}

-- a table is made for at most that many
few : (c : In_ok-threads) → c.args.max_threads ≤ MAX_THREADS
few c =
    ⊎_elim (λ (high : MAX_THREADS < c.args.max_threads). absurd (let refused = c.in_ok-table.ensures.too_many.1 high in
    search rules))
    (λ (low : c.args.max_threads ≤ MAX_THREADS). low)
    (cases_lt MAX_THREADS c.args.max_threads)

step : (c : In_ok-threads)
    → IsLotStep (record { buckets = c.in_ok-table.table.cells; threads = c.in_ok-threads.threads.items })
    (new_machine c.args.max_threads)
step c =
    rw c.in_ok-threads.ensures
    (IsLotStep-new c.in_ok-table.table.cells c.args.max_threads (few c)
    (nodes-empty 16 c.in_ok-table.table.cells c.in_ok-table.ensures.empty))

pub invariant_of-result : goal.invariant_of-result
invariant_of-result c = (
  (step c).is_lot,
  c.in_ok-table.ensures.numbers ∙ sym (uses-free 0 c.args.max_threads) ∙ ap uses (sym c.in_ok-threads.ensures),
)

pub returns-clause-ok : goal.returns-clause-ok
returns-clause-ok c = (step c).means
