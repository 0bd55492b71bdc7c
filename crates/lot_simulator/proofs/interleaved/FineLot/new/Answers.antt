use Rattle.std.proofs.Common.{◌∙◌, ◌<◌, ◌≤◌, sym, ap, ⊎_elim, rules}
use Rattle.std.proofs.lemmas.Bool.{cases_lt}
use Rattle.lot_machine.specs.declared.numbers.TheConstants.{MAX_THREADS}
use Rattle.lot_simulator.specs.FineLot.{plain_threads}
use Rattle.lot_simulator.specs.InterleavedState.{new_fine_state}
use Rattle.lot_simulator.specs.Lot.{uses}
use Rattle.lot_simulator.proofs.FineLotLemmas.{IsFineLotStep, IsFineLotStep-new, plain_threads-free}
use Rattle.lot_simulator.proofs.TableLemmas.{nodes-empty}
use Rattle.lot_simulator.proofs.UseLemmas.{uses-free}
use Rattle.lot_simulator.proofs.interleaved.FineLot.new.Goals as goal
use Rattle.lot_simulator.proofs.interleaved.FineLot.new.Goals.{In_ok-callers}

-- a table is made for at most that many
few : (c : In_ok-callers) → c.args.max_threads ≤ MAX_THREADS
few c =
    ⊎_elim (λ (high : MAX_THREADS < c.args.max_threads). absurd (let refused = c.in_ok-table.ensures.too_many.1 high in
    search rules))
    (λ (low : c.args.max_threads ≤ MAX_THREADS). low)
    (cases_lt MAX_THREADS c.args.max_threads)

step : (c : In_ok-callers) → IsFineLotStep (record {
  buckets = c.in_ok-table.table.cells;
  threads = c.in_ok-threads.threads.items;
  callers = c.in_ok-callers.callers.items;
})
    (new_fine_state c.args.max_threads c.args.callers)
step c =
    rw (c.in_ok-threads.ensures, c.in_ok-callers.ensures)
    (IsFineLotStep-new c.in_ok-table.table.cells c.args.max_threads c.args.callers (few c) c.in_ok-table.ensures.size
    (nodes-empty 16 c.in_ok-table.table.cells c.in_ok-table.ensures.empty))

pub invariant_of-result : goal.invariant_of-result
invariant_of-result c = (
  (step c).is_lot,
  c.in_ok-table.ensures.numbers ∙ sym (uses-free 0 c.args.max_threads)
      ∙ ap uses (sym (plain_threads-free 0 c.args.max_threads))
      ∙ ap (λ threads. uses (plain_threads threads)) (sym c.in_ok-threads.ensures),
)

pub returns-clause-ok : goal.returns-clause-ok
returns-clause-ok c = (step c).means
