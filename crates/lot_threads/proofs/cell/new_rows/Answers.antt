use Rattle.std.proofs.Common.{ℕ, List, ◌<◌, length, arith, refl, sym, subst}
use Rattle.atomic_table.specs.Seated.{TableId}
use Rattle.lot_history.specs.Witness.{id_of}
use Rattle.lot_threads.specs.Cells.{AreRows, FitsTag, IsRow, IsSlotAt}
use Rattle.lot_threads.proofs.RowLemmas.{item_at}
use Rattle.lot_threads.proofs.cell.new_rows.Goals as goal

pub set_written-requires : goal.set_written-requires
set_written-requires c =
    let rows = c.in_ok-rows.rows.items in
    let home = id_of c.args.history.now in
    let max_threads = c.args.max_threads in
    let limit = c.args.limit in
    let all : AreRows home max_threads limit rows =
    subst (λ (found : TableId). AreRows found max_threads limit rows) c.give-home-2.ensures.part.table c.in_ok-rows.ensures in
    let below : 0 < length rows = omega (arith, all.count) in
    let slot : IsSlotAt home max_threads limit 0 c.index.result.now =
    item_at (IsSlotAt home max_threads limit) 0 rows 0 c.index.result.now below c.index.ensures all.each in
    let row : IsRow home max_threads limit 16 c.in_ok-first.first.items = record {
      table = record { bits = 4; at_least_4 = omega arith; at_most_16 = omega arith; is_power = refl };
      count = c.in_ok-first.ensures.count;
      locks = c.in_ok-first.ensures.cells;
    } in
    subst (λ (tag : List ℕ). FitsTag tag c.in_ok-first.first.items) (sym slot) row
