use Rattle.std.proofs.Common.{◌≡◌, ℕ, ◌+◌, [], ◌∷◌, arith, length, length-append, subst, ap, ◌∙◌}
use Rattle.lot_history.specs.Views.{rest_of}
use Rattle.lot_history.specs.Witness.{id_of}
use Rattle.lot_threads.specs.Cells.{IsCellLock}
use Rattle.lot_threads.specs.Rows.{other_pieces}
use Rattle.lot_threads.specs.declared.cell.CellKey.{CellKey}
use Rattle.lot_threads.proofs.RowLemmas.{EachAt-push, empty_lists-first}
use Rattle.lot_threads.proofs.cell.new_cells.Goals as goal

pub loop-place-preserved : goal.loop-place-preserved
loop-place-preserved c =
    let so_far = c.loop-place.invariant in
    let place = c.loop-place.place in
    let cells = c.loop-place.cells.items in
    let cell = c.in_ok-new_cell.field-0 in
    let pushed = c.in_ok-push.ensures.items in
    let others = other_pieces c.args.max_threads c.args.limit in
    let Own = IsCellLock (id_of c.args.history.now) c.args.max_threads c.args.limit c.args.size in
    let own : Own place cell = record {
      at_place = ap (λ (key : CellKey). key.place) c.in_ok-new_cell.ensures.key;
      of_size = ap (λ (key : CellKey). key.size) c.in_ok-new_cell.ensures.key ∙ so_far.size;
      for_threads = ap (λ (key : CellKey). key.max_threads) c.in_ok-new_cell.ensures.key ∙ so_far.threads;
      for_limit = ap (λ (key : CellKey). key.limit) c.in_ok-new_cell.ensures.key ∙ so_far.limit;
      of_lot = ap (λ (key : CellKey). key.home.badge.table_id) c.in_ok-new_cell.ensures.key ∙ so_far.home.table;
    } in
    let number : place ≡ 0 + length cells = omega (arith, so_far.count) in
    record {
      still = record {
        witness = c.new_cell.ensures.still.witness;
        number = c.new_cell.ensures.still.number ∙ so_far.still.number;
      };
      size = so_far.size;
      threads = so_far.threads;
      limit = so_far.limit;
      home = so_far.home;
      count = omega (arith, ap length pushed, length-append cells (cell ∷ []), so_far.count);
      pieces = c.new_cell.ensures.pieces
          ∙ ap rest_of (so_far.pieces ∙ empty_lists-first c.args.limit c.args.size place others c.loop-place-test.true);
      cells = rw pushed (EachAt-push Own 0 cells cell (subst (λ (n : ℕ). Own n cell) number own) so_far.cells);
    }
