use Rattle.std.proofs.Common.{◌≡◌, ℕ, ◌+◌, [], ◌∷◌, arith, length, length-append, subst, ap, ◌∙◌}
use Rattle.lot_threads.specs.Cells.{IsCellLock, home_of}
use Rattle.lot_threads.specs.declared.cell.CellKey.{CellKey}
use Rattle.lot_threads.proofs.RowLemmas.{EachAt-push}
use Rattle.lot_threads.proofs.cell.new_row.Goals as goal

pub loop-place-preserved : goal.loop-place-preserved
loop-place-preserved c =
    let so_far = c.loop-place.invariant in
    let place = c.loop-place.place in
    let row = c.loop-place.row.items in
    let lock = c.in_ok-new.field-0 in
    let made = c.in_ok-new.ensures in
    let pushed = c.in_ok-push.ensures.items in
    let Own = IsCellLock (home_of c.args.home) c.args.max_threads c.args.limit c.args.size in
    let own : Own place lock = record {
      at_place = ap (λ (key : CellKey). key.place) made;
      of_size = ap (λ (key : CellKey). key.size) made ∙ so_far.size;
      for_threads = ap (λ (key : CellKey). key.max_threads) made ∙ so_far.threads;
      for_limit = ap (λ (key : CellKey). key.limit) made ∙ so_far.limit;
      of_lot = ap (λ (key : CellKey). home_of key.home) made ∙ so_far.home;
    } in
    let number : place ≡ 0 + length row = omega (arith, so_far.count) in
    record {
      size = so_far.size;
      threads = so_far.threads;
      limit = so_far.limit;
      home = so_far.home;
      count = omega (arith, ap length pushed, length-append row (lock ∷ []), so_far.count);
      locks = rw pushed (EachAt-push Own 0 row lock (subst (λ (n : ℕ). Own n lock) number own) so_far.locks);
    }
