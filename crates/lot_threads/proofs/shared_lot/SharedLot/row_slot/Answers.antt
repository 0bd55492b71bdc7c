use Rattle.std.proofs.Common.{◌≡◌, ℕ, ◌+◌, ◌<◌, length, arith, subst}
use Rattle.lot_history.specs.Witness.{id_of, limit_of, max_threads_of}
use Rattle.lot_history.specs.declared.history.History.{History}
use Rattle.lot_threads.specs.Cells.{IsSlotAt}
use Rattle.lot_threads.proofs.RowLemmas.{item_at}
use Rattle.lot_threads.proofs.shared_lot.SharedLot.row_slot.Goals as goal

pub returns : goal.returns
returns g c =
    let history = c.self.inside.history in
    let rows = c.self.inside.rows.items in
    let index = c.args.index in
    let below : index < length rows = omega (arith, c.requires, c.self.invariant.0.count) in
    let own = item_at (IsSlotAt (id_of history) (max_threads_of history) (limit_of history)) 0 rows index c.index.result.now below
    c.index.ensures c.self.invariant.0.each in
    let same : 0 + index ≡ index = omega arith in
    subst (λ (found : History). IsSlotAt (id_of found) (max_threads_of found) (limit_of found) index c.index.result.now) c.self.view_is
    (subst (λ (n : ℕ). IsSlotAt (id_of history) (max_threads_of history) (limit_of history) n c.index.result.now) same own)
