use Rattle.std.proofs.Common.{ap, ◌∙◌, sym, subst, ◌<◌, ℕ, length}
use Rattle.lot_base.specs.Place.{place_of}
use Rattle.lot_history.specs.Witness.{id_of, limit_of, max_threads_of}
use Rattle.lot_threads.proofs.LockLemmas.{own_at}
use Rattle.lot_threads.proofs.shared_lot.SharedLot.lock_of.Goals as goal

pub returns : goal.returns
returns g c =
    let history = c.args.self.now in
    let row = c.row_in_use-index.ensures.row in
    let place = c.place_by_bits in
    let below : place.result < length c.row_in_use-index.result.1.now.items =
    subst (λ (count : ℕ). place.result < count) (sym row.count) place.ensures.below in
    let own = own_at c.row_in_use-index.result.1.now.items place.result c.index.result.now below c.index.ensures
    (id_of history) (max_threads_of history) (limit_of history) _ row in
    record {
      for_key = ap (place_of c.args.key) own.of_size ∙ (sym place.ensures.value ∙ sym own.at_place);
      for_threads = own.for_threads;
      for_limit = own.for_limit;
      of_lot = own.of_lot;
    }
