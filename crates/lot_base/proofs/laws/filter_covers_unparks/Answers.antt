use Rattle.lot_base.proofs.LawLemmas.{split_filter-unpark_each, split_filter-unpark_stop, split_filter-stop}
use Rattle.lot_base.proofs.laws.filter_covers_unparks.Goals as goal

pub returns : goal.returns
returns g c =
    record {
      all = split_filter-unpark_each _;
      first = split_filter-unpark_stop _;
      nobody = split_filter-stop _;
    }
