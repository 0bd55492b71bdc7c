use Rattle.lot_base.proofs.LawLemmas.{parts-split_by, parts-split_first, parts-split_filter, park_token-kept}
use Rattle.lot_base.proofs.laws.steps_keep_park_tokens.Goals as goal

pub returns : goal.returns
returns g c =
    record {
      requeue = parts-split_by _;
      unpark = parts-split_first _;
      filter = parts-split_filter _;
      node = park_token-kept;
    }
