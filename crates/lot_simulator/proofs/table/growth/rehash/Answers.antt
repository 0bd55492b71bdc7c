use Rattle.std.proofs.Common.{◌∙◌, arith, length}
use Rattle.std.proofs.lemmas.List.{get_or_read}
use Rattle.std.proofs.Math.ListN.{length-set}
use Rattle.lot_base.proofs.PlaceLemmas.{place_of-below}
use Rattle.lot_simulator.proofs.GrowthLemmas.{IsGathered-step}
use Rattle.lot_simulator.proofs.table.growth.rehash.Goals as goal

pub loop-place-preserved : goal.loop-place-preserved
loop-place-preserved c = record {
  count = length-set c.loop-place.cells.items c.loop-place.place c.rehash_bucket.new.bucket
      ∙ c.loop-place.invariant.count;
  row = rw (← c.loop-place.invariant.row.count) c.rehash_bucket.ensures.row;
  represents = c.rehash_bucket.ensures.represents;
  gathered = IsGathered-step c.args.cells.now.items c.loop-place.cells.items c.args.row.now.items
      c.loop-place.row.items c.rehash_bucket.new.row.items c.loop-place.place c.rehash_bucket.new.bucket
      c.index_mut.result.now (omega arith) c.requires.old_row
      (get_or_read c.loop-place.cells.items c.loop-place.place c.index_mut.result.now (omega arith)
      c.index_mut.ensures.value _) c.rehash_bucket.ensures.in_place c.rehash_bucket.ensures.nodes
      c.loop-place.invariant.gathered;
}

pub returns-clause-nodes : goal.returns-clause-nodes
returns-clause-nodes c = λ key.
    let low = place_of-below key (length c.args.cells.now.items) c.requires.old_size in
    c.loop-place.invariant.gathered.done key (omega arith)
