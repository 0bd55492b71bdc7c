use Rattle.std.proofs.Common.{◌∙◌}
use Rattle.lot_litmus.proofs.search.Search.mark_more.Goals as goal

pub loop-passed-preserved : goal.loop-passed-preserved
loop-passed-preserved c = record {
  hopeful = λ is before. c.mark-has_marked.ensures.hopeful is (c.loop-passed.invariant.hopeful is before);
  length = c.mark-has_marked.ensures.length ∙ c.loop-passed.invariant.length;
}
