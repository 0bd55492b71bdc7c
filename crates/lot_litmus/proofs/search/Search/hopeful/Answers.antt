use Rattle.std.proofs.Common.{◌∙◌, sym, subst}
use Rattle.lot_litmus.specs.Search.{AreHopeful}
use Rattle.lot_litmus.proofs.search.Search.hopeful.Goals as goal
use Rattle.lot_litmus.proofs.search.Search.hopeful.Goals.{else-loop-test, then-loop-test+then-not-mark_more}

pub loop-preserved : goal.loop-preserved
loop-preserved c = record {
  hopeful = λ is. c.mark_more.ensures.hopeful is (c.loop.invariant.hopeful is);
  length = c.mark_more.ensures.length ∙ c.loop.invariant.length;
}

pub returns-clause-hopeful : goal.returns-clause-hopeful
returns-clause-hopeful c = elim c.loop-test.branch [
  | else-loop-test w ↦ λ is. subst (λ marks. AreHopeful c.args.test.now c.args.self.now.states.items marks.items) (sym w.marks-is)
      (c.loop.invariant.hopeful is)
  | then-loop-test+then-not-mark_more w ↦
      λ is. subst (λ marks. AreHopeful c.args.test.now c.args.self.now.states.items marks.items) (sym w.marks-is)
      (w.mark_more.ensures.hopeful is (c.loop.invariant.hopeful is))
]
