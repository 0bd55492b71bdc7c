use Rattle.lot_base.specs.declared.token.UnparkResult.{UnparkResult}
use Rattle.lot_threads.specs.Requeues.{IsRequeueWithin}
use Rattle.lot_threads.proofs.section.Section.requeue_to.Given as goal

-- the requeue is the one that was chosen in a section that has the bucket's part
abbrev pub ghosts-requeue_across : goal.ghosts-requeue_across
ghosts-requeue_across g a = record {
  said = λ s t. (result : UnparkResult)
      × IsRequeueWithin g.V.FnOnce g.C.FnOnce a.validate a.callback a.self.now a.source.now.bucket a.from a.to result s t;
}
