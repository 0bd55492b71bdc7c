use Rattle.lot_base.specs.declared.token.UnparkResult.{UnparkResult}
use Rattle.lot_threads.specs.Within.{IsUnparkWithin}
use Rattle.lot_threads.proofs.cell_steps.take_filter_of.Given as goal

-- the unpark has the decisions that the filter made on the park tokens in the bucket, and the token that the callback
-- answered in the section that has the bucket's part
abbrev pub ghosts-take_filter_with : goal.ghosts-take_filter_with
ghosts-take_filter_with g a = record {
  said = λ s t. (result : UnparkResult)
      × IsUnparkWithin g.F.FnMut g.C.FnOnce a.filter a.callback a.history.now a.cell.now.bucket a.key result s t;
}
