use Rattle.std.proofs.Common.{rules, ◌≡◌, map, IfOk, OnErr, IsTrue}
use Rattle.lot_base.specs.Node.{fields}
use Rattle.lot_base.specs.Waiting.{has_any}
use Rattle.lot_base.specs.NodeLists.{lists_of}
use Rattle.lot_base.proofs.FoldLemmas.{Folds-same, numbers-next, refused-next}
use Rattle.lot_base.proofs.bucket.Bucket.list.Goals as goal

pub returns-clause-numbers : goal.returns-clause-numbers
returns-clause-numbers c =
    rw (← c.self.view_is)
    (Folds-same _
    (λ seen so_far. IfOk so_far (λ numbers. numbers.items ≡ map (λ node. node.number) (lists_of seen c.args.key))) _
    (λ seen so_far shown next f' at_seen call.
    (numbers-next c.args.key seen (fields shown.now) so_far next at_seen (search rules), search rules))
    _ _ _ _ c.new.ensures.items c.fold.ensures.1)

pub returns-clause-refused : goal.returns-clause-refused
returns-clause-refused c =
    rw (← c.self.view_is)
    (Folds-same _ (λ seen so_far. OnErr so_far (IsTrue (has_any (lists_of seen c.args.key)))) _
    (λ seen so_far shown next f' at_seen call.
    (refused-next c.args.key seen (fields shown.now) so_far next at_seen (search rules), search rules))
    _ _ _ _ tt c.fold.ensures.1)
