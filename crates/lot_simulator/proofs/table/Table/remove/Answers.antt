use Rattle.std.proofs.Common.{◌∙◌, sym, Option, Some, None, MatchOption}
use Rattle.lot_simulator.proofs.RowLemmas.{put_back}
use Rattle.lot_simulator.proofs.TakingLemmas.{IsTaking-from, IsRowStep-removed}
use Rattle.lot_simulator.proofs.table.Table.remove.Goals as goal

-- what holds of none follows from another fact
of_none : {A P Q : Type 0} (R : A → Type 0) (option : Option A) → (P → Q) → MatchOption option P R
    → MatchOption option Q R
of_none R None follows holds = follows holds
of_none R (Some _) follows holds = holds

pub returns-clause-lists : goal.returns-clause-lists
returns-clause-lists g c =
    let take = c.take-bucket.ensures in
    let remove = c.remove-removed.ensures in
    rw (c.put.ensures, take.left)
    (IsRowStep-removed c.args.self.now.cells c.args.number c.args.key c.take-bucket.result _ c.remove-removed.new.self
    c.requires.represents
    (IsTaking-from _ _ _ _ _ take.table take.size take.taken take.place remove.place remove.lists))

pub returns-clause-removed : goal.returns-clause-removed
returns-clause-removed g c =
    let take = c.take-bucket.ensures in
    rw (c.put.ensures, take.left)
    (of_none _ c.remove-removed.result
    (λ none. (
      none.0,
      put_back c.args.self.now.cells c.args.key c.take-bucket.result _ c.remove-removed.new.self take.taken take.place
          (none.1 ∙ sym take.taken),
    ))
    (rw take.taken at c.remove-removed.ensures.removed))
