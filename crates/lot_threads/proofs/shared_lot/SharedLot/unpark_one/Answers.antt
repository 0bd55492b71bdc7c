use Rattle.std.proofs.Common.{ℕ, sym, subst}
use Rattle.lot_history.specs.declared.history.History.{History}
use Rattle.lot_history.specs.declared.history.Witness.{Witness}
use Rattle.lot_threads.specs.Within.{UnparksOne}
use Rattle.lot_threads.proofs.CommitLemmas.{unparks_still}
use Rattle.lot_threads.proofs.shared_lot.SharedLot.unpark_one.Goals as goal
use Rattle.lot_threads.proofs.shared_lot.SharedLot.unpark_one.Goals.{then-is_none, else-is_none}

-- the commit adds nothing
pub returns-clause-unparked : goal.returns-clause-unparked
returns-clause-unparked g c =
    let key = c.args.key in
    let me = c.args.me.now in
    let told = c.take_one-taken.new.me in
    let result = c.take_one-taken.result.0 in
    let of_lot = subst (λ (h : History). UnparksOne g.C.FnOnce c.args.callback c.open-section.result.0.key h me result told)
    c.open-section.ensures.lot c.take_one-taken.ensures.unparked in
    let unparked = subst (λ (n : ℕ). UnparksOne g.C.FnOnce c.args.callback n c.args.self.now me result told)
    c.open-section.ensures.key of_lot in
    elim c.if-is_none.branch [
      | then-is_none w ↦ subst (λ (new : Witness). UnparksOne g.C.FnOnce c.args.callback key c.args.self.now me result new)
          (sym w.me-is) unparked
      | else-is_none w ↦ subst (λ (new : Witness). UnparksOne g.C.FnOnce c.args.callback key c.args.self.now me result new)
          (sym w.me-is) (unparks_still c.args.self.now me told w.commit_one-handle.new.me w.commit_one-handle.ensures.seen
          g.C.FnOnce c.args.callback key result w.commit_one-handle.ensures.nothing_added unparked)
    ]
