use Rattle.std.proofs.Common.{[], sym, subst}
use Rattle.lot_machine.specs.declared.step.Answer.TheVariants as answer
use Rattle.lot_machine.specs.declared.step.Op.TheVariants as op
use Rattle.lot_machine.specs.declared.step.Step.TheVariants as step
use Rattle.lot_history.specs.Witness.{Extends}
use Rattle.lot_history.specs.declared.history.History.{History}
use Rattle.lot_threads.specs.Titled.{IsTitle, Retells}
use Rattle.lot_threads.proofs.CommitLemmas.{extends_still}
use Rattle.lot_threads.proofs.section.Section.take_all_titled.Goals as goal

pub take_all_titled_of-count-requires-clause-title : goal.take_all_titled_of-count-requires-clause-title
take_all_titled_of-count-requires-clause-title g c =
    subst (λ (h : History). IsTitle h c.args.self.now.key c.args.title) (sym c.history.ensures.history) c.requires.title

-- the commits add nothing
pub returns-clause-unparked : goal.returns-clause-unparked
returns-clause-unparked g c =
    let key = c.args.self.now.key in
    let count = c.take_all_titled_of-count.result.0 in
    let committed = c.commit.ensures in
    let new = c.commit.new.me in
    let s = step.Unpark (op.All key c.args.token) in
    subst (λ (h : History). Extends h c.args.me.now s (answer.Count count) new) c.history.ensures.history
    (extends_still c.history.result.now c.args.me.now c.take_all_titled_of-count.new.me new committed.seen s
    (answer.Count count) committed.nothing_added c.take_all_titled_of-count.ensures.extends)

pub returns-clause-title : goal.returns-clause-title
returns-clause-title g c =
    subst (λ (h : History). Retells h c.args.self.now.key c.args.title [] c.take_all_titled_of-count.result.2)
    c.history.ensures.history c.take_all_titled_of-count.ensures.title
