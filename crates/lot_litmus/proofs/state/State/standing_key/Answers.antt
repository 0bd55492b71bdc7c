use Rattle.std.proofs.Common.{rules, ◌∙◌, sym}
use Rattle.lot_litmus.proofs.ViewLemmas.{first_key-here, first_key-past}
use Rattle.lot_litmus.proofs.state.State.standing_key.Goals as goal

pub returns-then-has : goal.returns-then-has
returns-then-has c =
    sym (first_key-here c.args.self.now.queues c.args.self.now.standings c.args.thread.number c.loop-number.number
    c.queue.result (search rules) c.queue.ensures (sym c.has.ensures ∙ c.if-has.true))
    ∙ c.loop-number.invariant

pub loop-number-preserved : goal.loop-number-preserved
loop-number-preserved c =
    sym (first_key-past c.args.self.now.queues c.args.self.now.standings c.args.thread.number c.loop-number.number
    c.queue.result (search rules) c.queue.ensures (sym c.has.ensures ∙ c.if-has.false))
    ∙ c.loop-number.invariant
