use Rattle.std.proofs.Common.{◌∙◌, sym, ap, subst}
use Rattle.lot_machine.specs.Machine.{IsConsistent}
use Rattle.lot_litmus.specs.Performing.{after_of}
use Rattle.lot_litmus.specs.View.{configuration_of, machine_of}
use Rattle.lot_litmus.proofs.MoveLemmas.{KeepsOutcome, stepped-keeps}
use Rattle.lot_litmus.proofs.test.Test.step.Goals as goal

pub new-requires : goal.new-requires
new-requires c =
    subst KeepsOutcome (sym c.step_on.ensures ∙ ap (λ after. after_of after c.step_on.new.state) c.in-Goes.is)
    (stepped-keeps c.args.self.now (configuration_of c.state-2.result.now) c.args.thread.number
    (subst (λ s. IsConsistent (machine_of s.queues s.standings)) (sym c.state-2.ensures.value)
    c.state-2.ensures.consistent))
