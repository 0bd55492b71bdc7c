use Rattle.std.proofs.Common.{◌≡◌, ◌+◌, ◌<◌, ◌∙◌, drop, length, slice_index_or, ap, subst, arith}
use Rattle.lot_simulator.specs.Lot.{machine}
use Rattle.lot_machine.specs.Steps.{IsStep}
use Rattle.lot_machine.specs.Run.{IsRun}
use Rattle.lot_machine.proofs.AnswerLemmas.{IsStep-same_answer}
use Rattle.lot_machine.proofs.LawLemmas.{IsStep-fixes}
use Rattle.lot_machine.proofs.StepLemmas.{IsConsistent-step}
use Rattle.lot_simulator.specs.Journal.{journal_steps, journal_answers}
use Rattle.examples.proofs.ReplayLemmas.{next_entry}
use Rattle.examples.proofs.recording.replay.Goals as goal

pub loop-step-preserved : goal.loop-step-preserved
loop-step-preserved c =
    let low : c.loop-step.step-index < length c.args.recorded.now.journal =
    omega (arith, ap length c.journal-step-items.ensures, c.loop-step-test.true) in
    let is : c.loop-step-item.result ≡ slice_index_or c.args.recorded.now.journal c.loop-step.step-index
    c.loop-step-item.result = c.loop-step-item.is ∙ ap (λ journal. slice_index_or journal c.loop-step.step-index
    c.loop-step-item.result) c.journal-step-items.ensures in
    let (next, does, ran) = next_entry (machine c.loop-step.lot) (machine c.args.recorded.now.lot)
    c.args.recorded.now.journal c.loop-step.step-index c.loop-step-item.result low is
    c.loop-step.invariant.left in
    let same : c.apply.result ≡ c.loop-step-item.result.1 = IsStep-same_answer (machine c.loop-step.lot)
    c.loop-step-item.result.0 c.apply.result c.loop-step-item.result.1 (machine c.apply.new.self) next
    c.loop-step.invariant.consistent c.apply.ensures.step does c.in_default-apply.not-NoMemory
    c.in_default.not-NoMemory in
    let done : IsStep (machine c.loop-step.lot) c.loop-step-item.result.0 c.loop-step-item.result.1
    (machine c.apply.new.self) = subst (λ given. IsStep (machine c.loop-step.lot)
    c.loop-step-item.result.0 given (machine c.apply.new.self)) same c.apply.ensures.step in
    let met : next ≡ machine c.apply.new.self = IsStep-fixes (machine c.loop-step.lot)
    c.loop-step-item.result.0 c.loop-step-item.result.1 next (machine c.apply.new.self) does done in
    record {
      consistent = IsConsistent-step (machine c.loop-step.lot) c.loop-step-item.result.0 c.loop-step-item.result.1
          (machine c.apply.new.self) c.loop-step.invariant.consistent done;
      left = subst (λ m. IsRun IsStep m (journal_steps (drop (c.loop-step.step-index + 1) c.args.recorded.now.journal))
          (journal_answers (drop (c.loop-step.step-index + 1) c.args.recorded.now.journal))
          (machine c.args.recorded.now.lot)) met ran;
    }
