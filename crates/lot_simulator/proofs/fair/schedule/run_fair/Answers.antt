use Rattle.std.proofs.Common.{◌≡◌, ◌∙◌, ◌+◌, ◌++◌, ◌∷◌, [], ap, take, get_or, append_assoc, arith}
use Rattle.std.proofs.lemmas.List.{take_all, take_more}
use Rattle.lot_machine.proofs.RunLemmas.{IsRun-push}
use Rattle.lot_simulator.specs.declared.fair.schedule.FairStep.TheVariants.{Register}
use Rattle.lot_simulator.specs.FairSteps.{IsFairStep}
use Rattle.lot_simulator.specs.FairCore.{fair_state}
use Rattle.lot_simulator.proofs.fair.schedule.run_fair.Goals as goal

pub loop-step-preserved : goal.loop-step-preserved
loop-step-preserved c =
    let (given, so_far, ran) = c.loop-step.invariant.ran in
    let answer = c.apply.result in
    let step = get_or c.args.steps.now c.loop-step.step-index Register in
    let more : take (c.loop-step.step-index + 1) c.args.steps.now
    ≡ take c.loop-step.step-index c.args.steps.now ++ step ∷ [] =
    take_more c.args.steps.now c.loop-step.step-index Register (omega arith) in
    record {
      room = omega (arith, c.loop-step.invariant.room, c.in_ok-push.ensures.len, c.in_ok-push.ensures.capacity);
      ran = (
        given ++ answer ∷ [],
        c.in_ok-push.ensures.items ∙ ap (λ items. items ++ answer ∷ []) so_far
            ∙ append_assoc c.args.answers.now.items given (answer ∷ []),
        rw more (IsRun-push IsFairStep (fair_state c.args.core.now) (take c.loop-step.step-index c.args.steps.now) given
            (fair_state c.loop-step.core) (fair_state c.apply.new.self) step answer ran c.apply.ensures),
      );
    }

pub returns-clause-ran : goal.returns-clause-ran
returns-clause-ran c =
    let (given, appended, ran) = c.loop-step.invariant.ran in
    let all : take c.loop-step.step-index c.args.steps.now ≡ c.args.steps.now =
    take_all c.loop-step.step-index c.args.steps.now (omega arith) in
    record {
      given = given;
      appended = appended;
      run = rw all at ran;
      consistent = c.consistency.ensures;
    }
