use Rattle.std.proofs.Common.{◌≡◌, ◌∙◌, ◌+◌, ◌++◌, ◌∷◌, [], sym, ap, take, append_assoc, arith}
use Rattle.std.proofs.lemmas.List.{take_all, take_more}
use Rattle.lot_simulator.specs.Lot.{machine}
use Rattle.lot_machine.proofs.LawLemmas.{OutcomesAlternate-run}
use Rattle.lot_simulator.proofs.ScheduleLemmas.{HasRun, HasRun-push}
use Rattle.lot_simulator.proofs.schedule.run.Goals as goal

pub loop-step-preserved : goal.loop-step-preserved
loop-step-preserved c =
    let (given, so_far, ran) = c.loop-step.invariant.ran in
    let answer = c.apply.result in
    let more : take (c.loop-step.step-index + 1) c.args.steps.now
    ≡ take c.loop-step.step-index c.args.steps.now ++ c.step-item.result ∷ [] =
    take_more c.args.steps.now c.loop-step.step-index c.step-item.result (omega arith)
    ∙ ap (λ step. take c.loop-step.step-index c.args.steps.now ++ step ∷ []) (sym c.step-item.is) in
    record {
      room = omega (arith, c.loop-step.invariant.room, c.in_ok-push.ensures.len, c.in_ok-push.ensures.capacity);
      ran = (
        given ++ answer ∷ [],
        c.in_ok-push.ensures.items ∙ ap (λ items. items ++ answer ∷ []) so_far
            ∙ append_assoc c.args.answers.now.items given (answer ∷ []),
        rw more (HasRun-push c.args.lot.now (take c.loop-step.step-index c.args.steps.now) given c.loop-step.lot
            c.apply.new.self c.step-item.result answer ran c.apply.ensures.step c.apply.ensures.size),
      );
    }

pub returns-clause-ran : goal.returns-clause-ran
returns-clause-ran c =
    let (given, appended, ran) = c.loop-step.invariant.ran in
    let all : take c.loop-step.step-index c.args.steps.now ≡ c.args.steps.now =
    take_all c.loop-step.step-index c.args.steps.now (omega arith) in
    let whole : HasRun c.args.lot.now c.args.steps.now given c.loop-step.lot = rw all at ran in
    record {
      given = given;
      appended = appended;
      run = whole.run;
      outcomes = OutcomesAlternate-run (machine c.args.lot.now) c.args.steps.now given
          (machine c.loop-step.lot) c.consistency.ensures whole.run;
      size = whole.size;
    }
