use Rattle.std.proofs.Common.{◌≡◌, ◌+◌, ◌++◌, ◌∷◌, [], ◌∙◌, ap, arith, sym, take}
use Rattle.std.proofs.lemmas.List.{take_all, take_more}
use Rattle.lot_simulator.proofs.ToldLemmas.{AreCopiesIn-push}
use Rattle.lot_simulator.proofs.interleaved.told.copied_ops.Goals as goal

pub loop-step-preserved : goal.loop-step-preserved
loop-step-preserved c =
    let steps = c.args.steps.now in
    let index = c.loop-step.step-index in
    let more : take (index + 1) steps ≡ take index steps ++ c.step-item.result ∷ [] =
    take_more steps index c.step-item.result (omega arith)
    ∙ ap (λ step. take index steps ++ step ∷ []) (sym c.step-item.is) in
    rw (more, c.in_ok-push_back.ensures.items)
    (AreCopiesIn-push (take index steps) c.loop-step.copies.items c.step-item.result c.in_ok-copied_op.field-0
    c.loop-step.invariant c.in_ok-copied_op.ensures)

pub returns-clause-copies : goal.returns-clause-copies
returns-clause-copies c =
    let all : take c.loop-step.step-index c.args.steps.now ≡ c.args.steps.now =
    take_all c.loop-step.step-index c.args.steps.now (omega arith) in
    rw all at c.loop-step.invariant
