use Rattle.std.proofs.Common.{◌≡◌, ◌∙◌, ◌+◌, ◌++◌, ◌∷◌, List, [], refl, sym, ap, append-nil, append_assoc}
use Rattle.std.proofs.Common.{ℕ, arith, drop, subst, suc, take}
use Rattle.std.proofs.Math.Seq.{drop-cons}
use Rattle.std.proofs.lemmas.List.{take_all, take_more}
use Rattle.std.specs.Option.{option_to_list}
use Rattle.lot_simulator.specs.declared.interleaved.FineStep.{FineStep}
use Rattle.lot_simulator.specs.FineLot.{fine_state}
use Rattle.lot_simulator.specs.Private.FineCopies.{AreCopiesIn}
use Rattle.lot_simulator.proofs.CopyLemmas.{AmountsTo-told, Tells, Tells-push, copies-left}
use Rattle.lot_simulator.proofs.interleaved.run_fine.Goals as goal

pub loop-step-init : goal.loop-step-init
loop-step-init c = record {
  room = omega (arith, c.in_ok-reserve.ensures.ok, c.reserve.ensures.len);
  also_room = omega (arith, c.in_ok-reserve-2.ensures.ok, c.reserve-2.ensures.len);
  copies = c.in_ok-copies.ensures.copies;
  ran = (
    [],
    [],
    c.reserve.ensures.items ∙ sym (append-nil c.args.answers.now.items),
    c.reserve-2.ensures.items ∙ sym (append-nil c.args.sequential.now.items),
    (refl, tt),
  );
}

pub loop-step-preserved : goal.loop-step-preserved
loop-step-preserved c =
    let (given, told, so_far, told_so_far, tells) = c.loop-step.invariant.ran in
    let answer = c.step-given.result.0 in
    let more = option_to_list c.step-given.result.1 in
    let steps = c.args.steps.now in
    let index = c.loop-step.step-index in
    let step = c.step-item.result in
    let so_many : take (index + 1) steps ≡ take index steps ++ step ∷ [] =
    take_more steps index step (omega arith)
    ∙ ap (λ (s : FineStep). take index steps ++ s ∷ []) (sym c.step-item.is) in
    let next : suc index ≡ index + 1 = omega arith in
    let others : drop index steps ≡ step ∷ drop (index + 1) steps =
    drop-cons steps index step (omega arith)
    ∙ ap (λ (s : FineStep). s ∷ drop (suc index) steps) (sym c.step-item.is)
    ∙ ap (λ (k : ℕ). step ∷ drop k steps) next in
    record {
      room = omega (arith, c.loop-step.invariant.room, c.push_reserved.ensures.len, c.push_reserved.ensures.capacity);
      also_room = omega (
        arith,
        c.loop-step.invariant.also_room,
        c.push_if_any.ensures.len,
        c.push_if_any.ensures.capacity,
      );
      copies = copies-left step (drop (index + 1) steps) c.loop-step.copies.items c.pop_front.new.self.items
          (subst (λ (ss : List FineStep). AreCopiesIn ss c.loop-step.copies.items) others c.loop-step.invariant.copies)
          c.pop_front.ensures.rest;
      ran = (
        given ++ answer ∷ [],
        told ++ more,
        c.push_reserved.ensures.items ∙ ap (λ items. items ++ answer ∷ []) so_far
            ∙ append_assoc c.args.answers.now.items given (answer ∷ []),
        c.push_if_any.ensures.items ∙ ap (λ items. items ++ more) told_so_far
            ∙ append_assoc c.args.sequential.now.items told more,
        subst
            (λ (ss : List FineStep). Tells (fine_state c.args.lot.now) ss (given ++ answer ∷ [])
            (fine_state c.step-given.new.self) (told ++ more)) (sym so_many)
            (Tells-push (fine_state c.args.lot.now) (take index steps) given (fine_state c.loop-step.lot)
            (fine_state c.step-given.new.self) step answer told more tells c.step-given.ensures.does
            c.step-given.ensures.tells),
      );
    }

pub returns-clause-ran : goal.returns-clause-ran
returns-clause-ran c =
    let (given, told, appended, also_appended, tells) = c.loop-step.invariant.ran in
    let all : take c.loop-step.step-index c.args.steps.now ≡ c.args.steps.now =
    take_all c.loop-step.step-index c.args.steps.now (omega arith) in
    record {
      given = given;
      appended = appended;
      told = told;
      also_appended = also_appended;
      amounts = AmountsTo-told (fine_state c.args.lot.now) (fine_state c.loop-step.lot) c.args.steps.now given told
          c.consistency.ensures.consistent
          (subst
          (λ (ss : List FineStep). Tells (fine_state c.args.lot.now) ss given (fine_state c.loop-step.lot) told) all
          tells);
    }
