use Rattle.std.proofs.Common.{rules, ◌≡◌, ◌∙◌, sym, ap, subst, length, length-set, arith}
use Rattle.std.specs.Prelude.{slice_get, Some}
use Rattle.std.proofs.lemmas.Option.{slice_get-get_or}
use Rattle.lot_machine.specs.Machine.{IsConsistent}
use Rattle.lot_litmus.specs.declared.state.State.{State}
use Rattle.lot_litmus.specs.Performing.{after_of}
use Rattle.lot_litmus.specs.Search.{Grows, IsAt, IsLead}
use Rattle.lot_litmus.specs.Steps.{stepped}
use Rattle.lot_litmus.specs.View.{configuration_of, machine_of}
use Rattle.lot_litmus.proofs.MoveLemmas.{KeepsOutcome, stepped-keeps}
use Rattle.lot_litmus.proofs.SearchLemmas.{grows-within, lead-goes, looked-on, looked-all}
use Rattle.lot_litmus.proofs.search.Search.look_at.Goals as goal
use Rattle.lot_litmus.proofs.search.Search.look_at.Goals.{in-Blocked, in-Goes+in_ok-find-in-Goes}

pub find-requires : goal.find-requires
find-requires c =
    subst KeepsOutcome (sym c.step_from.ensures ∙ ap (λ after. after_of after c.step_from.new.next) c.in-Goes.is)
    (stepped-keeps c.args.test.now (configuration_of c.state-from.result.now) c.loop-number.number
    (subst (λ s. IsConsistent (machine_of s.queues s.standings)) (sym c.state-from.ensures.value)
    c.state-from.ensures.consistent))

pub loop-number-preserved : goal.loop-number-preserved
loop-number-preserved c = elim c.match-step_from.branch [
  | in-Blocked w ↦
      let stays : c.loop-number.self ≡ c.match-step_from.self = sym w.self-is in record {
        threads = λ s was _. threads s was;
        six = length-set c.loop-number.leads.to c.index-in-loop-number-2.result c.match-step_from.to ∙ c.loop-number.invariant.six;
        grows = subst (λ search. Grows c.args.self.now.states.items search.states.items) stays c.loop-number.invariant.grows;
        same = subst (λ search. search.leads.items ≡ c.args.self.now.leads.items) stays c.loop-number.invariant.same;
        leads = looked-on c.args.test.now c.args.self.now.states.items c.loop-number.self.states.items
            c.match-step_from.self.states.items c.index-in-loop-number.result.now c.args.index c.loop-number.number
            c.index-in-loop-number-2.result c.loop-number.leads.to c.match-step_from.to (rw c.loop-number.invariant.six c.loop-number-test.true)
            c.index-in-loop-number-2.ensures c.loop-number.invariant.grows
            (subst (λ search. Grows c.loop-number.self.states.items search.states.items) stays (λ i s here. here))
            here c.loop-number.invariant.leads
            (subst (λ to. IsLead c.args.test.now c.match-step_from.self.states.items c.index-in-loop-number.result.now c.loop-number.number (Some to))
            (sym w.to-is) (same_step ∙ ap (λ after. after_of after c.step_from.new.next) w.in-Blocked.is));
      }
  | in-Goes+in_ok-find-in-Goes w ↦
      let (grows, same, at) = w.in_ok-find-in-Goes.ensures in
      let goes : w.find.new.self ≡ c.match-step_from.self = sym w.self-is in record {
        threads = λ s was _. threads s was;
        six = length-set c.loop-number.leads.to c.index-in-loop-number-2.result c.match-step_from.to ∙ c.loop-number.invariant.six;
        grows = subst (λ search. Grows c.args.self.now.states.items search.states.items) goes
            (λ i s was. grows i s (c.loop-number.invariant.grows i s was));
        same = subst (λ search. search.leads.items ≡ c.args.self.now.leads.items) goes
            (same ∙ c.loop-number.invariant.same);
        leads = looked-on c.args.test.now c.args.self.now.states.items c.loop-number.self.states.items
            c.match-step_from.self.states.items c.index-in-loop-number.result.now c.args.index c.loop-number.number
            c.index-in-loop-number-2.result c.loop-number.leads.to c.match-step_from.to (rw c.loop-number.invariant.six c.loop-number-test.true)
            c.index-in-loop-number-2.ensures c.loop-number.invariant.grows
            (subst (λ search. Grows c.loop-number.self.states.items search.states.items) goes grows)
            here c.loop-number.invariant.leads
            (subst (λ to. IsLead c.args.test.now c.match-step_from.self.states.items c.index-in-loop-number.result.now c.loop-number.number (Some to))
            (sym w.to-is)
            (lead-goes c.args.test.now c.match-step_from.self.states.items c.index-in-loop-number.result.now c.step_from.new.next
            c.loop-number.number w.in_ok-find-in-Goes.field-0 (same_step ∙ ap (λ after. after_of after c.step_from.new.next) w.in-Goes.is)
            (subst (λ search. IsAt search.states.items w.in_ok-find-in-Goes.field-0 c.step_from.new.next) goes at)));
      }
]
  where
    same_step : stepped c.args.test.now (configuration_of c.index-in-loop-number.result.now) c.loop-number.number
        ≡ after_of c.step_from.result c.step_from.new.next
    same_step =
        ap (λ s. stepped c.args.test.now (configuration_of s) c.loop-number.number) (sym c.state-from.ensures.value)
        ∙ sym c.step_from.ensures

    here : slice_get c.loop-number.self.states.items c.args.index ≡ Some c.index-in-loop-number.result.now
    here =
        slice_get-get_or c.loop-number.self.states.items c.args.index c.index-in-loop-number.result.now
        (grows-within c.args.self.now.states.items c.loop-number.self.states.items c.args.index
        c.loop-number.invariant.grows c.requires)
        ∙ ap Some (sym c.index-in-loop-number.ensures)

    threads : (s : State) → slice_get c.args.self.now.states.items c.args.index ≡ Some s → length s.threads ≡ 6
    threads s was =
        let same : c.index-in-loop-number.result.now ≡ s = cc (sym here ∙ c.loop-number.invariant.grows c.args.index s was) in
        subst (λ state. length state.threads ≡ 6) (c.state-from.ensures.value ∙ same) c.state-from.ensures.threads

pub returns : goal.returns
returns c = (
  c.loop-number.invariant.grows,
  c.loop-number.invariant.same,
  λ s here. looked-all c.args.test.now c.loop-number.self.states.items s c.loop-number.leads
      (c.loop-number.invariant.threads s here (let end = c.loop-number-test.false in omega (arith, end)))
      c.loop-number.invariant.six
      (λ thread below. c.loop-number.invariant.leads s thread here
      (let end = c.loop-number-test.false in omega (arith, below, end))),
)
