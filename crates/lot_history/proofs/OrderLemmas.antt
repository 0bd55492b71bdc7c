-- First come, first out.
use Rattle.std.proofs.Common.{◌≡◌, ◌≢◌, ◌⊎◌, ℕ, ◌+◌, ◌≤◌, ◌==◌, Bool, true, false, List, [], ◌∷◌, ◌++◌}
use Rattle.std.proofs.Common.{take, append_assoc, sym, ap, ◌∙◌, subst, inl, inr, ⊎_elim, arith}
use Rattle.std.proofs.lemmas.Bool.{cases_eq, eqb-true, and_parts, false≢true}
use Rattle.std.proofs.lemmas.List.{map-append}
use Rattle.lot_base.specs.declared.token.ParkToken.{ParkToken}
use Rattle.lot_base.specs.declared.token.UnparkToken.{UnparkToken}
use Rattle.lot_base.proofs.ValueLemmas.{with_value-same}
use Rattle.lot_machine.specs.declared.status.Status.TheVariants as status
use Rattle.lot_machine.specs.declared.step.Answer.{Answer}
use Rattle.lot_machine.specs.declared.step.Answer.TheVariants as answer
use Rattle.lot_machine.specs.declared.step.Op.{Op}
use Rattle.lot_machine.specs.declared.step.Op.TheVariants.{One, All}
use Rattle.lot_machine.specs.declared.step.Step.{Step}
use Rattle.lot_machine.specs.declared.step.Step.TheVariants.{Enter}
use Rattle.lot_machine.specs.Machine.{Machine, Waiter, IsConsistent, new_machine, entries_of, times_in}
use Rattle.lot_machine.specs.Status.{is_running, is_queued}
use Rattle.lot_machine.specs.Steps.{IsStep}
use Rattle.lot_machine.proofs.StandingLemmas.{is_queued-standing}
use Rattle.lot_machine.proofs.StepLemmas.{IsConsistent-new, IsConsistent-step, MatchBool-either, Running-from}
use Rattle.lot_machine.proofs.WaiterLemmas.{times_in-append, times_in-own, times_in-not_own}
use Rattle.lot_history.specs.declared.event.Event.{Event}
use Rattle.lot_history.specs.History.{LeadsTo}
use Rattle.lot_history.specs.Laws.{Hands}
use Rattle.lot_history.specs.Takings.{taken_by}
use Rattle.lot_history.specs.Turns.{enters, takes_from_front, may_lose_turn, WasTaken, StandsInFront}
use Rattle.lot_history.specs.Pieces.{numbers_of}
use Rattle.lot_history.specs.Turns.{FirstComeFirstOut}
use Rattle.lot_history.proofs.EventLemmas.{LeadsTo-push}
use Rattle.lot_history.proofs.RunLemmas.{Runs, parts, joined, IsConsistent-run}
use Rattle.lot_history.proofs.TakenLemmas.{among}
use Rattle.lot_history.proofs.TurnLemmas.{Waits, Found, walk, find, both_all}

-- who enters ran before, and stands last in the list then
record Entry (number key : ℕ) (m next : Machine) : Type 0 where
  waiter : Waiter
  is : waiter.number ≡ number
  ran : m.status number ≡ status.Running
  stands : next.lists key ≡ m.lists key ++ waiter ∷ []

entered : (number key : ℕ) (m : Machine) (thread k : ℕ) (valid : Bool) (park_token : ParkToken) (timed : Bool)
    (next : Machine) → thread ≡ number → k ≡ key → IsStep m (Enter thread k valid park_token timed) answer.Entered next
    → Entry number key m next
entered number key m thread k valid park_token timed next own at =
    let waiter : Waiter = record { number = thread; park_token = park_token; timed = timed } in
    MatchBool-either (is_running (m.status thread))
    (λ runs. MatchBool-either valid
    (λ _ (_, is). record {
      waiter = waiter;
      is = own;
      ran = ap m.status (sym own) ∙ Running-from (m.status thread) runs;
      stands = ap (λ (n : Machine). n.lists key) is
          ∙ with_value-same m.lists k (m.lists k ++ waiter ∷ []) key (sym at)
          ∙ ap (λ q. m.lists q ++ waiter ∷ []) at;
    })
    (λ _ (is, _). let other : answer.Entered ≡ answer.Invalid = is in absurd cc))
    (λ _ (is, _). let other : answer.Entered ≡ answer.Misfit = is in absurd cc)

entry : (number key : ℕ) (m : Machine) (step : Step) (given : Answer) (next : Machine) → IsStep m step given next
    → enters number key step given ≡ true → Entry number key m next
entry number key m (Enter thread k valid park_token timed) answer.Entered next does is =
    let both = and_parts (thread == number) (k == key) is in
    entered number key m thread k valid park_token timed next (eqb-true thread number both.0) (eqb-true k key both.1)
    does
entry number key m _ _ next does is = absurd (false≢true is)

-- who runs stands in no list
nowhere : (m : Machine) → IsConsistent m → (number key : ℕ) → m.status number ≡ status.Running
    → times_in number (m.lists key) ≡ 0
nowhere m (keys, right) number key runs =
    ⊎_elim (λ (none : times_in number (m.lists key) ≡ 0). none)
    (λ (some : times_in number (m.lists key) ≢ 0). absurd (false≢true
    (ap is_queued (sym runs) ∙ is_queued-standing keys m number key right.standing (omega (arith, some)))))
    (cases_eq (times_in number (m.lists key)) 0)

module _ (first second key : ℕ) where
  module _ (limit : ℕ) (m : Machine) (waits : Waits first second key limit m) where
    counted : (number : ℕ) → times_in number (m.lists key)
        ≡ times_in number waits.front + (times_in number (waits.own ∷ []) + times_in number waits.behind)
    counted number =
        ap (times_in number) waits.stands ∙ times_in-append number waits.front (waits.own ∷ waits.behind)
        ∙ ap (λ n. times_in number waits.front + n) (times_in-append number (waits.own ∷ []) waits.behind)

    -- who enters then is another, and does not stand in front
    apart : IsConsistent m → m.status second ≡ status.Running → first ≢ second
    apart consistent runs same =
        let none = nowhere m consistent second key runs in
        let here = times_in-own waits.own second (sym same ∙ sym waits.is) in
        absurd (omega (arith, none, here, counted second))

    not_in_front : IsConsistent m → m.status second ≡ status.Running → Waits first second key 0 m
    not_in_front consistent runs = record {
      front = waits.front;
      own = waits.own;
      behind = waits.behind;
      stands = waits.stands;
      is = waits.is;
      few = let none = nowhere m consistent second key runs in omega (arith, none, counted second);
    }

  module _ (m : Machine) (waits : Waits first second key 0 m) (apart : first ≢ second) where
    own_not : times_in second (waits.own ∷ []) ≡ 0
    own_not = times_in-not_own waits.own second (λ same. apart (sym waits.is ∙ sym same))

    -- an unpark of one takes who is in front
    not_one : (front : List Waiter) → times_in second front ≤ 0
        → times_in second (take 1 (front ++ waits.own ∷ waits.behind)) ≡ 0
    not_one [] few = own_not
    not_one (waiter ∷ front) few = omega (arith, few, times_in-append second (waiter ∷ []) front)

    -- who is in the list stands behind
    behind_it : times_in second (m.lists key) ≢ 0 → StandsInFront first second (m.lists key)
    behind_it some =
        let all = counted 0 m waits second in
        let there = find second waits.behind (λ none. some (omega (arith, all, none, own_not, waits.few))) in
        record {
          front = numbers_of waits.front;
          between = there.0;
          behind = there.1;
          stand = ap numbers_of waits.stands
              ∙ map-append (λ (waiter : Waiter). waiter.number) waits.front (waits.own ∷ waits.behind)
              ∙ ap (λ ns. numbers_of waits.front ++ waits.own.number ∷ ns) there.2
              ∙ ap (λ n. numbers_of waits.front ++ n ∷ (there.0 ++ second ∷ there.1)) waits.is;
        }

    at_front : (op : Op) (token : UnparkToken) → takes_from_front key op ≡ true → Hands m op second token
        → StandsInFront first second (taken_by op m)
    at_front (One k t) token at hands =
        let taken : List Waiter = take 1 (m.lists k) in
        let none : times_in second taken ≡ 0 = ap (λ q. times_in second (take 1 (m.lists q))) (eqb-true k key at)
        ∙ ap (λ ws. times_in second (take 1 ws)) waits.stands ∙ not_one waits.front waits.few in
        absurd (among (entries_of second taken) hands.takes none)
    at_front (All k t) token at hands =
        let same : k ≡ key = eqb-true k key at in
        subst (λ q. StandsInFront first second (m.lists q)) (sym same)
        (behind_it (subst (λ q. times_in second (m.lists q) ≢ 0) same
        (among (entries_of second (m.lists k)) hands.takes)))
    at_front _ token at hands = absurd (false≢true at)

  -- what was found among some events is found among more
  found_before : (m : Machine) (events more : List Event) → Found first second key m events
      → Found first second key m (events ++ more)
  found_before m events more there = record {
    earlier = there.earlier;
    unpark = there.unpark;
    later = there.later ++ more;
    stands = ap (λ es. es ++ more) there.stands ∙ append_assoc there.earlier (there.unpark ∷ there.later) more;
    op = there.op;
    is_unpark = there.is_unpark;
    of_key = there.of_key;
    machine = there.machine;
    found = there.found;
    hands = there.hands;
  }

  found_after : (m : Machine) (more events : List Event) (mid : Machine) → Runs m more mid
      → Found first second key mid events → Found first second key m (more ++ events)
  found_after m more events mid run there = record {
    earlier = more ++ there.earlier;
    unpark = there.unpark;
    later = there.later;
    stands = ap (λ es. more ++ es) there.stands ∙ sym (append_assoc more there.earlier (there.unpark ∷ there.later));
    op = there.op;
    is_unpark = there.is_unpark;
    of_key = there.of_key;
    machine = there.machine;
    found = joined m more there.earlier mid there.machine run there.found;
    hands = there.hands;
  }

  was_taken : (max_threads : ℕ) (before since : List Event) (m : Machine) → LeadsTo max_threads before m
      → Found first second key m since → WasTaken max_threads before since first key
  was_taken max_threads before since m to there = record {
    earlier = there.earlier;
    unpark = there.unpark;
    later = there.later;
    stands = there.stands;
    op = there.op;
    is_unpark = there.is_unpark;
    of_key = there.of_key;
    machine = there.machine;
    found = joined (new_machine max_threads) before there.earlier m there.machine to there.found;
    hands = there.hands;
  }

pub first_out : FirstComeFirstOut
first_out max_threads first second key before one between two since m op token run one_enters two_enters keeps at hands =
    let to_one = parts (new_machine max_threads) before (one ∷ (between ++ two ∷ since)) m run in
    let to_two = parts to_one.2.0 between (two ∷ since) m to_one.2.2 in
    ordered to_one.0 to_one.1 to_one.2.0 to_one.2.1 to_two.0 to_two.1 to_two.2.0 to_two.2.1 to_two.2.2
  where
    ordered : (m0 : Machine) → Runs (new_machine max_threads) before m0 → (m1 : Machine)
        → IsStep m0 one.step one.answer m1 → (m2 : Machine) → Runs m1 between m2 → (m3 : Machine)
        → IsStep m2 two.step two.answer m3 → Runs m3 since m
        → WasTaken max_threads (before ++ one ∷ []) (between ++ two ∷ since) first key
        ⊎ StandsInFront first second (taken_by op m)
    ordered m0 to m1 does m2 run m3 does_two rest =
        let new = IsConsistent-new max_threads in
        let found = IsConsistent-run (new_machine max_threads) before m0 new to in
        let consistent = IsConsistent-run m1 between m2
        (IsConsistent-step m0 one.step one.answer m1 found does) run in
        let in_first = entry first key m0 one.step one.answer m1 does one_enters in
        let in_second = entry second key m2 two.step two.answer m3 does_two two_enters in
        let limit : ℕ = times_in second (m0.lists key) in
        let turns = both_all (λ (e : Event). may_lose_turn first key e.step e.answer ≡ false) between (two ∷ since)
        keeps in
        let told : Found first second key m1 (between ++ two ∷ since)
        → WasTaken max_threads (before ++ one ∷ []) (between ++ two ∷ since) first key =
        was_taken first second key max_threads (before ++ one ∷ []) (between ++ two ∷ since) m1
        (LeadsTo-push max_threads before one m0 m1 to does) in
        let waits : Waits first second key limit m1 = record {
          front = m0.lists key;
          own = in_first.waiter;
          behind = [];
          stands = in_first.stands;
          is = in_first.is;
          few = omega arith;
        } in
        ⊎_elim (λ (there : Found first second key m1 between). inl
        (told (found_before first second key m1 between (two ∷ since) there)))
        (λ (still : Waits first second key limit m2). ⊎_elim
        (λ (there : Found first second key m2 (two ∷ since)). inl
        (told (found_after first second key m1 between (two ∷ since) m2 run there)))
        (λ (stands : Waits first second key 0 m). inr
        (at_front first second key m stands (apart first second key limit m2 still consistent in_second.ran)
        op token at hands))
        (walk first second key 0 m2 (two ∷ since) m (m3, does_two, rest) turns.1
        (not_in_front first second key limit m2 still consistent in_second.ran)))
        (walk first second key limit m1 between m2 run turns.0 waits)
