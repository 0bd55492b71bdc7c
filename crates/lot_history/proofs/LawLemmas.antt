-- The laws of `specs/Laws`.
use Rattle.std.proofs.Common.{◌≡◌, ◌≢◌, ◌⊎◌, ℕ, zero, suc, ◌+◌, ◌==◌, Bool, true, false, ◌&&◌, List, [], ◌∷◌, ◌++◌}
use Rattle.std.proofs.Common.{refl, sym, ap, ◌∙◌, subst, inl, inr, ⊎_elim, arith}
use Rattle.std.specs.List.{count_by, range_with_len}
use Rattle.std.proofs.lemmas.Bool.{cases_eq, cases_Bool, ne_eqb, and_right, cond-true, cond-false, false≢true}
use Rattle.std.proofs.lemmas.Bool.{and_parts, eqb-true}
use Rattle.std.proofs.lemmas.List.Elements.{All-nil, All-cons, All-head, All-tail}
use Rattle.lot_base.specs.declared.token.UnparkToken.{UnparkToken}
use Rattle.lot_base.specs.Waiting.{with_value, has_any}
use Rattle.lot_base.proofs.ValueLemmas.{with_value-same, with_value-other}
use Rattle.lot_machine.specs.declared.status.Status.{Status}
use Rattle.lot_machine.specs.declared.status.Status.TheVariants as status
use Rattle.lot_machine.specs.declared.step.Answer.{Answer}
use Rattle.lot_machine.specs.declared.step.Answer.TheVariants as answer
use Rattle.lot_machine.specs.declared.step.Op.{Op}
use Rattle.lot_machine.specs.declared.step.Op.TheVariants.{One, All, Filter, Requeue}
use Rattle.lot_machine.specs.declared.step.Step.{Step}
use Rattle.lot_machine.specs.declared.step.Step.TheVariants.{Register, Retire, Enter, Unpark, Deadline}
use Rattle.lot_machine.specs.declared.step.Step.TheVariants.{Resolve, Return, Acquire, Release, Trim}
use Rattle.lot_machine.specs.Machine.{Machine, IsConsistent, new_machine, entries_of, statuses_with_taken}
use Rattle.lot_machine.specs.Run.{IsRun}
use Rattle.lot_machine.specs.Status.{is_running, awaits_deadline, is_taken}
use Rattle.lot_machine.specs.Steps.{IsRegister, IsUnpark, IsReturn, IsResolve, IsAcquire, IsStep, is_outcome}
use Rattle.lot_machine.specs.Steps.{ends_park}
use Rattle.lot_machine.specs.Totals.{taken_threads_of}
use Rattle.lot_machine.proofs.AnswerLemmas.{IsStep-same_answer}
use Rattle.lot_machine.proofs.StepLemmas.{IsConsistent-new, IsConsistent-step, MatchBool-either, IsTrim-unchanged}
use Rattle.lot_machine.proofs.LawLemmas.{IsRun-fixes, IsStep-fixes, OutcomesAlternate-run}
use Rattle.lot_machine.proofs.TotalLemmas.{IsRun-balances}
use Rattle.lot_history.specs.declared.event.Event.{Event}
use Rattle.lot_history.specs.History.{steps_of, answers_of}
use Rattle.lot_history.specs.Laws.{EachLeadsToOneMachine, BeginningsAreHistories, ParksAndOutcomesAlternate}
use Rattle.lot_history.specs.Laws.{UnparkedThreadsComeBack, TokensComeFromUnparks, Hands}
use Rattle.lot_machine.specs.Operation.{split_of, token_of}
use Rattle.lot_history.specs.Laws.{HaveNoOutcome, HaveMemory, HistoriesCanBeReplayed}
use Rattle.lot_history.proofs.RunLemmas.{Runs, parts}

pub one_machine : EachLeadsToOneMachine
one_machine max_threads events machine other run ran =
    IsRun-fixes (new_machine max_threads) (steps_of events) (answers_of events) machine other run ran

pub beginnings : BeginningsAreHistories
beginnings max_threads events more (last, run) =
    let both = parts (new_machine max_threads) events more last run in (both.0, both.1)

-- two runs of the same steps from a consistent machine
alike : (m : Machine) (steps : List Step) (answers : List Answer) (last : Machine) (others : List Answer)
    (other : Machine) → IsConsistent m → IsRun IsStep m steps answers last → IsRun IsStep m steps others other
    → HaveMemory answers → HaveMemory others → (others ≡ answers) × (other ≡ last)
alike m [] [] last [] other consistent run ran _ _ = (refl, sym ran ∙ run)
alike m [] (_ ∷ _) last _ other consistent none _ _ _ = absurd none
alike m [] [] last (_ ∷ _) other consistent _ none _ _ = absurd none
alike m (_ ∷ _) [] last _ other consistent none _ _ _ = absurd none
alike m (_ ∷ _) (_ ∷ _) last [] other consistent _ none _ _ = absurd none
alike m (step ∷ steps) (given ∷ answers) last (told ∷ others) other consistent (next, does, run) (after, did, ran)
    memory also =
    let Has : Answer → Type 0 = λ a. a ≢ answer.NoMemory in
    let same : told ≡ given = IsStep-same_answer m step told given after next consistent did does
    (All-head Has told others also) (All-head Has given answers memory) in
    let there : after ≡ next = IsStep-fixes m step given after next (subst (λ a. IsStep m step a after) same did) does
    in
    let rest = alike next steps answers last others other (IsConsistent-step m step given next consistent does) run
    (subst (λ n. IsRun IsStep n steps others other) there ran) (All-tail Has given answers memory)
    (All-tail Has told others also) in
    (ap (λ a. a ∷ others) same ∙ ap (λ more. given ∷ more) rest.0, rest.1)

pub replayed : HistoriesCanBeReplayed
replayed max_threads events machine answers last run ran memory also =
    alike (new_machine max_threads) (steps_of events) (answers_of events) machine answers last
    (IsConsistent-new max_threads) run ran memory also

pub alternate : ParksAndOutcomesAlternate
alternate max_threads events (last, run) number =
    OutcomesAlternate-run (new_machine max_threads) (steps_of events) (answers_of events) last
    (IsConsistent-new max_threads) run number

-- nobody of a new machine is taken
none_taken : (max_threads a n : ℕ) → count_by (λ number. is_taken ((new_machine max_threads).status number)) (range_with_len a n) ≡ 0
none_taken max_threads a zero = refl
none_taken max_threads a (suc n) = none_taken max_threads (a + 1) n

pub come_back : UnparkedThreadsComeBack
come_back max_threads events last run =
    let balanced = IsRun-balances (new_machine max_threads) (steps_of events) (answers_of events) last
    (IsConsistent-new max_threads) run in
    let nobody : taken_threads_of (new_machine max_threads) ≡ 0 = none_taken max_threads 0 max_threads in
    omega (arith, balanced, nobody)

-- whose token a taken thread has

-- a number that got another status is not the one that is taken
other_status : (before : ℕ → Status) (thread : ℕ) (s : Status) (number : ℕ) (token : UnparkToken)
    → s ≢ status.Taken token → with_value before thread s number ≡ status.Taken token
    → (before number ≡ status.Taken token) × (number ≢ thread)
other_status before thread s number token not_taken taken =
    ⊎_elim
    (λ (same : number ≡ thread). absurd (not_taken (sym (with_value-same before thread s number same) ∙ taken)))
    (λ (other : number ≢ thread). (sym (with_value-other before thread s number other) ∙ taken, other))
    (cases_eq number thread)

module _ (number : ℕ) (token : UnparkToken) where
  abbrev IsTaken : Machine → Type 0
  IsTaken m = m.status number ≡ status.Taken token

  -- the thread was taken before the step, which is no outcome of its park
  abbrev Was : Machine → Step → Answer → Type 0
  Was m step given = IsTaken m × (ends_park number step given ≡ false)

  abbrev IsHandedBy : Machine → Step → Type 0
  IsHandedBy m step = (op : Op) × (step ≡ Unpark op) × Hands m op number token

  module _ (m : Machine) (given : Answer) (next : Machine) (taken : IsTaken next) where
    becomes : {left : Machine} → next ≡ left → IsTaken left
    becomes new_is = subst IsTaken new_is taken

    by_token : (op : Op) → next.status ≡ statuses_with_taken (token_of op) (split_of op m.lists).taken m.status
        → IsTaken m ⊎ Hands m op number token
    by_token op new_status =
        let found : Bool = has_any (entries_of number (split_of op m.lists).taken) in
        let now : statuses_with_taken (token_of op) (split_of op m.lists).taken m.status number ≡ status.Taken token =
        ap (λ (f : ℕ → Status). f number) (sym new_status) ∙ taken in
        ⊎_elim
        (λ (yes : found ≡ true).
        let same : status.Taken (token_of op) ≡ status.Taken token =
        sym (cond-true found (status.Taken (token_of op)) (m.status number) yes) ∙ now in
        inr (record { hands = cc; takes = yes }))
        (λ (no : found ≡ false). inl (sym (cond-false found (status.Taken (token_of op)) (m.status number) no) ∙ now))
        (cases_Bool found)

    unpark_hands : (op : Op) → IsUnpark m op given next → IsTaken m ⊎ Hands m op number token
    unpark_hands (One key t) (_, new_is) = by_token (One key t) (ap (λ (n : Machine). n.status) new_is)
    unpark_hands (All key t) (_, new_is) = by_token (All key t) (ap (λ (n : Machine). n.status) new_is)
    unpark_hands (Filter key decisions t) (_, new_is) =
        by_token (Filter key decisions t) (ap (λ (n : Machine). n.status) new_is)
    unpark_hands (Requeue from to op t) (_, new_is) =
        by_token (Requeue from to op t) (ap (λ (n : Machine). n.status) new_is)

    -- another thread has another status then
    turned : (thread : ℕ) (s : Status) → s ≢ status.Taken token → {left : Machine} → next ≡ left
        → left.status ≡ with_value m.status thread s → IsTaken m × (number ≢ thread)
    turned thread s not_taken new_is is =
        other_status m.status thread s number token not_taken
        (ap (λ (f : ℕ → Status). f number) (sym is) ∙ becomes new_is)

    not_own : (thread : ℕ) → number ≢ thread → (is_outcome given && (thread == number)) ≡ false
    not_own thread other =
        and_right (is_outcome given) (thread == number) (ne_eqb thread number (λ same. other (sym same)))

    misfit : (thread : ℕ) → given ≡ answer.Misfit → (is_outcome given && (thread == number)) ≡ false
    misfit thread is = ap (λ a. is_outcome a && (thread == number)) is

    return_hands : (thread : ℕ) (s : Status) → IsReturn m thread s given next
        → IsTaken m × ((is_outcome given && (thread == number)) ≡ false)
    return_hands thread (status.Taken t) (_, new_is) =
        let kept = turned thread status.Running (λ same. cc) new_is refl in (kept.0, not_own thread kept.1)
    return_hands thread _ (is, same) = (becomes same, misfit thread is)

    resolve_hands : (thread : ℕ) (s : Status) → IsResolve m thread s given next
        → IsTaken m × ((is_outcome given && (thread == number)) ≡ false)
    resolve_hands thread status.Late =
        λ (key, _, (_, new_is)). let kept = turned thread status.Running (λ same. cc) new_is refl in
        (kept.0, not_own thread kept.1)
    resolve_hands thread s = return_hands thread s

    register_hands : (a : Answer) → IsRegister m a next → IsTaken m
    register_hands (answer.Registered thread) (_, new_is) =
        (turned thread status.Running (λ same. cc) new_is refl).0
    register_hands answer.Full (_, same) = becomes same
    register_hands answer.NoMemory (_, same) = becomes same
    register_hands _ none = absurd none

    acquire_hands : (thread key : ℕ) (a : Answer) → IsAcquire m thread key a next → IsTaken m
    acquire_hands thread key answer.Recorded new_is = becomes new_is
    acquire_hands thread key answer.NoMemory new_is = becomes new_is
    acquire_hands thread key _ none = absurd none

    -- of a thread that is taken after a step: it was so before, or the step handed it its token
    step_hands : (step : Step) → IsStep m step given next → Was m step given ⊎ IsHandedBy m step
    step_hands Register is = inl (register_hands given is, refl)
    step_hands (Retire thread) is =
        MatchBool-either (is_running (m.status thread))
        (λ _ (_, new_is). inl ((turned thread status.Free (λ same. cc) new_is refl).0, refl))
        (λ _ (_, same). inl (becomes same, refl)) is
    step_hands (Enter thread key valid park_token timed) is =
        MatchBool-either (is_running (m.status thread))
        (λ _. MatchBool-either valid
        (λ _ (_, new_is). inl ((turned thread (status.Waiting timed) (λ same. cc) new_is refl).0, refl))
        (λ _ (_, same). inl (becomes same, refl)))
        (λ _ (_, same). inl (becomes same, refl)) is
    step_hands (Unpark op) is = ⊎_elim (λ was. inl (was, refl)) (λ hands. inr (op, refl, hands)) (unpark_hands op is)
    step_hands (Deadline thread) is =
        MatchBool-either (awaits_deadline (m.status thread))
        (λ _ (_, new_is). inl ((turned thread status.Late (λ same. cc) new_is refl).0, refl))
        (λ _ (_, same). inl (becomes same, refl)) is
    step_hands (Resolve thread) is = inl (resolve_hands thread (m.status thread) is)
    step_hands (Return thread) is = inl (return_hands thread (m.status thread) is)
    step_hands (Acquire thread key) is =
        MatchBool-either (is_running (m.status thread))
        (λ _ done. inl (acquire_hands thread key given done, refl))
        (λ _ (_, same). inl (becomes same, refl)) is
    step_hands (Release thread key) is =
        MatchBool-either (is_running (m.status thread))
        (λ _ (_, new_is). inl (becomes new_is, refl))
        (λ _ (_, same). inl (becomes same, refl)) is
    step_hands Trim is = inl (becomes (IsTrim-unchanged m given next is), refl)

  -- an unpark among these events handed it, and no outcome came since
  record Found (m : Machine) (events : List Event) : Type 0 where
    before : List Event
    unpark : Event
    since : List Event
    stands : events ≡ before ++ unpark ∷ since
    op : Op
    is_unpark : unpark.step ≡ Unpark op
    machine : Machine
    found : Runs m before machine
    hands : Hands machine op number token
    no_outcome : HaveNoOutcome number since

  find : (m : Machine) (events : List Event) (last : Machine) → Runs m events last → IsTaken last
      → (IsTaken m × HaveNoOutcome number events) ⊎ Found m events
  find m [] last same taken = inl (subst IsTaken (sym same) taken, All-nil _)
  find m (event ∷ events) last (next, does, rest) taken =
      ⊎_elim
      (λ (was : IsTaken next × HaveNoOutcome number events). ⊎_elim
      (λ before. inl (
        before.0,
        All-cons (λ (e : Event). ends_park number e.step e.answer ≡ false) event events before.1 was.1,
      ))
      (λ handed. inr (record {
        before = [];
        unpark = event;
        since = events;
        stands = refl;
        op = handed.0;
        is_unpark = handed.1;
        machine = m;
        found = refl;
        hands = handed.2;
        no_outcome = was.1;
      }))
      (step_hands m event.answer next was.0 event.step does))
      (λ (there : Found next events). inr (record {
        before = event ∷ there.before;
        unpark = there.unpark;
        since = there.since;
        stands = ap (λ es. event ∷ es) there.stands;
        op = there.op;
        is_unpark = there.is_unpark;
        machine = there.machine;
        found = (next, does, there.found);
        hands = there.hands;
        no_outcome = there.no_outcome;
      }))
      (find next events last rest taken)

  -- the thread of an outcome with this token was taken with it
  module _ (m : Machine) (given : Answer) (next : Machine) (unparked : given ≡ answer.Unparked token) where
    own : (thread : ℕ) → (is_outcome given && (thread == number)) ≡ true → thread ≡ number
    own thread ends = eqb-true thread number (and_parts (is_outcome given) (thread == number) ends).1

    return_taken : (thread : ℕ) (s : Status) → m.status thread ≡ s → IsReturn m thread s given next
        → m.status thread ≡ status.Taken token
    return_taken thread (status.Taken t) is (given_is, _) =
        let same : answer.Unparked t ≡ answer.Unparked token = sym given_is ∙ unparked in is ∙ cc
    return_taken thread _ is (given_is, _) = absurd (cc (given_is, unparked))

    resolve_taken : (thread : ℕ) (s : Status) → m.status thread ≡ s → IsResolve m thread s given next
        → m.status thread ≡ status.Taken token
    resolve_taken thread status.Late is = λ (key, _, (given_is, _)). absurd (cc (given_is, unparked))
    resolve_taken thread s is = return_taken thread s is

    outcome_taken : (step : Step) → IsStep m step given next → ends_park number step given ≡ true → IsTaken m
    outcome_taken (Resolve thread) is ends =
        subst (λ n. m.status n ≡ status.Taken token) (own thread ends)
        (resolve_taken thread (m.status thread) refl is)
    outcome_taken (Return thread) is ends =
        subst (λ n. m.status n ≡ status.Taken token) (own thread ends)
        (return_taken thread (m.status thread) refl is)
    outcome_taken _ is ends = absurd (false≢true ends)

pub from_unparks : TokensComeFromUnparks
from_unparks max_threads number token events event (last, run) ends unparked =
    let both = parts (new_machine max_threads) events (event ∷ []) last run in
    let mid : Machine = both.0 in
    let taken : mid.status number ≡ status.Taken token =
    outcome_taken number token mid event.answer both.2.0 unparked event.step both.2.1 ends in
    ⊎_elim (λ none. absurd (cc (none.0)))
    (λ (there : Found number token (new_machine max_threads) events). record {
      before = there.before;
      unpark = there.unpark;
      since = there.since;
      stands = there.stands;
      op = there.op;
      is_unpark = there.is_unpark;
      machine = there.machine;
      found = there.found;
      hands = there.hands;
      no_outcome = there.no_outcome;
    })
    (find number token (new_machine max_threads) events mid both.1 taken)
