-- The law of `specs/Turns`.
use Rattle.std.proofs.Common.{◌≡◌, ◌≢◌, ◌⊎◌, ℕ, ◌≤◌, ◌==◌, Bool, true, false, List, [], ◌∷◌, ◌++◌}
use Rattle.std.proofs.Common.{take, drop, append_assoc, refl, sym, ap, ◌∙◌, subst, inl, inr, ⊎_elim, arith}
use Rattle.std.proofs.Common.{All as AllOf}
use Rattle.std.proofs.lemmas.Bool.{cases_eq, cases_Bool, eq-eqb, ne_eqb, eqb-false, and_from, cond-true, cond-false}
use Rattle.std.proofs.lemmas.Bool.{true≢false}
use Rattle.std.proofs.lemmas.List.Elements.{All-nil, All-cons, All-head, All-tail}
use Rattle.lot_base.specs.declared.token.UnparkToken.{UnparkToken}
use Rattle.lot_base.specs.Waiting.{with_value, has_any, without_first, split_by}
use Rattle.lot_base.proofs.ValueLemmas.{with_value-same, with_value-other}
use Rattle.lot_machine.specs.declared.status.Status.{Status}
use Rattle.lot_machine.specs.declared.status.Status.TheVariants as status
use Rattle.lot_machine.specs.declared.step.Answer.{Answer}
use Rattle.lot_machine.specs.declared.step.Answer.TheVariants as answer
use Rattle.lot_machine.specs.declared.step.Op.{Op}
use Rattle.lot_machine.specs.declared.step.Op.TheVariants.{One, All, Filter, Requeue}
use Rattle.lot_machine.specs.declared.step.Step.{Step}
use Rattle.lot_machine.specs.declared.step.Step.TheVariants.{Register, Retire, Enter, Unpark, Deadline}
use Rattle.lot_machine.specs.declared.step.Step.TheVariants.{Resolve, Return, Acquire, Release, Trim}
use Rattle.lot_machine.specs.Machine.{Machine, Waiter, entries_of, times_in}
use Rattle.lot_machine.specs.Machine.{list_without}
use Rattle.lot_machine.specs.Operation.{split_of, token_of}
use Rattle.lot_machine.specs.Status.{is_running, awaits_deadline}
use Rattle.lot_machine.specs.Steps.{IsRegister, IsUnpark, IsReturn, IsResolve, IsAcquire, IsStep}
use Rattle.lot_machine.proofs.StepLemmas.{IsTrim-unchanged, MatchBool-either}
use Rattle.lot_machine.proofs.WaiterLemmas.{has_any-some, times_in-append, times_in-own, times_in-not_own}
use Rattle.lot_history.specs.declared.event.Event.{Event}
use Rattle.lot_history.specs.Laws.{Hands}
use Rattle.lot_history.specs.Turns.{takes_from_front, may_lose_turn, KeepsTurn}
use Rattle.lot_history.specs.Pieces.{numbers_of}
use Rattle.lot_history.proofs.RunLemmas.{Runs}

-- lists of waiters

pub both_all : {A : Type 0} (P : A → Type 0) (xs ys : List A) → AllOf P (xs ++ ys) → AllOf P xs × AllOf P ys
both_all P [] ys all = (All-nil P, all)
both_all P (x ∷ xs) ys all =
    let rest = both_all P xs ys (All-tail P x (xs ++ ys) all) in
    (All-cons P x xs (All-head P x (xs ++ ys) all) rest.0, rest.1)

-- a thread among some waiters, and those on either side of it
pub find : (number : ℕ) (waiters : List Waiter) → times_in number waiters ≢ 0
    → (between : List ℕ) × (behind : List ℕ) × (numbers_of waiters ≡ between ++ number ∷ behind)
find number [] some = absurd (some refl)
find number (waiter ∷ waiters) some =
    ⊎_elim
    (λ (own : number ≡ waiter.number). ([], numbers_of waiters, ap (λ n. n ∷ numbers_of waiters) (sym own)))
    (λ (other : number ≢ waiter.number).
    let counted = times_in-append number (waiter ∷ []) waiters in
    let apart = times_in-not_own waiter number other in
    let rest = find number waiters (λ none. some (omega (arith, none, counted, apart))) in
    (waiter.number ∷ rest.0, rest.1, ap (λ ns. waiter.number ∷ ns) rest.2))
    (cases_eq number waiter.number)

-- another thread leaves, from the front or from behind
removed : (second thread : ℕ) (front : List Waiter) (own : Waiter) (behind : List Waiter) → own.number ≢ thread
    → (left : List Waiter) × (after : List Waiter)
    × (without_first (λ waiter. waiter.number == thread) (front ++ own ∷ behind) ≡ left ++ own ∷ after)
    × (times_in second left ≤ times_in second front)
removed second thread [] own behind apart =
    let rest : List Waiter = without_first (λ waiter. waiter.number == thread) behind in (
      [],
      rest,
      cond-false (own.number == thread) behind (own ∷ rest) (ne_eqb own.number thread apart),
      omega arith,
    )
removed second thread (waiter ∷ front) own behind apart =
    let test : Waiter → Bool = λ w. w.number == thread in
    let all : List Waiter = front ++ own ∷ behind in
    let rest = removed second thread front own behind apart in
    let counted = times_in-append second (waiter ∷ []) front in
    ⊎_elim
    (λ (is : (waiter.number == thread) ≡ true). (
      front,
      behind,
      cond-true (waiter.number == thread) all (waiter ∷ without_first test all) is,
      omega (arith, counted),
    ))
    (λ (not : (waiter.number == thread) ≡ false). (
      waiter ∷ rest.0,
      rest.1,
      cond-false (waiter.number == thread) all (waiter ∷ without_first test all) not ∙ ap (λ ws. waiter ∷ ws) rest.2,
      omega (arith, counted, times_in-append second (waiter ∷ []) rest.0, rest.3),
    ))
    (cases_Bool (waiter.number == thread))

module _ (first second key : ℕ) where
  -- the first thread stands in the list of the key, and the second not more often in front of it than so often
  pub record Waits (limit : ℕ) (m : Machine) : Type 0 where
    pub front : List Waiter
    pub own : Waiter
    pub behind : List Waiter
    pub stands : m.lists key ≡ front ++ own ∷ behind
    pub is : own.number ≡ first
    pub few : times_in second front ≤ limit

  -- the step is an unpark of one or of all of the key that takes the first thread
  abbrev TakesIt : Machine → Step → Type 0
  TakesIt m step =
      (op : Op) × (step ≡ Unpark op) × (takes_from_front key op ≡ true) × Hands m op first (token_of op)

  module _ (limit : ℕ) (m : Machine) (given : Answer) (next : Machine) (waits : Waits limit m) where
    unmoved : next.lists key ≡ m.lists key → Waits limit next
    unmoved same = record {
      front = waits.front;
      own = waits.own;
      behind = waits.behind;
      stands = same ∙ waits.stands;
      is = waits.is;
      few = waits.few;
    }

    stays : next ≡ m → Waits limit next
    stays same = unmoved (ap (λ (n : Machine). n.lists key) same)

    -- others come to stand last
    joins : (more : List Waiter) → next.lists key ≡ m.lists key ++ more → Waits limit next
    joins more is = record {
      front = waits.front;
      own = waits.own;
      behind = waits.behind ++ more;
      stands = is ∙ ap (λ ws. ws ++ more) waits.stands ∙ append_assoc waits.front (waits.own ∷ waits.behind) more;
      is = waits.is;
      few = waits.few;
    }

    -- the list of another key is another
    elsewhere : (k : ℕ) (list : List Waiter) → key ≢ k → next.lists ≡ with_value m.lists k list → Waits limit next
    elsewhere k list other is =
        unmoved (ap (λ (f : ℕ → List Waiter). f key) is ∙ with_value-other m.lists k list key other)

    -- the list of a key is another one
    at_key : (k : ℕ) (list : List Waiter) → key ≡ k → next.lists ≡ with_value m.lists k list → next.lists key ≡ list
    at_key k list same is =
        ap (λ (f : ℕ → List Waiter). f key) is ∙ with_value-same m.lists k list key same

    enter_turn : (k : ℕ) (waiter : Waiter) → next.lists ≡ with_value m.lists k (m.lists k ++ waiter ∷ [])
        → Waits limit next
    enter_turn k waiter is =
        ⊎_elim (λ (same : key ≡ k). joins (waiter ∷ [])
        (at_key k (m.lists k ++ waiter ∷ []) same is ∙ ap (λ q. m.lists q ++ waiter ∷ []) (sym same)))
        (λ (other : key ≢ k). elsewhere k (m.lists k ++ waiter ∷ []) other is)
        (cases_eq key k)

    -- the first of the list leaves, which is this thread or another
    one_leaves : (front : List Waiter) (own : Waiter) (behind : List Waiter) → m.lists key ≡ front ++ own ∷ behind
        → own.number ≡ first → times_in second front ≤ limit → next.lists key ≡ drop 1 (m.lists key)
        → (has_any (entries_of first (take 1 (m.lists key))) ≡ true) ⊎ Waits limit next
    one_leaves [] own behind stands is few left =
        inl (ap (λ ws. has_any (entries_of first (take 1 ws))) stands
        ∙ has_any-some (entries_of first (own ∷ []))
        (let here = times_in-own own first (sym is) in λ none. absurd (omega (arith, here, none))))
    one_leaves (waiter ∷ front) own behind stands is few left = inr (record {
      front = front;
      own = own;
      behind = behind;
      stands = left ∙ ap (drop 1) stands;
      is = is;
      few = omega (arith, few, times_in-append second (waiter ∷ []) front);
    })

    all_leave : has_any (entries_of first (m.lists key)) ≡ true
    all_leave =
        ap (λ ws. has_any (entries_of first ws)) waits.stands
        ∙ has_any-some (entries_of first (waits.front ++ waits.own ∷ waits.behind))
        (let here = times_in-own waits.own first (sym waits.is) in
        let counted = times_in-append first waits.front (waits.own ∷ waits.behind) in
        let more = times_in-append first (waits.own ∷ []) waits.behind in
        λ none. absurd (omega (arith, here, counted, more, none)))

    abbrev Turn : Step → Type 0
    Turn step = TakesIt m step ⊎ Waits limit next

    one_turn : (k : ℕ) (token : UnparkToken) → next.lists ≡ with_value m.lists k (drop 1 (m.lists k))
        → Turn (Unpark (One k token))
    one_turn k token is =
        ⊎_elim (λ (same : key ≡ k). ⊎_elim
        (λ (taken : has_any (entries_of first (take 1 (m.lists key))) ≡ true). inl (
          One k token,
          refl,
          eq-eqb k key (sym same),
          record { hands = refl; takes = ap (λ q. has_any (entries_of first (take 1 (m.lists q)))) (sym same) ∙ taken },
        )) inr
        (one_leaves waits.front waits.own waits.behind waits.stands waits.is waits.few
        (at_key k (drop 1 (m.lists k)) same is ∙ ap (λ q. drop 1 (m.lists q)) (sym same))))
        (λ (other : key ≢ k). inr (elsewhere k (drop 1 (m.lists k)) other is))
        (cases_eq key k)

    all_turn : (k : ℕ) (token : UnparkToken) → next.lists ≡ with_value m.lists k [] → Turn (Unpark (All k token))
    all_turn k token is =
        ⊎_elim (λ (same : key ≡ k). inl (
          All k token,
          refl,
          eq-eqb k key (sym same),
          record { hands = refl; takes = ap (λ q. has_any (entries_of first (m.lists q))) (sym same) ∙ all_leave },
        ))
        (λ (other : key ≢ k). inr (elsewhere k [] other is))
        (cases_eq key k)

    -- a requeue from another key
    requeue_turn : (from to : ℕ) (left moved : List Waiter) → key ≢ from
        → next.lists ≡ with_value (with_value m.lists from left) to (with_value m.lists from left to ++ moved)
        → Waits limit next
    requeue_turn from to left moved other is =
        let kept : ℕ → List Waiter = with_value m.lists from left in
        let own : kept key ≡ m.lists key = with_value-other m.lists from left key other in
        let now : next.lists key ≡ with_value kept to (kept to ++ moved) key =
        ap (λ (f : ℕ → List Waiter). f key) is in
        ⊎_elim
        (λ (same : key ≡ to). joins moved (now ∙ with_value-same kept to (kept to ++ moved) key same
        ∙ ap (λ q. kept q ++ moved) (sym same) ∙ ap (λ ws. ws ++ moved) own))
        (λ (apart : key ≢ to). unmoved (now ∙ with_value-other kept to (kept to ++ moved) key apart ∙ own))
        (cases_eq key to)

    unpark_turn : (op : Op) → IsUnpark m op given next → may_lose_turn first key (Unpark op) given ≡ false
        → Turn (Unpark op)
    unpark_turn (One k token) (_, is) keeps = one_turn k token (ap (λ (n : Machine). n.lists) is)
    unpark_turn (All k token) (_, is) keeps = all_turn k token (ap (λ (n : Machine). n.lists) is)
    unpark_turn (Filter k decisions token) (_, is) keeps =
        inr (elsewhere k (split_of (Filter k decisions token) m.lists).left
        (λ same. eqb-false k key keeps (sym same)) (ap (λ (n : Machine). n.lists) is))
    unpark_turn (Requeue from to op token) (_, is) keeps =
        let split = split_by op (m.lists from) in
        inr (requeue_turn from to split.left split.moved (λ same. eqb-false from key keeps (sym same))
        (ap (λ (n : Machine). n.lists) is))

    -- another thread times out
    timeout_turn : (thread k : ℕ) → (key ≡ k → first ≢ thread)
        → next.lists ≡ with_value m.lists k (list_without m thread k) → Waits limit next
    timeout_turn thread k apart is =
        ⊎_elim (λ (same : key ≡ k).
        let gone = removed second thread waits.front waits.own waits.behind
        (λ own. apart same (sym waits.is ∙ own)) in
        let stands : next.lists key ≡ gone.0 ++ waits.own ∷ gone.1 = at_key k (list_without m thread k) same is
        ∙ ap (λ q. list_without m thread q) (sym same)
        ∙ ap (without_first (λ (waiter : Waiter). waiter.number == thread)) waits.stands ∙ gone.2 in
        let fewer = gone.3 in
        record {
          front = gone.0;
          own = waits.own;
          behind = gone.1;
          stands = stands;
          is = waits.is;
          few = omega (arith, fewer, waits.few);
        })
        (λ (other : key ≢ k). elsewhere k (list_without m thread k) other is)
        (cases_eq key k)

    return_turn : (thread : ℕ) (s : Status) → IsReturn m thread s given next → Waits limit next
    return_turn thread (status.Taken token) (_, is) = unmoved (ap (λ (n : Machine). n.lists key) is)
    return_turn thread _ (_, same) = stays same

    resolve_turn : (thread : ℕ) (s : Status) → IsResolve m thread s given next
        → may_lose_turn first key (Resolve thread) given ≡ false → Waits limit next
    resolve_turn thread status.Late = λ (k, _, (given_is, is)) keeps.
        timeout_turn thread k
        (λ at same. true≢false (sym (and_from (thread == first) (k == key) (eq-eqb thread first (sym same))
        (eq-eqb k key (sym at))) ∙ sym (ap (may_lose_turn first key (Resolve thread)) given_is) ∙ keeps))
        (ap (λ (n : Machine). n.lists) is)
    resolve_turn thread s = λ is keeps. return_turn thread s is

    register_turn : (a : Answer) → IsRegister m a next → Waits limit next
    register_turn (answer.Registered thread) (_, is) = unmoved (ap (λ (n : Machine). n.lists key) is)
    register_turn answer.Full (_, same) = stays same
    register_turn answer.NoMemory (_, same) = stays same
    register_turn _ none = absurd none

    acquire_turn : (thread k : ℕ) (a : Answer) → IsAcquire m thread k a next → Waits limit next
    acquire_turn thread k answer.Recorded is = unmoved (ap (λ (n : Machine). n.lists key) is)
    acquire_turn thread k answer.NoMemory same = stays same
    acquire_turn thread k _ none = absurd none

    step_turn : (step : Step) → IsStep m step given next → may_lose_turn first key step given ≡ false → Turn step
    step_turn Register is keeps = inr (register_turn given is)
    step_turn (Retire thread) is keeps =
        inr (MatchBool-either (is_running (m.status thread))
        (λ _ (_, new_is). unmoved (ap (λ (n : Machine). n.lists key) new_is)) (λ _ (_, same). stays same) is)
    step_turn (Enter thread k valid park_token timed) is keeps =
        inr (MatchBool-either (is_running (m.status thread))
        (λ _. MatchBool-either valid (λ _ (_, new_is). enter_turn k _ (ap (λ (n : Machine). n.lists) new_is))
        (λ _ (_, same). stays same)) (λ _ (_, same). stays same) is)
    step_turn (Unpark op) is keeps = unpark_turn op is keeps
    step_turn (Deadline thread) is keeps =
        inr (MatchBool-either (awaits_deadline (m.status thread))
        (λ _ (_, new_is). unmoved (ap (λ (n : Machine). n.lists key) new_is)) (λ _ (_, same). stays same) is)
    step_turn (Resolve thread) is keeps = inr (resolve_turn thread (m.status thread) is keeps)
    step_turn (Return thread) is keeps = inr (return_turn thread (m.status thread) is)
    step_turn (Acquire thread k) is keeps =
        inr (MatchBool-either (is_running (m.status thread)) (λ _ done. acquire_turn thread k given done)
        (λ _ (_, same). stays same) is)
    step_turn (Release thread k) is keeps =
        inr (MatchBool-either (is_running (m.status thread))
        (λ _ (_, new_is). unmoved (ap (λ (n : Machine). n.lists key) new_is)) (λ _ (_, same). stays same) is)
    step_turn Trim is keeps = inr (stays (IsTrim-unchanged m given next is))

  -- among these events an unpark of one or of all of the key took the first thread
  pub record Found (m : Machine) (events : List Event) : Type 0 where
    pub earlier : List Event
    pub unpark : Event
    pub later : List Event
    pub stands : events ≡ earlier ++ unpark ∷ later
    pub op : Op
    pub is_unpark : unpark.step ≡ Unpark op
    pub of_key : takes_from_front key op ≡ true
    pub machine : Machine
    pub found : Runs m earlier machine
    pub hands : Hands machine op first (token_of op)

  pub walk : (limit : ℕ) (m : Machine) (events : List Event) (last : Machine) → Runs m events last
      → KeepsTurn first key events → Waits limit m → Found m events ⊎ Waits limit last
  walk limit m [] last same keeps waits = inr (subst (Waits limit) same waits)
  walk limit m (event ∷ events) last (next, does, rest) keeps waits =
      let Keeps = λ (e : Event). may_lose_turn first key e.step e.answer ≡ false in
      ⊎_elim
      (λ (here : TakesIt m event.step). inl (record {
        earlier = [];
        unpark = event;
        later = events;
        stands = refl;
        op = here.0;
        is_unpark = here.1;
        of_key = here.2;
        machine = m;
        found = refl;
        hands = here.3;
      }))
      (λ (still : Waits limit next). ⊎_elim
      (λ (there : Found next events). inl (record {
        earlier = event ∷ there.earlier;
        unpark = there.unpark;
        later = there.later;
        stands = ap (λ es. event ∷ es) there.stands;
        op = there.op;
        is_unpark = there.is_unpark;
        of_key = there.of_key;
        machine = there.machine;
        found = (next, does, there.found);
        hands = there.hands;
      })) inr
      (walk limit next events last rest (All-tail Keeps event events keeps) still))
      (step_turn limit m event.answer next waits event.step does (All-head Keeps event events keeps))
