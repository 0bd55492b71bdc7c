-- The law of `specs/Takings`.
use Rattle.std.proofs.Common.{◌≡◌, ◌≢◌, ℕ, ◌<◌, ◌≤◌, ◌==◌, Bool, true, false, ◌&&◌, MatchBool, IsTrue, List, [], ◌∷◌}
use Rattle.std.proofs.Common.{length, MatchOption, Some, Option, refl, sym, ap, ◌∙◌, subst, ⊎_elim, arith}
use Rattle.std.proofs.lemmas.Bool.{cases_eq, cases_Bool, eq-eqb, eqb-true, and_parts, and_from, cond-true, cond-false}
use Rattle.std.proofs.lemmas.Bool.{true≢false, false≢true}
use Rattle.lot_base.specs.declared.token.RequeueOp.{RequeueOp}
use Rattle.lot_base.specs.declared.token.RequeueOp.TheVariants.{Abort, UnparkOneRequeueRest, RequeueAll, UnparkOne}
use Rattle.lot_base.specs.declared.token.RequeueOp.TheVariants.{RequeueOne}
use Rattle.lot_base.specs.declared.token.UnparkToken.{UnparkToken}
use Rattle.lot_base.specs.Waiting.{with_value, has_any, requeue_result, split_by}
use Rattle.lot_base.proofs.ValueLemmas.{with_value-other}
use Rattle.lot_machine.specs.declared.status.Status.{Status}
use Rattle.lot_machine.specs.declared.status.Status.TheVariants as status
use Rattle.lot_machine.specs.declared.step.Answer.{Answer}
use Rattle.lot_machine.specs.declared.step.Answer.TheVariants as answer
use Rattle.lot_machine.specs.declared.step.Op.{Op}
use Rattle.lot_machine.specs.declared.step.Op.TheVariants.{One, All, Filter, Requeue}
use Rattle.lot_machine.specs.declared.step.Step.{Step}
use Rattle.lot_machine.specs.declared.step.Step.TheVariants.{Register, Retire, Enter, Unpark, Deadline}
use Rattle.lot_machine.specs.declared.step.Step.TheVariants.{Resolve, Return, Acquire, Release, Trim}
use Rattle.lot_machine.specs.Machine.{Machine, Waiter, IsConsistent, new_machine, entries_of, times_in}
use Rattle.lot_machine.specs.Machine.{statuses_with_taken}
use Rattle.lot_machine.specs.Operation.{split_of, token_of}
use Rattle.lot_machine.specs.Status.{is_running, is_queued, awaits_deadline}
use Rattle.lot_machine.specs.Steps.{IsRegister, IsUnpark, IsReturn, IsResolve, IsAcquire, IsStep, is_outcome}
use Rattle.lot_machine.specs.Steps.{ends_park}
use Rattle.lot_machine.specs.Totals.{unparked_by}
use Rattle.lot_machine.proofs.SplitLemmas.{AreParts, AreParts-first, AreParts-all, AreParts-filter, AreParts-by}
use Rattle.lot_machine.proofs.StandingLemmas.{is_queued-standing, StandsAt-standing, MatchBool-from}
use Rattle.lot_machine.proofs.StepLemmas.{IsConsistent-new, IsConsistent-step, IsTrim-unchanged, MatchBool-either}
use Rattle.lot_machine.proofs.StepLemmas.{Running-from, Waiting-from}
use Rattle.lot_history.specs.declared.event.Event.{Event}
use Rattle.lot_history.specs.Laws.{Hands}
use Rattle.lot_history.specs.Takings.{taken_by, first_outcome, ComesBackWith, Taking, TakenThreadsComeBack}
use Rattle.lot_history.proofs.EventLemmas.{LeadsTo-push}
use Rattle.lot_history.proofs.RunLemmas.{Runs, parts, IsConsistent-run}

-- whom an unpark takes, of the list of which key

abbrev key_of : Op → ℕ
key_of (One key token) = key
key_of (All key token) = key
key_of (Filter key decisions token) = key
key_of (Requeue from to op token) = from

parts_of : (op : Op) (m : Machine) → AreParts (split_of op m.lists) (m.lists (key_of op))
parts_of (One key token) m = AreParts-first (m.lists key)
parts_of (All key token) m = AreParts-all (m.lists key)
parts_of (Filter key decisions token) m = AreParts-filter decisions.items (m.lists key)
parts_of (Requeue from to op token) m = AreParts-by op (m.lists from)

-- who is among some
pub among : {A : Type 0} (xs : List A) → has_any xs ≡ true → length xs ≢ 0
among [] some = absurd (false≢true some)
among (x ∷ xs) some = λ none. absurd (omega (arith, none))

module _ (m : Machine) (consistent : IsConsistent m) (op : Op) where
  stood : (number : ℕ) → times_in number (taken_by op m) ≢ 0 → 0 < times_in number (m.lists (key_of op))
  stood number some = let counted = (parts_of op m).counts number in omega (arith, counted, some)

  waited : (number : ℕ) → times_in number (taken_by op m) ≢ 0 → IsTrue (is_queued (m.status number))
  waited number some =
      is_queued-standing consistent.0 m number (key_of op) consistent.1.standing (stood number some)

  once : (number : ℕ) → times_in number (taken_by op m) ≤ 1
  once number =
      ⊎_elim (λ (none : times_in number (taken_by op m) ≡ 0). omega (arith, none))
      (λ (some : times_in number (taken_by op m) ≢ 0).
      let one = (StandsAt-standing consistent.0 m number (key_of op) consistent.1.standing (stood number some)).once in
      omega (arith, one, (parts_of op m).counts number))
      (cases_eq (times_in number (taken_by op m)) 0)

-- what an unpark answers and leaves

told : (op : RequeueOp) (waiters : List Waiter) → length (split_by op waiters).taken
    ≡ (requeue_result op (split_by op waiters)).unparked_threads
told Abort waiters = refl
told UnparkOneRequeueRest waiters = refl
told RequeueAll waiters = refl
told UnparkOne waiters = refl
told RequeueOne waiters = refl

module _ (m : Machine) (given : Answer) (next : Machine) where
  many : (op : Op) → IsUnpark m op given next → length (taken_by op m) ≡ unparked_by given
  many (One key token) (is, _) = ap unparked_by (sym is)
  many (All key token) (is, _) = ap unparked_by (sym is)
  many (Filter key decisions token) (is, _) = ap unparked_by (sym is)
  many (Requeue from to op token) (is, _) = told op (m.lists from) ∙ ap unparked_by (sym is)

  statuses : (op : Op) → IsUnpark m op given next
      → next.status ≡ statuses_with_taken (token_of op) (taken_by op m) m.status
  statuses (One key token) (_, is) = ap (λ (n : Machine). n.status) is
  statuses (All key token) (_, is) = ap (λ (n : Machine). n.status) is
  statuses (Filter key decisions token) (_, is) = ap (λ (n : Machine). n.status) is
  statuses (Requeue from to op token) (_, is) = ap (λ (n : Machine). n.status) is

  module _ (op : Op) (does : IsUnpark m op given next) (number : ℕ) where
    now : next.status number ≡ statuses_with_taken (token_of op) (taken_by op m) m.status number
    now = ap (λ (f : ℕ → Status). f number) (statuses op does)

    handed : (token : UnparkToken) → Hands m op number token → next.status number ≡ status.Taken token
    handed token hands =
        now ∙ cond-true (has_any (entries_of number (taken_by op m))) (status.Taken (token_of op)) (m.status number)
        hands.takes ∙ ap status.Taken hands.hands

    others : (Hands m op number (token_of op) → ⊥) → next.status number ≡ m.status number
    others not_taken =
        let found : Bool = has_any (entries_of number (taken_by op m)) in
        now ∙ ⊎_elim (λ (yes : found ≡ true). absurd (not_taken (record { hands = refl; takes = yes })))
        (λ (no : found ≡ false). cond-false found (status.Taken (token_of op)) (m.status number) no)
        (cases_Bool found)

-- a thread that was taken keeps its token until it comes back with it
module _ (number : ℕ) (token : UnparkToken) where
  abbrev IsTaken : Machine → Type 0
  IsTaken m = m.status number ≡ status.Taken token

  module _ (m : Machine) (given : Answer) (next : Machine) (taken : IsTaken m) where
    abbrev Keeps : Bool → Type 0
    Keeps ends = MatchBool ends (given ≡ answer.Unparked token) (IsTaken next)

    apart : (thread : ℕ) (s : Status) → s ≢ status.Taken token → m.status thread ≡ s → number ≢ thread
    apart thread s not_taken is same = not_taken (sym is ∙ ap m.status (sym same) ∙ taken)

    stays : next ≡ m → IsTaken next
    stays same = ap (λ (n : Machine). n.status number) same ∙ taken

    turned : (thread : ℕ) (s : Status) → number ≢ thread → next.status ≡ with_value m.status thread s → IsTaken next
    turned thread s other is =
        ap (λ (f : ℕ → Status). f number) is ∙ with_value-other m.status thread s number other ∙ taken

    -- another thread has another status then
    another : (thread : ℕ) (was s : Status) → was ≢ status.Taken token → m.status thread ≡ was → {left : Machine}
        → next ≡ left → left.status ≡ with_value m.status thread s → IsTaken next
    another thread was s not_taken was_is new_is is =
        turned thread s (apart thread was not_taken was_is) (ap (λ (n : Machine). n.status) new_is ∙ is)

    not_own : (thread : ℕ) → number ≢ thread → IsTaken next → Keeps (is_outcome given && (thread == number))
    not_own thread other still =
        MatchBool-from (is_outcome given && (thread == number)) _ _
        (λ ends. absurd (other (sym (eqb-true thread number (and_parts (is_outcome given) (thread == number) ends).1))))
        (λ _. still)

    misfit : (thread : ℕ) → given ≡ answer.Misfit → IsTaken next → Keeps (is_outcome given && (thread == number))
    misfit thread is still =
        MatchBool-from (is_outcome given && (thread == number)) _ _
        (λ ends. absurd (false≢true
        (sym (ap is_outcome is) ∙ (and_parts (is_outcome given) (thread == number) ends).0))) (λ _. still)

    own : (thread : ℕ) (t : UnparkToken) → m.status thread ≡ status.Taken t → given ≡ answer.Unparked t
        → number ≡ thread → Keeps (is_outcome given && (thread == number))
    own thread t is given_is same =
        let tokens : status.Taken t ≡ status.Taken token = sym is ∙ ap m.status (sym same) ∙ taken in
        let unparked : given ≡ answer.Unparked token = cc in
        let ends = and_from (is_outcome given) (thread == number) (ap is_outcome given_is)
        (eq-eqb thread number (sym same)) in
        MatchBool-from (is_outcome given && (thread == number)) _ _ (λ _. unparked)
        (λ not_yet. absurd (true≢false (sym ends ∙ not_yet)))

    return_keeps : (thread : ℕ) (s : Status) → m.status thread ≡ s → IsReturn m thread s given next
        → Keeps (is_outcome given && (thread == number))
    return_keeps thread (status.Taken t) is (given_is, new_is) =
        ⊎_elim (own thread t is given_is)
        (λ (other : number ≢ thread). not_own thread other
        (turned thread status.Running other (ap (λ (n : Machine). n.status) new_is)))
        (cases_eq number thread)
    return_keeps thread _ is (given_is, same) = misfit thread given_is (stays same)

    resolve_keeps : (thread : ℕ) (s : Status) → m.status thread ≡ s → IsResolve m thread s given next
        → Keeps (is_outcome given && (thread == number))
    resolve_keeps thread status.Late is = λ (key, _, (_, new_is)).
        let other = apart thread status.Late (λ same. cc) is in
        not_own thread other (turned thread status.Running other (ap (λ (n : Machine). n.status) new_is))
    resolve_keeps thread s is = return_keeps thread s is

    register_keeps : (a : Answer) → IsRegister m a next → IsTaken next
    register_keeps (answer.Registered thread) (least, new_is) =
        another thread status.Free status.Running (λ same. cc) least.free new_is refl
    register_keeps answer.Full (_, same) = stays same
    register_keeps answer.NoMemory (_, same) = stays same
    register_keeps _ none = absurd none

    acquire_keeps : (thread key : ℕ) (a : Answer) → IsAcquire m thread key a next → IsTaken next
    acquire_keeps thread key answer.Recorded new_is = ap (λ (n : Machine). n.status number) new_is ∙ taken
    acquire_keeps thread key answer.NoMemory same = stays same
    acquire_keeps thread key _ none = absurd none

    -- who is taken stands in no list
    unpark_keeps : (op : Op) → IsConsistent m → IsUnpark m op given next → IsTaken next
    unpark_keeps op consistent does =
        others m given next op does number (λ hands. absurd (false≢true
        (ap is_queued (sym taken) ∙ waited m consistent op number
        (among (entries_of number (taken_by op m)) hands.takes)))) ∙ taken

    runs_not : (thread : ℕ) (s : Status) → is_running (m.status thread) ≡ true → {left : Machine} → next ≡ left
        → left.status ≡ with_value m.status thread s → IsTaken next
    runs_not thread s runs =
        another thread status.Running s (λ same. cc) (Running-from (m.status thread) runs)

    step_keeps : (step : Step) → IsConsistent m → IsStep m step given next → Keeps (ends_park number step given)
    step_keeps Register consistent is = register_keeps given is
    step_keeps (Retire thread) consistent is =
        MatchBool-either (is_running (m.status thread))
        (λ runs (_, new_is). runs_not thread status.Free runs new_is refl) (λ _ (_, same). stays same) is
    step_keeps (Enter thread key valid park_token timed) consistent is =
        MatchBool-either (is_running (m.status thread))
        (λ runs. MatchBool-either valid
        (λ _ (_, new_is). runs_not thread (status.Waiting timed) runs new_is refl) (λ _ (_, same). stays same))
        (λ _ (_, same). stays same) is
    step_keeps (Unpark op) consistent is = unpark_keeps op consistent is
    step_keeps (Deadline thread) consistent is =
        MatchBool-either (awaits_deadline (m.status thread))
        (λ waits (_, new_is). another thread (status.Waiting true) status.Late (λ same. cc)
        (Waiting-from (m.status thread) waits) new_is refl)
        (λ _ (_, same). stays same) is
    step_keeps (Resolve thread) consistent is = resolve_keeps thread (m.status thread) refl is
    step_keeps (Return thread) consistent is = return_keeps thread (m.status thread) refl is
    step_keeps (Acquire thread key) consistent is =
        MatchBool-either (is_running (m.status thread)) (λ _ done. acquire_keeps thread key given done)
        (λ _ (_, same). stays same) is
    step_keeps (Release thread key) consistent is =
        MatchBool-either (is_running (m.status thread))
        (λ _ (_, new_is). ap (λ (n : Machine). n.status number) new_is ∙ taken) (λ _ (_, same). stays same) is
    step_keeps Trim consistent is = stays (IsTrim-unchanged m given next is)

  comes_back : (m : Machine) (events : List Event) (last : Machine) → IsConsistent m → IsTaken m
      → Runs m events last → ComesBackWith number token events last
  comes_back m [] last consistent taken same = subst IsTaken same taken
  comes_back m (event ∷ events) last consistent taken (next, does, rest) =
      let ends : Bool = ends_park number event.step event.answer in
      let later_one : Option Answer = first_outcome number events in
      let later : IsTaken next → ComesBackWith number token events last =
      λ still. comes_back next events last (IsConsistent-step m event.step event.answer next consistent does) still rest
      in
      MatchBool-either ends
      (λ yes unparked. subst (λ o. MatchOption o (IsTaken last) (λ given. given ≡ answer.Unparked token))
      (sym (cond-true ends (Some event.answer) later_one yes)) unparked)
      (λ no still. subst (λ o. MatchOption o (IsTaken last) (λ given. given ≡ answer.Unparked token))
      (sym (cond-false ends (Some event.answer) later_one no)) (later still))
      (step_keeps m event.answer next taken event.step consistent does)

pub taken_come_back : TakenThreadsComeBack
taken_come_back max_threads before event after last op run is_unpark =
    let both = parts (new_machine max_threads) before (event ∷ after) last run in
    taking both.0 both.1 both.2.0 both.2.1 both.2.2
  where
    taking : (machine : Machine) → Runs (new_machine max_threads) before machine → (next : Machine)
        → IsStep machine event.step event.answer next → Runs next after last
        → Taking max_threads before event after last op
    taking machine found next does rest =
        let consistent = IsConsistent-run (new_machine max_threads) before machine (IsConsistent-new max_threads) found
        in
        let unparks : IsUnpark machine op event.answer next =
        subst (λ step. IsStep machine step event.answer next) is_unpark does in
        record {
          machine = machine;
          found = found;
          next = next;
          leaves = LeadsTo-push max_threads before event machine next found does;
          many = many machine event.answer next op unparks;
          once = once machine consistent op;
          waited = λ number token hands. waited machine consistent op number
              (among (entries_of number (taken_by op machine)) hands.takes);
          back = λ number token hands. comes_back number token next after last
              (IsConsistent-step machine event.step event.answer next consistent does)
              (handed machine event.answer next op unparks number token hands) rest;
          others = others machine event.answer next op unparks;
        }
