-- How many threads each step takes, and how many come back.
use Rattle.std.proofs.Common.{◌≡◌, ◌≢◌, ℕ, ◌+◌, ◌≤◌, ◌<◌, true, false, List, [], ◌∷◌, length, refl, sym, ap, ◌∙◌}
use Rattle.std.proofs.Common.{subst, arith, ⊎_elim}
use Rattle.std.proofs.lemmas.Bool.{cases_eq, cases_Bool, false≢true}
use Rattle.std.proofs.lemmas.List.Sums.{sum_by-cons}
use Rattle.std.specs.List.{count_by, range_with_len}
use Rattle.lot_base.specs.Waiting.{with_value, split_first, split_all, split_filter, split_by, requeue_result, Split}
use Rattle.lot_base.specs.declared.token.RequeueOp.{RequeueOp}
use Rattle.lot_base.specs.declared.token.RequeueOp.TheVariants.{Abort, UnparkOneRequeueRest, RequeueAll, UnparkOne}
use Rattle.lot_base.specs.declared.token.RequeueOp.TheVariants.{RequeueOne}
use Rattle.lot_base.specs.declared.token.UnparkToken.{UnparkToken}
use Rattle.lot_base.proofs.ValueLemmas.{with_value-same, with_value-other}
use Rattle.lot_machine.specs.declared.status.Status.{Status}
use Rattle.lot_machine.specs.declared.status.Status.TheVariants as status
use Rattle.lot_machine.specs.declared.step.Answer.{Answer}
use Rattle.lot_machine.specs.declared.step.Answer.TheVariants as answer
use Rattle.lot_machine.specs.declared.step.Op.{Op}
use Rattle.lot_machine.specs.declared.step.Op.TheVariants.{One, All, Filter, Requeue}
use Rattle.lot_machine.specs.declared.step.Step.{Step}
use Rattle.lot_machine.specs.declared.step.Step.TheVariants.{Register, Retire, Enter, Unpark, Deadline}
use Rattle.lot_machine.specs.declared.step.Step.TheVariants.{Resolve, Return, Acquire, Release, Trim}
use Rattle.lot_machine.specs.Machine.{Machine, Waiter, MatchesStatus, times_in, statuses_with_taken}
use Rattle.lot_machine.specs.Status.{is_queued, is_taken, is_running, awaits_deadline}
use Rattle.lot_machine.specs.Steps.{Gives, IsRegister, IsUnpark, IsReturn, IsResolve, IsAcquire, IsTrim, IsStep}
use Rattle.lot_machine.specs.Totals.{unparked_by, returned_by, taken_threads_of, UnparkedThreadsComeBack}
use Rattle.lot_machine.proofs.CountLemmas.{count_by-alike, count_by-one_more}
use Rattle.lot_machine.proofs.StandingLemmas.{is_queued-standing, StandsAt-standing}
use Rattle.lot_machine.proofs.MachineLemmas.{below_max_threads}
use Rattle.lot_machine.proofs.SplitLemmas.{AreParts, AreParts-first, AreParts-all, AreParts-filter, AreParts-by}
use Rattle.lot_machine.proofs.StepLemmas.{MatchBool-either, Running-from, Waiting-from, is_queued-taken}
use Rattle.lot_machine.proofs.StepLemmas.{IsConsistent-step}
use Rattle.lot_machine.proofs.WaiterLemmas.{statuses_with_taken-other, statuses_with_taken-among, times_in-append}
use Rattle.lot_machine.proofs.WaiterLemmas.{times_in-own, times_in-not_own}

-- how many of the first numbers are taken
abbrev count_taken : ℕ → (ℕ → Status) → ℕ
count_taken max status = count_by (λ n. is_taken (status n)) (range_with_len 0 max)

-- one status for another that is taken as much
count_taken-with_value : (max : ℕ) (f : ℕ → Status) (number : ℕ) (st : Status) → is_taken st ≡ is_taken (f number)
    → count_taken max (with_value f number st) ≡ count_taken max f
count_taken-with_value max f number st alike =
    count_by-alike (λ n. is_taken (with_value f number st n)) (λ n. is_taken (f n)) 0 max
    (λ n. ⊎_elim (λ (same : n ≡ number). ap is_taken (with_value-same f number st n same) ∙ alike
    ∙ ap (λ k. is_taken (f k)) (sym same))
    (λ (other : n ≢ number). ap is_taken (with_value-other f number st n other))
    (cases_eq n number))

-- waiters that were not taken are taken
count_taken-with_taken : (max : ℕ) (token : UnparkToken) (f : ℕ → Status) (waiters : List Waiter)
    → ((j : ℕ) → times_in j waiters ≤ 1) → ((j : ℕ) → times_in j waiters ≢ 0 → j < max)
    → ((j : ℕ) → times_in j waiters ≢ 0 → is_taken (f j) ≡ false)
    → count_taken max (statuses_with_taken token waiters f) ≡ count_taken max f + length waiters
count_taken-with_taken max token f [] once low free = omega arith
count_taken-with_taken max token f (waiter ∷ waiters) once low free =
    let number : ℕ = waiter.number in
    let counted : (j : ℕ) → times_in j (waiter ∷ waiters) ≡ times_in j (waiter ∷ []) + times_in j waiters =
    λ j. times_in-append j (waiter ∷ []) waiters in
    let own : times_in number (waiter ∷ []) ≡ 1 = times_in-own waiter number refl in
    let among : times_in number (waiter ∷ waiters) ≢ 0 = λ none. absurd (omega (arith, none, counted number, own)) in
    let behind : times_in number waiters ≡ 0 = omega (arith, once number, counted number, own) in
    let wider : (j : ℕ) → times_in j waiters ≢ 0 → times_in j (waiter ∷ waiters) ≢ 0 =
    λ j some none. some (omega (arith, none, counted j)) in
    let rest = count_taken-with_taken max token f waiters (λ j. omega (arith, once j, counted j))
    (λ j some. low j (wider j some)) (λ j some. free j (wider j some)) in
    let more = count_by-one_more (λ n. is_taken (statuses_with_taken token waiters f n))
    (λ n. is_taken (statuses_with_taken token (waiter ∷ waiters) f n)) number 0 max
    (ap is_taken (statuses_with_taken-other token waiters f number behind) ∙ free number among)
    (ap is_taken (statuses_with_taken-among token (waiter ∷ waiters) f number among))
    (λ j other. let apart = times_in-not_own waiter j other in ap is_taken
    (⊎_elim (λ (none : times_in j waiters ≡ 0). statuses_with_taken-other token waiters f j none
    ∙ sym (statuses_with_taken-other token (waiter ∷ waiters) f j (omega (arith, none, counted j, apart))))
    (λ (some : times_in j waiters ≢ 0). statuses_with_taken-among token waiters f j some
    ∙ sym (statuses_with_taken-among token (waiter ∷ waiters) f j (wider j some)))
    (cases_eq (times_in j waiters) 0)))
    (omega arith) (omega (arith, low number among)) in
    omega (arith, rest, more)

module _ (m : Machine) (given : Answer) (new : Machine) where
  -- a step takes as many as it tells of, and as many come back
  abbrev Balances : Machine → Answer → Type 0
  Balances left told = taken_threads_of m + unparked_by told ≡ returned_by told + taken_threads_of left

  Balances-gives : {left : Machine} {expected : Answer} → Balances left expected → Gives left expected given new
      → Balances new given
  Balances-gives {left} balance (answers, new_is) =
      subst (λ n. Balances n given) (sym new_is) (subst (Balances left) (sym answers) balance)

  -- a status that is taken as much as the one before
  Balances-status : (number : ℕ) (st : Status) (was : Status) → m.status number ≡ was → is_taken st ≡ is_taken was
      → count_taken m.max_threads (with_value m.status number st) ≡ taken_threads_of m
  Balances-status number st was is alike =
      count_taken-with_value m.max_threads m.status number st (alike ∙ ap is_taken (sym is))

  Balances-taken : (keys : ℕ → ℕ) → MatchesStatus keys m → (key : ℕ) (split : Split Waiter) (token : UnparkToken)
      → AreParts split (m.lists key) → count_taken m.max_threads (statuses_with_taken token split.taken m.status)
      ≡ taken_threads_of m + length split.taken
  Balances-taken keys right key split token parts =
      count_taken-with_taken m.max_threads token m.status split.taken once low free
    where
      stood : (j : ℕ) → times_in j split.taken ≢ 0 → 0 < times_in j (m.lists key)
      stood j some = let counted = parts.counts j in omega (arith, counted, some)

      queued : (j : ℕ) → times_in j split.taken ≢ 0 → is_queued (m.status j) ≡ true
      queued j some = is_queued-standing keys m j key right.standing (stood j some)

      once : (j : ℕ) → times_in j split.taken ≤ 1
      once j =
          ⊎_elim (λ (none : times_in j split.taken ≡ 0). omega (arith, none))
          (λ (some : times_in j split.taken ≢ 0).
          let one = (StandsAt-standing keys m j key right.standing (stood j some)).once in
          omega (arith, one, parts.counts j))
          (cases_eq (times_in j split.taken) 0)

      free : (j : ℕ) → times_in j split.taken ≢ 0 → is_taken (m.status j) ≡ false
      free j some =
          ⊎_elim (λ (taken : is_taken (m.status j) ≡ true). absurd (false≢true
          (sym (is_queued-taken (m.status j) taken) ∙ queued j some)))
          (λ (not_taken : is_taken (m.status j) ≡ false). not_taken)
          (cases_Bool (is_taken (m.status j)))

      low : (j : ℕ) → times_in j split.taken ≢ 0 → j < m.max_threads
      low j some =
          below_max_threads keys m j right
          (λ is_free. false≢true (ap is_queued (sym is_free) ∙ queued j some))

  module _ (keys : ℕ → ℕ) (right : MatchesStatus keys m) where
    IsUnpark-balances : (op : Op) → IsUnpark m op given new → Balances new given
    IsUnpark-balances (One key token) =
        let split : Split Waiter = split_first (m.lists key) in
        let taken = Balances-taken keys right key split token (AreParts-first (m.lists key)) in
        Balances-gives (omega (arith, taken))
    IsUnpark-balances (All key token) =
        let split : Split Waiter = split_all (m.lists key) in
        let taken = Balances-taken keys right key split token (AreParts-all (m.lists key)) in
        Balances-gives (omega (arith, taken))
    IsUnpark-balances (Filter key decisions token) =
        let split : Split Waiter = split_filter decisions.items (m.lists key) in
        let taken = Balances-taken keys right key split token (AreParts-filter decisions.items (m.lists key)) in
        Balances-gives (omega (arith, taken))
    IsUnpark-balances (Requeue from to op token) =
        let split : Split Waiter = split_by op (m.lists from) in
        let taken = Balances-taken keys right from split token (AreParts-by op (m.lists from)) in
        Balances-gives (omega (arith, taken, told op (m.lists from)))
      where
        told : (op : RequeueOp) (waiters : List Waiter)
            → (requeue_result op (split_by op waiters)).unparked_threads ≡ length (split_by op waiters).taken
        told Abort waiters = refl
        told UnparkOneRequeueRest waiters = refl
        told RequeueAll waiters = refl
        told UnparkOne waiters = refl
        told RequeueOne waiters = refl

    IsReturn-balances : (thread : ℕ) (now : Status) → m.status thread ≡ now → IsReturn m thread now given new
        → Balances new given
    IsReturn-balances thread (status.Taken token) is =
        let low : thread < m.max_threads = below_max_threads keys m thread right
        (λ is_free. false≢true (ap is_taken (sym is_free ∙ is))) in
        let more = count_by-one_more (λ n. is_taken (with_value m.status thread status.Running n))
        (λ n. is_taken (m.status n)) thread 0 m.max_threads
        (ap is_taken (with_value-same m.status thread status.Running thread refl)) (ap is_taken is)
        (λ j other. ap is_taken (with_value-other m.status thread status.Running j other)) (omega arith)
        (omega (arith, low)) in
        Balances-gives (omega (arith, more))
    IsReturn-balances thread _ is = Balances-gives (omega arith)

    IsResolve-balances : (thread : ℕ) (now : Status) → m.status thread ≡ now → IsResolve m thread now given new
        → Balances new given
    IsResolve-balances thread status.Late is = λ (key, stands, gives).
        let same = Balances-status thread status.Running status.Late is refl in
        Balances-gives (omega (arith, same)) gives
    IsResolve-balances thread now is = IsReturn-balances thread now is

    -- a step that takes nobody and leaves as many taken
    Balances-quiet : {left : Machine} {expected : Answer} → unparked_by expected ≡ 0 → returned_by expected ≡ 0
        → taken_threads_of left ≡ taken_threads_of m → Gives left expected given new → Balances new given
    Balances-quiet none nobody same = Balances-gives (omega (arith, none, nobody, same))

    by_register : (given : Answer) → IsRegister m given new → Balances new given
    by_register (answer.Registered number) (least, new_is) =
        let same = Balances-status number status.Running status.Free least.free refl in
        let left = ap taken_threads_of new_is in
        omega (arith, same, left)
    by_register answer.Full (_, new_is) = let left = ap taken_threads_of new_is in omega (arith, left)
    by_register answer.NoMemory (_, new_is) = let left = ap taken_threads_of new_is in omega (arith, left)
    by_register _ none = absurd none

    by_acquire : (thread key : ℕ) (given : Answer) → IsAcquire m thread key given new → Balances new given
    by_acquire thread key answer.Recorded new_is = let left = ap taken_threads_of new_is in omega (arith, left)
    by_acquire thread key answer.NoMemory new_is = let left = ap taken_threads_of new_is in omega (arith, left)
    by_acquire thread key _ none = absurd none

    by_trim : (given : Answer) → IsTrim m given new → Balances new given
    by_trim answer.Trimmed new_is = let left = ap taken_threads_of new_is in omega (arith, left)
    by_trim answer.NoMemory new_is = let left = ap taken_threads_of new_is in omega (arith, left)
    by_trim _ none = absurd none

    IsStep-balances : (step : Step) → IsStep m step given new → Balances new given
    IsStep-balances Register = by_register given
    IsStep-balances (Retire thread) =
        MatchBool-either (is_running (m.status thread))
        (λ runs. Balances-quiet refl refl
        (Balances-status thread status.Free status.Running (Running-from (m.status thread) runs) refl))
        (λ _. Balances-quiet refl refl refl)
    IsStep-balances (Enter thread key valid park_token timed) =
        MatchBool-either (is_running (m.status thread))
        (λ runs. MatchBool-either valid
        (λ _. Balances-quiet refl refl
        (Balances-status thread (status.Waiting timed) status.Running (Running-from (m.status thread) runs) refl))
        (λ _. Balances-quiet refl refl refl))
        (λ _. Balances-quiet refl refl refl)
    IsStep-balances (Unpark op) = IsUnpark-balances op
    IsStep-balances (Deadline thread) =
        MatchBool-either (awaits_deadline (m.status thread))
        (λ waits. Balances-quiet refl refl
        (Balances-status thread status.Late (status.Waiting true) (Waiting-from (m.status thread) waits) refl))
        (λ _. Balances-quiet refl refl refl)
    IsStep-balances (Resolve thread) = IsResolve-balances thread (m.status thread) refl
    IsStep-balances (Return thread) = IsReturn-balances thread (m.status thread) refl
    IsStep-balances (Acquire thread key) =
        MatchBool-either (is_running (m.status thread)) (λ _. by_acquire thread key given)
        (λ _. Balances-quiet refl refl refl)
    IsStep-balances (Release thread key) =
        MatchBool-either (is_running (m.status thread)) (λ _. Balances-quiet refl refl refl)
        (λ _. Balances-quiet refl refl refl)
    IsStep-balances Trim = by_trim given

pub IsRun-balances : UnparkedThreadsComeBack
IsRun-balances m [] [] last consistent ran = let same = ap taken_threads_of ran in omega (arith, same)
IsRun-balances m [] (_ ∷ _) last consistent none = absurd none
IsRun-balances m (_ ∷ _) [] last consistent none = absurd none
IsRun-balances m (step ∷ steps) (given ∷ answers) last consistent (next, does, ran) =
    let here = IsStep-balances m given next consistent.0 consistent.1 step does in
    let rest = IsRun-balances next steps answers last (IsConsistent-step m step given next consistent does) ran in
    omega (
      arith,
      here,
      rest,
      sum_by-cons unparked_by given answers,
      sum_by-cons returned_by given answers,
    )
