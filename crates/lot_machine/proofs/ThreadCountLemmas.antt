-- The answers count the threads that are registered.
use Rattle.std.proofs.Common.{◌≡◌, ◌≢◌, ℕ, ◌+◌, ◌<◌, true, false}
use Rattle.std.proofs.Common.{refl, sym, ap, ◌∙◌, subst, ⊎_elim, arith}
use Rattle.std.specs.List.{count_by, range_with_len}
use Rattle.std.proofs.lemmas.Bool.{cases_eq, false≢true}
use Rattle.lot_base.specs.Waiting.{with_value, split_first, split_all, split_filter, split_by, Split}
use Rattle.lot_base.specs.declared.token.UnparkToken.{UnparkToken}
use Rattle.lot_base.proofs.ValueLemmas.{with_value-same, with_value-other}
use Rattle.lot_machine.specs.declared.status.Status.{Status}
use Rattle.lot_machine.specs.declared.status.Status.TheVariants as status
use Rattle.lot_machine.specs.declared.step.Answer.{Answer}
use Rattle.lot_machine.specs.declared.step.Answer.TheVariants as answer
use Rattle.lot_machine.specs.declared.step.Op.{Op}
use Rattle.lot_machine.specs.declared.step.Op.TheVariants.{One, All, Filter, Requeue}
use Rattle.lot_machine.specs.declared.step.Step.{Step}
use Rattle.lot_machine.specs.declared.step.Step.TheVariants.{Register, Retire, Enter, Unpark, Deadline}
use Rattle.lot_machine.specs.declared.step.Step.TheVariants.{Resolve, Return, Acquire, Release, Trim}
use Rattle.lot_machine.specs.Status.{is_registered, is_running, is_queued, awaits_deadline}
use Rattle.lot_machine.specs.Machine.{Machine, Waiter, IsConsistent}
use Rattle.lot_machine.specs.Machine.{times_in, threads_of, statuses_with_taken, with_status}
use Rattle.lot_machine.specs.Machine.{after_retire, after_enter, after_unpark, after_requeue}
use Rattle.lot_machine.specs.Machine.{after_timeout}
use Rattle.lot_machine.specs.Size.{threads_after}
use Rattle.lot_machine.specs.Steps.{Gives, IsRegister, IsUnpark, IsReturn, IsResolve, IsAcquire, IsTrim, IsStep}
use Rattle.lot_machine.specs.Laws.{AnswersCountThreads}
use Rattle.lot_machine.proofs.CountLemmas.{count_by-alike, count_by-one_more}
use Rattle.lot_machine.proofs.StandingLemmas.{is_queued-standing}
use Rattle.lot_machine.proofs.MachineLemmas.{below_max_threads}
use Rattle.lot_machine.proofs.SplitLemmas.{AreParts, AreParts-first, AreParts-all, AreParts-filter, AreParts-by}
use Rattle.lot_machine.proofs.StepLemmas.{MatchBool-either, Running-from, Waiting-from}
use Rattle.lot_machine.proofs.WaiterLemmas.{statuses_with_taken-other, statuses_with_taken-among}

-- the threads that are registered after a step

threads_of-alike : (m new : Machine) → new.max_threads ≡ m.max_threads
    → ((j : ℕ) → is_registered (new.status j) ≡ is_registered (m.status j)) → threads_of new ≡ threads_of m
threads_of-alike m new same alike =
    ap (λ n. count_by (λ number. is_registered (new.status number)) (range_with_len 0 n)) same
    ∙ count_by-alike (λ number. is_registered (new.status number))
    (λ number. is_registered (m.status number)) 0 m.max_threads alike

pub threads_of-one_more : (m new : Machine) (number : ℕ) → new.max_threads ≡ m.max_threads → number < m.max_threads
    → is_registered (m.status number) ≡ false → is_registered (new.status number) ≡ true
    → ((j : ℕ) → j ≢ number → is_registered (m.status j) ≡ is_registered (new.status j))
    → threads_of new ≡ threads_of m + 1
threads_of-one_more m new number same below before after others =
    ap (λ n. count_by (λ number. is_registered (new.status number)) (range_with_len 0 n)) same
    ∙ count_by-one_more (λ number. is_registered (m.status number))
    (λ number. is_registered (new.status number)) number 0 m.max_threads before after others (omega arith)
    (omega (arith, below))

pub registered-with_status : (m : Machine) (number : ℕ) (s : Status) (j : ℕ) → j ≢ number
    → is_registered (with_value m.status number s j) ≡ is_registered (m.status j)
registered-with_status m number s j other = ap is_registered (with_value-other m.status number s j other)

registered-alike : (m : Machine) (number : ℕ) (s : Status) → is_registered s ≡ is_registered (m.status number) → (j : ℕ)
    → is_registered (with_value m.status number s j) ≡ is_registered (m.status j)
registered-alike m number s alike j =
    ⊎_elim (λ (same : j ≡ number). ap is_registered (with_value-same m.status number s j same) ∙ alike
    ∙ ap (λ k. is_registered (m.status k)) (sym same))
    (registered-with_status m number s j)
    (cases_eq j number)

registered-queued : (s : Status) → is_queued s ≡ true → is_registered s ≡ true
registered-queued (status.Waiting timed) queued = refl
registered-queued status.Late queued = refl
registered-queued status.Free queued = absurd (false≢true queued)
registered-queued status.Running queued = refl
registered-queued (status.Taken token) queued = refl

registered-taken : (m : Machine) (key : ℕ) (split : Split Waiter) (token : UnparkToken) → IsConsistent m
    → AreParts split (m.lists key) → (j : ℕ) → is_registered (statuses_with_taken token split.taken m.status j)
    ≡ is_registered (m.status j)
registered-taken m key split token (keys, right) parts j =
    ⊎_elim (λ (none : times_in j split.taken ≡ 0). ap is_registered
    (statuses_with_taken-other token split.taken m.status j none))
    (λ (some : times_in j split.taken ≢ 0). ap is_registered
    (statuses_with_taken-among token split.taken m.status j some)
    ∙ sym (registered-queued (m.status j)
    (is_queued-standing keys m j key right.standing (omega (arith, parts.counts j)))))
    (cases_eq (times_in j split.taken) 0)

module _ (m : Machine) (consistent : IsConsistent m) (given : Answer) (new : Machine) where
  -- what an answer says of the number of threads
  abbrev Counts : Machine → Answer → Type 0
  Counts left expected = threads_of left ≡ threads_after (threads_of m) expected

  Counts-gives : {left : Machine} {expected : Answer} → Counts left expected → Gives left expected given new
      → Counts new given
  Counts-gives {left} counts (is, new_is) =
      subst (λ n. Counts n given) (sym new_is) (subst (Counts left) (sym is) counts)

  IsUnpark-counts : (op : Op) → IsUnpark m op given new → Counts new given
  IsUnpark-counts (One key token) =
      Counts-gives (threads_of-alike m (after_unpark m key (split_first (m.lists key)) token) refl
      (registered-taken m key (split_first (m.lists key)) token consistent (AreParts-first (m.lists key))))
  IsUnpark-counts (All key token) =
      Counts-gives (threads_of-alike m (after_unpark m key (split_all (m.lists key)) token) refl
      (registered-taken m key (split_all (m.lists key)) token consistent (AreParts-all (m.lists key))))
  IsUnpark-counts (Filter key decisions token) =
      Counts-gives (threads_of-alike m (after_unpark m key (split_filter decisions.items (m.lists key)) token) refl
      (registered-taken m key (split_filter decisions.items (m.lists key)) token consistent
      (AreParts-filter decisions.items (m.lists key))))
  IsUnpark-counts (Requeue from to op token) =
      Counts-gives (threads_of-alike m (after_requeue m from to (split_by op (m.lists from)) token) refl
      (registered-taken m from (split_by op (m.lists from)) token consistent (AreParts-by op (m.lists from))))

  -- one thread goes from a status to another, both of which are registered
  Counts-status : (thread : ℕ) (was s : Status) (expected : Answer) → m.status thread ≡ was
      → is_registered s ≡ is_registered was → threads_after (threads_of m) expected ≡ threads_of m
      → Counts (with_status m thread s) expected
  Counts-status thread was s expected is alike stays =
      threads_of-alike m (with_status m thread s) refl (registered-alike m thread s (alike ∙ ap is_registered (sym is)))
      ∙ sym stays

  IsReturn-counts : (thread : ℕ) (s : Status) → m.status thread ≡ s → IsReturn m thread s given new → Counts new given
  IsReturn-counts thread (status.Taken token) is =
      Counts-gives (Counts-status thread (status.Taken token) status.Running (answer.Unparked token) is refl refl)
  IsReturn-counts thread _ is = Counts-gives refl

  IsResolve-counts : (thread : ℕ) (s : Status) → m.status thread ≡ s → IsResolve m thread s given new → Counts new given
  IsResolve-counts thread status.Late is = λ (key, _, gives).
      Counts-gives (threads_of-alike m (after_timeout m thread key) refl
      (registered-alike m thread status.Running (ap is_registered (sym is)))) gives
  IsResolve-counts thread s is = IsReturn-counts thread s is

  retired : (thread : ℕ) → m.status thread ≡ status.Running → Counts (after_retire m thread) answer.Retired
  retired thread runs =
      let below : thread < m.max_threads = below_max_threads consistent.0 m thread consistent.1
      (λ free. let same : status.Running ≡ status.Free = sym runs ∙ free in absurd cc) in
      let left = after_retire m thread in
      let more = threads_of-one_more left m thread refl below
      (ap is_registered (with_value-same m.status thread status.Free thread refl)) (ap is_registered runs)
      (registered-with_status m thread status.Free) in
      omega (arith, more)

  IsRegister-counts : (given : Answer) → IsRegister m given new → Counts new given
  IsRegister-counts (answer.Registered number) (least, new_is) =
      ap threads_of new_is
      ∙ threads_of-one_more m (with_status m number status.Running) number refl least.below
      (ap is_registered least.free) (ap is_registered (with_value-same m.status number status.Running number refl))
      (λ j other. sym (registered-with_status m number status.Running j other))
  IsRegister-counts answer.Full (_, new_is) = ap threads_of new_is
  IsRegister-counts answer.NoMemory (_, new_is) = ap threads_of new_is
  IsRegister-counts _ none = absurd none

  IsAcquire-counts : (thread key : ℕ) (given : Answer) → IsAcquire m thread key given new → Counts new given
  IsAcquire-counts thread key answer.Recorded new_is = ap threads_of new_is
  IsAcquire-counts thread key answer.NoMemory new_is = ap threads_of new_is
  IsAcquire-counts thread key _ none = absurd none

  IsTrim-counts : (given : Answer) → IsTrim m given new → Counts new given
  IsTrim-counts answer.Trimmed new_is = ap threads_of new_is
  IsTrim-counts answer.NoMemory new_is = ap threads_of new_is
  IsTrim-counts _ none = absurd none

  pub IsStep-counts : (step : Step) → IsStep m step given new → Counts new given
  IsStep-counts Register = IsRegister-counts given
  IsStep-counts (Retire thread) =
      MatchBool-either (is_running (m.status thread))
      (λ runs. Counts-gives (retired thread (Running-from (m.status thread) runs))) (λ _. Counts-gives refl)
  IsStep-counts (Enter thread key valid park_token timed) =
      MatchBool-either (is_running (m.status thread))
      (λ runs. MatchBool-either valid
      (λ _. Counts-gives
      (threads_of-alike m (after_enter m thread key park_token timed) refl
      (registered-alike m thread (status.Waiting timed)
      (ap is_registered (sym (Running-from (m.status thread) runs)))))) (λ _. Counts-gives refl))
      (λ _. Counts-gives refl)
  IsStep-counts (Unpark op) = IsUnpark-counts op
  IsStep-counts (Deadline thread) =
      MatchBool-either (awaits_deadline (m.status thread))
      (λ timed. Counts-gives
      (Counts-status thread (status.Waiting true) status.Late answer.Late
      (Waiting-from (m.status thread) timed) refl refl)) (λ _. Counts-gives refl)
  IsStep-counts (Resolve thread) = IsResolve-counts thread (m.status thread) refl
  IsStep-counts (Return thread) = IsReturn-counts thread (m.status thread) refl
  IsStep-counts (Acquire thread key) =
      MatchBool-either (is_running (m.status thread)) (λ _. IsAcquire-counts thread key given) (λ _. Counts-gives refl)
  IsStep-counts (Release thread key) =
      MatchBool-either (is_running (m.status thread)) (λ _. Counts-gives refl) (λ _. Counts-gives refl)
  IsStep-counts Trim = IsTrim-counts given

pub threads_of-step : AnswersCountThreads
threads_of-step m step given new consistent does = IsStep-counts m consistent given new step does
