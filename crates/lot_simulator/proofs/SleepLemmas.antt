-- Who sleeps on the condition variable and is not notified sleeps on.
use Rattle.std.proofs.Common.{◌≡◌, ◌≢◌, ℕ, ◌+◌, ◌<◌, ◌≤◌, Bool, true, false, IsFalse, if◌then◌else◌, List}
use Rattle.std.proofs.Common.{[], ◌∷◌, ◌++◌, length, take, drop, append-nil, append_assoc, length-drop, refl, sym, ap}
use Rattle.std.proofs.Common.{◌∙◌, subst, ⊎_elim, count_by, zero-add, arith}
use Rattle.std.proofs.lemmas.Bool.{ne_eqb}
use Rattle.std.proofs.lemmas.List.{drop-drop}
use Rattle.std.proofs.lemmas.List.Sums.{sum_by-append}
use Rattle.lot_base.proofs.ValueLemmas.{with_value-other}
use Rattle.lot_base.specs.Waiting.{with_value}
use Rattle.lot_machine.proofs.StepLemmas.{MatchBool-either}
use Rattle.lot_machine.specs.Run.{IsRun}
use Rattle.lot_simulator.specs.declared.fair.fair_core.FairStatus.{FairStatus}
use Rattle.lot_simulator.specs.declared.fair.fair_core.FairStatus.TheVariants.{Free, Idle, Holding, Queued, Leaving, Handed}
use Rattle.lot_simulator.specs.declared.fair.schedule.FairAnswer.{FairAnswer}
use Rattle.lot_simulator.specs.declared.fair.schedule.FairAnswer.TheVariants as answer
use Rattle.lot_simulator.specs.declared.fair.schedule.FairStep.{FairStep}
use Rattle.lot_simulator.specs.declared.fair.schedule.FairStep.TheVariants.{Register, Retire, Lock, Unlock, Return, Wait}
use Rattle.lot_simulator.specs.declared.fair.schedule.FairStep.TheVariants.{Leave, NotifyOne, NotifyAll}
use Rattle.lot_simulator.specs.FairMachine.{FairState, IsFairConsistent, with_handed, let_go, times_in, stands}
use Rattle.lot_simulator.specs.FairMachine.{after_release}
use Rattle.lot_simulator.specs.FairSteps.{IsFairStep, IsRegister, IsLock, is_idle, is_holding, is_leaving, is_handed}
use Rattle.lot_simulator.specs.FairLaws.{NeverComesBack, UnnotifiedThreadsSleep, comes_back, notifies_one, notifies_all}
use Rattle.lot_simulator.proofs.FairMachineLemmas.{Idle-from, Holding-from, Leaving-from, Handed-from, times_in-append}
use Rattle.lot_simulator.proofs.FairMachineLemmas.{times_in-own, IsFairConsistent-step}

-- a thread is queued on the condition variable, behind these and before those and more
pub record Sleeps (thread : ℕ) (before behind : List ℕ) (m : FairState) : Type 0 where
  pub queued : m.status thread ≡ Queued
  pub came : List ℕ
  pub stand : m.sleepers ≡ before ++ thread ∷ (behind ++ came)

-- how many notifies of one a step is
abbrev one_of : FairStep → ℕ
one_of step = if notifies_one step then 1 else 0

module _ (t : ℕ) (behind : List ℕ) where
  times_behind : (before came : List ℕ) → 0 < times_in t (before ++ t ∷ (behind ++ came))
  times_behind before came =
      omega (
        arith,
        times_in-append t before (t ∷ (behind ++ came)),
        times_in-append t (t ∷ []) (behind ++ came),
        times_in-own t t refl,
      )

  module _ (m new : FairState) (before : List ℕ) (right : IsFairConsistent m) (sleeps : Sleeps t before behind m) where
    once : times_in t m.waiters + times_in t m.sleepers ≡ 1
    once = right.standing t ∙ ap (λ s. if stands s then 1 else 0) sleeps.queued

    some : 0 < times_in t m.sleepers
    some = subst (λ xs. 0 < times_in t xs) (sym sleeps.stand) (times_behind before sleeps.came)

    -- another thread has another status
    apart : (u : ℕ) (s : FairStatus) → m.status u ≡ s → s ≢ Queued → t ≢ u
    apart u s is other same = other (sym is ∙ ap m.status (sym same) ∙ sleeps.queued)

    queued-other : (u : ℕ) (s : FairStatus) → t ≢ u → with_value m.status u s t ≡ Queued
    queued-other u s other = with_value-other m.status u s t other ∙ sleeps.queued

    -- none of a list in which the thread does not stand is the thread
    queued-handed : (xs : List ℕ) (status : ℕ → FairStatus) → times_in t (take 1 xs) ≡ 0 → status t ≡ Queued
        → with_handed (take 1 xs) status t ≡ Queued
    queued-handed [] status none is = is
    queued-handed (x ∷ xs) status none is =
        with_value-other status x Handed t (λ same. absurd (omega (arith, none, times_in-own x t same))) ∙ is

    first-few : (xs : List ℕ) → times_in t (take 1 xs) + times_in t (drop 1 xs) ≡ times_in t xs
    first-few [] = refl
    first-few (x ∷ xs) = sym (times_in-append t (x ∷ []) xs)

    abbrev SleepsOn : FairState → Type 0
    SleepsOn = Sleeps t before behind

    becomes : {left : FairState} → SleepsOn left → new ≡ left → SleepsOn new
    becomes on is = subst SleepsOn (sym is) on

    unchanged : new ≡ m → SleepsOn new
    unchanged = becomes sleeps

    status-only : (status : ℕ → FairStatus) (waiters : List ℕ) → status t ≡ Queued
        → SleepsOn (record m { status = status; waiters = waiters })
    status-only status waiters is = record { queued = is; came = sleeps.came; stand = sleeps.stand }

    released : (u : ℕ) → t ≢ u → SleepsOn (after_release m u)
    released u other =
        status-only _ (drop 1 m.waiters) (queued-handed m.waiters (with_value m.status u (let_go (m.status u)))
        (omega (arith, once, some, first-few m.waiters)) (queued-other u (let_go (m.status u)) other))

    register-sleeps : (given : FairAnswer) → IsRegister m given new → SleepsOn new
    register-sleeps (answer.Registered number) (least, new_is) =
        becomes (status-only _ m.waiters (queued-other number Idle (apart number Free least.free (λ same. cc)))) new_is
    register-sleeps answer.Full (_, new_is) = unchanged new_is
    register-sleeps answer.NoMemory (_, new_is) = unchanged new_is
    register-sleeps _ none = absurd none

    lock-sleeps : (u : ℕ) (given : FairAnswer) → t ≢ u → IsLock m u given new → SleepsOn new
    lock-sleeps u answer.Locked other (_, new_is) =
        becomes (status-only _ m.waiters (queued-other u Holding other)) new_is
    lock-sleeps u answer.Queued other (_, new_is) =
        becomes (status-only _ (m.waiters ++ u ∷ []) (queued-other u Queued other)) new_is
    lock-sleeps u _ other none = absurd none

    -- a step that is no notify
    pub Step-sleeps : (step : FairStep) (given : FairAnswer) → notifies_one step ≡ false → notifies_all step ≡ false
        → IsFairStep m step given new → SleepsOn new
    Step-sleeps Register given one all = register-sleeps given
    Step-sleeps (Retire u) given one all =
        MatchBool-either (is_idle (m.status u))
        (λ idle (_, new_is). becomes (status-only _ m.waiters (queued-other u Free
        (apart u Idle (Idle-from (m.status u) idle) (λ same. cc)))) new_is)
        (λ _ (_, new_is). unchanged new_is)
    Step-sleeps (Lock u) given one all =
        MatchBool-either (is_idle (m.status u))
        (λ idle. lock-sleeps u given (apart u Idle (Idle-from (m.status u) idle) (λ same. cc)))
        (λ _ (_, new_is). unchanged new_is)
    Step-sleeps (Unlock u) given one all =
        MatchBool-either (is_holding (m.status u))
        (λ holding (_, new_is). becomes (released u (apart u Holding (Holding-from (m.status u) holding) (λ same. cc)))
        new_is)
        (λ _ (_, new_is). unchanged new_is)
    Step-sleeps (Return u) given one all =
        MatchBool-either (is_handed (m.status u))
        (λ handed (_, new_is). becomes (status-only _ m.waiters (queued-other u Holding
        (apart u Handed (Handed-from (m.status u) handed) (λ same. cc)))) new_is)
        (λ _ (_, new_is). unchanged new_is)
    Step-sleeps (Wait u) given one all =
        MatchBool-either (is_holding (m.status u))
        (λ holding (_, new_is). becomes (record {
          queued = queued-other u Leaving (apart u Holding (Holding-from (m.status u) holding) (λ same. cc));
          came = sleeps.came ++ u ∷ [];
          stand = ap (λ xs. xs ++ u ∷ []) sleeps.stand ∙ append_assoc before (t ∷ (behind ++ sleeps.came)) (u ∷ [])
              ∙ ap (λ xs. before ++ t ∷ xs) (append_assoc behind sleeps.came (u ∷ []));
        }) new_is)
        (λ _ (_, new_is). unchanged new_is)
    Step-sleeps (Leave u) given one all =
        MatchBool-either (is_leaving (m.status u))
        (λ leaving (_, new_is). becomes (released u (apart u Leaving (Leaving-from (m.status u) leaving) (λ same. cc)))
        new_is)
        (λ _ (_, new_is). unchanged new_is)
    Step-sleeps NotifyOne given one all = absurd cc
    Step-sleeps NotifyAll given one all = absurd cc

    -- a notify of one takes another thread
    pub One-sleeps : (given : FairAnswer) → 0 < length before → IsFairStep m NotifyOne given new
        → Sleeps t (drop 1 before) behind new
    One-sleeps given some_before =
        ⊎_elim (λ (_, (_, new_is)). subst (Sleeps t (drop 1 before) behind) (sym new_is) (record {
          queued = queued-handed m.sleepers m.status
              (omega (arith, once, first-few m.sleepers, rest)) sleeps.queued;
          came = sleeps.came;
          stand = gone;
        }))
        (λ (_, (_, new_is)). subst (Sleeps t (drop 1 before) behind) (sym new_is)
        (record { queued = sleeps.queued; came = sleeps.came; stand = gone }))
      where
        shorter : (xs ys : List ℕ) → 0 < length xs → drop 1 (xs ++ ys) ≡ drop 1 xs ++ ys
        shorter [] ys none = absurd (omega arith)
        shorter (x ∷ xs) ys more = refl

        gone : drop 1 m.sleepers ≡ drop 1 before ++ t ∷ (behind ++ sleeps.came)
        gone = ap (drop 1) sleeps.stand ∙ shorter before (t ∷ (behind ++ sleeps.came)) some_before

        rest : 0 < times_in t (drop 1 m.sleepers)
        rest = subst (λ xs. 0 < times_in t xs) (sym gone) (times_behind (drop 1 before) sleeps.came)

    -- in no step does the thread come back
    pub Step-never : (step : FairStep) (given : FairAnswer) → IsFairStep m step given new
        → IsFalse (comes_back t step given)
    Step-never (Return u) given =
        MatchBool-either (is_handed (m.status u))
        (λ handed (locked, _). ap (comes_back t (Return u)) locked
        ∙ ne_eqb u t (λ same. apart u Handed (Handed-from (m.status u) handed) (λ other. cc) (sym same)))
        (λ _ (misfit, _). ap (comes_back t (Return u)) misfit)
    Step-never Register given = λ _. refl
    Step-never (Retire u) given = λ _. refl
    Step-never (Lock u) given = λ _. refl
    Step-never (Unlock u) given = λ _. refl
    Step-never (Wait u) given = λ _. refl
    Step-never (Leave u) given = λ _. refl
    Step-never NotifyOne given = λ _. refl
    Step-never NotifyAll given = λ _. refl

    -- each step but a notify of all
    pub Any-sleeps : (step : FairStep) (given : FairAnswer) → one_of step ≤ length before → notifies_all step ≡ false
        → IsFairStep m step given new → Sleeps t (drop (one_of step) before) behind new
    Any-sleeps NotifyOne given few none = One-sleeps given (omega (arith, few))
    Any-sleeps NotifyAll given few none = absurd cc
    Any-sleeps Register given few none = Step-sleeps Register given refl refl
    Any-sleeps (Retire u) given few none = Step-sleeps (Retire u) given refl refl
    Any-sleeps (Lock u) given few none = Step-sleeps (Lock u) given refl refl
    Any-sleeps (Unlock u) given few none = Step-sleeps (Unlock u) given refl refl
    Any-sleeps (Return u) given few none = Step-sleeps (Return u) given refl refl
    Any-sleeps (Wait u) given few none = Step-sleeps (Wait u) given refl refl
    Any-sleeps (Leave u) given few none = Step-sleeps (Leave u) given refl refl

  count-first : (test : FairStep → Bool) (step : FairStep) (steps : List FairStep)
      → count_by test (step ∷ steps) ≡ (if test step then 1 else 0) + count_by test steps
  count-first test step steps =
      sum_by-append (λ s. if test s then 1 else 0) (step ∷ []) steps
      ∙ ap (λ n. n + count_by test steps) (zero-add (if test step then 1 else 0))

  no_all : (b : Bool) (n : ℕ) → (if b then 1 else 0) + n ≡ 0 → b ≡ false
  no_all true n none = absurd (omega arith)
  no_all false n none = refl

  Run-sleeps : (m : FairState) (before : List ℕ) (steps : List FairStep) (answers : List FairAnswer)
      (last : FairState) → IsFairConsistent m → Sleeps t before behind m → IsRun IsFairStep m steps answers last
      → count_by notifies_one steps ≤ length before → count_by notifies_all steps ≡ 0
      → NeverComesBack t steps answers × Sleeps t (drop (count_by notifies_one steps) before) behind last
  Run-sleeps m before [] [] last right sleeps same few none = (tt, subst (Sleeps t before behind) same sleeps)
  Run-sleeps m before [] (_ ∷ _) last right sleeps ran few none = absurd ran
  Run-sleeps m before (_ ∷ _) [] last right sleeps ran few none = absurd ran
  Run-sleeps m before (step ∷ steps) (given ∷ answers) last right sleeps (next, does, ran) few none =
      let one = count-first notifies_one step steps in
      let all = count-first notifies_all step steps in
      let none_here : notifies_all step ≡ false = no_all (notifies_all step) (count_by notifies_all steps) (sym all ∙ none)
      in
      let on = Any-sleeps m next before right sleeps step given (omega (arith, few, one)) none_here does in
      let rest = Run-sleeps next (drop (one_of step) before) steps answers last
      (IsFairConsistent-step m step given next right does) on ran
      (omega (arith, length-drop (one_of step) before, few, one)) (omega (arith, none, all)) in
      let far : drop (count_by notifies_one steps) (drop (one_of step) before)
      ≡ drop (count_by notifies_one (step ∷ steps)) before =
      drop-drop (count_by notifies_one steps) (one_of step) before ∙ ap (λ n. drop n before) (sym one) in (
        (Step-never m next before right sleeps step given does, rest.0),
        subst (λ xs. Sleeps t xs behind last) far rest.1,
      )

pub unnotified_threads_sleep : UnnotifiedThreadsSleep
unnotified_threads_sleep m thread before behind steps answers last right queued stand ran few none =
    let slept = Run-sleeps thread behind m before steps answers last right
    (record { queued = queued; came = []; stand = stand ∙ ap (λ xs. before ++ thread ∷ xs) (sym (append-nil behind)) })
    ran few none in
    (slept.0, slept.1.queued, slept.1.came, slept.1.stand)
