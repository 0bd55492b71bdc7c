-- A wait in vain: a thread enters a list, its deadline passes, and it leaves.
use Rattle.std.proofs.Common.{◌≡◌, ◌≢◌, ℕ, ◌==◌, true, if◌then◌else◌, List, [], ◌∷◌}
use Rattle.std.proofs.Common.{◌++◌, refl, sym, ap, subst, ◌∙◌, ⊎_elim, arith, ◌+◌}
use Rattle.std.proofs.lemmas.Bool.{cases_eq, eq-eqb, ne_eqb, cond-true, cond-false, MatchBool-at_true}
use Rattle.std.proofs.lemmas.Bool.{MatchBool-at_false}
use Rattle.lot_base.specs.declared.token.ParkToken.{ParkToken}
use Rattle.lot_base.proofs.ValueLemmas.{with_value-same, with_value-other, with_value-same_value}
use Rattle.lot_base.specs.Waiting.{without_first}
use Rattle.lot_machine.specs.declared.status.Status.{Status}
use Rattle.lot_machine.specs.declared.status.Status.TheVariants.{Running, Waiting, Late}
use Rattle.lot_machine.specs.declared.step.Answer.{Answer}
use Rattle.lot_machine.specs.declared.step.Answer.TheVariants as answer
use Rattle.lot_machine.specs.declared.step.Step.{Step}
use Rattle.lot_machine.specs.declared.step.Step.TheVariants.{Enter, Deadline, Resolve}
use Rattle.lot_machine.specs.Status.{is_running, awaits_deadline, is_queued}
use Rattle.lot_machine.specs.Machine.{Machine, Waiter, StandsAt, IsConsistent, times_in, with_status, after_enter}
use Rattle.lot_machine.specs.Machine.{after_timeout, list_without}
use Rattle.lot_machine.specs.Steps.{IsStep, IsResolve}
use Rattle.lot_machine.specs.Run.{IsRun}
use Rattle.lot_machine.proofs.StandingLemmas.{same_machine}
use Rattle.lot_machine.proofs.WaiterLemmas.{times_in-append, times_in-own}
use Rattle.examples.proofs.ValueLemmas.{with_value-twice}

-- a waiter that stands last, and nowhere before, leaves the list that it found
without_first-last : (number : ℕ) (waiters : List Waiter) (waiter : Waiter) → waiter.number ≡ number →
    times_in number waiters ≡ 0 → without_first (λ w. w.number == number) (waiters ++ waiter ∷ []) ≡ waiters
without_first-last number [] waiter own none =
    cond-true (waiter.number == number) [] (waiter ∷ []) (eq-eqb waiter.number number own)
without_first-last number (first ∷ waiters) waiter own none =
    ⊎_elim here (other (without_first-last number waiters waiter own)) (cases_eq first.number number)
  where
    rest : List Waiter
    rest = without_first (λ w. w.number == number) (waiters ++ waiter ∷ [])

    counted : times_in number (first ∷ waiters) ≡ times_in number (first ∷ []) + times_in number waiters
    counted = times_in-append number (first ∷ []) waiters

    here : first.number ≡ number →
        (if first.number == number then waiters ++ waiter ∷ [] else first ∷ rest) ≡ first ∷ waiters
    here same = absurd (omega (arith, counted, times_in-own first number (sym same), none))

    other : (times_in number waiters ≡ 0 → rest ≡ waiters) → first.number ≢ number →
        (if first.number == number then waiters ++ waiter ∷ [] else first ∷ rest) ≡ first ∷ waiters
    other behind ne =
        cond-false (first.number == number) (waiters ++ waiter ∷ []) (first ∷ rest) (ne_eqb first.number number ne)
        ∙ ap (λ ws. first ∷ ws) (behind (omega (arith, counted, none)))

-- a running thread stands in no list
pub stands_nowhere : (m : Machine) (thread key : ℕ) → IsConsistent m → m.status thread ≡ Running →
    times_in thread (m.lists key) ≡ 0
stands_nowhere m thread key (keys, kept) running =
    MatchBool-at_false _ _ (ap is_queued running) (kept.standing thread) key

module _ (m : Machine) (thread key : ℕ) (park_token : ParkToken) (consistent : IsConsistent m)
    (running : m.status thread ≡ Running) where
  abbrev waiter : Waiter
  waiter = record { number = thread; park_token = park_token; timed = true }

  abbrev entered : Machine
  entered = after_enter m thread key park_token true

  abbrev late : Machine
  late = with_status entered thread Late

  abbrev pub vain_steps : List Step
  vain_steps = Enter thread key true park_token true ∷ Deadline thread ∷ Resolve thread ∷ []

  found : list_without late thread key ≡ m.lists key
  found =
      ap (without_first (λ w. w.number == thread)) (with_value-same m.lists key (m.lists key ++ waiter ∷ []) key refl)
      ∙ without_first-last thread (m.lists key) waiter refl (stands_nowhere m thread key consistent running)

  left : after_timeout late thread key ≡ m
  left =
      same_machine (after_timeout late thread key) m
      (λ k. with_value-twice m.lists key (m.lists key ++ waiter ∷ []) (list_without late thread key) k
      ∙ with_value-same_value m.lists key (list_without late thread key) found k)
      (λ j. with_value-twice entered.status thread Late Running j
      ∙ with_value-twice m.status thread (Waiting true) Running j
      ∙ with_value-same_value m.status thread Running (sym running) j)
      (λ j. refl) refl

  at_key : (k : ℕ) → StandsAt late thread k → k ≡ key
  at_key k stands =
      ⊎_elim (λ (same : k ≡ key). same)
      (λ (other : k ≢ key).
      let as_found : times_in thread (late.lists k) ≡ times_in thread (m.lists k) =
      ap (times_in thread) (with_value-other m.lists key (m.lists key ++ waiter ∷ []) k other) in
      let none = stands_nowhere m thread k consistent running in
      absurd (omega (arith, stands.once)))
      (cases_eq k key)

  resolved : (given : Answer) (last : Machine) → IsResolve late thread Late given last → last ≡ m
  resolved given last (k, stands, (told, left_so)) = left_so ∙ ap (after_timeout late thread) (at_key k stands) ∙ left

  -- the three steps lead back
  pub IsRun-in_vain : (answers : List Answer) (last : Machine) → IsRun IsStep m vain_steps answers last → last ≡ m
  IsRun-in_vain [] last none = absurd none
  IsRun-in_vain (a ∷ []) last (_, _, none) = absurd none
  IsRun-in_vain (a ∷ b ∷ []) last (_, _, (_, _, none)) = absurd none
  IsRun-in_vain (a ∷ b ∷ c ∷ _ ∷ _) last (_, _, (_, _, (_, _, none))) = absurd none
  IsRun-in_vain (a ∷ b ∷ c ∷ []) last (first, enters, (second, expires, (third, resolves, ends))) =
      let entering : (a ≡ answer.Entered) × (first ≡ entered) = MatchBool-at_true _ _ (ap is_running running) enters in
      let waits : first.status thread ≡ Waiting true = ap (λ (n : Machine). n.status thread) entering.1
      ∙ with_value-same m.status thread (Waiting true) thread refl in
      let expiring : (b ≡ answer.Late) × (second ≡ with_status first thread Late) =
      MatchBool-at_true _ _ (ap awaits_deadline waits) expires in
      let is_late : second ≡ late = expiring.1 ∙ ap (λ (n : Machine). with_status n thread Late) entering.1 in
      let at_late : late.status thread ≡ Late = with_value-same entered.status thread Late thread refl in
      let resolving : IsResolve late thread (late.status thread) c third =
      subst (λ (n : Machine). IsResolve n thread (n.status thread) c third) is_late resolves in
      sym ends ∙ resolved c third (subst (λ (s : Status). IsResolve late thread s c third) at_late resolving)
