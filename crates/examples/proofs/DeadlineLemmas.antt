-- What a thread may do once its deadline was tried.
use Rattle.std.proofs.Common.{◌≡◌, ◌≢◌, ◌⊎◌, ◌↔◌, ℕ, true, false, ◌||◌, Result, Ok, Err}
use Rattle.std.proofs.Common.{IsOk, OnOk, OnErr, inl, inr, refl, sym, ap, subst, ◌∙◌, ⊎_elim}
use Rattle.lot_base.proofs.ValueLemmas.{with_value-same}
use Rattle.lot_machine.specs.declared.status.Status.{Status}
use Rattle.lot_machine.specs.declared.status.Status.TheVariants.{Free, Running, Waiting, Late, Taken}
use Rattle.lot_machine.specs.Status.{is_timed, is_taken, can_resolve}
use Rattle.lot_machine.specs.Machine.{Machine, StandsAt, with_status, after_timeout}
use Rattle.lot_machine.proofs.StandingLemmas.{same_machine}
use Rattle.examples.proofs.ValueLemmas.{with_value-twice}

-- it has passed, or the thread awaited none
abbrev pub LateOrSame : Machine → Machine → ℕ → Type 0
LateOrSame m new thread =
    ((m.status thread ≡ Waiting true) × (new ≡ with_status m thread Late))
    ⊎ ((m.status thread ≢ Waiting true) × (new ≡ m))

-- a park may end where it has a timeout or was taken
can_resolve-awaits_none : (s : Status) → s ≢ Waiting true → can_resolve s ≡ (is_timed s || is_taken s)
can_resolve-awaits_none Free none = refl
can_resolve-awaits_none Running none = refl
can_resolve-awaits_none (Waiting true) none = absurd (none refl)
can_resolve-awaits_none (Waiting false) none = refl
can_resolve-awaits_none Late none = refl
can_resolve-awaits_none (Taken token) none = refl

Late-awaits_none : (s : Status) → s ≢ Waiting true → is_timed s ≡ true → s ≡ Late
Late-awaits_none Free none timed = absurd cc
Late-awaits_none Running none timed = absurd cc
Late-awaits_none (Waiting true) none timed = absurd (none refl)
Late-awaits_none (Waiting false) none timed = absurd cc
Late-awaits_none Late none timed = refl
Late-awaits_none (Taken token) none timed = absurd cc

module _ (m new : Machine) (thread : ℕ) where
  late_now : new ≡ with_status m thread Late → new.status thread ≡ Late
  late_now late = ap (λ (n : Machine). n.status thread) late ∙ with_value-same m.status thread Late thread refl

  pub can_resolve-tried : LateOrSame m new thread →
      can_resolve (new.status thread) ≡ (is_timed (m.status thread) || is_taken (m.status thread))
  can_resolve-tried tried =
      ⊎_elim (λ (w : (m.status thread ≡ Waiting true) × (new ≡ with_status m thread Late)).
      ap can_resolve (late_now w.1) ∙ sym (ap (λ s. is_timed s || is_taken s) w.0))
      (λ (w : (m.status thread ≢ Waiting true) × (new ≡ m)).
      ap (λ (n : Machine). can_resolve (n.status thread)) w.1 ∙ can_resolve-awaits_none (m.status thread) w.0)
      tried

  pub Late-tried : LateOrSame m new thread → is_timed (m.status thread) ≡ true → new.status thread ≡ Late
  Late-tried tried timed =
      ⊎_elim (λ (w : (m.status thread ≡ Waiting true) × (new ≡ with_status m thread Late)). late_now w.1)
      (λ (w : (m.status thread ≢ Waiting true) × (new ≡ m)).
      ap (λ (n : Machine). n.status thread) w.1 ∙ Late-awaits_none (m.status thread) w.0 timed)
      tried

  -- it stands where it stood, and leaves what it would have left
  pub StandsAt-tried : LateOrSame m new thread → (key : ℕ) → StandsAt new thread key → StandsAt m thread key
  StandsAt-tried tried key =
      ⊎_elim (λ (w : (m.status thread ≡ Waiting true) × (new ≡ with_status m thread Late)).
      subst (λ (n : Machine). StandsAt n thread key → StandsAt m thread key) (sym w.1)
      (λ at. record { once = at.once; nowhere_else = at.nowhere_else }))
      (λ (w : (m.status thread ≢ Waiting true) × (new ≡ m)).
      subst (λ (n : Machine). StandsAt n thread key → StandsAt m thread key) (sym w.1) (λ at. at))
      tried

  pub after_timeout-tried : LateOrSame m new thread → (key : ℕ) →
      after_timeout new thread key ≡ after_timeout m thread key
  after_timeout-tried tried key =
      ⊎_elim (λ (w : (m.status thread ≡ Waiting true) × (new ≡ with_status m thread Late)).
      ap (λ (n : Machine). after_timeout n thread key) w.1
      ∙ same_machine (after_timeout (with_status m thread Late) thread key) (after_timeout m thread key)
      (λ k. refl) (with_value-twice m.status thread Late Running) (λ j. refl) refl)
      (λ (w : (m.status thread ≢ Waiting true) × (new ≡ m)). ap (λ (n : Machine). after_timeout n thread key) w.1)
      tried

-- the answer of a deadline tells which
pub LateOrSame-answer : {E : Type 0} (m new : Machine) (thread : ℕ) (answer : Result (Unit {0}) E) →
    IsOk answer ↔ (m.status thread ≡ Waiting true) → OnOk answer (new ≡ with_status m thread Late) →
    OnErr answer (new ≡ m) → LateOrSame m new thread
LateOrSame-answer m new thread (Ok _) fits late same = inl (fits.0 refl, late)
LateOrSame-answer m new thread (Err _) fits late same = inr (λ waits. absurd (let ok = fits.1 waits in cc), same)

-- two calls of which the second refuses only where the first did: nothing changed then
pub OnErr-both : {T T' E E' S : Type 0} (old middle new : S) (first : Result T E) (second : Result T' E') →
    (IsOk first → IsOk second) → OnErr first (middle ≡ old) → OnErr second (new ≡ middle) →
    OnErr second (new ≡ old)
OnErr-both old middle new first (Ok _) follows same then_same = tt
OnErr-both old middle new (Ok _) (Err _) follows same then_same = absurd (let ok = follows refl in cc)
OnErr-both old middle new (Err _) (Err _) follows same then_same = then_same ∙ same
