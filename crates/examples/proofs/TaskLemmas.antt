-- Two tasks on a new lot: they register, one acquires and the other waits.
use Rattle.std.proofs.Common.{◌≡◌, ◌≢◌, ◌↔◌, ℕ, ◌<◌, true, List, [], ◌∷◌, ◌++◌, take, Result}
use Rattle.std.proofs.Common.{Ok, Err, IsOk, IfOk, IsErrAnd, OnErr, refl, sym, ap, subst, ◌∙◌, ⊎_elim, arith}
use Rattle.std.proofs.lemmas.Bool.{cases_eq}
use Rattle.lot_base.specs.declared.token.LotError.{LotError}
use Rattle.lot_base.specs.declared.token.LotError.TheVariants.{TooManyThreads, Full, NoMemory}
use Rattle.lot_base.specs.declared.token.ParkToken.{ParkToken}
use Rattle.lot_base.specs.declared.token.UnparkToken.{UnparkToken}
use Rattle.lot_base.specs.Waiting.{split_first}
use Rattle.lot_base.proofs.ValueLemmas.{with_value-same, with_value-other}
use Rattle.lot_machine.specs.declared.status.Status.TheVariants.{Running, Waiting, Taken}
use Rattle.lot_machine.specs.Machine.{Machine, Waiter, IsFull, IsLeastFree, times_in, new_machine, with_status}
use Rattle.lot_machine.specs.Machine.{after_enter, after_unpark}
use Rattle.lot_machine.proofs.WaiterLemmas.{times_in-own, statuses_with_taken-among}
use Rattle.examples.specs.declared.semaphore.Acquired.{Acquired}
use Rattle.examples.specs.declared.semaphore.Acquired.TheVariants.{Now, Parked}

-- a refusal of a lot that is not full
pub NoMemory-only : {T : Type 0} (answer : Result T LotError) (error : LotError) →
    IsErrAnd answer (λ e. e ≡ error) → error ≢ TooManyThreads → error ≢ Full →
    OnErr answer (answer ≡ Err NoMemory)
NoMemory-only (Ok _) error told not_many not_full = tt
NoMemory-only (Err e) TooManyThreads told not_many not_full = absurd (not_many refl)
NoMemory-only (Err e) Full told not_many not_full = absurd (not_full refl)
NoMemory-only (Err e) NoMemory told not_many not_full = ap Err told

-- how a thread acquired, where a permit was free or none was
pub Now-free : {E : Type 0} (permits : ℕ) (answer : Result Acquired E) → IsOk answer →
    IfOk answer (λ acquired. (acquired ≡ Now) ↔ (0 < permits)) → 0 < permits → answer ≡ Ok Now
Now-free permits (Ok acquired) ok free some = ap Ok (free.1 some)
Now-free permits (Err _) ok free some = absurd cc

pub Parked-none : {E : Type 0} (permits : ℕ) (answer : Result Acquired E) → IsOk answer →
    IfOk answer (λ acquired. (acquired ≡ Now) ↔ (0 < permits)) → permits ≡ 0 → answer ≡ Ok Parked
Parked-none permits (Ok Now) ok free none = absurd (let some = free.0 refl in omega arith)
Parked-none permits (Ok Parked) ok free none = refl
Parked-none permits (Err _) ok free none = absurd cc

-- two threads register in a new lot for two
pub not_full : (new : Machine) → new ≡ new_machine 2 → IsFull new → ⊥
not_full new is_new full = subst IsFull is_new full 0 (omega arith) refl

pub not_full-one : (new one : Machine) (first : ℕ) → new ≡ new_machine 2 → one ≡ with_status new first Running →
    IsLeastFree new first → IsFull one → ⊥
not_full-one new one first is_new is_one at full =
    let least : IsLeastFree (new_machine 2) first = subst (λ (m : Machine). IsLeastFree m first) is_new at in
    let is_0 : 1 ≢ first = λ same. least.least 0 (omega arith) refl in
    let still : IsFull (with_status (new_machine 2) first Running) =
    subst IsFull (is_one ∙ ap (λ (m : Machine). with_status m first Running) is_new) full in
    still 1 (omega arith) (with_value-other (new_machine 2).status first Running 1 is_0)

pub runs : (m new : Machine) (thread : ℕ) → new ≡ with_status m thread Running → new.status thread ≡ Running
runs m new thread is = ap (λ (n : Machine). n.status thread) is ∙ with_value-same m.status thread Running thread refl

pub still_runs : (m new : Machine) (thread other : ℕ) → new ≡ with_status m other Running →
    m.status thread ≡ Running → new.status thread ≡ Running
still_runs m new thread other is running =
    ap (λ (n : Machine). n.status thread) is
    ∙ ⊎_elim (λ (same : thread ≡ other). with_value-same m.status other Running thread same)
    (λ (apart : thread ≢ other). with_value-other m.status other Running thread apart ∙ running)
    (cases_eq thread other)

-- a thread waits alone
module _ (m : Machine) (thread key : ℕ) (park_token : ParkToken) where
  pub waits : (after_enter m thread key park_token true).status thread ≡ Waiting true
  waits = with_value-same m.status thread (Waiting true) thread refl

  pub waits_alone : m.lists key ≡ [] →
      (after_enter m thread key park_token true).lists key
      ≡ record { number = thread; park_token = park_token; timed = true } ∷ []
  waits_alone none =
      let waiter : Waiter = record { number = thread; park_token = park_token; timed = true } in
      with_value-same m.lists key (m.lists key ++ waiter ∷ []) key refl
      ∙ ap (λ (ws : List Waiter). ws ++ waiter ∷ []) none

-- and is unparked
pub is_handed : (m : Machine) (thread key : ℕ) (waiters : List Waiter) (waiter : Waiter) (token : UnparkToken) →
    waiters ≡ waiter ∷ [] → waiter.number ≡ thread →
    (after_unpark m key (split_first waiters) token).status thread ≡ Taken token
is_handed m thread key waiters waiter token alone own =
    statuses_with_taken-among token (take 1 waiters) m.status thread
    (λ none. let here : times_in thread (take 1 waiters) ≡ 1 = ap (λ ws. times_in thread (take 1 ws)) alone
    ∙ times_in-own waiter thread (sym own) in omega arith)
