-- Each step keeps a state of the machine of a fair mutex consistent.
use Rattle.std.proofs.Common.{◌≡◌, ◌≢◌, ℕ, ◌+◌, ◌≤◌, ◌==◌, Bool, true, false, if◌then◌else◌, IsTrue, IsFalse}
use Rattle.std.proofs.Common.{List, [], ◌∷◌, ◌++◌, length, take, drop, append-nil, refl, sym, ap, ◌∙◌}
use Rattle.std.proofs.Common.{subst, ⊎_elim, arith}
use Rattle.std.proofs.lemmas.Bool.{cases_eq, eq-eqb, ne_eqb, false≢true}
use Rattle.std.proofs.lemmas.List.Sums.{sum_by-append}
use Rattle.lot_base.proofs.ValueLemmas.{with_value-same, with_value-other}
use Rattle.lot_base.specs.Waiting.{with_value}
use Rattle.lot_base.specs.declared.token.RequeueOp.{RequeueOp}
use Rattle.lot_base.specs.declared.token.RequeueOp.TheVariants.{Abort, UnparkOneRequeueRest, RequeueAll, UnparkOne}
use Rattle.lot_base.specs.declared.token.RequeueOp.TheVariants.{RequeueOne}
use Rattle.lot_machine.proofs.StepLemmas.{MatchBool-either}
use Rattle.lot_simulator.specs.declared.fair.fair_core.FairStatus.{FairStatus}
use Rattle.lot_simulator.specs.declared.fair.fair_core.FairStatus.TheVariants.{Free, Idle, Holding, Queued, Leaving, Handed}
use Rattle.lot_simulator.specs.declared.fair.schedule.FairAnswer.{FairAnswer}
use Rattle.lot_simulator.specs.declared.fair.schedule.FairAnswer.TheVariants as answer
use Rattle.lot_simulator.specs.declared.fair.schedule.FairStep.{FairStep}
use Rattle.lot_simulator.specs.declared.fair.schedule.FairStep.TheVariants.{Register, Retire, Lock, Unlock, Return, Wait}
use Rattle.lot_simulator.specs.declared.fair.schedule.FairStep.TheVariants.{Leave, NotifyOne, NotifyAll}
use Rattle.lot_simulator.specs.FairMachine.{FairState, IsLocked, IsUnlocked, IsFairConsistent, StandsByStatus, holds, stands}
use Rattle.lot_simulator.specs.FairMachine.{with_status, with_handed, let_go, times_in, new_fair_state}
use Rattle.lot_simulator.specs.FairMachine.{after_queue, after_wait, after_release, after_notify}
use Rattle.lot_simulator.specs.FairSteps.{IsFairStep, IsRegister, IsLock, FitsNotify, is_idle}
use Rattle.lot_simulator.specs.FairSteps.{is_holding, is_leaving, is_handed}
use Rattle.lot_simulator.specs.FairCore.{keeps_hold}

-- how often a thread stands in a list
pub times_in-append : (j : ℕ) (xs ys : List ℕ) → times_in j (xs ++ ys) ≡ times_in j xs + times_in j ys
times_in-append j xs ys = sum_by-append (λ thread. if thread == j then 1 else 0) xs ys

pub times_in-own : (thread j : ℕ) → j ≡ thread → times_in j (thread ∷ []) ≡ 1
times_in-own thread j same = let e = eq-eqb thread j (sym same) in rw e refl

pub times_in-not_own : (thread j : ℕ) → j ≢ thread → times_in j (thread ∷ []) ≡ 0
times_in-not_own thread j other = let e = ne_eqb thread j (λ same. other (sym same)) in rw e refl

-- what a test says of a status
pub Idle-from : (s : FairStatus) → is_idle s ≡ true → s ≡ Idle
Idle-from Idle is = refl
Idle-from Free is = absurd (false≢true is)
Idle-from Holding is = absurd (false≢true is)
Idle-from Queued is = absurd (false≢true is)
Idle-from Leaving is = absurd (false≢true is)
Idle-from Handed is = absurd (false≢true is)

pub Holding-from : (s : FairStatus) → is_holding s ≡ true → s ≡ Holding
Holding-from Holding is = refl
Holding-from Free is = absurd (false≢true is)
Holding-from Idle is = absurd (false≢true is)
Holding-from Queued is = absurd (false≢true is)
Holding-from Leaving is = absurd (false≢true is)
Holding-from Handed is = absurd (false≢true is)

pub Leaving-from : (s : FairStatus) → is_leaving s ≡ true → s ≡ Leaving
Leaving-from Leaving is = refl
Leaving-from Free is = absurd (false≢true is)
Leaving-from Idle is = absurd (false≢true is)
Leaving-from Holding is = absurd (false≢true is)
Leaving-from Queued is = absurd (false≢true is)
Leaving-from Handed is = absurd (false≢true is)

pub Handed-from : (s : FairStatus) → is_handed s ≡ true → s ≡ Handed
Handed-from Handed is = refl
Handed-from Free is = absurd (false≢true is)
Handed-from Idle is = absurd (false≢true is)
Handed-from Holding is = absurd (false≢true is)
Handed-from Queued is = absurd (false≢true is)
Handed-from Leaving is = absurd (false≢true is)

-- one who lets the mutex go
pub holds-let_go : (s : FairStatus) → IsFalse (holds (let_go s))
holds-let_go Free = refl
holds-let_go Idle = refl
holds-let_go Holding = refl
holds-let_go Queued = refl
holds-let_go Leaving = refl
holds-let_go Handed = refl

pub stands-let_go : (s : FairStatus) → IsTrue (keeps_hold s) → stands (let_go s) ≡ stands s
stands-let_go Holding is = refl
stands-let_go Leaving is = refl
stands-let_go Free is = absurd (false≢true is)
stands-let_go Idle is = absurd (false≢true is)
stands-let_go Queued is = absurd (false≢true is)
stands-let_go Handed is = absurd (false≢true is)

pub holds-keeps_hold : (s : FairStatus) → IsTrue (keeps_hold s) → IsTrue (holds s)
holds-keeps_hold Holding is = refl
holds-keeps_hold Leaving is = refl
holds-keeps_hold Free is = absurd (false≢true is)
holds-keeps_hold Idle is = absurd (false≢true is)
holds-keeps_hold Queued is = absurd (false≢true is)
holds-keeps_hold Handed is = absurd (false≢true is)

-- a thread has another status, of which a test says the same
pub test-with_value : (test : FairStatus → Bool) (status : ℕ → FairStatus) (t : ℕ) (s : FairStatus)
    → test s ≡ test (status t) → (j : ℕ) → test (with_value status t s j) ≡ test (status j)
test-with_value test status t s alike j =
    ⊎_elim (λ (same : j ≡ t). ap test (with_value-same status t s j same) ∙ alike ∙ ap (λ k. test (status k)) (sym same))
    (λ (other : j ≢ t). ap test (with_value-other status t s j other))
    (cases_eq j t)

-- one thread at most holds the mutex, if no other than this one does
pub one_holder-from : (status : ℕ → FairStatus) (t : ℕ) → ((j : ℕ) → j ≢ t → IsFalse (holds (status j))) → (j k : ℕ)
    → IsTrue (holds (status j)) → IsTrue (holds (status k)) → j ≡ k
one_holder-from status t others j k held also =
    ⊎_elim (λ (same : j ≡ t).
    ⊎_elim (λ (as_well : k ≡ t). same ∙ sym as_well)
    (λ (other : k ≢ t). absurd (false≢true (sym (others k other) ∙ also)))
    (cases_eq k t))
    (λ (other : j ≢ t). absurd (false≢true (sym (others j other) ∙ held)))
    (cases_eq j t)

-- the tests of every status are as before, and so is how often each thread stands
pub IsFairConsistent-alike : (m new : FairState) → ((j : ℕ) → holds (new.status j) ≡ holds (m.status j))
    → ((j : ℕ) → stands (new.status j) ≡ stands (m.status j))
    → ((j : ℕ) → times_in j new.waiters + times_in j new.sleepers ≡ times_in j m.waiters + times_in j m.sleepers)
    → (IsUnlocked m → new.waiters ≡ []) → IsFairConsistent m → IsFairConsistent new
IsFairConsistent-alike m new held stood counts none right = record {
  one_holder = λ j k holding also. right.one_holder j k (sym (held j) ∙ holding) (sym (held k) ∙ also);
  nobody_waits = λ unlocked. none (λ j. sym (held j) ∙ unlocked j);
  standing = λ j. counts j ∙ right.standing j ∙ ap (λ b. if b then 1 else 0) (sym (stood j));
}

pub IsFairConsistent-with_status : (m : FairState) (t : ℕ) (s : FairStatus) → holds s ≡ holds (m.status t)
    → stands s ≡ stands (m.status t) → IsFairConsistent m → IsFairConsistent (with_status m t s)
IsFairConsistent-with_status m t s held stood right =
    IsFairConsistent-alike m (with_status m t s) (test-with_value holds m.status t s held)
    (test-with_value stands m.status t s stood) (λ j. refl) right.nobody_waits right

-- an idle thread locks the mutex, which nobody holds
pub IsFairConsistent-locked : (m : FairState) (t : ℕ) → IsUnlocked m → m.status t ≡ Idle → IsFairConsistent m
    → IsFairConsistent (with_status m t Holding)
IsFairConsistent-locked m t unlocked idle right = record {
  one_holder = one_holder-from status t (λ j other. ap holds (with_value-other m.status t Holding j other) ∙ unlocked j);
  nobody_waits = λ _. right.nobody_waits unlocked;
  standing = λ j. right.standing j
      ∙ ap (λ b. if b then 1 else 0) (sym (test-with_value stands m.status t Holding (sym (ap stands idle)) j));
}
  where
    status : ℕ → FairStatus
    status = with_value m.status t Holding

-- a thread comes to stand in a list, and holds the mutex as before
pub IsFairConsistent-enters : (m new : FairState) (t : ℕ) (s : FairStatus)
    → ((j : ℕ) → new.status j ≡ with_value m.status t s j) → IsLocked m → holds s ≡ holds (m.status t)
    → stands (m.status t) ≡ false → stands s ≡ true
    → ((j : ℕ) → times_in j new.waiters + times_in j new.sleepers
    ≡ (times_in j m.waiters + times_in j m.sleepers) + times_in j (t ∷ []))
    → IsFairConsistent m → IsFairConsistent new
IsFairConsistent-enters m new t s is (holder, holding) held before after counts right = record {
  one_holder = λ j k hold also. right.one_holder j k (sym (holds_now j) ∙ hold) (sym (holds_now k) ∙ also);
  nobody_waits = λ unlocked. absurd (false≢true (sym (unlocked holder) ∙ holds_now holder ∙ holding));
  standing = λ j. ⊎_elim (own j) (others j) (cases_eq j t);
}
  where
    holds_now : (j : ℕ) → holds (new.status j) ≡ holds (m.status j)
    holds_now j = ap holds (is j) ∙ test-with_value holds m.status t s held j

    own : (j : ℕ) → j ≡ t → StandsByStatus new j
    own j same =
        let was : times_in j m.waiters + times_in j m.sleepers ≡ 0 =
        right.standing j ∙ ap (λ b. if b then 1 else 0) (ap (λ k. stands (m.status k)) same ∙ before) in
        let now : stands (new.status j) ≡ true = ap stands (is j ∙ with_value-same m.status t s j same) ∙ after in
        omega (arith, counts j, was, times_in-own t j same) ∙ ap (λ b. if b then 1 else 0) (sym now)

    others : (j : ℕ) → j ≢ t → StandsByStatus new j
    others j other =
        let now : stands (new.status j) ≡ stands (m.status j) = ap stands (is j ∙ with_value-other m.status t s j other) in
        let less : times_in j new.waiters + times_in j new.sleepers ≡ times_in j m.waiters + times_in j m.sleepers =
        omega (arith, counts j, times_in-not_own t j other) in
        less ∙ right.standing j ∙ ap (λ b. if b then 1 else 0) (sym now)

pub IsFairConsistent-queue : (m : FairState) (t : ℕ) → IsLocked m → m.status t ≡ Idle → IsFairConsistent m
    → IsFairConsistent (after_queue m t)
IsFairConsistent-queue m t locked idle right =
    IsFairConsistent-enters m (after_queue m t) t Queued (λ j. refl) locked (sym (ap holds idle)) (ap stands idle) refl
    (λ j. omega (arith, times_in-append j m.waiters (t ∷ []))) right

pub IsFairConsistent-wait : (m : FairState) (t : ℕ) → m.status t ≡ Holding → IsFairConsistent m
    → IsFairConsistent (after_wait m t)
IsFairConsistent-wait m t holding right =
    IsFairConsistent-enters m (after_wait m t) t Leaving (λ j. refl) (t, ap holds holding) (sym (ap holds holding))
    (ap stands holding) refl (λ j. omega (arith, times_in-append j m.sleepers (t ∷ []))) right

-- nobody holds the mutex, and the first of a list, which leaves it, is handed it
pub IsFairConsistent-handing : (m : FairState) (taken waiters sleepers : List ℕ) → IsUnlocked m
    → ((j : ℕ) → StandsByStatus m j) → length taken ≤ 1 → (taken ≡ [] → waiters ≡ [])
    → ((j : ℕ) → times_in j taken + (times_in j waiters + times_in j sleepers)
    ≡ times_in j m.waiters + times_in j m.sleepers)
    → IsFairConsistent (record m { waiters = waiters; sleepers = sleepers; status = with_handed taken m.status })
IsFairConsistent-handing m [] waiters sleepers unlocked standing few none counts = record {
  one_holder = λ j k holding _. absurd (false≢true (sym (unlocked j) ∙ holding));
  nobody_waits = λ _. none refl;
  standing = λ j.
      let same : times_in j waiters + times_in j sleepers ≡ times_in j m.waiters + times_in j m.sleepers =
      omega (arith, counts j) in
      same ∙ standing j;
}
IsFairConsistent-handing m (t ∷ []) waiters sleepers unlocked standing few none counts = record {
  one_holder = one_holder-from status t (λ j other. ap holds (with_value-other m.status t Handed j other) ∙ unlocked j);
  nobody_waits = λ nobody. absurd (false≢true (sym (nobody t) ∙ ap holds (with_value-same m.status t Handed t refl)));
  standing = λ j. ⊎_elim (own j) (others j) (cases_eq j t);
}
  where
    status : ℕ → FairStatus
    status = with_value m.status t Handed

    new : FairState
    new = record m { waiters = waiters; sleepers = sleepers; status = status }

    at_most_one : (b : Bool) → (if b then 1 else 0) ≤ 1
    at_most_one true = omega arith
    at_most_one false = omega arith

    own : (j : ℕ) → j ≡ t → StandsByStatus new j
    own j same =
        let now : stands (status j) ≡ false = ap stands (with_value-same m.status t Handed j same) in
        let none : times_in j waiters + times_in j sleepers ≡ 0 =
        omega (arith, counts j, standing j, at_most_one (stands (m.status j)), times_in-own t j same) in
        none ∙ ap (λ b. if b then 1 else 0) (sym now)

    others : (j : ℕ) → j ≢ t → StandsByStatus new j
    others j other =
        let now : stands (status j) ≡ stands (m.status j) = ap stands (with_value-other m.status t Handed j other) in
        let less : times_in j waiters + times_in j sleepers ≡ times_in j m.waiters + times_in j m.sleepers =
        omega (arith, counts j, times_in-not_own t j other) in
        less ∙ standing j ∙ ap (λ b. if b then 1 else 0) (sym now)
IsFairConsistent-handing m (_ ∷ (_ ∷ _)) waiters sleepers unlocked standing few none counts = absurd (omega arith)

-- the first of a list and the others
length-first : (xs : List ℕ) → length (take 1 xs) ≤ 1
length-first [] = omega arith
length-first (x ∷ xs) = omega arith

pub times_in-first : (j : ℕ) (xs : List ℕ) → times_in j (take 1 xs) + times_in j (drop 1 xs) ≡ times_in j xs
times_in-first j [] = refl
times_in-first j (x ∷ xs) = sym (times_in-append j (x ∷ []) xs)

rest-none : (xs : List ℕ) → take 1 xs ≡ [] → drop 1 xs ≡ []
rest-none [] none = refl
rest-none (x ∷ xs) none = absurd cc

-- a thread lets the mutex go
pub IsUnlocked-let_go : (m : FairState) (t : ℕ) → IsTrue (keeps_hold (m.status t)) → IsFairConsistent m
    → IsUnlocked (with_status m t (let_go (m.status t)))
IsUnlocked-let_go m t keeps right j =
    ⊎_elim (λ (same : j ≡ t). ap holds (with_value-same m.status t (let_go (m.status t)) j same)
    ∙ holds-let_go (m.status t))
    (λ (other : j ≢ t). ap holds (with_value-other m.status t (let_go (m.status t)) j other)
    ∙ unheld (holds (m.status j)) refl other)
    (cases_eq j t)
  where
    unheld : (b : Bool) → holds (m.status j) ≡ b → j ≢ t → IsFalse (holds (m.status j))
    unheld true holding other = absurd (other (right.one_holder j t holding (holds-keeps_hold (m.status t) keeps)))
    unheld false holding other = holding

pub IsFairConsistent-release : (m : FairState) (t : ℕ) → IsTrue (keeps_hold (m.status t)) → IsFairConsistent m
    → IsFairConsistent (after_release m t)
IsFairConsistent-release m t keeps right =
    IsFairConsistent-handing free (take 1 m.waiters) (drop 1 m.waiters) m.sleepers (IsUnlocked-let_go m t keeps right)
    (λ j. right.standing j ∙ ap (λ b. if b then 1 else 0)
    (sym (test-with_value stands m.status t (let_go (m.status t)) (stands-let_go (m.status t) keeps) j)))
    (length-first m.waiters) (rest-none m.waiters) (λ j. omega (arith, times_in-first j m.waiters))
  where
    free : FairState
    free = with_status m t (let_go (m.status t))

-- a notify
pub IsFairConsistent-notify : (m : FairState) (op : RequeueOp) → FitsNotify m op → IsFairConsistent m
    → IsFairConsistent (after_notify m op)
IsFairConsistent-notify m Abort none right = absurd none
IsFairConsistent-notify m UnparkOneRequeueRest unlocked right =
    IsFairConsistent-handing m (take 1 m.sleepers) (m.waiters ++ drop 1 m.sleepers) [] unlocked right.standing
    (length-first m.sleepers)
    (λ none. let gone = rest-none m.sleepers none in let empty = right.nobody_waits unlocked in rw (gone, empty) refl)
    (λ j. omega (arith, times_in-first j m.sleepers, times_in-append j m.waiters (drop 1 m.sleepers)))
IsFairConsistent-notify m RequeueAll (holder, holding) right =
    IsFairConsistent-alike m (after_notify m RequeueAll) (λ j. refl) (λ j. refl)
    (λ j. omega (arith, times_in-append j m.waiters m.sleepers))
    (λ unlocked. absurd (false≢true (sym (unlocked holder) ∙ holding))) right
IsFairConsistent-notify m UnparkOne unlocked right =
    IsFairConsistent-handing m (take 1 m.sleepers) (m.waiters ++ []) (drop 1 m.sleepers) unlocked right.standing
    (length-first m.sleepers) (λ _. append-nil m.waiters ∙ right.nobody_waits unlocked)
    (λ j. omega (arith, times_in-first j m.sleepers, ap (times_in j) (append-nil m.waiters)))
IsFairConsistent-notify m RequeueOne (holder, holding) right =
    IsFairConsistent-alike m (after_notify m RequeueOne) (λ j. refl) (λ j. refl)
    (λ j. omega (arith, times_in-first j m.sleepers, times_in-append j m.waiters (take 1 m.sleepers)))
    (λ unlocked. absurd (false≢true (sym (unlocked holder) ∙ holding))) right

-- each step
module _ (m new : FairState) (right : IsFairConsistent m) where
  becomes : {left : FairState} → IsFairConsistent left → new ≡ left → IsFairConsistent new
  becomes consistent new_is = subst IsFairConsistent (sym new_is) consistent

  IsRegister-keeps : (given : FairAnswer) → IsRegister m given new → IsFairConsistent new
  IsRegister-keeps (answer.Registered number) (least, new_is) =
      becomes (IsFairConsistent-with_status m number Idle (ap holds (sym least.free)) (ap stands (sym least.free)) right)
      new_is
  IsRegister-keeps answer.Full (_, new_is) = becomes right new_is
  IsRegister-keeps answer.NoMemory (_, new_is) = becomes right new_is
  IsRegister-keeps _ none = absurd none

  IsLock-keeps : (thread : ℕ) (given : FairAnswer) → m.status thread ≡ Idle → IsLock m thread given new
      → IsFairConsistent new
  IsLock-keeps thread answer.Locked idle (unlocked, new_is) =
      becomes (IsFairConsistent-locked m thread unlocked idle right) new_is
  IsLock-keeps thread answer.Queued idle (locked, new_is) =
      becomes (IsFairConsistent-queue m thread locked idle right) new_is
  IsLock-keeps thread _ idle none = absurd none

  IsStep-keeps : (step : FairStep) (given : FairAnswer) → IsFairStep m step given new → IsFairConsistent new
  IsStep-keeps Register given = IsRegister-keeps given
  IsStep-keeps (Retire thread) given =
      MatchBool-either (is_idle (m.status thread))
      (λ idle (_, new_is). let is = Idle-from (m.status thread) idle in
      becomes (IsFairConsistent-with_status m thread Free (ap holds (sym is)) (ap stands (sym is)) right) new_is)
      (λ _ (_, new_is). becomes right new_is)
  IsStep-keeps (Lock thread) given =
      MatchBool-either (is_idle (m.status thread))
      (λ idle. IsLock-keeps thread given (Idle-from (m.status thread) idle))
      (λ _ (_, new_is). becomes right new_is)
  IsStep-keeps (Unlock thread) given =
      MatchBool-either (is_holding (m.status thread))
      (λ holding (_, new_is). becomes (IsFairConsistent-release m thread
      (ap keeps_hold (Holding-from (m.status thread) holding)) right) new_is)
      (λ _ (_, new_is). becomes right new_is)
  IsStep-keeps (Return thread) given =
      MatchBool-either (is_handed (m.status thread))
      (λ handed (_, new_is). let is = Handed-from (m.status thread) handed in
      becomes (IsFairConsistent-with_status m thread Holding (ap holds (sym is)) (ap stands (sym is)) right) new_is)
      (λ _ (_, new_is). becomes right new_is)
  IsStep-keeps (Wait thread) given =
      MatchBool-either (is_holding (m.status thread))
      (λ holding (_, new_is). becomes (IsFairConsistent-wait m thread (Holding-from (m.status thread) holding) right)
      new_is)
      (λ _ (_, new_is). becomes right new_is)
  IsStep-keeps (Leave thread) given =
      MatchBool-either (is_leaving (m.status thread))
      (λ leaving (_, new_is). becomes (IsFairConsistent-release m thread
      (ap keeps_hold (Leaving-from (m.status thread) leaving)) right) new_is)
      (λ _ (_, new_is). becomes right new_is)
  IsStep-keeps NotifyOne given =
      ⊎_elim (λ (unlocked, (_, new_is)). becomes (IsFairConsistent-notify m UnparkOne unlocked right) new_is)
      (λ (locked, (_, new_is)). becomes (IsFairConsistent-notify m RequeueOne locked right) new_is)
  IsStep-keeps NotifyAll given =
      ⊎_elim (λ (unlocked, (_, new_is)). becomes (IsFairConsistent-notify m UnparkOneRequeueRest unlocked right) new_is)
      (λ (locked, (_, new_is)). becomes (IsFairConsistent-notify m RequeueAll locked right) new_is)

pub IsFairConsistent-new : (max_threads : ℕ) → IsFairConsistent (new_fair_state max_threads)
IsFairConsistent-new max_threads = record {
  one_holder = λ j k holding _. absurd (false≢true holding);
  nobody_waits = λ _. refl;
  standing = λ j. refl;
}

pub IsFairConsistent-step : (m : FairState) (step : FairStep) (given : FairAnswer) (new : FairState)
    → IsFairConsistent m → IsFairStep m step given new → IsFairConsistent new
IsFairConsistent-step m step given new right = IsStep-keeps m new right step given
