-- What the steps of a lot do to the state of a core, and who is noted as the holder then.
use Rattle.std.proofs.Common.{◌≡◌, ◌≢◌, ℕ, ◌<◌, Bool, true, false, IsTrue, List, [], ◌∷◌, ◌++◌, length, map, take}
use Rattle.std.proofs.Common.{drop, refl, sym, ap, ◌∙◌, subst, ⊎_elim, arith}
use Rattle.std.proofs.lemmas.Bool.{cases_eq, eq-eqb, ne_eqb, false≢true, eqb-true}
use Rattle.std.proofs.lemmas.List.{length-map, take-map, drop-map, map-append}
use Rattle.lot_base.proofs.ValueLemmas.{with_value-same, with_value-other}
use Rattle.lot_base.specs.Waiting.{with_value, Split, split_first, split_by, result_of, requeue_result, has_any}
use Rattle.lot_base.specs.declared.token.ParkToken.{ParkToken}
use Rattle.lot_base.specs.declared.token.RequeueOp.{RequeueOp}
use Rattle.lot_base.specs.declared.token.RequeueOp.TheVariants.{Abort, UnparkOneRequeueRest, RequeueAll, UnparkOne}
use Rattle.lot_base.specs.declared.token.RequeueOp.TheVariants.{RequeueOne}
use Rattle.lot_base.specs.declared.token.UnparkToken.{UnparkToken}
use Rattle.lot_machine.specs.declared.status.Status.{Status}
use Rattle.lot_machine.specs.declared.status.Status.TheVariants as status
use Rattle.lot_machine.specs.Machine as lot
use Rattle.lot_machine.specs.Machine.{Machine, Waiter, statuses_with_taken, after_unpark, after_requeue}
use Rattle.lot_machine.specs.Machine.{after_enter}
use Rattle.lot_simulator.specs.declared.fair.fair_core.FairStatus.{FairStatus}
use Rattle.lot_simulator.specs.declared.fair.fair_core.FairStatus.TheVariants.{Free, Idle, Holding, Queued, Leaving, Handed}
use Rattle.lot_simulator.specs.declared.fair.fair_core.Holder.{Holder}
use Rattle.lot_simulator.specs.declared.fair.fair_core.Holder.TheVariants as holder
use Rattle.lot_simulator.specs.declared.fair.fair_core.TheConstants.{MUTEX_KEY, CONDVAR_KEY}
use Rattle.lot_simulator.specs.FairMachine.{FairState, IsUnlocked, IsLocked, holds, with_status, with_handed, let_go}
use Rattle.lot_simulator.specs.FairMachine.{after_queue, after_wait, after_notify}
use Rattle.lot_simulator.specs.FairCore.{state_of, fair_status, is_noted, keeps_hold, MatchesHolder}
use Rattle.lot_simulator.proofs.FairMachineLemmas.{holds-keeps_hold, test-with_value}

-- the numbers of waiters
abbrev number_of : Waiter → ℕ
number_of waiter = waiter.number

abbrev numbers : List Waiter → List ℕ
numbers waiters = map number_of waiters

-- two states that agree are one
pub same_state : (m n : FairState) → m.waiters ≡ n.waiters → m.sleepers ≡ n.sleepers
    → ((j : ℕ) → m.status j ≡ n.status j) → m.max_threads ≡ n.max_threads → m ≡ n
same_state m n waiters sleepers status max_threads =
    λ i. record { waiters = waiters i; sleepers = sleepers i; status = λ j. status j i; max_threads = max_threads i }

-- what a status of the core says of one of the lot, and of who is noted
pub free_in_lot : (s : Status) (noted : Bool) → fair_status s noted ≡ Free → s ≡ status.Free
free_in_lot status.Free noted is = refl
free_in_lot status.Running true is = absurd cc
free_in_lot status.Running false is = absurd cc
free_in_lot (status.Waiting timed) true is = absurd cc
free_in_lot (status.Waiting timed) false is = absurd cc
free_in_lot status.Late true is = absurd cc
free_in_lot status.Late false is = absurd cc
free_in_lot (status.Taken token) noted is = absurd cc

pub noted_holding : (s : Status) (noted : Bool) → fair_status s noted ≡ Holding → noted ≡ true
noted_holding status.Free noted is = absurd cc
noted_holding status.Running true is = refl
noted_holding status.Running false is = absurd cc
noted_holding (status.Waiting timed) true is = absurd cc
noted_holding (status.Waiting timed) false is = absurd cc
noted_holding status.Late true is = absurd cc
noted_holding status.Late false is = absurd cc
noted_holding (status.Taken token) noted is = absurd cc

pub noted_leaving : (s : Status) (noted : Bool) → fair_status s noted ≡ Leaving → noted ≡ true
noted_leaving status.Free noted is = absurd cc
noted_leaving status.Running true is = absurd cc
noted_leaving status.Running false is = absurd cc
noted_leaving (status.Waiting timed) true is = refl
noted_leaving (status.Waiting timed) false is = absurd cc
noted_leaving status.Late true is = refl
noted_leaving status.Late false is = absurd cc
noted_leaving (status.Taken token) noted is = absurd cc

pub running_idle : (s : Status) (noted : Bool) → fair_status s noted ≡ Idle → s ≡ status.Running
running_idle status.Free noted is = absurd cc
running_idle status.Running noted is = refl
running_idle (status.Waiting timed) true is = absurd cc
running_idle (status.Waiting timed) false is = absurd cc
running_idle status.Late true is = absurd cc
running_idle status.Late false is = absurd cc
running_idle (status.Taken token) noted is = absurd cc

pub running_holding : (s : Status) (noted : Bool) → fair_status s noted ≡ Holding → s ≡ status.Running
running_holding status.Free noted is = absurd cc
running_holding status.Running noted is = refl
running_holding (status.Waiting timed) true is = absurd cc
running_holding (status.Waiting timed) false is = absurd cc
running_holding status.Late true is = absurd cc
running_holding status.Late false is = absurd cc
running_holding (status.Taken token) noted is = absurd cc

pub fair_status-handed : (s : Status) (noted : Bool) → fair_status s noted ≡ Handed → (other : Bool)
    → fair_status s other ≡ Handed
fair_status-handed status.Free noted is other = absurd cc
fair_status-handed status.Running true is other = absurd cc
fair_status-handed status.Running false is other = absurd cc
fair_status-handed (status.Waiting timed) true is other = absurd cc
fair_status-handed (status.Waiting timed) false is other = absurd cc
fair_status-handed status.Late true is other = absurd cc
fair_status-handed status.Late false is other = absurd cc
fair_status-handed (status.Taken token) noted is other = refl

-- one that was noted and is not any more has let the mutex go
pub fair_status-let_go : (s : Status) → IsTrue (keeps_hold (fair_status s true))
    → fair_status s false ≡ let_go (fair_status s true)
fair_status-let_go status.Free keeps = absurd (false≢true keeps)
fair_status-let_go status.Running keeps = refl
fair_status-let_go (status.Waiting timed) keeps = refl
fair_status-let_go status.Late keeps = refl
fair_status-let_go (status.Taken token) keeps = absurd (false≢true keeps)

-- who is noted
pub is_noted-thread : (thread j : ℕ) → j ≢ thread → is_noted (holder.Thread thread) j ≡ false
is_noted-thread thread j other = ne_eqb thread j (λ same. other (sym same))

pub is_noted-own : (thread : ℕ) → is_noted (holder.Thread thread) thread ≡ true
is_noted-own thread = eq-eqb thread thread refl

-- who is noted keeps the mutex, and where nobody holds it, nobody is
pub is_noted-keeps : (m : FairState) (noted : Holder) (j : ℕ) → MatchesHolder m noted → is_noted noted j ≡ true
    → IsTrue (keeps_hold (m.status j))
is_noted-keeps m holder.Nobody j matches is = absurd (false≢true is)
is_noted-keeps m holder.Taken j matches is = absurd (false≢true is)
is_noted-keeps m (holder.Thread thread) j matches is =
    subst (λ k. IsTrue (keeps_hold (m.status k))) (eqb-true thread j is) matches

pub is_noted-not : (m : FairState) (noted : Holder) (j : ℕ) → MatchesHolder m noted
    → keeps_hold (m.status j) ≡ false → is_noted noted j ≡ false
is_noted-not m noted j matches lets = unless (is_noted noted j) refl
  where
    unless : (b : Bool) → is_noted noted j ≡ b → is_noted noted j ≡ false
    unless true is = absurd (false≢true (sym lets ∙ is_noted-keeps m noted j matches is))
    unless false is = is

keeps_hold-unheld : (s : FairStatus) → holds s ≡ false → keeps_hold s ≡ false
keeps_hold-unheld Free none = refl
keeps_hold-unheld Idle none = refl
keeps_hold-unheld Queued none = refl
keeps_hold-unheld Holding none = absurd (false≢true (sym none))
keeps_hold-unheld Leaving none = absurd (false≢true (sym none))
keeps_hold-unheld Handed none = refl

pub is_noted-unlocked : (m : FairState) (noted : Holder) (j : ℕ) → MatchesHolder m noted → IsUnlocked m
    → is_noted noted j ≡ false
is_noted-unlocked m noted j matches unlocked =
    is_noted-not m noted j matches (keeps_hold-unheld (m.status j) (unlocked j))

-- who is noted says whether somebody holds the mutex
pub IsLocked-unless : (m : FairState) (noted : Holder) → MatchesHolder m noted → noted ≢ holder.Nobody → IsLocked m
IsLocked-unless m holder.Nobody matches some = absurd (some refl)
IsLocked-unless m holder.Taken (number, handed) some = (number, ap holds handed)
IsLocked-unless m (holder.Thread thread) matches some = (thread, holds-keeps_hold (m.status thread) matches)

pub Nobody-unlocked : (m : FairState) (noted : Holder) → MatchesHolder m noted → IsUnlocked m → noted ≡ holder.Nobody
Nobody-unlocked m holder.Nobody matches unlocked = refl
Nobody-unlocked m holder.Taken (number, handed) unlocked =
    absurd (false≢true (sym (unlocked number) ∙ ap holds handed))
Nobody-unlocked m (holder.Thread thread) matches unlocked =
    absurd (false≢true (sym (unlocked thread) ∙ holds-keeps_hold (m.status thread) matches))

-- another status in the lot
pub state_of-with_status : (m : Machine) (noted : Holder) (t : ℕ) (s : Status)
    → state_of (lot.with_status m t s) noted ≡ with_status (state_of m noted) t (fair_status s (is_noted noted t))
state_of-with_status m noted t s = same_state _ _ refl refl statuses refl
  where
    statuses : (j : ℕ) → fair_status (with_value m.status t s j) (is_noted noted j)
        ≡ with_value (state_of m noted).status t (fair_status s (is_noted noted t)) j
    statuses j =
        ⊎_elim (λ (same : j ≡ t). ap (λ k. fair_status k (is_noted noted j)) (with_value-same m.status t s j same)
        ∙ ap (λ k. fair_status s (is_noted noted k)) same
        ∙ sym (with_value-same (state_of m noted).status t (fair_status s (is_noted noted t)) j same))
        (λ (other : j ≢ t). ap (λ k. fair_status k (is_noted noted j)) (with_value-other m.status t s j other)
        ∙ sym (with_value-other (state_of m noted).status t (fair_status s (is_noted noted t)) j other))
        (cases_eq j t)

-- another holder
pub state_of-noted : (m : Machine) (noted new : Holder) (t : ℕ)
    → ((j : ℕ) → j ≢ t → is_noted new j ≡ is_noted noted j)
    → state_of m new ≡ with_status (state_of m noted) t (fair_status (m.status t) (is_noted new t))
state_of-noted m noted new t others = same_state _ _ refl refl statuses refl
  where
    now : FairStatus
    now = fair_status (m.status t) (is_noted new t)

    statuses : (j : ℕ) → fair_status (m.status j) (is_noted new j) ≡ with_value (state_of m noted).status t now j
    statuses j =
        ⊎_elim (λ (same : j ≡ t). ap (λ k. fair_status (m.status k) (is_noted new k)) same
        ∙ sym (with_value-same (state_of m noted).status t now j same))
        (λ (other : j ≢ t). ap (fair_status (m.status j)) (others j other)
        ∙ sym (with_value-other (state_of m noted).status t now j other))
        (cases_eq j t)

pub state_of-alike : (m : Machine) (noted new : Holder) → ((j : ℕ) → is_noted new j ≡ is_noted noted j)
    → state_of m new ≡ state_of m noted
state_of-alike m noted new alike = same_state _ _ refl refl (λ j. ap (fair_status (m.status j)) (alike j)) refl

-- threads that a lot takes are handed the mutex
statuses-taken : (token : UnparkToken) (noted : ℕ → Bool) (status : ℕ → Status) (waiters : List Waiter) (j : ℕ)
    → fair_status (statuses_with_taken token waiters status j) (noted j)
    ≡ with_handed (numbers waiters) (λ k. fair_status (status k) (noted k)) j
statuses-taken token noted status [] j = refl
statuses-taken token noted status (waiter ∷ waiters) j =
    ⊎_elim (λ (same : j ≡ waiter.number). own same ∙ sym (with_value-same others waiter.number Handed j same))
    (λ (other : j ≢ waiter.number). not_own other ∙ statuses-taken token noted status waiters j
    ∙ sym (with_value-other others waiter.number Handed j other))
    (cases_eq j waiter.number)
  where
    others : ℕ → FairStatus
    others = with_handed (numbers waiters) (λ k. fair_status (status k) (noted k))

    own : j ≡ waiter.number → fair_status (statuses_with_taken token (waiter ∷ waiters) status j) (noted j) ≡ Handed
    own same = let e = eq-eqb waiter.number j (sym same) in rw e refl

    not_own : j ≢ waiter.number → fair_status (statuses_with_taken token (waiter ∷ waiters) status j) (noted j)
        ≡ fair_status (statuses_with_taken token waiters status j) (noted j)
    not_own other = let e = ne_eqb waiter.number j (λ same. other (sym same)) in rw e refl

-- the numbers of a split
abbrev number_split : Split Waiter → Split ℕ
number_split split = record { taken = numbers split.taken; moved = numbers split.moved; left = numbers split.left }

split_by-numbers : (op : RequeueOp) (waiters : List Waiter)
    → number_split (split_by op waiters) ≡ split_by op (numbers waiters)
split_by-numbers Abort waiters = refl
split_by-numbers UnparkOneRequeueRest waiters =
    λ i. record { taken = sym (take-map number_of 1 waiters) i; moved = sym (drop-map number_of 1 waiters) i; left = [] }
split_by-numbers RequeueAll waiters = refl
split_by-numbers UnparkOne waiters =
    λ i. record { taken = sym (take-map number_of 1 waiters) i; moved = []; left = sym (drop-map number_of 1 waiters) i }
split_by-numbers RequeueOne waiters =
    λ i. record { taken = []; moved = sym (take-map number_of 1 waiters) i; left = sym (drop-map number_of 1 waiters) i }

pub has_any-numbers : (waiters : List Waiter) → has_any (numbers waiters) ≡ has_any waiters
has_any-numbers [] = refl
has_any-numbers (waiter ∷ waiters) = refl

result_of-numbers : (split : Split Waiter) → result_of (number_split split) ≡ result_of split
result_of-numbers split = λ i. record {
  unparked_threads = length-map split.taken number_of i;
  requeued_threads = length-map split.moved number_of i;
  have_more_threads = has_any-numbers split.left i;
}

requeue_result-split : (op : RequeueOp) (split : Split Waiter)
    → requeue_result op (number_split split) ≡ requeue_result op split
requeue_result-split Abort split = refl
requeue_result-split UnparkOneRequeueRest split = result_of-numbers split
requeue_result-split RequeueAll split = result_of-numbers split
requeue_result-split UnparkOne split = result_of-numbers split
requeue_result-split RequeueOne split = result_of-numbers split

pub requeue_result-numbers : (op : RequeueOp) (waiters : List Waiter)
    → requeue_result op (split_by op waiters) ≡ requeue_result op (split_by op (numbers waiters))
requeue_result-numbers op waiters =
    sym (requeue_result-split op (split_by op waiters)) ∙ ap (requeue_result op) (split_by-numbers op waiters)

-- an unpark of the first waiter
pub state_of-after_unpark : (m : Machine) (noted : Holder) (token : UnparkToken)
    → state_of (after_unpark m MUTEX_KEY (split_first (m.lists MUTEX_KEY)) token) noted
    ≡ record (state_of m noted) {
      waiters = drop 1 (state_of m noted).waiters;
      status = with_handed (take 1 (state_of m noted).waiters) (state_of m noted).status;
    }
state_of-after_unpark m noted token =
    same_state _ _ (sym (drop-map number_of 1 (m.lists MUTEX_KEY))) refl
    (λ j. statuses-taken token (is_noted noted) m.status (take 1 (m.lists MUTEX_KEY)) j
    ∙ ap (λ taken. with_handed taken (state_of m noted).status j) (sym (take-map number_of 1 (m.lists MUTEX_KEY)))) refl

-- a requeue from the condition variable to the mutex
pub state_of-after_requeue : (m : Machine) (noted : Holder) (op : RequeueOp) (token : UnparkToken)
    → state_of (after_requeue m CONDVAR_KEY MUTEX_KEY (split_by op (m.lists CONDVAR_KEY)) token) noted
    ≡ after_notify (state_of m noted) op
state_of-after_requeue m noted op token =
    same_state _ _ (map-append number_of (m.lists MUTEX_KEY) (split_by op (m.lists CONDVAR_KEY)).moved) refl
    (statuses-taken token (is_noted noted) m.status (split_by op (m.lists CONDVAR_KEY)).taken) refl
    ∙ ap notified (split_by-numbers op (m.lists CONDVAR_KEY))
  where
    notified : Split ℕ → FairState
    notified split =
        let old : FairState = state_of m noted in
        record old {
          waiters = old.waiters ++ split.moved;
          sleepers = split.left;
          status = with_handed split.taken old.status;
        }

-- an entry
pub state_of-enter_mutex : (m : Machine) (noted : Holder) (t : ℕ) (token : ParkToken) → is_noted noted t ≡ false
    → state_of (after_enter m t MUTEX_KEY token false) noted ≡ after_queue (state_of m noted) t
state_of-enter_mutex m noted t token not =
    same_state _ _ (map-append number_of (m.lists MUTEX_KEY) _) refl
    (λ j. ap (λ (state : FairState). state.status j) (state_of-with_status m noted t (status.Waiting false))
    ∙ ap (λ b. with_value (state_of m noted).status t (fair_status (status.Waiting false) b) j) not) refl

pub state_of-enter_condvar : (m : Machine) (noted : Holder) (t : ℕ) (token : ParkToken) → is_noted noted t ≡ true
    → state_of (after_enter m t CONDVAR_KEY token false) noted ≡ after_wait (state_of m noted) t
state_of-enter_condvar m noted t token is =
    same_state _ _ refl (map-append number_of (m.lists CONDVAR_KEY) _)
    (λ j. ap (λ (state : FairState). state.status j) (state_of-with_status m noted t (status.Waiting false))
    ∙ ap (λ b. with_value (state_of m noted).status t (fair_status (status.Waiting false) b) j) is) refl

-- a thread has another status, by which it holds the mutex as before
pub MatchesHolder-with_status : (m : FairState) (noted : Holder) (t : ℕ) (s : FairStatus)
    → holds s ≡ holds (m.status t) → m.status t ≢ Handed
    → (IsTrue (keeps_hold (m.status t)) → IsTrue (keeps_hold s)) → MatchesHolder m noted
    → MatchesHolder (with_status m t s) noted
MatchesHolder-with_status m holder.Nobody t s held other keeps unlocked =
    λ j. test-with_value holds m.status t s held j ∙ unlocked j
MatchesHolder-with_status m holder.Taken t s held other keeps (number, handed) =
    (number, with_value-other m.status t s number (λ same. other (ap m.status (sym same) ∙ handed)) ∙ handed)
MatchesHolder-with_status m (holder.Thread thread) t s held other keeps matches =
    ⊎_elim (λ (same : thread ≡ t). ap keeps_hold (with_value-same m.status t s thread same)
    ∙ keeps (subst (λ k. IsTrue (keeps_hold (m.status k))) same matches))
    (λ (apart : thread ≢ t). ap keeps_hold (with_value-other m.status t s thread apart) ∙ matches)
    (cases_eq thread t)

-- the first of those who are handed the mutex
pub handed_first : (taken : List ℕ) (status : ℕ → FairStatus) → 0 < length taken
    → (number : ℕ) × (with_handed taken status number ≡ Handed)
handed_first [] status some = absurd (omega arith)
handed_first (thread ∷ threads) status some =
    (thread, with_value-same (with_handed threads status) thread Handed thread refl)

pub handed_none : (taken : List ℕ) (status : ℕ → FairStatus) → length taken ≡ 0 → with_handed taken status ≡ status
handed_none [] status none = refl
handed_none (thread ∷ threads) status none = absurd (omega arith)

-- somebody is noted where somebody holds the mutex
pub Locked-somebody : (m : FairState) (noted : Holder) → MatchesHolder m noted → IsLocked m → noted ≢ holder.Nobody
Locked-somebody m noted matches (number, holding) nobody =
    false≢true (sym (subst (MatchesHolder m) nobody matches number) ∙ holding)
