-- Each step keeps a machine consistent.
use Rattle.std.proofs.Common.{◌≡◌, ◌≢◌, ℕ, ◌<◌, ◌==◌, Bool, true, false, MatchBool, if◌then◌else◌, [], refl, sym, ap}
use Rattle.std.proofs.Common.{◌∙◌, subst, inl}
use Rattle.std.proofs.lemmas.Bool.{eq-eqb, ne_eqb, cond-true, cond-false, false≢true}
use Rattle.std.proofs.lemmas.List.Elements.{All-nil}
use Rattle.lot_base.proofs.FilterLemmas.{split_filter-moves_nobody}
use Rattle.lot_base.proofs.ValueLemmas.{with_value-same, with_value-other}
use Rattle.lot_base.specs.Waiting.{with_value, split_first, split_all, split_filter, split_by, Split}
use Rattle.lot_base.specs.declared.token.ParkToken.{ParkToken}
use Rattle.lot_base.specs.declared.token.UnparkToken.{UnparkToken}
use Rattle.lot_machine.specs.declared.status.Status.{Status}
use Rattle.lot_machine.specs.declared.status.Status.TheVariants as status
use Rattle.lot_machine.specs.declared.step.Answer.{Answer}
use Rattle.lot_machine.specs.declared.step.Answer.TheVariants as answer
use Rattle.lot_machine.specs.declared.step.Op.{Op}
use Rattle.lot_machine.specs.declared.step.Op.TheVariants.{One, All, Filter, Requeue}
use Rattle.lot_machine.specs.declared.step.Step.{Step}
use Rattle.lot_machine.specs.declared.step.Step.TheVariants.{Register, Retire, Enter, Unpark, Deadline}
use Rattle.lot_machine.specs.declared.step.Step.TheVariants.{Resolve, Return, Acquire, Release, Trim}
use Rattle.lot_machine.specs.Records.{one_more, one_less}
use Rattle.lot_machine.specs.Status.{is_registered, is_running, is_queued, is_timed, is_taken, awaits_deadline}
use Rattle.lot_machine.specs.Machine.{Machine, Waiter, StandsAt, MatchesStatus, IsConsistent, times_in}
use Rattle.lot_machine.specs.Machine.{with_status, with_records, after_retire, after_enter, after_unpark}
use Rattle.lot_machine.specs.Machine.{after_requeue, after_timeout}
use Rattle.lot_machine.specs.Steps.{IsRegister, IsUnpark, IsReturn, IsResolve, IsAcquire, IsTrim, IsStep}
use Rattle.lot_machine.specs.Laws.{NewMachinesAreConsistent, StepsKeepConsistency}
use Rattle.lot_machine.proofs.SplitLemmas.{AreParts, AreParts-first, AreParts-all, AreParts-filter, AreParts-by}
use Rattle.lot_machine.proofs.MachineLemmas.{MatchesStatus-with_status, MatchesStatus-with_records}
use Rattle.lot_machine.proofs.MachineLemmas.{MatchesStatus-with_thread, MatchesStatus-after_enter}
use Rattle.lot_machine.proofs.MachineLemmas.{MatchesStatus-after_requeue, MatchesStatus-after_unpark}
use Rattle.lot_machine.proofs.MachineLemmas.{MatchesStatus-after_timeout, below_max_threads}

-- a fact that a test chooses, in each case
pub MatchBool-either : (b : Bool) {P Q R : Type 0} → (b ≡ true → P → R) → (b ≡ false → Q → R) → MatchBool b P Q → R
MatchBool-either true f g p = f refl p
MatchBool-either false f g q = g refl q

-- the status of a thread that runs, and of one whose deadline may pass
pub Running-from : (s : Status) → is_running s ≡ true → s ≡ status.Running
Running-from status.Running is = refl
Running-from status.Free is = absurd (false≢true is)
Running-from (status.Waiting timed) is = absurd (false≢true is)
Running-from status.Late is = absurd (false≢true is)
Running-from (status.Taken token) is = absurd (false≢true is)

pub Waiting-from : (s : Status) → awaits_deadline s ≡ true → s ≡ status.Waiting true
Waiting-from (status.Waiting timed) is = ap status.Waiting is
Waiting-from status.Free is = absurd (false≢true is)
Waiting-from status.Running is = absurd (false≢true is)
Waiting-from status.Late is = absurd (false≢true is)
Waiting-from (status.Taken token) is = absurd (false≢true is)

-- a trim leaves the machine
pub IsTrim-unchanged : (m : Machine) (given : Answer) (new : Machine) → IsTrim m given new → new ≡ m
IsTrim-unchanged m answer.Trimmed new same = same
IsTrim-unchanged m answer.NoMemory new same = same
IsTrim-unchanged m _ new none = absurd none

-- who was taken stands in no list
pub is_queued-taken : (st : Status) → is_taken st ≡ true → is_queued st ≡ false
is_queued-taken (status.Taken token) taken = refl
is_queued-taken status.Free taken = absurd (false≢true taken)
is_queued-taken status.Running taken = absurd (false≢true taken)
is_queued-taken (status.Waiting timed) taken = absurd (false≢true taken)
is_queued-taken status.Late taken = absurd (false≢true taken)

module _ (m : Machine) (keys : ℕ → ℕ) (right : MatchesStatus keys m) where
  -- where these rules lead, lists and statuses agree
  with_status-keeps : (number : ℕ) (s : Status) → number < m.max_threads → is_queued s ≡ is_queued (m.status number)
      → is_timed s ≡ is_timed (m.status number) → s ≢ status.Free → IsConsistent (with_status m number s)
  with_status-keeps number s below queued timed registered =
      (keys, MatchesStatus-with_status keys m number s below queued timed registered right)

  -- so it is where a registered thread goes from one status to another, with which it is registered
  registered-keeps : (number : ℕ) (was s : Status) → m.status number ≡ was → is_registered was ≡ true
      → is_queued s ≡ is_queued was → is_timed s ≡ is_timed was → s ≢ status.Free
      → IsConsistent (with_status m number s)
  registered-keeps number was s is registered queued timed still =
      with_status-keeps number s
      (below_max_threads keys m number right (λ free. false≢true (ap is_registered (sym (sym is ∙ free)) ∙ registered)))
      (queued ∙ ap is_queued (sym is)) (timed ∙ ap is_timed (sym is)) still

  -- a running thread retires, or has other records
  after_retire-keeps : (number : ℕ) → m.status number ≡ status.Running → IsConsistent (after_retire m number)
  after_retire-keeps number running = (
    keys,
    MatchesStatus-with_thread keys keys m number status.Free (λ _. 0)
        (below_max_threads keys m number right
        (λ free. false≢true (ap is_registered (sym (sym running ∙ free)))))
        (ap is_queued (sym running)) (ap is_timed (sym running)) (λ j other. refl) (inl refl) (λ _ key. refl) right,
  )

  with_records-keeps : (number : ℕ) (records : ℕ → ℕ) → m.status number ≡ status.Running
      → IsConsistent (with_records m number records)
  with_records-keeps number records running =
      (keys, MatchesStatus-with_records keys m number records running right)

  after_enter-keeps : (number key : ℕ) (park_token : ParkToken) (timed : Bool) → m.status number ≡ status.Running
      → IsConsistent (after_enter m number key park_token timed)
  after_enter-keeps number key park_token timed running = (
    with_value keys number key,
    MatchesStatus-after_enter keys (with_value keys number key) m number key park_token timed running
        (with_value-other keys number key) (with_value-same keys number key number refl) right,
  )

  after_requeue-keeps : (from to : ℕ) (split : Split Waiter) (token : UnparkToken) → AreParts split (m.lists from)
      → IsConsistent (after_requeue m from to split token)
  after_requeue-keeps from to split token parts = (
    after,
    MatchesStatus-after_requeue keys after m from to split token parts
        (λ j none. cond-true (times_in j split.moved == 0) (keys j) to (eq-eqb (times_in j split.moved) 0 none))
        (λ j some. cond-false (times_in j split.moved == 0) (keys j) to (ne_eqb (times_in j split.moved) 0 some)) right,
  )
    where
      after : ℕ → ℕ
      after j = if times_in j split.moved == 0 then keys j else to

  after_unpark-keeps : (key : ℕ) (split : Split Waiter) (token : UnparkToken) → split.moved ≡ []
      → AreParts split (m.lists key) → IsConsistent (after_unpark m key split token)
  after_unpark-keeps key split token none parts =
      (keys, MatchesStatus-after_unpark keys m key split token none parts right)

  after_timeout-keeps : (number key : ℕ) → m.status number ≡ status.Late → StandsAt m number key
      → IsConsistent (after_timeout m number key)
  after_timeout-keeps number key late stands =
      (keys, MatchesStatus-after_timeout keys keys m number key (ap is_queued late) stands (λ j other. refl) right)

  module _ (given : Answer) (new : Machine) where
    -- so it does where a step leads to what such a rule says
    becomes : {left : Machine} → IsConsistent left → new ≡ left → IsConsistent new
    becomes consistent new_is = subst IsConsistent (sym new_is) consistent

    unchanged : new ≡ m → IsConsistent new
    unchanged = becomes (keys, right)

    IsUnpark-keeps : (op : Op) → IsUnpark m op given new → IsConsistent new
    IsUnpark-keeps (One key token) (_, new_is) =
        becomes (after_unpark-keeps key (split_first (m.lists key)) token refl (AreParts-first (m.lists key))) new_is
    IsUnpark-keeps (All key token) (_, new_is) =
        becomes (after_unpark-keeps key (split_all (m.lists key)) token refl (AreParts-all (m.lists key))) new_is
    IsUnpark-keeps (Filter key decisions token) (_, new_is) =
        becomes (after_unpark-keeps key (split_filter decisions.items (m.lists key)) token
        (split_filter-moves_nobody decisions.items (m.lists key))
        (AreParts-filter decisions.items (m.lists key))) new_is
    IsUnpark-keeps (Requeue from to op token) (_, new_is) =
        becomes (after_requeue-keeps from to (split_by op (m.lists from)) token (AreParts-by op (m.lists from))) new_is

    IsReturn-keeps : (thread : ℕ) (s : Status) → m.status thread ≡ s → IsReturn m thread s given new → IsConsistent new
    IsReturn-keeps thread (status.Taken token) is (_, new_is) =
        becomes (registered-keeps thread (status.Taken token) status.Running is refl refl refl (λ same. cc)) new_is
    IsReturn-keeps thread _ is (_, new_is) = unchanged new_is

    IsResolve-keeps : (thread : ℕ) (s : Status) → m.status thread ≡ s → IsResolve m thread s given new
        → IsConsistent new
    IsResolve-keeps thread status.Late is =
        λ (key, stands, (_, new_is)). becomes (after_timeout-keeps thread key is stands) new_is
    IsResolve-keeps thread s is = IsReturn-keeps thread s is

    IsRegister-keeps : (given : Answer) → IsRegister m given new → IsConsistent new
    IsRegister-keeps (answer.Registered number) (least, new_is) =
        becomes (with_status-keeps number status.Running least.below (ap is_queued (sym least.free))
        (ap is_timed (sym least.free)) (λ same. cc)) new_is
    IsRegister-keeps answer.Full (_, new_is) = unchanged new_is
    IsRegister-keeps answer.NoMemory (_, new_is) = unchanged new_is
    IsRegister-keeps _ none = absurd none

    IsAcquire-keeps : (thread key : ℕ) (given : Answer) → m.status thread ≡ status.Running
        → IsAcquire m thread key given new → IsConsistent new
    IsAcquire-keeps thread key answer.Recorded runs new_is =
        becomes (with_records-keeps thread (one_more (m.records thread) key) runs) new_is
    IsAcquire-keeps thread key answer.NoMemory runs new_is = unchanged new_is
    IsAcquire-keeps thread key _ runs none = absurd none

    IsStep-keep : (step : Step) → IsStep m step given new → IsConsistent new
    IsStep-keep Register = IsRegister-keeps given
    IsStep-keep (Retire thread) =
        MatchBool-either (is_running (m.status thread))
        (λ runs (_, new_is). becomes (after_retire-keeps thread (Running-from (m.status thread) runs)) new_is)
        (λ _ (_, new_is). unchanged new_is)
    IsStep-keep (Enter thread key valid park_token timed) =
        MatchBool-either (is_running (m.status thread))
        (λ runs. MatchBool-either valid
        (λ _ (_, new_is). becomes (after_enter-keeps thread key park_token timed (Running-from (m.status thread) runs))
        new_is) (λ _ (_, new_is). unchanged new_is))
        (λ _ (_, new_is). unchanged new_is)
    IsStep-keep (Unpark op) = IsUnpark-keeps op
    IsStep-keep (Deadline thread) =
        MatchBool-either (awaits_deadline (m.status thread))
        (λ timed (_, new_is). becomes
        (registered-keeps thread (status.Waiting true) status.Late
        (Waiting-from (m.status thread) timed) refl refl refl (λ same. cc)) new_is)
        (λ _ (_, new_is). unchanged new_is)
    IsStep-keep (Resolve thread) = IsResolve-keeps thread (m.status thread) refl
    IsStep-keep (Return thread) = IsReturn-keeps thread (m.status thread) refl
    IsStep-keep (Acquire thread key) =
        MatchBool-either (is_running (m.status thread))
        (λ runs. IsAcquire-keeps thread key given (Running-from (m.status thread) runs))
        (λ _ (_, new_is). unchanged new_is)
    IsStep-keep (Release thread key) =
        MatchBool-either (is_running (m.status thread))
        (λ runs (_, new_is). becomes
        (with_records-keeps thread (one_less (m.records thread) key) (Running-from (m.status thread) runs)) new_is)
        (λ _ (_, new_is). unchanged new_is)
    IsStep-keep Trim = λ trimmed. unchanged (IsTrim-unchanged m given new trimmed)

pub IsConsistent-new : NewMachinesAreConsistent
IsConsistent-new max_threads = (
  λ _. 0,
  record {
    standing = λ _ _. refl;
    timing = λ _. All-nil _;
    others_free = λ _ _. refl;
    free_of_records = λ _ _ _. refl;
  },
)

pub IsConsistent-step : StepsKeepConsistency
IsConsistent-step m step given new (keys, right) = IsStep-keep m keys right given new step
