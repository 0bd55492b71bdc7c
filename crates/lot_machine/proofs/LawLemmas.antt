-- The laws of `specs/Laws`.
use Rattle.std.proofs.Common.{◌≡◌, ◌≢◌, ℕ, ◌==◌, Bool, true, false, MatchBool, [], ◌∷◌, refl, sym, ap, ◌∙◌, subst}
use Rattle.std.proofs.Common.{◌+◌, ◌-◌, ⊎_elim, arith}
use Rattle.std.proofs.lemmas.Bool.{cases_eq, eqb-true, eqb-false, false≢true, MatchBool-at_true}
use Rattle.lot_base.specs.Waiting.{with_value, split_first, split_all, split_filter, split_by, Split}
use Rattle.lot_base.specs.declared.token.UnparkToken.{UnparkToken}
use Rattle.lot_machine.specs.declared.status.Status.{Status}
use Rattle.lot_machine.specs.declared.status.Status.TheVariants as status
use Rattle.lot_machine.specs.declared.step.Answer.{Answer}
use Rattle.lot_machine.specs.declared.step.Answer.TheVariants as answer
use Rattle.lot_machine.specs.declared.step.Op.{Op}
use Rattle.lot_machine.specs.declared.step.Op.TheVariants.{One, All, Filter, Requeue}
use Rattle.lot_machine.specs.declared.step.Step.{Step}
use Rattle.lot_machine.specs.declared.step.Step.TheVariants.{Register, Retire, Enter, Unpark, Deadline}
use Rattle.lot_machine.specs.declared.step.Step.TheVariants.{Resolve, Return, Acquire, Release, Trim}
use Rattle.lot_machine.specs.Status.{is_queued}
use Rattle.lot_machine.specs.Machine.{Machine, Waiter, IsConsistent, times_in, statuses_with_taken, after_timeout}
use Rattle.lot_machine.specs.Machine.{after_acquire, after_release}
use Rattle.lot_machine.specs.Records.{one_more, one_less}
use Rattle.lot_machine.specs.Status.{is_running, awaits_deadline, is_parked}
use Rattle.lot_machine.specs.Steps.{Gives, IsRegister, IsUnpark, IsReturn, IsResolve, IsAcquire, IsStep}
use Rattle.lot_machine.specs.Steps.{parks, ends_park}
use Rattle.lot_machine.specs.Run.{IsRun, OutcomesAlternate}
use Rattle.lot_machine.specs.Laws.{StepAndAnswerFixTheState, AnswersFixTheRun, ParksAndOutcomesAlternate}
use Rattle.lot_machine.specs.Laws.{ReleaseUndoesAcquire}
use Rattle.lot_base.proofs.ValueLemmas.{with_value-same, with_value-other}
use Rattle.lot_machine.proofs.StandingLemmas.{same_machine, is_queued-standing, MatchBool-from}
use Rattle.lot_machine.proofs.WaiterLemmas.{statuses_with_taken-other, statuses_with_taken-among}
use Rattle.lot_machine.proofs.SplitLemmas.{AreParts, AreParts-first, AreParts-all, AreParts-filter, AreParts-by}
use Rattle.lot_machine.proofs.StepLemmas.{MatchBool-either, Running-from, Waiting-from, IsConsistent-step}
use Rattle.lot_machine.proofs.StepLemmas.{IsTrim-unchanged}

-- of two facts that one test chooses, both are of one case
pub MatchBool-both : (b : Bool) {P Q P' Q' R : Type 0} → (P → P' → R) → (Q → Q' → R) → MatchBool b P Q
    → MatchBool b P' Q' → R
MatchBool-both true f g p p' = f p p'
MatchBool-both false f g q q' = g q q'

-- the key that a park which timed out waited on
abbrev key_of : Answer → ℕ
key_of (answer.TimedOut key last) = key
key_of _ = 0

-- two machines that the same answer leaves
Gives-fixes : {m new other : Machine} {expected given : Answer} → Gives m expected given new
    → Gives m expected given other → new ≡ other
Gives-fixes (_, new_is) (_, other_is) = new_is ∙ sym other_is

IsRegister-fixes : (m : Machine) (given : Answer) (new other : Machine) → IsRegister m given new
    → IsRegister m given other → new ≡ other
IsRegister-fixes m (answer.Registered number) new other (_, new_is) (_, other_is) = new_is ∙ sym other_is
IsRegister-fixes m answer.Full new other (_, new_is) (_, other_is) = new_is ∙ sym other_is
IsRegister-fixes m answer.NoMemory new other (_, new_is) (_, other_is) = new_is ∙ sym other_is
IsRegister-fixes m _ new other none _ = absurd none

IsAcquire-fixes : (m : Machine) (thread key : ℕ) (given : Answer) (new other : Machine)
    → IsAcquire m thread key given new → IsAcquire m thread key given other → new ≡ other
IsAcquire-fixes m thread key answer.Recorded new other new_is other_is = new_is ∙ sym other_is
IsAcquire-fixes m thread key answer.NoMemory new other new_is other_is = new_is ∙ sym other_is
IsAcquire-fixes m thread key _ new other none _ = absurd none

module _ (m : Machine) (given : Answer) (new other : Machine) where
  IsUnpark-fixes : (op : Op) → IsUnpark m op given new → IsUnpark m op given other → new ≡ other
  IsUnpark-fixes (One key token) = Gives-fixes
  IsUnpark-fixes (All key token) = Gives-fixes
  IsUnpark-fixes (Filter key decisions token) = Gives-fixes
  IsUnpark-fixes (Requeue from to op token) = Gives-fixes

  IsReturn-fixes : (thread : ℕ) (s : Status) → IsReturn m thread s given new → IsReturn m thread s given other
      → new ≡ other
  IsReturn-fixes thread (status.Taken token) = Gives-fixes
  IsReturn-fixes thread _ = Gives-fixes

  -- a late thread leaves the list of the key that the answer tells
  IsResolve-fixes : (thread : ℕ) (s : Status) → IsResolve m thread s given new → IsResolve m thread s given other
      → new ≡ other
  IsResolve-fixes thread status.Late = λ (key, _, (answers, new_is)) (other_key, _, (other_answers, other_is)).
      let same : key ≡ other_key = ap key_of (sym answers ∙ other_answers) in
      new_is ∙ ap (after_timeout m thread) same ∙ sym other_is
  IsResolve-fixes thread s = IsReturn-fixes thread s

  IsStep-fix : (step : Step) → IsStep m step given new → IsStep m step given other → new ≡ other
  IsStep-fix Register = IsRegister-fixes m given new other
  IsStep-fix (Retire thread) = MatchBool-both (is_running (m.status thread)) Gives-fixes Gives-fixes
  IsStep-fix (Enter thread key valid park_token timed) =
      MatchBool-both (is_running (m.status thread)) (MatchBool-both valid Gives-fixes Gives-fixes) Gives-fixes
  IsStep-fix (Unpark op) = IsUnpark-fixes op
  IsStep-fix (Deadline thread) = MatchBool-both (awaits_deadline (m.status thread)) Gives-fixes Gives-fixes
  IsStep-fix (Resolve thread) = IsResolve-fixes thread (m.status thread)
  IsStep-fix (Return thread) = IsReturn-fixes thread (m.status thread)
  IsStep-fix (Acquire thread key) =
      MatchBool-both (is_running (m.status thread)) (IsAcquire-fixes m thread key given new other) Gives-fixes
  IsStep-fix (Release thread key) = MatchBool-both (is_running (m.status thread)) Gives-fixes Gives-fixes
  IsStep-fix Trim = λ is other_is. IsTrim-unchanged m given new is ∙ sym (IsTrim-unchanged m given other other_is)

pub IsStep-fixes : StepAndAnswerFixTheState
IsStep-fixes m step given new other = IsStep-fix m given new other step

pub IsRun-fixes : AnswersFixTheRun
IsRun-fixes m [] [] last other same other_same = sym same ∙ other_same
IsRun-fixes m [] (_ ∷ _) last other none _ = absurd none
IsRun-fixes m (_ ∷ _) [] last other none _ = absurd none
IsRun-fixes m (step ∷ steps) (given ∷ answers) last other (next, does, ran) (other_next, other_does, other_ran) =
    let same : next ≡ other_next = IsStep-fixes m step given next other_next does other_does in
    IsRun-fixes other_next steps answers last other (subst (λ n. IsRun IsStep n steps answers last) same ran) other_ran

-- one more of a key, and then one less
one_less-one_more : (times : ℕ → ℕ) (key : ℕ) → one_less (one_more times key) key ≡ times
one_less-one_more times key = λ i k. back k i
  where
    more : ℕ → ℕ
    more = one_more times key

    back : (k : ℕ) → one_less more key k ≡ times k
    back k =
        let fewer : (times key + 1) - 1 ≡ times key = omega arith in
        ⊎_elim (λ (same : k ≡ key). with_value-same more key (more key - 1) k same
        ∙ ap (λ n. n - 1) (with_value-same times key (times key + 1) key refl) ∙ fewer ∙ ap times (sym same))
        (λ (other : k ≢ key). with_value-other more key (more key - 1) k other
        ∙ with_value-other times key (times key + 1) k other)
        (cases_eq k key)

pub after_release-after_acquire : (m : Machine) (thread key : ℕ)
    → after_release (after_acquire m thread key) thread key ≡ m
after_release-after_acquire m thread key = same_machine _ _ (λ k. refl) (λ j. refl) records refl
  where
    more : ℕ → ℕ
    more = one_more (m.records thread) key

    now : ℕ → ℕ → ℕ
    now = with_value m.records thread more

    records : (j : ℕ) → with_value now thread (one_less (now thread) key) j ≡ m.records j
    records j =
        ⊎_elim (λ (same : j ≡ thread). with_value-same now thread (one_less (now thread) key) j same
        ∙ ap (λ times. one_less times key) (with_value-same m.records thread more thread refl)
        ∙ one_less-one_more (m.records thread) key ∙ ap m.records (sym same))
        (λ (other : j ≢ thread). with_value-other now thread (one_less (now thread) key) j other
        ∙ with_value-other m.records thread more j other)
        (cases_eq j thread)

pub IsStep-undone : ReleaseUndoesAcquire
IsStep-undone m thread key given between last =
    MatchBool-either (is_running (m.status thread))
    (λ runs between_is released.
    let gives = MatchBool-at_true _ _ runs
    (subst (λ b. IsStep b (Release thread key) given last) between_is released) in
    (gives.0, gives.1 ∙ after_release-after_acquire m thread key))
    (λ _ (misfit, _) _. absurd (let other = misfit in cc))

module _ (m : Machine) (number : ℕ) where
  -- a step turns a thread to a status that is parked as the one before
  is_parked-with_status : (thread : ℕ) (s : Status) → is_parked s ≡ is_parked (m.status thread)
      → is_parked (with_value m.status thread s number) ≡ is_parked (m.status number)
  is_parked-with_status thread s stays =
      ⊎_elim (λ (same : number ≡ thread). ap is_parked (with_value-same m.status thread s number same) ∙ stays
      ∙ ap (λ n. is_parked (m.status n)) (sym same))
      (λ (other : number ≢ thread). ap is_parked (with_value-other m.status thread s number other))
      (cases_eq number thread)

  -- a step turns a thread from a status that is parked or not to another that is or not
  is_parked-changed : (thread : ℕ) (s : Status) (before after : Bool) → is_parked (m.status thread) ≡ before
      → is_parked s ≡ after → MatchBool (thread == number)
      ((is_parked (m.status number) ≡ before) × (is_parked (with_value m.status thread s number) ≡ after))
      (is_parked (with_value m.status thread s number) ≡ is_parked (m.status number))
  is_parked-changed thread s before after was is =
      MatchBool-from (thread == number) _ _
      (λ at. let same = eqb-true thread number at in (
        ap (λ n. is_parked (m.status n)) (sym same) ∙ was,
        ap is_parked (with_value-same m.status thread s number (sym same)) ∙ is,
      ))
      (λ off. ap is_parked (with_value-other m.status thread s number (λ same. eqb-false thread number off (sym same))))

-- who is queued is parked
is_parked-queued : (s : Status) → is_queued s ≡ true → is_parked s ≡ true
is_parked-queued (status.Waiting timed) queued = refl
is_parked-queued status.Late queued = refl
is_parked-queued (status.Taken token) queued = refl
is_parked-queued status.Free queued = absurd (false≢true queued)
is_parked-queued status.Running queued = absurd (false≢true queued)

-- who is taken out of a list was parked
is_parked-taken : (m : Machine) (key : ℕ) (split : Split Waiter) (token : UnparkToken) → IsConsistent m
    → AreParts split (m.lists key) → (number : ℕ)
    → is_parked (statuses_with_taken token split.taken m.status number) ≡ is_parked (m.status number)
is_parked-taken m key split token (keys, right) parts number =
    ⊎_elim (λ (none : times_in number split.taken ≡ 0). ap is_parked
    (statuses_with_taken-other token split.taken m.status number none))
    (λ (some : times_in number split.taken ≢ 0). ap is_parked
    (statuses_with_taken-among token split.taken m.status number some)
    ∙ sym (is_parked-queued (m.status number)
    (is_queued-standing keys m number key right.standing (omega (arith, parts.counts number)))))
    (cases_eq (times_in number split.taken) 0)

-- what the answer of a step says of a thread's park, before and after it
abbrev InTurn : Bool → Bool → ℕ → Step → Answer → Type 0
InTurn before after number step given =
    MatchBool (parks number step given) ((before ≡ false) × (after ≡ true))
    (MatchBool (ends_park number step given) ((before ≡ true) × (after ≡ false)) (after ≡ before))

module _ (m : Machine) (number : ℕ) (given : Answer) (new : Machine) where
  -- the same of one thread, where a step leaves this machine and gives this answer
  abbrev Turns : Step → Machine → Answer → Type 0
  Turns step left expected = InTurn (is_parked (m.status number)) (is_parked (left.status number)) number step expected

  -- a step's answer and the machine that it leaves
  Turns-gives : (step : Step) {left : Machine} {expected : Answer} → Turns step left expected
      → Gives left expected given new → Turns step new given
  Turns-gives step {left} turns (answers, new_is) =
      subst (λ m. Turns step m given) (sym new_is) (subst (Turns step left) (sym answers) turns)

  IsUnpark-turns : (op : Op) → IsConsistent m → IsUnpark m op given new
      → is_parked (new.status number) ≡ is_parked (m.status number)
  IsUnpark-turns (One key token) consistent =
      Turns-gives (Unpark (One key token))
      (is_parked-taken m key (split_first (m.lists key)) token consistent (AreParts-first (m.lists key)) number)
  IsUnpark-turns (All key token) consistent =
      Turns-gives (Unpark (All key token))
      (is_parked-taken m key (split_all (m.lists key)) token consistent (AreParts-all (m.lists key)) number)
  IsUnpark-turns (Filter key decisions token) consistent =
      Turns-gives (Unpark (Filter key decisions token))
      (is_parked-taken m key (split_filter decisions.items (m.lists key)) token consistent
      (AreParts-filter decisions.items (m.lists key)) number)
  IsUnpark-turns (Requeue from to op token) consistent =
      Turns-gives (Unpark (Requeue from to op token))
      (is_parked-taken m from (split_by op (m.lists from)) token consistent (AreParts-by op (m.lists from)) number)

  IsReturn-turns : (thread : ℕ) (s : Status) → m.status thread ≡ s → IsReturn m thread s given new
      → Turns (Return thread) new given
  IsReturn-turns thread (status.Taken token) is =
      Turns-gives (Return thread) (is_parked-changed m number thread status.Running true false (ap is_parked is) refl)
  IsReturn-turns thread _ is = Turns-gives (Return thread) refl

  IsResolve-turns : (thread : ℕ) (s : Status) → m.status thread ≡ s → IsResolve m thread s given new
      → Turns (Resolve thread) new given
  IsResolve-turns thread status.Late is = λ (key, _, gives).
      Turns-gives (Resolve thread) (is_parked-changed m number thread status.Running true false (ap is_parked is) refl)
      gives
  IsResolve-turns thread s is = IsReturn-turns thread s is

  IsRegister-turns : (given : Answer) → IsRegister m given new
      → is_parked (new.status number) ≡ is_parked (m.status number)
  IsRegister-turns (answer.Registered thread) (least, new_is) =
      ap (λ (left : Machine). is_parked (left.status number)) new_is
      ∙ is_parked-with_status m number thread status.Running (ap is_parked (sym least.free))
  IsRegister-turns answer.Full (_, new_is) = ap (λ (left : Machine). is_parked (left.status number)) new_is
  IsRegister-turns answer.NoMemory (_, new_is) = ap (λ (left : Machine). is_parked (left.status number)) new_is
  IsRegister-turns _ none = absurd none

  IsAcquire-turns : (thread key : ℕ) (given : Answer) → IsAcquire m thread key given new
      → is_parked (new.status number) ≡ is_parked (m.status number)
  IsAcquire-turns thread key answer.Recorded new_is = ap (λ (left : Machine). is_parked (left.status number)) new_is
  IsAcquire-turns thread key answer.NoMemory new_is = ap (λ (left : Machine). is_parked (left.status number)) new_is
  IsAcquire-turns thread key _ none = absurd none

  -- each step's answer says what became of each thread's park
  IsStep-turn : (step : Step) → IsConsistent m → IsStep m step given new → Turns step new given
  IsStep-turn Register consistent = IsRegister-turns given
  IsStep-turn (Retire thread) consistent =
      MatchBool-either (is_running (m.status thread))
      (λ runs. Turns-gives (Retire thread)
      (is_parked-with_status m number thread status.Free (ap is_parked (sym (Running-from (m.status thread) runs)))))
      (λ _. Turns-gives (Retire thread) refl)
  IsStep-turn (Enter thread key valid park_token timed) consistent =
      let step = Enter thread key valid park_token timed in
      MatchBool-either (is_running (m.status thread))
      (λ runs. MatchBool-either valid
      (λ _. Turns-gives step
      (is_parked-changed m number thread (status.Waiting timed) false true
      (ap is_parked (Running-from (m.status thread) runs)) refl)) (λ _. Turns-gives step refl))
      (λ _. Turns-gives step refl)
  IsStep-turn (Unpark op) consistent = IsUnpark-turns op consistent
  IsStep-turn (Deadline thread) consistent =
      MatchBool-either (awaits_deadline (m.status thread))
      (λ timed. Turns-gives (Deadline thread)
      (is_parked-with_status m number thread status.Late (ap is_parked (sym (Waiting-from (m.status thread) timed)))))
      (λ _. Turns-gives (Deadline thread) refl)
  IsStep-turn (Resolve thread) consistent = IsResolve-turns thread (m.status thread) refl
  IsStep-turn (Return thread) consistent = IsReturn-turns thread (m.status thread) refl
  IsStep-turn (Acquire thread key) consistent =
      MatchBool-either (is_running (m.status thread)) (λ _. IsAcquire-turns thread key given)
      (λ _. Turns-gives (Acquire thread key) refl)
  IsStep-turn (Release thread key) consistent =
      MatchBool-either (is_running (m.status thread)) (λ _. Turns-gives (Release thread key) refl)
      (λ _. Turns-gives (Release thread key) refl)
  IsStep-turn Trim consistent =
      λ trimmed. ap (λ (left : Machine). is_parked (left.status number)) (IsTrim-unchanged m given new trimmed)

-- what holds from the state after a step, told from the one before
from_before : (parks ends before after : Bool) (Next : Bool → Type 0)
    → MatchBool parks ((before ≡ false) × (after ≡ true))
    (MatchBool ends ((before ≡ true) × (after ≡ false)) (after ≡ before)) → Next after
    → MatchBool parks ((before ≡ false) × Next true) (MatchBool ends ((before ≡ true) × Next false) (Next before))
from_before true ends before after Next (was, is) next = (was, subst Next is next)
from_before false true before after Next (was, is) next = (was, subst Next is next)
from_before false false before after Next same next = subst Next same next

pub OutcomesAlternate-run : ParksAndOutcomesAlternate
OutcomesAlternate-run m [] [] last consistent ran number = tt
OutcomesAlternate-run m [] (_ ∷ _) last consistent ran number = ran
OutcomesAlternate-run m (_ ∷ _) [] last consistent ran number = ran
OutcomesAlternate-run m (step ∷ steps) (given ∷ answers) last consistent (next, does, ran) number =
    from_before (parks number step given) (ends_park number step given) (is_parked (m.status number))
    (is_parked (next.status number))
    (λ parked. OutcomesAlternate (parks number) (ends_park number) parked steps answers)
    (IsStep-turn m number given next step consistent does)
    (OutcomesAlternate-run next steps answers last (IsConsistent-step m step given next consistent does) ran number)
