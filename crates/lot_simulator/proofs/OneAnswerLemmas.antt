-- Rules that leave one answer and one state, but for want of memory: of the machine with one list for each key, and of
-- the interleaved machine.
use Rattle.std.proofs.Common.{◌≡◌, ◌≢◌, ℕ, Bool, true, false, MatchBool, MatchOption, refl, sym, ap, ◌∙◌}
use Rattle.std.proofs.Common.{subst, Some, None}
use Rattle.std.proofs.lemmas.Bool.{false≢true}
use Rattle.std.specs.Prelude.{Option}
use Rattle.lot_base.specs.declared.token.ParkToken.{ParkToken}
use Rattle.lot_machine.specs.declared.step.Answer.{Answer}
use Rattle.lot_machine.specs.declared.step.Answer.TheVariants as answer
use Rattle.lot_machine.specs.declared.step.Op.{Op}
use Rattle.lot_machine.specs.declared.step.Op.TheVariants.{One, All, Filter, Requeue}
use Rattle.lot_machine.specs.declared.step.Step.{Step}
use Rattle.lot_machine.specs.declared.step.Step.TheVariants as machine
use Rattle.lot_machine.specs.declared.status.Status.TheVariants as status
use Rattle.lot_machine.specs.Machine.{Machine, after_acquire}
use Rattle.lot_machine.specs.Status.{is_running}
use Rattle.lot_machine.specs.Steps.{Gives, IsAcquire, IsStep}
use Rattle.lot_machine.proofs.StepLemmas.{Running-from}
use Rattle.lot_simulator.specs.declared.interleaved.FineAnswer.TheVariants as fine
use Rattle.lot_simulator.specs.InterleavedState.{FineState}
use Rattle.lot_simulator.specs.InterleavedSteps.{GivesByMachine}
use Rattle.lot_simulator.proofs.InterleavedLemmas.{machine_answer}

-- a rule for a step from the state `s`: where `Known` holds it has an answer other than that memory is wanting, and
-- just one such; and it has that answer too where `Wants` holds, and then `s` stays
pub record OneAnswer {A S : Type 0} (Known : Type 0) (wanting : A) (s : S) (Rule : A → S → Type 0)
    (Wants : Type 0) : Type 0 where
  pub some : Known → (given : A) × (given ≢ wanting) × (new : S) × Rule given new
  pub same : Known → (given other : A) (new left : S) → Rule given new → Rule other left → given ≢ wanting → other ≢ wanting
      → given ≡ other
  pub wants : (new : S) → Rule wanting new → Wants × (new ≡ s)
  pub may : (new : S) → Wants → new ≡ s → Rule wanting new

module _ {A S : Type 0} (Known : Type 0) (wanting : A) (s : S) where
  -- one answer and one state
  pub one-gives : (expected : A) (after : S) → expected ≢ wanting
      → OneAnswer Known wanting s (λ given new. (given ≡ expected) × (new ≡ after)) ⊥
  one-gives expected after other = record {
    some = λ known. (expected, other, after, (refl, refl));
    same = λ known given also new left (is, _) (also_is, _) _ _. is ∙ sym also_is;
    wants = λ new (is, _). absurd (other (sym is));
    may = λ new none. absurd none;
  }

  -- a test chooses
  pub one-tested : (b : Bool) (P Q : A → S → Type 0) → OneAnswer Known wanting s P ⊥ → OneAnswer Known wanting s Q ⊥
      → OneAnswer Known wanting s (λ given new. MatchBool b (P given new) (Q given new)) ⊥
  one-tested true P Q p q = p
  one-tested false P Q p q = q

  pub one-found : {B : Type 0} (o : Option B) (P : A → S → Type 0) (Q : B → A → S → Type 0)
      → OneAnswer Known wanting s P ⊥ → ((x : B) → OneAnswer Known wanting s (Q x) ⊥)
      → OneAnswer Known wanting s (λ given new. MatchOption o (P given new) (λ x. Q x given new)) ⊥
  one-found None P Q p q = p
  one-found (Some x) P Q p q = q x

-- the machine with one list for each key
module _ (Known : Type 0) (m : Machine) where
  abbrev pub OneOfMachine : Step → Type 0 → Type 0
  OneOfMachine step Wants = OneAnswer Known answer.NoMemory m (IsStep m step) Wants

  abbrev gives : Answer → Machine → Answer → Machine → Type 0
  gives expected after given new = Gives after expected given new

  one-running : (thread : ℕ) (expected : Answer) (after : Machine) → expected ≢ answer.NoMemory
      → OneAnswer Known answer.NoMemory m (λ given new. MatchBool (is_running (m.status thread))
      (Gives after expected given new) (Gives m answer.Misfit given new)) ⊥
  one-running thread expected after other =
      one-tested Known answer.NoMemory m (is_running (m.status thread)) (gives expected after) (gives answer.Misfit m)
      (one-gives Known answer.NoMemory m expected after other)
      (one-gives Known answer.NoMemory m answer.Misfit m (λ same. cc))

  pub one-unpark : (op : Op) → OneOfMachine (machine.Unpark op) ⊥
  one-unpark (One key token) = one-gives Known answer.NoMemory m _ _ (λ same. cc)
  one-unpark (All key token) = one-gives Known answer.NoMemory m _ _ (λ same. cc)
  one-unpark (Filter key decisions token) = one-gives Known answer.NoMemory m _ _ (λ same. cc)
  one-unpark (Requeue from to op token) = one-gives Known answer.NoMemory m _ _ (λ same. cc)

  pub one-retire : (thread : ℕ) → OneOfMachine (machine.Retire thread) ⊥
  one-retire thread = one-running thread _ _ (λ same. cc)

  pub one-release : (thread key : ℕ) → OneOfMachine (machine.Release thread key) ⊥
  one-release thread key = one-running thread _ _ (λ same. cc)

  pub one-enter : (thread key : ℕ) (valid : Bool) (park_token : ParkToken) (timed : Bool)
      → OneOfMachine (machine.Enter thread key valid park_token timed) ⊥
  one-enter thread key true park_token timed = one-running thread _ _ (λ same. cc)
  one-enter thread key false park_token timed = one-running thread _ _ (λ same. cc)

  recorded : (thread key : ℕ) (given : Answer) (new : Machine) → given ≢ answer.NoMemory
      → IsAcquire m thread key given new → given ≡ answer.Recorded
  recorded thread key answer.Recorded new other is = refl
  recorded thread key answer.NoMemory new other is = absurd (other refl)
  recorded thread key _ new other none = absurd none

  pub one-acquire : (thread key : ℕ) → OneOfMachine (machine.Acquire thread key) (m.status thread ≡ status.Running)
  one-acquire thread key = at (is_running (m.status thread)) refl
    where
      Rule : Bool → Answer → Machine → Type 0
      Rule runs given new = MatchBool runs (IsAcquire m thread key given new) (Gives m answer.Misfit given new)

      misfit : OneAnswer Known answer.NoMemory m (Rule false) ⊥
      misfit = one-gives Known answer.NoMemory m answer.Misfit m (λ same. cc)

      at : (runs : Bool) → is_running (m.status thread) ≡ runs
          → OneAnswer Known answer.NoMemory m (Rule runs) (m.status thread ≡ status.Running)
      at true is = record {
        some = λ known. (answer.Recorded, (λ same. cc), after_acquire m thread key, refl);
        same = λ known given other new left does also fits fits_also.
            recorded thread key given new fits does ∙ sym (recorded thread key other left fits_also also);
        wants = λ new same. (Running-from (m.status thread) is, same);
        may = λ new runs same. same;
      }
      at false is = record {
        some = misfit.some;
        same = misfit.same;
        wants = λ new does. absurd (misfit.wants new does).0;
        may = λ new runs same. absurd (false≢true (sym is ∙ ap is_running runs));
      }

-- a step of the machine, where the state is `after` it
pub one-by_machine : (Known : Type 0) (s : FineState) (step : Step) (Wants : Type 0) (after : Machine → FineState)
    → (Wants → after s.threads_view ≡ s) → OneOfMachine Known s.threads_view step Wants
    → OneAnswer Known (fine.Answer answer.NoMemory) s (GivesByMachine s step after) Wants
one-by_machine Known s step Wants after stays one = record {
  some = λ known. let (by_rule, other, view, does) = one.some known in (
    fine.Answer by_rule,
    (λ same. other (ap machine_answer same)),
    after view,
    (by_rule, view, does, (refl, refl)),
  );
  same = λ known given other new left (by_rule, view, does, (is, _)) (by_other, other_view, also, (other_is, _)) fits fits_also.
      is ∙ ap fine.Answer (one.same known by_rule by_other view other_view does also
      (λ wants. fits (is ∙ ap fine.Answer wants)) (λ wants. fits_also (other_is ∙ ap fine.Answer wants)))
      ∙ sym other_is;
  wants = λ new (by_rule, view, does, (is, new_is)).
      let (wants, view_is) = one.wants view
      (subst (λ a. IsStep s.threads_view step a view) (sym (ap machine_answer is)) does) in
      (wants, new_is ∙ ap after view_is ∙ stays wants);
  may = λ new wants same.
      (answer.NoMemory, s.threads_view, one.may s.threads_view wants refl, (refl, same ∙ sym (stays wants)));
}
