-- What new interleaved states and single steps give.
use Rattle.std.proofs.Common.{◌≡◌, ℕ, ◌*◌, ◌<◌, ◌≤◌, ◌==◌, List, [], ◌∷◌, refl, sym, ap}
use Rattle.std.proofs.Common.{◌∙◌, ⊎_elim, subst, Some, None}
use Rattle.std.proofs.lemmas.Bool.{cases_lt}
use Rattle.std.specs.Prelude.{zero, suc, replicate, flat_map, Option, MatchOption, is_none, ◌&&◌, not}
use Rattle.std.specs.List.{list_any}
use Rattle.lot_base.specs.Waiting.{has_any}
use Rattle.lot_base.specs.declared.token.UnparkToken.{UnparkToken}
use Rattle.lot_machine.specs.declared.status.Status.{Status}
use Rattle.lot_machine.specs.declared.status.Status.TheVariants as status
use Rattle.lot_machine.specs.declared.step.Answer.{Answer}
use Rattle.lot_machine.specs.declared.step.Answer.TheVariants as answer
use Rattle.lot_machine.specs.declared.step.Step.{Step}
use Rattle.lot_machine.specs.declared.step.Step.TheVariants as machine
use Rattle.lot_simulator.specs.declared.interleaved.FineAnswer.{FineAnswer}
use Rattle.lot_simulator.specs.declared.interleaved.FineAnswer.TheVariants as fine
use Rattle.lot_simulator.specs.declared.interleaved.FineStep.{FineStep}
use Rattle.lot_simulator.specs.declared.interleaved.FineStep.TheVariants.{Begin, Commit, End, Wake, Deadline}
use Rattle.lot_simulator.specs.declared.interleaved.FineStep.TheVariants.{ReadKey, Look, Enter, Return, Register}
use Rattle.lot_simulator.specs.declared.interleaved.FineStep.TheVariants.{Retire, Acquire, Release, Trim}
use Rattle.lot_simulator.specs.InterleavedState.{FineState, Section, Caller, TakenThread, new_fine_state}
use Rattle.lot_simulator.specs.InterleavedSteps.{FineGives, GivesByMachine, IsCommit, IsReadKey, IsFineReturn}
use Rattle.lot_simulator.specs.InterleavedSteps.{IsFineRegister, IsFineTrim}
use Rattle.lot_simulator.specs.InterleavedSteps.{section_of, wakes_of, IsFineStep, is_held, keys_of, can_begin}
use Rattle.lot_simulator.specs.InterleavedSteps.{is_full, is_growth_blocked}
use Rattle.lot_simulator.specs.InterleavedView.{taken_of, taken_in, with_taken}
use Rattle.lot_simulator.specs.InterleavedLaws.{NewStatesStandForNewMachines, FineAnswersFixTheState}
use Rattle.lot_machine.specs.Machine.{Machine, new_machine, threads_of}
use Rattle.lot_machine.specs.Size.{IsSizeFor, IsSizeAfter}
use Rattle.lot_machine.specs.Status.{is_running, awaits_deadline}
use Rattle.lot_machine.specs.Steps.{IsStep}
use Rattle.lot_machine.proofs.LawLemmas.{MatchBool-both, IsStep-fixes}
use Rattle.lot_machine.proofs.NumberLemmas.{IsNextPowerOfTwo-fixes, IsTrimmedSize-fixes}

-- new callers have taken nobody
taken-none : (callers : ℕ) → flat_map (λ (caller : Caller). taken_in caller.section)
    (replicate callers (record { section = None; wakes = 0 })) ≡ []
taken-none zero = refl
taken-none (suc callers) = taken-none callers

pub taken_of-new : (max_threads callers : ℕ) → taken_of (new_fine_state max_threads callers) ≡ []
taken_of-new max_threads callers = taken-none callers

pub sequential_view-new : NewStatesStandForNewMachines
sequential_view-new max_threads callers =
    ap (λ threads. record (new_machine max_threads) { status = with_taken threads (λ _. status.Free) })
    (taken-none callers)

-- of two facts of what may be there, both are of one case
MatchOption-both : {A : Type 0} (o : Option A) {P P' R : Type 0} {Q Q' : A → Type 0} → (P → P' → R)
    → ((x : A) → Q x → Q' x → R) → MatchOption o P Q → MatchOption o P' Q' → R
MatchOption-both None f g p p' = f p p'
MatchOption-both (Some x) f g q q' = g x q q'

IsSizeFor-fixes : (threads old new other : ℕ) → IsSizeFor threads old new → IsSizeFor threads old other → new ≡ other
IsSizeFor-fixes threads old new other is is_other =
    ⊎_elim (λ (grows : old < 3 * threads).
    IsNextPowerOfTwo-fixes (3 * threads) new other (is.grown grows) (is_other.grown grows))
    (λ (stays : 3 * threads ≤ old). is.kept stays ∙ sym (is_other.kept stays))
    (cases_lt old (3 * threads))

IsSizeAfter-fixes : (given : Answer) (threads old new other : ℕ) → IsSizeAfter machine.Register given threads old new
    → IsSizeAfter machine.Register given threads old other → new ≡ other
IsSizeAfter-fixes (answer.Registered number) threads old new other = IsSizeFor-fixes threads old new other
IsSizeAfter-fixes _ threads old new other = λ is is_other. is ∙ sym is_other

size_by_trim-fixes : (given : Answer) (threads old new other : ℕ) → IsSizeAfter machine.Trim given threads old new
    → IsSizeAfter machine.Trim given threads old other → new ≡ other
size_by_trim-fixes answer.Trimmed threads old new other = IsTrimmedSize-fixes threads old new other
size_by_trim-fixes answer.NoMemory threads old new other = λ (_, is) (_, is_other). is ∙ sym is_other
size_by_trim-fixes _ threads old new other = λ is is_other. is ∙ sym is_other

-- the answer of a machine's step
abbrev pub machine_answer : FineAnswer → Answer
machine_answer (fine.Answer given) = given
machine_answer _ = answer.Misfit

module _ (s : FineState) (given : FineAnswer) (new other : FineState) where
  Gives-fixes : {after : FineState} {expected : FineAnswer} → FineGives after expected given new
      → FineGives after expected given other → new ≡ other
  Gives-fixes (_, new_is) (_, other_is) = new_is ∙ sym other_is

  GivesByMachine-fixes : (step : Step) (after : Machine → FineState) → GivesByMachine s step after given new
      → GivesByMachine s step after given other → new ≡ other
  GivesByMachine-fixes step after (by_rule, view, does, (answers, new_is)) (by_other, left, does_other, gives_other) =
      let (others, other_is) = gives_other in
      let same : by_rule ≡ by_other = ap machine_answer (sym answers ∙ others) in
      let fixes : view ≡ left = IsStep-fixes s.threads_view step by_other view left
      (subst (λ a. IsStep s.threads_view step a view) same does) does_other in
      new_is ∙ ap after fixes ∙ sym other_is

  IsCommit-fixes : (caller : ℕ) (section : Section) (taken : List TakenThread)
      → IsCommit s caller section taken given new → IsCommit s caller section taken given other → new ≡ other
  IsCommit-fixes caller section [] = Gives-fixes
  IsCommit-fixes caller section (first ∷ rest) = Gives-fixes

  IsReadKey-fixes : (thread : ℕ) (now : Status) → IsReadKey s thread now given new → IsReadKey s thread now given other
      → new ≡ other
  IsReadKey-fixes thread status.Late = Gives-fixes
  IsReadKey-fixes thread _ = Gives-fixes

  IsReturn-fixes : (thread : ℕ) (now : Status) (slot : Option UnparkToken) → IsFineReturn s thread now slot given new
      → IsFineReturn s thread now slot given other → new ≡ other
  IsReturn-fixes thread (status.Waiting timed) (Some token) = Gives-fixes
  IsReturn-fixes thread _ _ = Gives-fixes

  IsRegister-fixes : IsFineRegister s given new → IsFineRegister s given other → new ≡ other
  IsRegister-fixes =
      MatchBool-both (not (is_full s) && is_growth_blocked s) Gives-fixes
      (λ (by_rule, view, size, does, sized, (answers, new_is)) (
        by_other,
        left,
        other_size,
        does_other,
        other_sized,
        (others, other_is),
      ).
      let same : by_rule ≡ by_other = ap machine_answer (sym answers ∙ others) in
      let fixes : view ≡ left = IsStep-fixes s.threads_view machine.Register by_other view left
      (subst (λ a. IsStep s.threads_view machine.Register a view) same does) does_other in
      let sized_alike : IsSizeAfter machine.Register by_other (threads_of left) s.size size =
      subst (λ m. IsSizeAfter machine.Register by_other (threads_of m) s.size size) fixes
      (subst (λ a. IsSizeAfter machine.Register a (threads_of view) s.size size) same sized) in
      let sizes : size ≡ other_size =
      IsSizeAfter-fixes by_other (threads_of left) s.size size other_size sized_alike other_sized in
      new_is ∙ ap (λ m. record s { threads_view = m; size = size }) fixes
      ∙ ap (λ n. record s { threads_view = left; size = n }) sizes ∙ sym other_is)

  trim_by-fixes : (by_rule : Answer) (view left : Machine) (size other_size : ℕ)
      → IsStep s.threads_view machine.Trim by_rule view → IsStep s.threads_view machine.Trim by_rule left
      → IsSizeAfter machine.Trim by_rule (threads_of view) s.size size
      → IsSizeAfter machine.Trim by_rule (threads_of left) s.size other_size
      → new ≡ record s { threads_view = view; size = size }
      → other ≡ record s { threads_view = left; size = other_size } → new ≡ other
  trim_by-fixes by_rule view left size other_size does does_other sized other_sized new_is other_is =
      let fixes : view ≡ left = IsStep-fixes s.threads_view machine.Trim by_rule view left does does_other in
      let sized_alike : IsSizeAfter machine.Trim by_rule (threads_of left) s.size size =
      subst (λ m. IsSizeAfter machine.Trim by_rule (threads_of m) s.size size) fixes sized in
      let sizes : size ≡ other_size =
      size_by_trim-fixes by_rule (threads_of left) s.size size other_size sized_alike other_sized in
      new_is ∙ ap (λ m. record s { threads_view = m; size = size }) fixes
      ∙ ap (λ n. record s { threads_view = left; size = n }) sizes ∙ sym other_is

  IsTrim-fixes : (answers : FineAnswer) → IsFineTrim s answers new → IsFineTrim s answers other → new ≡ other
  IsTrim-fixes fine.Blocked (_, _, new_is) (_, _, other_is) = new_is ∙ sym other_is
  IsTrim-fixes (fine.Answer by_rule) (_, view, size, does, sized, new_is) (_, left, other_size, does_other, other_sized, other_is) =
      trim_by-fixes by_rule view left size other_size does does_other sized other_sized new_is other_is
  IsTrim-fixes _ none _ = absurd none

  IsFineStep-fix : (step : FineStep) → IsFineStep s step given new → IsFineStep s step given other → new ≡ other
  IsFineStep-fix (Begin caller op) =
      MatchBool-both (can_begin s caller)
      (MatchBool-both (list_any (is_held s) (keys_of op)) Gives-fixes
      (GivesByMachine-fixes (machine.Unpark op) _))
      Gives-fixes
  IsFineStep-fix (Commit caller) =
      MatchOption-both (section_of s caller) Gives-fixes (λ section. IsCommit-fixes caller section section.taken)
  IsFineStep-fix (End caller) =
      MatchOption-both (section_of s caller) Gives-fixes
      (λ section. MatchBool-both (has_any section.taken) Gives-fixes Gives-fixes)
  IsFineStep-fix (Wake caller) = MatchBool-both (wakes_of s caller == 0) Gives-fixes Gives-fixes
  IsFineStep-fix (Deadline thread) =
      MatchBool-both (awaits_deadline (s.threads_view.status thread) && is_none (s.slots thread)) Gives-fixes
      Gives-fixes
  IsFineStep-fix (ReadKey thread) = IsReadKey-fixes thread (s.threads_view.status thread)
  IsFineStep-fix (Look thread) =
      MatchOption-both (s.keys_read thread) Gives-fixes
      (λ key. MatchBool-both (list_any (is_held s) (key ∷ [])) Gives-fixes
      (MatchBool-both (s.key_words thread == key)
      (MatchOption-both (s.slots thread) Gives-fixes (λ token. Gives-fixes))
      Gives-fixes))
  IsFineStep-fix (Enter thread key valid park_token timed) =
      MatchBool-both (is_running (s.threads_view.status thread))
      (MatchBool-both (list_any (is_held s) (key ∷ [])) Gives-fixes
      (GivesByMachine-fixes (machine.Enter thread key valid park_token timed) _))
      Gives-fixes
  IsFineStep-fix (Return thread) = IsReturn-fixes thread (s.threads_view.status thread) (s.slots thread)
  IsFineStep-fix Register = IsRegister-fixes
  IsFineStep-fix (Retire thread) = GivesByMachine-fixes (machine.Retire thread) _
  IsFineStep-fix (Acquire thread key) = GivesByMachine-fixes (machine.Acquire thread key) _
  IsFineStep-fix (Release thread key) = GivesByMachine-fixes (machine.Release thread key) _
  IsFineStep-fix Trim = IsTrim-fixes given

pub IsFineStep-fixes : FineAnswersFixTheState
IsFineStep-fixes s step given new other = IsFineStep-fix s given new other step
