-- Each interleaved step has one answer, but for want of memory.
use Rattle.std.proofs.Common.{◌≡◌, ◌≢◌, ℕ, ◌==◌, List, [], ◌∷◌}
use Rattle.std.proofs.Common.{refl, Some}
use Rattle.std.specs.List.{list_any}
use Rattle.std.specs.Prelude.{Option, is_none, ◌&&◌}
use Rattle.lot_base.specs.Waiting.{has_any}
use Rattle.lot_base.specs.declared.token.UnparkToken.{UnparkToken}
use Rattle.lot_machine.specs.declared.status.Status.{Status}
use Rattle.lot_machine.specs.declared.status.Status.TheVariants as status
use Rattle.lot_machine.specs.declared.step.Answer.TheVariants as answer
use Rattle.lot_machine.specs.declared.step.Step.TheVariants as machine
use Rattle.lot_machine.specs.Status.{is_running, awaits_deadline}
use Rattle.lot_simulator.specs.declared.interleaved.FineAnswer.{FineAnswer}
use Rattle.lot_simulator.specs.declared.interleaved.FineAnswer.TheVariants as fine
use Rattle.lot_simulator.specs.declared.interleaved.FineStep.{FineStep}
use Rattle.lot_simulator.specs.declared.interleaved.FineStep.TheVariants.{Begin, Commit, End, Wake, Deadline}
use Rattle.lot_simulator.specs.declared.interleaved.FineStep.TheVariants.{ReadKey, Look, Enter, Return, Register}
use Rattle.lot_simulator.specs.declared.interleaved.FineStep.TheVariants.{Retire, Acquire, Release, Trim}
use Rattle.lot_simulator.specs.InterleavedState.{FineState, Section, TakenThread}
use Rattle.lot_simulator.specs.InterleavedSteps.{FineGives, GivesByMachine, IsCommit, IsEnd, IsFineMisfit, IsFineReturn}
use Rattle.lot_simulator.specs.InterleavedSteps.{IsFineStep, IsLook, IsReadKey, IsUnparked, UnlessHeld, after_begin}
use Rattle.lot_simulator.specs.InterleavedSteps.{can_begin, is_held, keys_of, section_of, wakes_of}
use Rattle.lot_simulator.specs.InterleavedView.{IsFineConsistent}
use Rattle.lot_simulator.specs.InterleavedLaws.{EachFineStepHasAnAnswer, NoOtherFineAnswer, OnlyFineMemoryIsOpen}
use Rattle.lot_simulator.specs.InterleavedLaws.{MayWantFineMemory}
use Rattle.lot_simulator.proofs.OneAnswerLemmas.{OneAnswer, one-gives, one-tested, one-found, one-by_machine}
use Rattle.lot_simulator.proofs.OneAnswerLemmas.{one-acquire, one-enter, one-release, one-retire, one-unpark}
use Rattle.lot_simulator.proofs.TableAnswerLemmas.{one-register, one-trim}

abbrev mem : FineAnswer
mem = fine.Answer answer.NoMemory

module _ (s : FineState) where
  abbrev Known : Type 0
  Known = IsFineConsistent s

  -- a rule that wants no memory
  abbrev Settled : (FineAnswer → FineState → Type 0) → Type 0
  Settled Rule = OneAnswer Known mem s Rule ⊥

  gives : (expected : FineAnswer) (after : FineState) → expected ≢ mem → Settled (FineGives after expected)
  gives = one-gives Known mem s

  misfit : Settled (IsFineMisfit s)
  misfit = gives (fine.Answer answer.Misfit) s (λ same. cc)

  unless_held : (keys : List ℕ) (Does : FineAnswer → FineState → Type 0) → Settled Does
      → Settled (λ given new. UnlessHeld s keys given new (Does given new))
  unless_held keys Does does =
      one-tested Known mem s (list_any (is_held s) keys) (FineGives s fine.Blocked) Does
      (gives fine.Blocked s (λ same. cc)) does

  commit : (caller : ℕ) (section : Section) (taken : List TakenThread) → Settled (IsCommit s caller section taken)
  commit caller section [] = misfit
  commit caller section (first ∷ rest) = gives _ _ (λ same. cc)

  end : (caller : ℕ) (section : Section) → Settled (IsEnd s caller section)
  end caller section =
      one-tested Known mem s (has_any section.taken) (IsFineMisfit s) _ misfit (gives fine.Ended _ (λ same. cc))

  read_key : (thread : ℕ) (now : Status) → Settled (IsReadKey s thread now)
  read_key thread status.Late = gives _ _ (λ same. cc)
  read_key thread _ = misfit

  give_back : (thread : ℕ) (now : Status) (slot : Option UnparkToken) → Settled (IsFineReturn s thread now slot)
  give_back thread (status.Waiting timed) (Some token) = gives _ _ (λ same. cc)
  give_back thread _ _ = misfit

  look : (thread key : ℕ) → Settled (IsLook s thread key)
  look thread key =
      one-tested Known mem s (s.key_words thread == key) _ _
      (one-found Known mem s (s.slots thread) _ (IsUnparked s thread) (gives _ _ (λ same. cc))
      (λ token. gives _ _ (λ same. cc)))
      (gives fine.Retry _ (λ same. cc))

  one-step : (step : FineStep) → OneAnswer Known mem s (IsFineStep s step) (MayWantFineMemory s step)
  one-step (Begin caller op) =
      one-tested Known mem s (can_begin s caller) _ (IsFineMisfit s)
      (unless_held (keys_of op) (GivesByMachine s (machine.Unpark op) (after_begin s caller op))
      (one-by_machine Known s (machine.Unpark op) ⊥ (after_begin s caller op) (λ none. absurd none)
      (one-unpark Known s.threads_view op)))
      misfit
  one-step (Commit caller) =
      one-found Known mem s (section_of s caller) (IsFineMisfit s) (λ section. IsCommit s caller section section.taken)
      misfit (λ section. commit caller section section.taken)
  one-step (End caller) =
      one-found Known mem s (section_of s caller) (IsFineMisfit s) (IsEnd s caller) misfit (end caller)
  one-step (Wake caller) =
      one-tested Known mem s (wakes_of s caller == 0) (IsFineMisfit s) _ misfit (gives fine.Woken _ (λ same. cc))
  one-step (Deadline thread) =
      one-tested Known mem s (awaits_deadline (s.threads_view.status thread) && is_none (s.slots thread)) _
      (IsFineMisfit s) (gives fine.Late _ (λ same. cc)) misfit
  one-step (ReadKey thread) = read_key thread (s.threads_view.status thread)
  one-step (Look thread) =
      one-found Known mem s (s.keys_read thread) (IsFineMisfit s) _ misfit
      (λ key. unless_held (key ∷ []) (IsLook s thread key) (look thread key))
  one-step (Enter thread key valid park_token timed) =
      one-tested Known mem s (is_running (s.threads_view.status thread)) _ (IsFineMisfit s)
      (unless_held (key ∷ []) _
      (one-by_machine Known s (machine.Enter thread key valid park_token timed) ⊥ _ (λ none. absurd none)
      (one-enter Known s.threads_view thread key valid park_token timed)))
      misfit
  one-step (Return thread) = give_back thread (s.threads_view.status thread) (s.slots thread)
  one-step Register = one-register s
  one-step (Retire thread) =
      one-by_machine Known s (machine.Retire thread) ⊥ _ (λ none. absurd none) (one-retire Known s.threads_view thread)
  one-step (Acquire thread key) =
      one-by_machine Known s (machine.Acquire thread key) (s.threads_view.status thread ≡ status.Running) _ (λ _. refl)
      (one-acquire Known s.threads_view thread key)
  one-step (Release thread key) =
      one-by_machine Known s (machine.Release thread key) ⊥ _ (λ none. absurd none) (one-release Known s.threads_view thread key)
  one-step Trim = one-trim s

pub HasFineAnswer-step : EachFineStepHasAnAnswer
HasFineAnswer-step s step c = (one-step s step).some c

pub IsFineStep-same_answer : NoOtherFineAnswer
IsFineStep-same_answer s step given other new left c = (one-step s step).same c given other new left

pub fine_memory-open : OnlyFineMemoryIsOpen
fine_memory-open s step new = ((one-step s step).wants new, λ (wants, same). (one-step s step).may new wants same)
