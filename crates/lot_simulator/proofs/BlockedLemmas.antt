-- A step is blocked by an open section alone.
use Rattle.std.proofs.Common.{◌≡◌, ◌≢◌, ℕ, ◌+◌, ◌*◌, ◌==◌, Bool, true, false, List, [], ◌∷◌}
use Rattle.std.proofs.Common.{refl, sym, ap, ◌∙◌, ⊎_elim, ◌⊎◌, inl, inr, Some, None, nat_lt, not}
use Rattle.std.proofs.lemmas.Bool.{cases_Bool, and_parts, eq-eqb, false≢true, true≢false, ltb-true}
use Rattle.std.specs.List.{list_any}
use Rattle.std.specs.Prelude.{Option, is_none, is_some, IsTrue, ◌&&◌, ◌||◌}
use Rattle.lot_base.specs.Place.{place_of}
use Rattle.lot_base.specs.Waiting.{has_any}
use Rattle.lot_base.specs.declared.token.UnparkToken.{UnparkToken}
use Rattle.lot_machine.specs.declared.status.Status.{Status}
use Rattle.lot_machine.specs.declared.status.Status.TheVariants as status
use Rattle.lot_machine.specs.declared.step.Step.{Step}
use Rattle.lot_machine.specs.declared.step.Step.TheVariants as machine
use Rattle.lot_simulator.specs.declared.interleaved.FineAnswer.{FineAnswer}
use Rattle.lot_simulator.specs.declared.interleaved.FineAnswer.TheVariants as fine
use Rattle.lot_simulator.specs.declared.interleaved.FineStep.{FineStep}
use Rattle.lot_simulator.specs.declared.interleaved.FineStep.TheVariants.{Begin, Commit, End, Wake, Deadline}
use Rattle.lot_simulator.specs.declared.interleaved.FineStep.TheVariants.{ReadKey, Look, Enter, Return, Register}
use Rattle.lot_simulator.specs.declared.interleaved.FineStep.TheVariants.{Retire, Acquire, Release, Trim}
use Rattle.lot_simulator.specs.InterleavedState.{FineState, Section, Caller, TakenThread}
use Rattle.lot_simulator.specs.InterleavedSteps.{FineGives, GivesByMachine, IsCommit, IsReadKey, IsFineReturn}
use Rattle.lot_simulator.specs.InterleavedSteps.{IsLook, IsFineStep, can_begin, holds, is_any_open, is_full}
use Rattle.lot_simulator.specs.InterleavedSteps.{is_growth_blocked, is_held, keys_of, section_of, wakes_of}
use Rattle.lot_simulator.specs.InterleavedLaws.{BlockedNeedsASection, NoneIsBlockedByNobody, NeedsBucket}
use Rattle.lot_machine.specs.Machine.{Machine, threads_of}
use Rattle.lot_machine.specs.Status.{is_running, awaits_deadline}
use Rattle.lot_machine.proofs.StepLemmas.{MatchBool-either}
use Rattle.lot_simulator.proofs.HoldingLemmas.{some_holds, who_holds}
use Rattle.lot_simulator.proofs.InterleavingLemmas.{MatchOption-either}

-- an open section holds the bucket at this place
abbrev is_place_held : FineState → ℕ → Bool
is_place_held s place = list_any (λ (cl : Caller). holds place cl.section) s.callers

-- what blocks a step: a bucket that it needs is held, or it needs every bucket and a section is open
abbrev IsBlocking : FineState → FineStep → Type 0
IsBlocking s step = ((place : ℕ) × (is_place_held s place ≡ true) × NeedsBucket s step place)
    ⊎ (((place : ℕ) → NeedsBucket s step place) × (is_any_open s ≡ true))

-- one of these keys has a bucket that is held
key_held : (s : FineState) (keys : List ℕ) → list_any (is_held s) keys ≡ true
    → (place : ℕ) × (is_place_held s place ≡ true) × IsTrue (list_any (λ key. place_of key s.size == place) keys)
key_held s [] none = absurd (false≢true none)
key_held s (key ∷ keys) some =
    ⊎_elim (λ (held : is_held s key ≡ true).
    let place : ℕ = place_of key s.size in
    (place, held, ap (λ b. b || list_any (λ key. place_of key s.size == place) keys) (eq-eqb place place refl)))
    (λ (free : is_held s key ≡ false).
    let (place, held, needed) = key_held s keys (sym (ap (λ b. b || list_any (is_held s) keys) free) ∙ some) in
    (place, held, or_needed (place_of key s.size == place) _ needed))
    (cases_Bool (is_held s key))
  where
    or_needed : (x y : Bool) → y ≡ true → (x || y) ≡ true
    or_needed true y is = refl
    or_needed false y is = is

one_key_held : (s : FineState) (key : ℕ) → list_any (is_held s) (key ∷ []) ≡ true → is_held s key ≡ true
one_key_held s key some =
    ⊎_elim (λ (held : is_held s key ≡ true). held)
    (λ (free : is_held s key ≡ false). absurd (false≢true (sym (ap (λ b. b || false) free) ∙ some)))
    (cases_Bool (is_held s key))

not_true : (b : Bool) → not b ≡ true → b ≡ false
not_true false _ = refl
not_true true none = absurd (false≢true none)

module _ (s : FineState) (new : FineState) where
  -- a step that is blocked
  abbrev Blocks : FineStep → Type 0
  Blocks step = IsBlocking s step × (new ≡ s)

  -- an answer that is given is not `Blocked`
  answered : {after : FineState} {expected : FineAnswer} {R : Type 0} → fine.Blocked ≢ expected
      → FineGives after expected fine.Blocked new → R
  answered other (is, _) = absurd (other is)

  by_machine : {R : Type 0} (step : Step) (after : Machine → FineState)
      → GivesByMachine s step after fine.Blocked new → R
  by_machine step after (by_rule, view, does, gives) = answered (λ same. cc) gives

  commit : {R : Type 0} (caller : ℕ) (section : Section) (taken : List TakenThread)
      → IsCommit s caller section taken fine.Blocked new → R
  commit caller section [] = answered (λ same. cc)
  commit caller section (first ∷ rest) = answered (λ same. cc)

  read_key : {R : Type 0} (thread : ℕ) (now : Status) → IsReadKey s thread now fine.Blocked new → R
  read_key thread status.Late = answered (λ same. cc)
  read_key thread _ = answered (λ same. cc)

  give_back : {R : Type 0} (thread : ℕ) (now : Status) (slot : Option UnparkToken)
      → IsFineReturn s thread now slot fine.Blocked new → R
  give_back thread (status.Waiting timed) (Some token) = answered (λ same. cc)
  give_back thread _ _ = answered (λ same. cc)

  look : {R : Type 0} (thread key : ℕ) → IsLook s thread key fine.Blocked new → R
  look thread key =
      MatchBool-either (s.key_words thread == key)
      (λ _. MatchOption-either (s.slots thread) (λ _. answered (λ same. cc)) (λ token _. answered (λ same. cc)))
      (λ _. answered (λ same. cc))

  blocking : (step : FineStep) → IsFineStep s step fine.Blocked new → Blocks step
  blocking (Begin caller op) =
      MatchBool-either (can_begin s caller)
      (λ _. MatchBool-either (list_any (is_held s) (keys_of op))
      (λ held (_, new_is). (inl (key_held s (keys_of op) held), new_is))
      (λ _. by_machine (machine.Unpark op) _))
      (λ _. answered (λ same. cc))
  blocking (Commit caller) =
      MatchOption-either (section_of s caller) (λ _. answered (λ same. cc))
      (λ section _. commit caller section section.taken)
  blocking (End caller) =
      MatchOption-either (section_of s caller) (λ _. answered (λ same. cc))
      (λ section _. MatchBool-either (has_any section.taken) (λ _. answered (λ same. cc))
      (λ _. answered (λ same. cc)))
  blocking (Wake caller) =
      MatchBool-either (wakes_of s caller == 0) (λ _. answered (λ same. cc)) (λ _. answered (λ same. cc))
  blocking (Deadline thread) =
      MatchBool-either (awaits_deadline (s.threads_view.status thread) && is_none (s.slots thread))
      (λ _. answered (λ same. cc)) (λ _. answered (λ same. cc))
  blocking (ReadKey thread) = read_key thread (s.threads_view.status thread)
  blocking (Look thread) =
      MatchOption-either (s.keys_read thread) (λ _. answered (λ same. cc))
      (λ key read. MatchBool-either (list_any (is_held s) (key ∷ []))
      (λ held (_, new_is). (inl (place_of key s.size, one_key_held s key held, (key, read, refl)), new_is))
      (λ _. look thread key))
  blocking (Enter thread key valid park_token timed) =
      MatchBool-either (is_running (s.threads_view.status thread))
      (λ _. MatchBool-either (list_any (is_held s) (key ∷ []))
      (λ held (_, new_is). (inl (place_of key s.size, one_key_held s key held, refl), new_is))
      (λ _. by_machine (machine.Enter thread key valid park_token timed) _))
      (λ _. answered (λ same. cc))
  blocking (Return thread) = give_back thread (s.threads_view.status thread) (s.slots thread)
  blocking Register =
      MatchBool-either (not (is_full s) && is_growth_blocked s)
      (λ blocked (_, new_is).
      let (room, grows_open) = and_parts (not (is_full s)) (is_growth_blocked s) blocked in
      let (grows, some) = and_parts (nat_lt s.size (3 * (threads_of s.threads_view + 1))) (is_any_open s) grows_open in (
        inr ((λ place. (not_true (is_full s) room, ltb-true s.size (3 * (threads_of s.threads_view + 1)) grows)), some),
        new_is,
      ))
      (λ _ (by_rule, view, size, does, sized, gives). answered (λ same. cc) gives)
  blocking (Retire thread) = by_machine (machine.Retire thread) _
  blocking (Acquire thread key) = by_machine (machine.Acquire thread key) _
  blocking (Release thread key) = by_machine (machine.Release thread key) _
  blocking Trim = λ (too_large, some, new_is). (inr ((λ place. too_large), some), new_is)

pub blocked-by_section : BlockedNeedsASection
blocked-by_section s step new c does =
    let (blocks, new_is) = blocking s new step does in
    ⊎_elim (λ (one : (place : ℕ) × (is_place_held s place ≡ true) × NeedsBucket s step place).
    let (place, held, needed) = one in
    let (caller, holds_it) = who_holds (holds place) refl s.callers held in
    (caller, place, holds_it, needed, new_is))
    (λ (every : ((place : ℕ) → NeedsBucket s step place) × (is_any_open s ≡ true)).
    let (needs, some) = every in
    let (caller, is_open) = who_holds is_some refl s.callers some in
    let (place, holds_it) = c.holding caller is_open in
    (caller, place, holds_it, needs place, new_is))
    blocks

-- a section that holds a bucket is open
open_if_holds : (place : ℕ) (section : Option Section) → holds place section ≡ true → is_some section ≡ true
open_if_holds place None none = absurd (false≢true none)
open_if_holds place (Some section) some = refl

pub blocked-none : NoneIsBlockedByNobody
blocked-none s step new closed does =
    let (blocks, new_is) = blocking s new step does in
    ⊎_elim (λ (one : (place : ℕ) × (is_place_held s place ≡ true) × NeedsBucket s step place).
    let (place, held, needed) = one in
    let (caller, holds_it) = who_holds (holds place) refl s.callers held in
    true≢false (sym (some_holds is_some refl s.callers caller (open_if_holds place (section_of s caller) holds_it))
    ∙ closed))
    (λ (every : ((place : ℕ) → NeedsBucket s step place) × (is_any_open s ≡ true)).
    true≢false (sym every.1 ∙ closed))
    blocks
