-- What a step of an interleaved lot amounts to: of threads that are taken, of nothing, of a thread that reads its key.
use Rattle.std.proofs.Common.{◌≡◌, ◌≢◌, ℕ, false, List, [], ◌∷◌, map}
use Rattle.std.proofs.Common.{refl, sym, ap, ◌∙◌, subst, arith, ⊎_elim, Some, None}
use Rattle.std.proofs.lemmas.Bool.{cases_eq, false≢true}
use Rattle.std.proofs.lemmas.List.Elements.{All-nil, All-cons, All-head, All-tail}
use Rattle.std.specs.Prelude.{Option, All, is_some, IsTrue, flat_map}
use Rattle.lot_base.specs.Place.{place_of}
use Rattle.lot_base.specs.Waiting.{with_value}
use Rattle.lot_base.proofs.ValueLemmas.{with_value-same, with_value-other}
use Rattle.lot_machine.specs.declared.status.Status.TheVariants as status
use Rattle.lot_machine.specs.declared.step.Answer.{Answer}
use Rattle.lot_machine.specs.declared.step.Answer.TheVariants as answer
use Rattle.lot_machine.specs.declared.step.Step.{Step}
use Rattle.lot_simulator.specs.declared.interleaved.FineAnswer.TheVariants as fine
use Rattle.lot_simulator.specs.declared.interleaved.FineStep.{FineStep}
use Rattle.lot_simulator.specs.declared.interleaved.FineStep.TheVariants.{Begin}
use Rattle.lot_simulator.specs.InterleavedState.{FineState, Section, Caller, TakenThread}
use Rattle.lot_simulator.specs.InterleavedSteps.{holds}
use Rattle.lot_simulator.specs.InterleavedView.{sequential_step, sequential_view, sequential_status, taken_of}
use Rattle.lot_simulator.specs.InterleavedView.{times_taken, once_if}
use Rattle.lot_simulator.specs.InterleavedView.{taken_in, with_taken, with_slot, HoldsForTaken, IsFineConsistent}
use Rattle.lot_machine.specs.Status.{is_queued}
use Rattle.lot_machine.specs.Steps.{IsStep}
use Rattle.lot_machine.specs.Run.{IsRun}
use Rattle.lot_simulator.proofs.HandedLemmas.{times_taken-cons, times_taken-append, times_taken-own}
use Rattle.lot_simulator.proofs.HandedLemmas.{with_taken-none}
use Rattle.lot_simulator.proofs.HandedLemmas.{None-from}

-- threads that are taken keep their places where their key words do
module _ (s : FineState) (key_words : ℕ → ℕ) (size : ℕ) where
  held_for : (section : Option Section) (ts : List TakenThread) → ((n : ℕ) → times_taken n ts ≢ 0
      → place_of (key_words n) size ≡ place_of (s.key_words n) s.size)
      → All (λ t. IsTrue (holds (place_of (s.key_words t.number) s.size) section)) ts
      → All (λ t. IsTrue (holds (place_of (key_words t.number) size) section)) ts
  held_for section [] same all = All-nil _
  held_for section (t ∷ ts) same all =
      let Held : TakenThread → Type 0 = λ t. IsTrue (holds (place_of (s.key_words t.number) s.size) section) in
      All-cons (λ t. IsTrue (holds (place_of (key_words t.number) size) section)) t ts
      (subst (λ p. IsTrue (holds p section))
      (sym (same t.number (λ none. absurd (omega (arith, times_taken-own t.number t ts refl, none)))))
      (All-head Held t ts all))
      (held_for section ts (λ n some. same n (λ none. some (omega (arith, times_taken-cons n t ts, none))))
      (All-tail Held t ts all))

  pub still_held_at : (callers : List Caller) → ((n : ℕ)
      → times_taken n (flat_map (λ (cl : Caller). taken_in cl.section) callers) ≢ 0
      → place_of (key_words n) size ≡ place_of (s.key_words n) s.size) → All (HoldsForTaken s) callers
      → All (HoldsForTaken (record s { key_words = key_words; size = size })) callers
  still_held_at [] same all = All-nil _
  still_held_at (cl ∷ callers) same all =
      let behind : List TakenThread = flat_map (λ (cl : Caller). taken_in cl.section) callers in
      All-cons (HoldsForTaken (record s { key_words = key_words; size = size })) cl callers
      (held_for cl.section (taken_in cl.section)
      (λ n some. same n (λ none. some (omega (arith, times_taken-append n (taken_in cl.section) behind, none))))
      (All-head (HoldsForTaken s) cl callers all))
      (still_held_at callers
      (λ n some. same n (λ none. some (omega (arith, times_taken-append n (taken_in cl.section) behind, none))))
      (All-tail (HoldsForTaken s) cl callers all))

-- a step that does not fit amounts to none
pub sequential_step-misfit : (s : FineState) (step : FineStep) → sequential_step s step (fine.Answer answer.Misfit) ≡ []
sequential_step-misfit s (Begin caller op) = refl
sequential_step-misfit s _ = refl

-- what a step leaves, and the sequential steps that it amounts to
pub record Amounts (s after : FineState) (whole : List (Step × Answer)) : Type 0 where
  pub run : IsRun IsStep (sequential_view s) (map (λ p. p.0) whole) (map (λ p. p.1) whole) (sequential_view after)
  pub consistent : IsFineConsistent after

module _ (s : FineState) (c : IsFineConsistent s) where
  -- nothing changes
  pub Amounts-none : Amounts s s []
  Amounts-none = record { run = refl; consistent = c }

  -- a thread that no section took and whose slot is empty has its own status in the sequential view
  pub own_status : (n : ℕ) → times_taken n (taken_of s) ≡ 0 → s.slots n ≡ None
      → sequential_status s n ≡ s.threads_view.status n
  own_status n none empty =
      ap (λ slot. with_slot slot (with_taken (taken_of s) s.threads_view.status n)) empty
      ∙ with_taken-none n (taken_of s) s.threads_view.status none

  -- so has one that does not wait and is not late
  module _ (n : ℕ) (still : is_queued (s.threads_view.status n) ≡ false) where
    nobody : once_if (is_queued (s.threads_view.status n)) ≡ 0
    nobody = ap once_if still

    pub not_taken : times_taken n (taken_of s) ≡ 0
    not_taken = omega (arith, c.handed n, nobody)

    pub no_slot : s.slots n ≡ None
    no_slot = None-from (s.slots n) (omega (arith, c.handed n, nobody))

    pub still_status : sequential_status s n ≡ s.threads_view.status n
    still_status = own_status n not_taken no_slot

  -- ReadKey of a late thread
  pub Amounts-read : (thread : ℕ) → s.threads_view.status thread ≡ status.Late
      → Amounts s (record s { keys_read = with_value s.keys_read thread (Some (s.key_words thread)) }) []
  Amounts-read thread late = record {
    run = refl;
    consistent = record {
      view = c.view;
      handed = c.handed;
      unaware = c.unaware;
      reading = λ n read. ⊎_elim (λ (same : n ≡ thread). ap s.threads_view.status same ∙ late)
          (λ (other : n ≢ thread). c.reading n (subst (λ o. IsTrue (is_some o))
          (with_value-other s.keys_read thread (Some (s.key_words thread)) n other) read))
          (cases_eq n thread);
      held = c.held;
      holding = c.holding;
      alone = c.alone;
    };
  }

  -- Look of a thread that is to read again
  pub Amounts-retry : (thread : ℕ) → Amounts s (record s { keys_read = with_value s.keys_read thread None }) []
  Amounts-retry thread = record {
    run = refl;
    consistent = record {
      view = c.view;
      handed = c.handed;
      unaware = c.unaware;
      reading = λ n read. ⊎_elim (λ (same : n ≡ thread). absurd (false≢true (subst (λ o. IsTrue (is_some o))
          (with_value-same s.keys_read thread None n same) read)))
          (λ (other : n ≢ thread). c.reading n (subst (λ o. IsTrue (is_some o))
          (with_value-other s.keys_read thread None n other) read))
          (cases_eq n thread);
      held = c.held;
      holding = c.holding;
      alone = c.alone;
    };
  }
