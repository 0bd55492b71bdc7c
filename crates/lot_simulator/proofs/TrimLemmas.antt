-- What a trim on the interleaved machine amounts to.
use Rattle.std.proofs.Common.{◌≡◌, ℕ, ◌≤◌, ◌<◌, false, [], sym, ap, subst, arith, ⊎_elim, inl, inr, refl}
use Rattle.std.proofs.lemmas.Bool.{cases_lt}
use Rattle.std.specs.Prelude.{◌⊎◌}
use Rattle.lot_base.specs.Place.{place_of}
use Rattle.lot_machine.specs.declared.step.Answer.{Answer}
use Rattle.lot_machine.specs.declared.step.Answer.TheVariants as answer
use Rattle.lot_machine.specs.declared.step.Step.TheVariants as machine
use Rattle.lot_simulator.specs.declared.interleaved.FineAnswer.{FineAnswer}
use Rattle.lot_simulator.specs.declared.interleaved.FineAnswer.TheVariants as fine
use Rattle.lot_simulator.specs.declared.interleaved.FineStep.TheVariants.{Trim}
use Rattle.lot_simulator.specs.InterleavedState.{FineState}
use Rattle.lot_simulator.specs.InterleavedSteps.{IsFineTrim, is_any_open}
use Rattle.lot_simulator.specs.InterleavedView.{sequential_step, taken_of, times_taken, IsFineConsistent, answered}
use Rattle.lot_machine.specs.Machine.{Machine, threads_of}
use Rattle.lot_machine.specs.Size.{IsSizeAfter, IsTooLarge, IsTrimmedSize}
use Rattle.lot_machine.specs.Steps as steps
use Rattle.lot_simulator.proofs.AmountsLemmas.{Amounts, Amounts-none, still_held_at}
use Rattle.lot_simulator.proofs.RegisterLemmas.{none_taken}

module _ (s : FineState) (c : IsFineConsistent s) where
  -- the table keeps its size, or no section is open
  keeps_or_closed : (size : ℕ) → (IsTooLarge (threads_of s.threads_view) s.size → is_any_open s ≡ false)
      → IsTrimmedSize (threads_of s.threads_view) s.size size → (size ≡ s.size) ⊎ (taken_of s ≡ [])
  keeps_or_closed size closed (least, is_least, size_is) =
      ⊎_elim (λ (smaller : least < s.size). inr (none_taken s.callers (closed (least, is_least, smaller))))
      (λ (keeps : s.size ≤ least). inl (omega (arith, keeps, size_is)))
      (cases_lt least s.size)

  Amounts-trimmed : (size : ℕ) → (size ≡ s.size) ⊎ (taken_of s ≡ [])
      → Amounts s (record s { size = size }) (answered machine.Trim answer.Trimmed)
  Amounts-trimmed size kept = record {
    run = (_, refl, refl);
    consistent = record {
      view = c.view;
      handed = c.handed;
      unaware = c.unaware;
      reading = c.reading;
      held = still_held_at s s.key_words size s.callers
          (λ n some. ⊎_elim (λ (same : size ≡ s.size). ap (place_of (s.key_words n)) same)
          (λ (nobody : taken_of s ≡ []). absurd (some (ap (times_taken n) nobody))) kept)
          c.held;
      holding = c.holding;
      alone = c.alone;
    };
  }

  Amounts-refused : Amounts s s (answered machine.Trim answer.NoMemory)
  Amounts-refused = record { run = (_, refl, refl); consistent = c }

  -- by the answer of the machine's rule
  trim_by-amounts : (by_rule : Answer) (view : Machine) (size : ℕ)
      → (IsTooLarge (threads_of s.threads_view) s.size → is_any_open s ≡ false)
      → steps.IsTrim s.threads_view by_rule view → IsSizeAfter machine.Trim by_rule (threads_of view) s.size size
      → Amounts s (record s { threads_view = view; size = size }) (sequential_step s Trim (fine.Answer by_rule))
  trim_by-amounts answer.Trimmed view size closed left sized =
      subst (λ m. Amounts s (record s { threads_view = m; size = size }) (answered machine.Trim answer.Trimmed))
      (sym left)
      (Amounts-trimmed size (keeps_or_closed size closed
      (subst (λ m. IsTrimmedSize (threads_of m) s.size size) left sized)))
  trim_by-amounts answer.NoMemory view size closed left (_, kept) =
      subst (λ m. Amounts s (record s { threads_view = m; size = size }) (answered machine.Trim answer.NoMemory))
      (sym left)
      (subst (λ n. Amounts s (record s { size = n }) (answered machine.Trim answer.NoMemory)) (sym kept) Amounts-refused)
  trim_by-amounts _ view size closed none sized = absurd none

  pub IsTrim-amounts : (given : FineAnswer) (new : FineState) → IsFineTrim s given new
      → Amounts s new (sequential_step s Trim given)
  IsTrim-amounts fine.Blocked new (_, _, new_is) = subst (λ n. Amounts s n []) (sym new_is) (Amounts-none s c)
  IsTrim-amounts (fine.Answer by_rule) new (closed, view, size, does, sized, new_is) =
      subst (λ n. Amounts s n (sequential_step s Trim (fine.Answer by_rule))) (sym new_is)
      (trim_by-amounts by_rule view size closed does sized)
  IsTrim-amounts _ new none = absurd none
