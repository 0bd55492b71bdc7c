-- A trim of an interleaved lot.
use Rattle.std.proofs.Common.{◌≡◌, false, true, List, length, refl, ap, subst}
use Rattle.std.specs.Prelude.{map}
use Rattle.lot_base.specs.BucketState.{BucketState}
use Rattle.lot_simulator.specs.declared.interleaved.FineAnswer.TheVariants as fine
use Rattle.lot_simulator.specs.declared.interleaved.FineStep.TheVariants.{Trim}
use Rattle.lot_machine.specs.declared.step.Answer.TheVariants as answer
use Rattle.lot_machine.specs.declared.numbers.Use.{Use}
use Rattle.lot_simulator.specs.FineLot.{IsFineLot, fine_state, plain_lot, plain_threads}
use Rattle.lot_simulator.specs.FineLotState.{FineLotState}
use Rattle.lot_simulator.specs.InterleavedState.{FineState}
use Rattle.lot_simulator.specs.InterleavedSteps.{IsFineStep, is_any_open}
use Rattle.lot_simulator.specs.Lot.{machine, uses}
use Rattle.lot_machine.specs.Machine.{threads_of}
use Rattle.lot_simulator.specs.Represents.{waiter_of, waiters_in}
use Rattle.lot_machine.specs.Size.{IsTooLarge, IsTrimmedSize}
use Rattle.lot_simulator.specs.Table.{KeepsLists}
use Rattle.lot_machine.specs.Numbers.{count_registered}
use Rattle.lot_simulator.proofs.FineStateLemmas.{DoneStep}
use Rattle.lot_simulator.proofs.FineTableLemmas.{registered-threads}
use Rattle.lot_simulator.proofs.InterleavingLemmas.{IsFineConsistent-step}
use Rattle.lot_machine.proofs.StandingLemmas.{same_machine}

module _ (lot : FineLotState) (table_numbers : List Use)
    (same : table_numbers ≡ uses (plain_threads lot.threads)) where
  abbrev s : FineState
  s = fine_state lot

  threads : count_registered table_numbers ≡ threads_of s.threads_view
  threads = registered-threads lot table_numbers same

  -- the table is too large, and a section is open
  pub Trim-blocked : IsTooLarge (count_registered table_numbers) (length lot.buckets) → is_any_open s ≡ true
      → IsFineStep s Trim fine.Blocked s
  Trim-blocked large opened = (subst (λ n. IsTooLarge n (length lot.buckets)) threads large, opened, refl)

  -- no section is open where it is
  module _ (free : IsTooLarge (count_registered table_numbers) (length lot.buckets) → is_any_open s ≡ false) where
    closed : IsTooLarge (threads_of s.threads_view) s.size → is_any_open s ≡ false
    closed = subst (λ n. IsTooLarge n (length lot.buckets) → is_any_open s ≡ false) threads free

    pub Trim-no_memory : IsTooLarge (count_registered table_numbers) (length lot.buckets)
        → IsFineStep s Trim (fine.Answer answer.NoMemory) s
    Trim-no_memory large =
        (closed, s.threads_view, s.size, refl, (subst (λ n. IsTooLarge n (length lot.buckets)) threads large, refl), refl)

    pub DoneStep-trimmed : IsFineLot lot → (row : List BucketState) → KeepsLists lot.buckets row
        → IsTrimmedSize (count_registered table_numbers) (length lot.buckets) (length row)
        → DoneStep lot (record lot { buckets = row }) Trim (fine.Answer answer.Trimmed)
    DoneStep-trimmed is row keeps sized = record {
      is_lot = record {
        represents = record {
          in_place = (keeps.represents (waiters_in lot.buckets) is.represents).in_place;
          in_order = λ key. refl;
        };
        numbers = is.numbers;
        consistent = IsFineConsistent-step s Trim (fine.Answer answer.Trimmed) (fine_state new) is.consistent does;
        count = is.count;
      };
      does = does;
    }
      where
        new : FineLotState
        new = record lot { buckets = row }

        view : machine (plain_lot new) ≡ s.threads_view
        view = same_machine _ _ (λ k. ap (map waiter_of) (keeps.nodes k)) (λ _. refl) (λ _. refl) refl

        does : IsFineStep s Trim (fine.Answer answer.Trimmed) (fine_state new)
        does = (
          closed,
          s.threads_view,
          length row,
          refl,
          subst (λ n. IsTrimmedSize n (length lot.buckets) (length row)) threads sized,
          (λ i. record s { threads_view = view i; size = length row }),
        )
