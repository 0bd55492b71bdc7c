-- What new interleaved lots keep.
use Rattle.std.proofs.Common.{◌≡◌, ℕ, ◌≤◌, zero, suc, ◌+◌, List, [], ◌∷◌, map, length, replicate, refl}
use Rattle.std.proofs.Common.{sym, ap, ◌∙◌, subst, arith, None, ⊎_elim, ◌<◌}
use Rattle.std.proofs.lemmas.Bool.{cases_lt, false≢true}
use Rattle.std.proofs.lemmas.List.FromFn.{length-map-range_with_len, get_or-map-range_with_len}
use Rattle.std.proofs.lemmas.List.Elements.{All-nil, All-cons}
use Rattle.std.specs.Prelude.{All}
use Rattle.std.specs.List.{range_with_len}
use Rattle.lot_base.specs.BucketState.{BucketState}
use Rattle.lot_simulator.specs.declared.interleaved.FineLot.TheInside.{Inside}
use Rattle.lot_machine.specs.declared.numbers.TheConstants.{MAX_THREADS}
use Rattle.lot_simulator.specs.FineLot.{IsFineLot, fine_state, free_fine_thread, plain_threads, plain_lot}
use Rattle.lot_simulator.specs.FineLot.{fine_thread_at}
use Rattle.lot_simulator.specs.FineLotState.{FineLotState, FineThreadState}
use Rattle.lot_simulator.specs.InterleavedState.{FineState, new_fine_state}
use Rattle.lot_simulator.specs.InterleavedView.{IsFineConsistent, HoldsForTaken, taken_of, times_taken}
use Rattle.lot_simulator.specs.Lot.{free_thread, machine, thread_at, thread_keys}
use Rattle.lot_machine.specs.Machine.{MatchesStatus, new_machine}
use Rattle.lot_simulator.specs.Represents.{bucket_at}
use Rattle.lot_simulator.proofs.HoldingLemmas.{EachHoldsABucket-new, EachHoldsAlone-new}
use Rattle.lot_simulator.proofs.InterleavedLemmas.{sequential_view-new, taken_of-new}
use Rattle.lot_simulator.proofs.LotThreadLemmas.{IsLotStep}
use Rattle.lot_simulator.proofs.LotLemmas.{IsLotStep-new}
use Rattle.lot_simulator.proofs.UseLemmas.{thread_at-free}
use Rattle.std.proofs.lemmas.List.{get_or_past}

-- a lot by its fields
abbrev pub fine_lot_of : Inside → FineLotState
fine_lot_of lot = record { buckets = lot.table.cells; threads = lot.threads.items; callers = lot.callers.items }

-- of new callers each does as it must
All-replicate : {A : Type 0} (P : A → Type 0) (n : ℕ) (x : A) → P x → All P (replicate n x)
All-replicate P zero x p = All-nil P
All-replicate P (suc n) x p = All-cons P x (replicate n x) p (All-replicate P n x p)

pub IsFineConsistent-new : (max_threads callers : ℕ) → IsFineConsistent (new_fine_state max_threads callers)
IsFineConsistent-new max_threads callers = record {
  view = subst (MatchesStatus (λ _. 0)) (sym (sequential_view-new max_threads callers))
      (record {
        standing = λ _ _. refl;
        timing = λ _. All-nil _;
        others_free = λ _ _. refl;
        free_of_records = λ _ _ _. refl;
      });
  handed = λ number.
      let nobody : times_taken number (taken_of (new_fine_state max_threads callers)) ≡ 0 =
      ap (times_taken number) (taken_of-new max_threads callers) in
      omega (arith, nobody);
  unaware = λ number. refl;
  reading = λ number read. absurd (false≢true read);
  held = All-replicate (HoldsForTaken (new_fine_state max_threads callers)) callers _ (All-nil _);
  holding = EachHoldsABucket-new max_threads callers;
  alone = EachHoldsAlone-new max_threads callers;
}

pub plain_threads-free : (a n : ℕ) → plain_threads (map free_fine_thread (range_with_len a n))
    ≡ map free_thread (range_with_len a n)
plain_threads-free a zero = refl
plain_threads-free a (suc n) = ap (λ rest. free_thread a ∷ rest) (plain_threads-free (a + 1) n)

fine_thread_at-free : (n j : ℕ) → fine_thread_at (map free_fine_thread (range_with_len 0 n)) j ≡ free_fine_thread j
fine_thread_at-free n j =
    ⊎_elim
    (λ (low : j < n). get_or-map-range_with_len free_fine_thread 0 n j j (free_fine_thread j) low (omega arith))
    (λ (past : n ≤ j). get_or_past (map free_fine_thread (range_with_len 0 n)) j (free_fine_thread j)
    (omega (arith, length-map-range_with_len free_fine_thread 0 n)))
    (cases_lt j n)

-- a lot after a step
pub record IsFineLotStep (new : FineLotState) (s : FineState) : Type 0 where
  pub is_lot : IsFineLot new
  pub means : fine_state new ≡ s

-- a new lot
pub IsFineLotStep-new : (row : List BucketState) (max_threads callers : ℕ) → max_threads ≤ MAX_THREADS
    → length row ≡ 16 → ((i : ℕ) → (bucket_at row i).nodes ≡ [])
    → IsFineLotStep (record {
      buckets = row;
      threads = map free_fine_thread (range_with_len 0 max_threads);
      callers = replicate callers (record { section = None; wakes = 0 });
    })
    (new_fine_state max_threads callers)
IsFineLotStep-new row max_threads callers few size empty = record {
  is_lot = record {
    represents = plain.is_lot.represents;
    numbers = λ number. ap (λ ts. (thread_at ts number).number) as_plain ∙ plain.is_lot.numbers number;
    consistent = subst IsFineConsistent (sym means) (IsFineConsistent-new max_threads callers);
    count = omega (arith, few, length-map-range_with_len free_fine_thread 0 max_threads);
  };
  means = means;
}
  where
    threads : List FineThreadState
    threads = map free_fine_thread (range_with_len 0 max_threads)

    as_plain : plain_threads threads ≡ map free_thread (range_with_len 0 max_threads)
    as_plain = plain_threads-free 0 max_threads

    plain : IsLotStep (record { buckets = row; threads = map free_thread (range_with_len 0 max_threads) })
        (new_machine max_threads)
    plain = IsLotStep-new row max_threads few empty

    lot : FineLotState
    lot =
        record {
          buckets = row;
          threads = threads;
          callers = replicate callers (record { section = None; wakes = 0 });
        }

    view : machine (plain_lot lot) ≡ new_machine max_threads
    view = ap (λ ts. machine (record { buckets = row; threads = ts })) as_plain ∙ plain.means

    key_words : (j : ℕ) → thread_keys (plain_threads threads) j ≡ 0
    key_words j = ap (λ ts. thread_keys ts j) as_plain ∙ ap (λ t. t.key) (thread_at-free max_threads j)

    free : (j : ℕ) → fine_thread_at threads j ≡ free_fine_thread j
    free j = fine_thread_at-free max_threads j

    means : fine_state lot ≡ new_fine_state max_threads callers
    means =
        λ i.
        record {
          threads_view = view i;
          key_words = λ j. key_words j i;
          keys_read = λ j. (free j i).key_read;
          slots = λ j. (free j i).slot;
          callers = replicate callers (record { section = None; wakes = 0 });
          size = size i;
        }
