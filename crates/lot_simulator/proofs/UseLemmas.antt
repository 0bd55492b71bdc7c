-- What a table knows of the threads of a lot: which numbers are registered, and how many.
use Rattle.std.proofs.Common.{◌≡◌, ℕ, ◌+◌, ◌-◌, ◌<◌, ◌≤◌, List, [], ◌∷◌, ◌++◌, Some, length, length-append, map}
use Rattle.std.proofs.Common.{replicate, slice_get, get_or, refl, sym, ap, ◌∙◌, subst, ⊎_elim, arith, cond}
use Rattle.std.proofs.Common.{append_assoc, option_map, zero, suc}
use Rattle.std.specs.List.{count_by, range_with_len}
use Rattle.std.proofs.lemmas.List.{get_or-append_right, length-map}
use Rattle.std.proofs.lemmas.List.FromFn.{get_or-map-range_with_len, length-map-range_with_len}
use Rattle.std.proofs.lemmas.List.{get_or_past}
use Rattle.std.specs.List.{sum_by}
use Rattle.std.proofs.lemmas.List.Sums.{sum_by-cons}
use Rattle.std.proofs.lemmas.Option.{slice_get-map, slice_get-get_or, get_or_from_slice_get, slice_get_within}
use Rattle.std.proofs.lemmas.Bool.{cases_lt}
use Rattle.lot_machine.specs.declared.status.Status.{Status}
use Rattle.lot_machine.specs.declared.status.Status.TheVariants as status
use Rattle.lot_machine.specs.declared.numbers.Use.{Use}
use Rattle.lot_machine.specs.declared.numbers.Use.TheVariants.{Free}
use Rattle.lot_simulator.specs.Lot.{thread_at, free_thread, statuses, use_of, uses, machine}
use Rattle.lot_simulator.specs.LotState.{LotState, ThreadState}
use Rattle.lot_machine.specs.Machine.{IsFull, IsLeastFree, threads_of}
use Rattle.lot_machine.specs.Status.{is_registered}
use Rattle.lot_machine.specs.Numbers.{IsLeastUnregistered, is_in_use, count_registered}
use Rattle.lot_simulator.proofs.CommitLemmas.{use_of-registered}
use Rattle.lot_machine.proofs.NumberLemmas.{count_registered-all, count_registered-free}

use_of-free : (s : Status) → use_of s ≡ Free → s ≡ status.Free
use_of-free status.Free free = refl
use_of-free status.Running free = absurd cc
use_of-free (status.Waiting _) free = absurd cc
use_of-free status.Late free = absurd cc
use_of-free (status.Taken _) free = absurd cc

-- the use of one number
uses-at : (threads : List ThreadState) (k : ℕ) → k < length threads
    → slice_get (uses threads) k ≡ Some (use_of (statuses threads k))
uses-at threads k low =
    slice_get-map (λ t. use_of t.status) threads k
    ∙ ap (option_map (λ t. use_of t.status)) (slice_get-get_or threads k (free_thread k) low)

free_at : (threads : List ThreadState) (k : ℕ) → slice_get (uses threads) k ≡ Some Free
    → statuses threads k ≡ status.Free
free_at threads k free =
    use_of-free (statuses threads k)
    (sym (get_or_from_slice_get (uses threads) k (use_of (statuses threads k)) Free
    (uses-at threads k (within threads k free))) ∙ get_or_from_slice_get (uses threads) k Free Free free)
  where
    within : (threads : List ThreadState) (k : ℕ) → slice_get (uses threads) k ≡ Some Free → k < length threads
    within threads k free =
        omega (arith, slice_get_within (uses threads) k Free free, length-map threads (λ t. use_of t.status))

-- all numbers are registered exactly if the machine is full
pub IsFull-counted : (lot : LotState) → count_registered (uses lot.threads) ≡ length lot.threads → IsFull (machine lot)
IsFull-counted lot all k low free =
    let fewer = count_registered-free (uses lot.threads) k
    (uses-at lot.threads k low ∙ ap (λ s. Some (use_of s)) free) in
    absurd (omega (arith, length-map lot.threads (λ t. use_of t.status)))

pub counted-IsFull : (lot : LotState) → IsFull (machine lot) → count_registered (uses lot.threads) ≡ length lot.threads
counted-IsFull lot full =
    count_registered-all (uses lot.threads)
    (λ k low. let below : k < length lot.threads = omega (arith, length-map lot.threads (λ t. use_of t.status)) in
    uses-at lot.threads k below ∙ ap Some (use_of-registered (statuses lot.threads k) (full k below)))
    ∙ length-map lot.threads (λ t. use_of t.status)

-- the least free number of the table is the machine's
pub IsLeastFree-use : (lot : LotState) (number : ℕ) → IsLeastUnregistered (uses lot.threads) number
    → IsLeastFree (machine lot) number
IsLeastFree-use lot number least = record {
  below = below;
  free = free_at lot.threads number least.free;
  least = λ k low free. absurd (let read = sym (least.least k low) ∙ uses-at lot.threads k (omega (arith, below))
      ∙ ap (λ s. Some (use_of s)) free in cc);
}
  where
    below : number < length lot.threads
    below = omega (
      arith,
      slice_get_within (uses lot.threads) number Free least.free,
      length-map lot.threads (λ t. use_of t.status),
    )

-- how many are registered
thread_at-first : (before : List ThreadState) (thread : ThreadState) (threads : List ThreadState)
    → thread_at (before ++ thread ∷ threads) (length before) ≡ thread
thread_at-first before thread threads =
    get_or-append_right before (thread ∷ threads) (length before) (length before) _ refl (omega arith)
    ∙ (let none : length before - length before ≡ 0 = omega arith in
    ap (λ k. get_or (thread ∷ threads) k (free_thread (length before))) none)

map-thread_at : (before threads : List ThreadState)
    → map (thread_at (before ++ threads)) (range_with_len (length before) (length threads)) ≡ threads
map-thread_at before [] = refl
map-thread_at before (thread ∷ threads) =
    let more : length (before ++ thread ∷ []) ≡ length before + 1 = length-append before (thread ∷ []) in
    let rest : map (thread_at (before ++ thread ∷ threads)) (range_with_len (length before + 1) (length threads))
    ≡ threads =
    ap (λ all. map (thread_at all) (range_with_len (length before + 1) (length threads)))
    (sym (append_assoc before (thread ∷ []) threads))
    ∙ ap (λ n. map (thread_at ((before ++ thread ∷ []) ++ threads)) (range_with_len n (length threads))) (sym more)
    ∙ map-thread_at (before ++ thread ∷ []) threads in
    λ i. thread_at-first before thread threads i ∷ rest i

-- what a status counts for
abbrev weight : Status → ℕ
weight s = cond (is_registered s) 1 0

weight-use : (s : Status) → cond (is_in_use (use_of s)) 1 0 ≡ weight s
weight-use status.Free = refl
weight-use status.Running = refl
weight-use (status.Waiting _) = refl
weight-use status.Late = refl
weight-use (status.Taken _) = refl

counted-uses : (threads : List ThreadState)
    → count_registered (uses threads) ≡ count_by (λ (t : ThreadState). is_registered t.status) threads
counted-uses [] = refl
counted-uses (thread ∷ threads) =
    sum_by-cons (λ number. cond (is_in_use number) 1 0) (use_of thread.status) (uses threads)
    ∙ ap (λ w. w + count_registered (uses threads)) (weight-use thread.status)
    ∙ ap (λ n. weight thread.status + n) (counted-uses threads)
    ∙ sym (sum_by-cons (λ (t : ThreadState). weight t.status) thread threads)

sum_by-map : {A B : Type 0} (weigh : B → ℕ) (f : A → B) (xs : List A)
    → sum_by weigh (map f xs) ≡ sum_by (λ x. weigh (f x)) xs
sum_by-map weigh f [] = refl
sum_by-map weigh f (x ∷ xs) =
    sum_by-cons weigh (f x) (map f xs) ∙ ap (λ n. weigh (f x) + n) (sum_by-map weigh f xs)
    ∙ sym (sum_by-cons (λ y. weigh (f y)) x xs)

pub threads_of-uses : (lot : LotState) → count_registered (uses lot.threads) ≡ threads_of (machine lot)
threads_of-uses lot =
    counted-uses lot.threads
    ∙ ap (count_by (λ (t : ThreadState). is_registered t.status)) (sym (map-thread_at [] lot.threads))
    ∙ sum_by-map (λ (t : ThreadState). cond (is_registered t.status) 1 0) (thread_at lot.threads)
    (range_with_len 0 (length lot.threads))

-- nobody is registered
pub thread_at-free : (n j : ℕ) → thread_at (map free_thread (range_with_len 0 n)) j ≡ free_thread j
thread_at-free n j =
    ⊎_elim (λ (low : j < n). get_or-map-range_with_len free_thread 0 n j j (free_thread j) low (omega arith))
    (λ (past : n ≤ j). get_or_past (map free_thread (range_with_len 0 n)) j (free_thread j)
    (omega (arith, length-map-range_with_len free_thread 0 n)))
    (cases_lt j n)

pub uses-free : (a n : ℕ) → uses (map free_thread (range_with_len a n)) ≡ replicate n Free
uses-free a zero = refl
uses-free a (suc n) = ap (λ rest. Free ∷ rest) (uses-free (a + 1) n)

-- the number that a table gave to a lot
pub IsLeastFree-given : (lot : LotState) (numbers : List Use) (number : ℕ) → numbers ≡ uses lot.threads
    → IsLeastUnregistered numbers number → IsLeastFree (machine lot) number
IsLeastFree-given lot numbers number same least =
    IsLeastFree-use lot number (subst (λ n. IsLeastUnregistered n number) same least)
