-- The threads of a lot, and what a step does to them.
use Rattle.std.proofs.Common.{◌≡◌, ◌≢◌, ℕ, ◌+◌, ◌<◌, ◌≤◌, IsTrue, List, [], ◌∷◌, length, map, refl, sym, ap, ◌∙◌}
use Rattle.std.proofs.Common.{⊎_elim, arith, get_or-set_same, get_or-set_other, slice_set}
use Rattle.std.proofs.Math.ListN.{length-set, get_or-map}
use Rattle.std.proofs.lemmas.Bool.{cases_eq, cases_lt, false≢true}
use Rattle.std.proofs.lemmas.List.{get_or_past, map-set, set-get_or}
use Rattle.lot_base.specs.NodeFields.{NodeFields}
use Rattle.lot_base.specs.Waiting.{with_value}
use Rattle.lot_base.specs.NodeLists.{with_token}
use Rattle.lot_base.specs.declared.token.UnparkToken.{UnparkToken}
use Rattle.lot_machine.specs.declared.status.Status.{Status}
use Rattle.lot_machine.specs.declared.status.Status.TheVariants as status
use Rattle.lot_machine.specs.declared.numbers.Use.TheVariants.{Registered}
use Rattle.lot_simulator.specs.Private.Commit.{taken_with, threads_after_commit, CanCommit}
use Rattle.lot_simulator.specs.Lot.{thread_at, free_thread, statuses, thread_keys, thread_records, use_of, uses}
use Rattle.lot_simulator.specs.LotState.{ThreadState}
use Rattle.lot_machine.specs.Records.{times_recorded}
use Rattle.lot_machine.specs.Status.{is_queued}
use Rattle.lot_machine.specs.Machine.{times_in, statuses_with_taken}
use Rattle.lot_simulator.specs.Represents.{waiter_of}
use Rattle.lot_base.proofs.ValueLemmas.{with_value-same, with_value-other, with_value-same_value}
use Rattle.lot_machine.proofs.WaiterLemmas.{statuses_with_taken-other, statuses_with_taken-among, times_in-own}
use Rattle.lot_machine.proofs.WaiterLemmas.{times_in-not_own, times_in-append}

-- one thread is another
pub thread_at-set : (threads : List ThreadState) (number : ℕ) (thread : ThreadState) → number < length threads → (j : ℕ)
    → thread_at (slice_set threads number thread) j ≡ with_value (thread_at threads) number thread j
thread_at-set threads number thread below j =
    ⊎_elim (λ (same : j ≡ number). ap (thread_at (slice_set threads number thread)) same
    ∙ get_or-set_same threads number thread _ below ∙ sym (with_value-same (thread_at threads) number thread j same))
    (λ (other : j ≢ number). get_or-set_other threads number j thread _ other
    ∙ sym (with_value-other (thread_at threads) number thread j other))
    (cases_eq j number)

-- and so what is read of it: its status, its records and its key
part-set : {A : Type 0} (part : ThreadState → A) (threads : List ThreadState) (number : ℕ) (thread : ThreadState)
    → number < length threads → (j : ℕ)
    → part (thread_at (slice_set threads number thread) j)
    ≡ with_value (λ k. part (thread_at threads k)) number (part thread) j
part-set part threads number thread below j =
    ⊎_elim (λ (same : j ≡ number). ap part
    (thread_at-set threads number thread below j ∙ with_value-same (thread_at threads) number thread j same)
    ∙ sym (with_value-same (λ k. part (thread_at threads k)) number (part thread) j same))
    (λ (other : j ≢ number). ap part
    (thread_at-set threads number thread below j ∙ with_value-other (thread_at threads) number thread j other)
    ∙ sym (with_value-other (λ k. part (thread_at threads k)) number (part thread) j other))
    (cases_eq j number)

pub statuses-set : (threads : List ThreadState) (number : ℕ) (thread : ThreadState) → number < length threads → (j : ℕ)
    → statuses (slice_set threads number thread) j ≡ with_value (statuses threads) number thread.status j
statuses-set threads number thread below j = part-set (λ t. t.status) threads number thread below j

pub records-set : (threads : List ThreadState) (number : ℕ) (thread : ThreadState) → number < length threads → (j : ℕ)
    → thread_records (slice_set threads number thread) j
    ≡ with_value (thread_records threads) number (times_recorded thread.records) j
records-set threads number thread below j =
    part-set (λ t. times_recorded t.records) threads number thread below j

-- where the thread has the records that were there
pub records-kept : (threads : List ThreadState) (number : ℕ) (thread : ThreadState) → number < length threads
    → thread.records ≡ (thread_at threads number).records → (j : ℕ)
    → thread_records (slice_set threads number thread) j ≡ thread_records threads j
records-kept threads number thread below same j =
    records-set threads number thread below j
    ∙ with_value-same_value (thread_records threads) number (times_recorded thread.records) (ap times_recorded same) j

pub keys-set_other : (threads : List ThreadState) (number : ℕ) (thread : ThreadState) (j : ℕ) → j ≢ number
    → thread_keys (slice_set threads number thread) j ≡ thread_keys threads j
keys-set_other threads number thread j other = ap (λ t. t.key) (get_or-set_other threads number j thread _ other)

pub keys-set_same : (threads : List ThreadState) (number : ℕ) (thread : ThreadState) → number < length threads
    → thread_keys (slice_set threads number thread) number ≡ thread.key
keys-set_same threads number thread below = ap (λ t. t.key) (get_or-set_same threads number thread _ below)

pub numbers-set : (threads : List ThreadState) (number : ℕ) (thread : ThreadState) → number < length threads
    → thread.number ≡ number → ((j : ℕ) → (thread_at threads j).number ≡ j) → (j : ℕ)
    → (thread_at (slice_set threads number thread) j).number ≡ j
numbers-set threads number thread below own numbers j =
    ⊎_elim (λ (same : j ≡ number). ap (λ t. t.number)
    (thread_at-set threads number thread below j ∙ with_value-same (thread_at threads) number thread j same) ∙ own
    ∙ sym same)
    (λ (other : j ≢ number). ap (λ t. t.number)
    (thread_at-set threads number thread below j ∙ with_value-other (thread_at threads) number thread j other)
    ∙ numbers j)
    (cases_eq j number)

-- a number that the lot does not have
pub statuses-past : (threads : List ThreadState) (j : ℕ) → length threads ≤ j → statuses threads j ≡ status.Free
statuses-past threads j past = ap (λ t. t.status) (get_or_past threads j _ past)

-- so one that is not free is one of the lot's
pub below_from_status : (threads : List ThreadState) (j : ℕ) → statuses threads j ≢ status.Free → j < length threads
below_from_status threads j other = ⊎_elim (λ (low : j < length threads). low)
    (λ (past : length threads ≤ j). absurd (other (statuses-past threads j past))) (cases_lt j (length threads))

pub ne-free-queued : (s : Status) → IsTrue (is_queued s) → s ≢ status.Free
ne-free-queued s queued free = false≢true (ap is_queued (sym free) ∙ queued)

pub ne-free-running : status.Running ≢ status.Free
ne-free-running same = cc

-- the uses of the numbers, one of which has another status
pub uses-set : (threads : List ThreadState) (number : ℕ) (thread : ThreadState)
    → uses (slice_set threads number thread) ≡ slice_set (uses threads) number (use_of thread.status)
uses-set threads number thread = map-set (λ t. use_of t.status) threads number thread

-- and if that is used alike, they are the same
pub uses-same : (threads : List ThreadState) (number : ℕ) (thread : ThreadState)
    → use_of thread.status ≡ use_of (statuses threads number) → uses (slice_set threads number thread) ≡ uses threads
uses-same threads number thread alike =
    uses-set threads number thread
    ∙ ap (slice_set (uses threads) number)
    (alike ∙ sym (get_or-map (λ t. use_of t.status) threads number (free_thread number)))
    ∙ set-get_or (uses threads) number (use_of (free_thread number).status)

pub use_of-registered : (s : Status) → s ≢ status.Free → use_of s ≡ Registered
use_of-registered status.Free other = absurd (other refl)
use_of-registered status.Running other = refl
use_of-registered (status.Waiting _) other = refl
use_of-registered status.Late other = refl
use_of-registered (status.Taken _) other = refl

pub use_of-queued : (s : Status) → IsTrue (is_queued s) → use_of s ≡ Registered
use_of-queued s queued = use_of-registered s (ne-free-queued s queued)

pub length-after_commit : (nodes : List NodeFields) (threads : List ThreadState)
    → length (threads_after_commit nodes threads) ≡ length threads
length-after_commit [] threads = refl
length-after_commit (node ∷ nodes) threads = length-after_commit nodes (taken_with node threads)
    ∙ length-set threads node.number _

-- a commit keeps each number, its key, its use and its records
pub numbers-after_commit : (nodes : List NodeFields) (threads : List ThreadState) → CanCommit nodes threads
    → ((j : ℕ) → (thread_at threads j).number ≡ j) → (j : ℕ) → (thread_at (threads_after_commit nodes threads) j).number ≡ j
numbers-after_commit [] threads can numbers = numbers
numbers-after_commit (node ∷ nodes) threads can numbers =
    numbers-after_commit nodes (taken_with node threads) can.3 (numbers-set threads node.number _ can.0 can.1 numbers)

pub keys-after_commit : (nodes : List NodeFields) (threads : List ThreadState) → CanCommit nodes threads → (j : ℕ)
    → thread_keys (threads_after_commit nodes threads) j ≡ thread_keys threads j
keys-after_commit [] threads can j = refl
keys-after_commit (node ∷ nodes) threads can j =
    keys-after_commit nodes (taken_with node threads) can.3 j
    ∙ ⊎_elim (λ (same : j ≡ node.number). ap (thread_keys (taken_with node threads)) same
    ∙ keys-set_same threads node.number _ can.0
    ∙ ap (thread_keys threads) (sym same)) (keys-set_other threads node.number _ j) (cases_eq j node.number)

pub uses-after_commit : (nodes : List NodeFields) (threads : List ThreadState) → CanCommit nodes threads
    → uses (threads_after_commit nodes threads) ≡ uses threads
uses-after_commit [] threads can = refl
uses-after_commit (node ∷ nodes) threads can =
    uses-after_commit nodes (taken_with node threads) can.3
    ∙ uses-same threads node.number _ (sym (use_of-queued (statuses threads node.number) can.2))

pub records-after_commit : (nodes : List NodeFields) (threads : List ThreadState) → CanCommit nodes threads → (j : ℕ)
    → thread_records (threads_after_commit nodes threads) j ≡ thread_records threads j
records-after_commit [] threads can j = refl
records-after_commit (node ∷ nodes) threads can j =
    records-after_commit nodes (taken_with node threads) can.3 j
    ∙ records-kept threads node.number _ can.0 refl j

-- the committed threads are those of the waiters, and they have the token
pub statuses-after_commit : (token : UnparkToken) (nodes : List NodeFields) (threads : List ThreadState)
    → CanCommit (map (with_token token) nodes) threads → (j : ℕ)
    → statuses (threads_after_commit (map (with_token token) nodes) threads) j
    ≡ statuses_with_taken token (map waiter_of nodes) (statuses threads) j
statuses-after_commit token [] threads can j = refl
statuses-after_commit token (node ∷ nodes) threads can j =
    statuses-after_commit token nodes (taken_with (with_token token node) threads) can.3 j
    ∙ ⊎_elim last among (cases_eq (times_in j (map waiter_of nodes)) 0)
  where
    rest : ℕ → Status
    rest = statuses (taken_with (with_token token node) threads)

    counted : times_in j (map waiter_of (node ∷ nodes))
        ≡ times_in j (waiter_of node ∷ []) + times_in j (map waiter_of nodes)
    counted = times_in-append j (waiter_of node ∷ []) (map waiter_of nodes)

    among : times_in j (map waiter_of nodes) ≢ 0 → statuses_with_taken token (map waiter_of nodes) rest j
        ≡ statuses_with_taken token (map waiter_of (node ∷ nodes)) (statuses threads) j
    among some =
        statuses_with_taken-among token (map waiter_of nodes) rest j some
        ∙ sym (statuses_with_taken-among token (map waiter_of (node ∷ nodes)) (statuses threads) j
        (λ none. some (omega (arith, counted))))

    last : times_in j (map waiter_of nodes) ≡ 0 → statuses_with_taken token (map waiter_of nodes) rest j
        ≡ statuses_with_taken token (map waiter_of (node ∷ nodes)) (statuses threads) j
    last none =
        statuses_with_taken-other token (map waiter_of nodes) rest j none
        ∙ statuses-set threads node.number _ can.0 j
        ∙ ⊎_elim (λ (same : j ≡ node.number). with_value-same (statuses threads) node.number (status.Taken token) j same
        ∙ sym (statuses_with_taken-among token (map waiter_of (node ∷ nodes)) (statuses threads) j
        (λ gone. absurd (omega (arith, counted, times_in-own (waiter_of node) j same)))))
        (λ (other : j ≢ node.number). with_value-other (statuses threads) node.number (status.Taken token) j other
        ∙ sym (statuses_with_taken-other token (map waiter_of (node ∷ nodes)) (statuses threads) j
        (omega (arith, counted, times_in-not_own (waiter_of node) j other))))
        (cases_eq j node.number)

-- waiters who stand once, and wait, can be committed
pub CanCommit-standing : (token : UnparkToken) (nodes : List NodeFields) (threads : List ThreadState)
    → ((j : ℕ) → (thread_at threads j).number ≡ j)
    → ((j : ℕ) → 0 < times_in j (map waiter_of nodes) → (times_in j (map waiter_of nodes) ≡ 1)
    × IsTrue (is_queued (statuses threads j))) → CanCommit (map (with_token token) nodes) threads
CanCommit-standing token [] threads numbers stand = tt
CanCommit-standing token (node ∷ nodes) threads numbers stand = (
  below,
  numbers node.number,
  own.1,
  CanCommit-standing token nodes (taken_with (with_token token node) threads)
      (numbers-set threads node.number _ below (numbers node.number) numbers) behind,
)
  where
    counted : (j : ℕ) → times_in j (map waiter_of (node ∷ nodes))
        ≡ times_in j (waiter_of node ∷ []) + times_in j (map waiter_of nodes)
    counted j = times_in-append j (waiter_of node ∷ []) (map waiter_of nodes)

    here : times_in node.number (waiter_of node ∷ []) ≡ 1
    here = times_in-own (waiter_of node) node.number refl

    own : (times_in node.number (map waiter_of (node ∷ nodes)) ≡ 1) × IsTrue (is_queued (statuses threads node.number))
    own = stand node.number (omega (arith, counted node.number, here))

    below : node.number < length threads
    below = below_from_status threads node.number (ne-free-queued (statuses threads node.number) own.1)

    apart : (j : ℕ) → 0 < times_in j (map waiter_of nodes) → j ≢ node.number
    apart j some same = omega (arith, counted node.number, here, own.0, ap (λ k. times_in k (map waiter_of nodes)) same)

    behind : (j : ℕ) → 0 < times_in j (map waiter_of nodes) → (times_in j (map waiter_of nodes) ≡ 1)
        × IsTrue (is_queued (statuses (taken_with (with_token token node) threads) j))
    behind j some =
        let other = apart j some in
        let none = times_in-not_own (waiter_of node) j other in
        let was = stand j (omega (arith, counted j)) in (
          omega (arith, counted j, was.0),
          ap is_queued (statuses-set threads node.number _ below j
              ∙ with_value-other (statuses threads) node.number (status.Taken token) j other) ∙ was.1,
        )
