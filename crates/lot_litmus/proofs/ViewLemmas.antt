-- What a state stands for once one of its parts is another.
use Rattle.std.proofs.Common.{◌≡◌, ◌≢◌, ℕ, suc, ◌+◌, ◌-◌, ◌<◌, ◌≤◌, ◌/◌, ◌%◌, ◌==◌, ◌||◌, Bool, true, false, not}
use Rattle.std.proofs.Common.{if◌then◌else◌, List, [], ◌∷◌, ◌++◌, length, map, take, drop, sym, ap, refl}
use Rattle.std.proofs.Common.{length-append, ◌∙◌, ⊎_elim, arith}
use Rattle.std.specs.Prelude.{slice_get, slice_set, option_map, Option, Some, None}
use Rattle.std.proofs.lemmas.Bool.{cases_eq, cases_lt, ne_eqb, cond-true, cond-false}
use Rattle.std.proofs.lemmas.List.{get_or-set_same, get_or-set_other, length-set, length-map, length-take, map-append, drop_all}
use Rattle.std.proofs.lemmas.Option.{slice_get-get_or, slice_get-map, slice_get_past, slice_get_within}
use Rattle.lot_base.specs.declared.token.UnparkToken.{UnparkToken}
use Rattle.lot_base.specs.Waiting.{with_value, without_first, has_any, Split}
use Rattle.lot_base.proofs.ValueLemmas.{with_value-same, with_value-other, with_value-alike}
use Rattle.lot_machine.specs.declared.status.Status.{Status}
use Rattle.lot_machine.specs.declared.status.Status.TheVariants.{Taken}
use Rattle.lot_machine.specs.Machine.{Machine, Waiter, times_in, entries_of as entries_of_thread, statuses_with_taken}
use Rattle.lot_machine.specs.Machine.{with_status, after_unpark, after_enter, after_requeue, after_timeout, is_last}
use Rattle.lot_machine.proofs.WaiterLemmas.{statuses_with_taken-other, statuses_with_taken-among, times_in-append}
use Rattle.lot_machine.proofs.WaiterLemmas.{times_in-own, times_in-not_own}
use Rattle.lot_litmus.specs.declared.code.Code.{Code}
use Rattle.lot_litmus.specs.declared.queue.Entry.{Entry}
use Rattle.lot_litmus.specs.declared.queue.Parts.{Parts}
use Rattle.lot_litmus.specs.declared.queue.Queue.{Queue}
use Rattle.lot_litmus.specs.declared.state.Progress.{Progress}
use Rattle.lot_litmus.specs.declared.state.Standing.{Standing}
use Rattle.lot_litmus.specs.declared.state.Standing.TheVariants as standing
use Rattle.lot_litmus.specs.declared.state.State.{State}
use Rattle.lot_litmus.specs.Steps.{is_timed, first_key, unended, with_machine}
use Rattle.lot_litmus.specs.Queues.{entries_of, parted, placed, has_thread, without_thread, Parted}
use Rattle.lot_litmus.specs.View.{waiter_of, status_by, waiters_by, machine_of, configuration_of}
use Rattle.lot_litmus.proofs.QueueLemmas.{take_here}

pub slice_get-set_same : {A : Type 0} (xs : List A) (i : ℕ) (a : A) → i < length xs
    → slice_get (slice_set xs i a) i ≡ Some a
slice_get-set_same xs i a below =
    slice_get-get_or (slice_set xs i a) i a (rw (length-set xs i a) below) ∙ ap Some (get_or-set_same xs i a a below)

pub slice_get-set_other : {A : Type 0} (xs : List A) (i k : ℕ) (a : A) → k ≢ i
    → slice_get (slice_set xs i a) k ≡ slice_get xs k
slice_get-set_other xs i k a other =
    ⊎_elim
    (λ (below : k < length xs). slice_get-get_or (slice_set xs i a) k a (rw (length-set xs i a) below)
    ∙ ap Some (get_or-set_other xs i k a a other) ∙ sym (slice_get-get_or xs k a below))
    (λ (past : length xs ≤ k). slice_get_past (slice_set xs i a) k (rw (length-set xs i a) past)
    ∙ sym (slice_get_past xs k past))
    (cases_lt k (length xs))

-- what is made of each element, once one is another
pub made-set : {A B : Type 0} (f : Option A → B) (xs : List A) (i : ℕ) (a : A) → i < length xs → (k : ℕ)
    → f (slice_get (slice_set xs i a) k) ≡ with_value (λ j. f (slice_get xs j)) i (f (Some a)) k
made-set f xs i a below k =
    ⊎_elim
    (λ (same : k ≡ i). ap (λ j. f (slice_get (slice_set xs i a) j)) same
    ∙ ap f (slice_get-set_same xs i a below)
    ∙ sym (with_value-same (λ j. f (slice_get xs j)) i (f (Some a)) k same))
    (λ (other : k ≢ i). ap f (slice_get-set_other xs i k a other)
    ∙ sym (with_value-other (λ j. f (slice_get xs j)) i (f (Some a)) k other))
    (cases_eq k i)

-- one more was taken
pub statuses_with_taken-snoc : (token : UnparkToken) (waiters : List Waiter) (waiter : Waiter) (status : ℕ → Status)
    (k : ℕ) → statuses_with_taken token (waiters ++ waiter ∷ []) status k
    ≡ with_value (statuses_with_taken token waiters status) waiter.number (Taken token) k
statuses_with_taken-snoc token waiters waiter status k =
    ⊎_elim own other (cases_eq k waiter.number)
  where
    counted : times_in k (waiters ++ waiter ∷ []) ≡ times_in k waiters + times_in k (waiter ∷ [])
    counted = times_in-append k waiters (waiter ∷ [])

    own : k ≡ waiter.number → statuses_with_taken token (waiters ++ waiter ∷ []) status k
        ≡ with_value (statuses_with_taken token waiters status) waiter.number (Taken token) k
    own same =
        let once = times_in-own waiter k same in
        statuses_with_taken-among token (waiters ++ waiter ∷ []) status k (λ none. omega (arith, counted, once, none))
        ∙ sym (with_value-same (statuses_with_taken token waiters status) waiter.number (Taken token) k same)

    apart : k ≢ waiter.number → times_in k (waiters ++ waiter ∷ []) ≡ times_in k waiters
    apart ne = let none = times_in-not_own waiter k ne in omega (arith, counted, none)

    as_before : k ≢ waiter.number → statuses_with_taken token (waiters ++ waiter ∷ []) status k
        ≡ statuses_with_taken token waiters status k
    as_before ne =
        ⊎_elim
        (λ (none : times_in k waiters ≡ 0). statuses_with_taken-other token (waiters ++ waiter ∷ []) status k (apart ne ∙ none)
        ∙ sym (statuses_with_taken-other token waiters status k none))
        (λ (some : times_in k waiters ≢ 0). statuses_with_taken-among token (waiters ++ waiter ∷ []) status k
        (λ none. some (sym (apart ne) ∙ none))
        ∙ sym (statuses_with_taken-among token waiters status k some))
        (cases_eq (times_in k waiters) 0)

    other : k ≢ waiter.number → statuses_with_taken token (waiters ++ waiter ∷ []) status k
        ≡ with_value (statuses_with_taken token waiters status) waiter.number (Taken token) k
    other ne =
        as_before ne
        ∙ sym (with_value-other (statuses_with_taken token waiters status) waiter.number (Taken token) k ne)

-- and so a walk over those who were taken goes one on
pub taken-turn : (token : UnparkToken) (before now after : ℕ → Status) (entries : List Entry) (i : ℕ) (entry : Entry)
    → slice_get entries i ≡ Some entry
    → ((k : ℕ) → now k ≡ statuses_with_taken token (map waiter_of (take i entries)) before k)
    → ((k : ℕ) → after k ≡ with_value now entry.thread.number (Taken token) k)
    → (k : ℕ) → after k ≡ statuses_with_taken token (map waiter_of (take (i + 1) entries)) before k
taken-turn token before now after entries i entry here so_far step k =
    step k
    ∙ with_value-alike now (statuses_with_taken token (map waiter_of (take i entries)) before) entry.thread.number
    (Taken token) k (so_far k)
    ∙ sym (statuses_with_taken-snoc token (map waiter_of (take i entries)) (waiter_of entry) before k)
    ∙ sym (ap (λ waiters. statuses_with_taken token waiters before k)
    (ap (map waiter_of) (take_here entries i entry here) ∙ map-append waiter_of (take i entries) (entry ∷ [])))

-- a machine is that of these queues and standings, if its lists and statuses are theirs
pub machine_of-is : (queues : List Queue) (standings : List Standing) (lists : ℕ → List Waiter) (status : ℕ → Status)
    → ((k : ℕ) → waiters_by (slice_get queues k) ≡ lists k)
    → ((k : ℕ) → status_by (slice_get standings k) ≡ status k)
    → machine_of queues standings
    ≡ record { lists = lists; status = status; records = λ _ _. 0; max_threads = 6 }
machine_of-is queues standings lists status same_lists same_status i =
    record { lists = λ k. same_lists k i; status = λ k. same_status k i; records = λ _ _. 0; max_threads = 6 }

-- the parts of a list of waiters are those of its entries
pub record Mapped (waiters : Split Waiter) (entries : Split Entry) : Type 0 where
  pub taken : waiters.taken ≡ map waiter_of entries.taken
  pub moved : waiters.moved ≡ map waiter_of entries.moved
  pub left : waiters.left ≡ map waiter_of entries.left

placed-mapped : (is_taken is_moved : Bool) (entry : Entry) (waiters : Split Waiter) (entries : Split Entry)
    → Mapped waiters entries
    → Mapped (placed is_taken is_moved (waiter_of entry) waiters) (placed is_taken is_moved entry entries)
placed-mapped true is_moved entry waiters entries rest =
    record { taken = ap (λ xs. waiter_of entry ∷ xs) rest.taken; moved = rest.moved; left = rest.left }
placed-mapped false true entry waiters entries rest =
    record { taken = rest.taken; moved = ap (λ xs. waiter_of entry ∷ xs) rest.moved; left = rest.left }
placed-mapped false false entry waiters entries rest =
    record { taken = rest.taken; moved = rest.moved; left = ap (λ xs. waiter_of entry ∷ xs) rest.left }

pub parted-mapped : (taken moved : ℕ) (entries : List Entry)
    → Mapped (parted taken moved (map waiter_of entries)) (parted taken moved entries)
parted-mapped taken moved [] = record { taken = refl; moved = refl; left = refl }
parted-mapped taken moved (entry ∷ entries) =
    placed-mapped (taken % 2 == 1) (moved % 2 == 1) entry
    (parted (taken / 2) (moved / 2) (map waiter_of entries)) (parted (taken / 2) (moved / 2) entries)
    (parted-mapped (taken / 2) (moved / 2) entries)

-- those of a queue are unparked who are chosen
pub after_unpark-is : (queues : List Queue) (standings after : List Standing) (key : ℕ) (queue left taken : Queue)
    (chosen : ℕ) (token : UnparkToken) → key < length queues → slice_get queues key ≡ Some queue
    → entries_of left ≡ (parted chosen 0 (entries_of queue)).left
    → entries_of taken ≡ (parted chosen 0 (entries_of queue)).taken
    → ((k : ℕ) → status_by (slice_get after k)
    ≡ statuses_with_taken token (map waiter_of (entries_of taken)) (λ j. status_by (slice_get standings j)) k)
    → machine_of (slice_set queues key left) after
    ≡ after_unpark (machine_of queues standings) key (parted chosen 0 (waiters_by (slice_get queues key))) token
after_unpark-is queues standings after key queue left taken chosen token below here left_is taken_is statuses =
    machine_of-is (slice_set queues key left) after _ _
    (λ k. made-set waiters_by queues key left below k
    ∙ ap (λ list. with_value (λ j. waiters_by (slice_get queues j)) key list k)
    (ap (map waiter_of) left_is ∙ sym mapped.left ∙ sym (ap (λ list. (parted chosen 0 list).left) (ap waiters_by here))))
    (λ k. statuses k
    ∙ ap (λ list. statuses_with_taken token list (λ j. status_by (slice_get standings j)) k)
    (ap (map waiter_of) taken_is ∙ sym mapped.taken
    ∙ sym (ap (λ list. (parted chosen 0 list).taken) (ap waiters_by here))))
  where
    mapped : Mapped (parted chosen 0 (map waiter_of (entries_of queue))) (parted chosen 0 (entries_of queue))
    mapped = parted-mapped chosen 0 (entries_of queue)

-- one queue and one standing are others
changed-is : (queues : List Queue) (standings : List Standing) (key thread : ℕ) (queue : Queue) (standing : Standing)
    → key < length queues → thread < length standings
    → machine_of (slice_set queues key queue) (slice_set standings thread standing)
    ≡ record {
      lists = with_value (λ k. waiters_by (slice_get queues k)) key (map waiter_of (entries_of queue));
      status = with_value (λ k. status_by (slice_get standings k)) thread (status_by (Some standing));
      records = λ _ _. 0;
      max_threads = 6;
    }
changed-is queues standings key thread queue standing is_key is_thread =
    machine_of-is (slice_set queues key queue) (slice_set standings thread standing) _ _
    (made-set waiters_by queues key queue is_key) (made-set status_by standings thread standing is_thread)

pub with_status-is : (queues : List Queue) (standings : List Standing) (thread : ℕ) (standing : Standing)
    → thread < length standings
    → machine_of queues (slice_set standings thread standing)
    ≡ with_status (machine_of queues standings) thread (status_by (Some standing))
with_status-is queues standings thread standing below =
    machine_of-is queues (slice_set standings thread standing) _ _ (λ _. refl)
    (made-set status_by standings thread standing below)

pub after_enter-is : (queues : List Queue) (standings : List Standing) (key : ℕ) (before after : Queue) (entry : Entry)
    → key < length queues → entry.thread.number < length standings → slice_get queues key ≡ Some before
    → entries_of after ≡ entries_of before ++ entry ∷ []
    → machine_of (slice_set queues key after) (slice_set standings entry.thread.number (standing.Waiting entry.timing))
    ≡ after_enter (machine_of queues standings) entry.thread.number key (record { 0 = entry.token })
    (is_timed entry.timing)
after_enter-is queues standings key before after entry is_key is_thread here grown =
    changed-is queues standings key entry.thread.number after (standing.Waiting entry.timing) is_key is_thread
    ∙ ap (λ list. record {
      lists = with_value (λ k. waiters_by (slice_get queues k)) key list;
      status = with_value (λ k. status_by (slice_get standings k)) entry.thread.number
          (status_by (Some (standing.Waiting entry.timing)));
      records = λ _ _. 0;
      max_threads = 6;
    })
    (ap (map waiter_of) grown ∙ map-append waiter_of (entries_of before) (entry ∷ [])
    ∙ sym (ap (λ queue. waiters_by queue ++ waiter_of entry ∷ []) here))

without_thread-map : (thread : ℕ) (entries : List Entry)
    → map waiter_of (without_thread thread entries)
    ≡ without_first (λ waiter. waiter.number == thread) (map waiter_of entries)
without_thread-map thread [] = refl
without_thread-map thread (entry ∷ entries) =
    chosen (entry.thread.number == thread) (without_thread-map thread entries)
  where
    rest : List Entry
    rest = without_thread thread entries

    waiters : List Waiter
    waiters = without_first (λ waiter. waiter.number == thread) (map waiter_of entries)

    chosen : (b : Bool) → map waiter_of rest ≡ waiters
        → map waiter_of (if b then entries else entry ∷ rest)
        ≡ (if b then map waiter_of entries else waiter_of entry ∷ waiters)
    chosen true same = refl
    chosen false same = ap (λ xs. waiter_of entry ∷ xs) same

pub after_timeout-is : (queues : List Queue) (standings : List Standing) (key thread : ℕ) (before after : Queue)
    → key < length queues → thread < length standings → slice_get queues key ≡ Some before
    → entries_of after ≡ without_thread thread (entries_of before)
    → machine_of (slice_set queues key after) (slice_set standings thread standing.Running)
    ≡ after_timeout (machine_of queues standings) thread key
after_timeout-is queues standings key thread before after is_key is_thread here grown =
    changed-is queues standings key thread after standing.Running is_key is_thread
    ∙ ap (λ list. record {
      lists = with_value (λ k. waiters_by (slice_get queues k)) key list;
      status = with_value (λ k. status_by (slice_get standings k)) thread (status_by (Some standing.Running));
      records = λ _ _. 0;
      max_threads = 6;
    })
    (ap (map waiter_of) grown ∙ without_thread-map thread (entries_of before)
    ∙ sym (ap (λ queue. without_first (λ waiter. waiter.number == thread) (waiters_by queue)) here))

pub is_last-is : (queues : List Queue) (standings : List Standing) (key thread : ℕ) (before after : Queue)
    → slice_get queues key ≡ Some before → entries_of after ≡ without_thread thread (entries_of before)
    → (length (entries_of after) == 0) ≡ is_last (machine_of queues standings) thread key
is_last-is queues standings key thread before after here grown =
    empty (entries_of after)
    ∙ ap (λ list. not (has_any list)) (ap (map waiter_of) grown ∙ without_thread-map thread (entries_of before)
    ∙ sym (ap (λ queue. without_first (λ waiter. waiter.number == thread) (waiters_by queue)) here))
  where
    empty : (entries : List Entry) → (length entries == 0) ≡ not (has_any (map waiter_of entries))
    empty [] = refl
    empty (entry ∷ entries) = ne_eqb (length (entry ∷ entries)) 0 (λ none. omega (arith, none))

-- what a requeue keeps at each key, where the parts of a queue are these
pub record Requeued (queues kept : List Queue) (key other : ℕ) (queue old : Queue) (parts : Parts) (taken moved : ℕ)
    : Type 0 where
  pub here : slice_get queues key ≡ Some queue
  pub kept_is : kept ≡ slice_set queues key parts.left
  pub there : slice_get kept other ≡ Some old
  pub parts_are : Parted parts (parted taken moved (entries_of queue))

lists_kept : (queues kept : List Queue) (key other : ℕ) (queue old : Queue) (parts : Parts) (taken moved : ℕ)
    → Requeued queues kept key other queue old parts taken moved
    → (k : ℕ) → waiters_by (slice_get kept k)
    ≡ with_value (λ j. waiters_by (slice_get queues j)) key
    (parted taken moved (waiters_by (slice_get queues key))).left k
lists_kept queues kept key other queue old parts taken moved is k =
    ap (λ row. waiters_by (slice_get row k)) is.kept_is
    ∙ made-set waiters_by queues key parts.left (slice_get_within queues key queue is.here) k
    ∙ ap (λ list. with_value (λ j. waiters_by (slice_get queues j)) key list k)
    (ap (map waiter_of) is.parts_are.left ∙ sym mapped.left
    ∙ sym (ap (λ list. (parted taken moved list).left) (ap waiters_by is.here)))
  where
    mapped : Mapped (parted taken moved (map waiter_of (entries_of queue))) (parted taken moved (entries_of queue))
    mapped = parted-mapped taken moved (entries_of queue)

moved_waiters : (queues kept : List Queue) (key other : ℕ) (queue old : Queue) (parts : Parts) (taken moved : ℕ)
    → Requeued queues kept key other queue old parts taken moved
    → map waiter_of (entries_of parts.moved) ≡ (parted taken moved (waiters_by (slice_get queues key))).moved
moved_waiters queues kept key other queue old parts taken moved is =
    let mapped : Mapped (parted taken moved (map waiter_of (entries_of queue))) (parted taken moved (entries_of queue))
    = parted-mapped taken moved (entries_of queue) in
    ap (map waiter_of) is.parts_are.moved ∙ sym mapped.moved
    ∙ sym (ap (λ list. (parted taken moved list).moved) (ap waiters_by is.here))

taken_waiters : (queues kept : List Queue) (key other : ℕ) (queue old : Queue) (parts : Parts) (taken moved : ℕ)
    → Requeued queues kept key other queue old parts taken moved
    → map waiter_of (entries_of parts.taken) ≡ (parted taken moved (waiters_by (slice_get queues key))).taken
taken_waiters queues kept key other queue old parts taken moved is =
    let mapped : Mapped (parted taken moved (map waiter_of (entries_of queue))) (parted taken moved (entries_of queue))
    = parted-mapped taken moved (entries_of queue) in
    ap (map waiter_of) is.parts_are.taken ∙ sym mapped.taken
    ∙ sym (ap (λ list. (parted taken moved list).taken) (ap waiters_by is.here))

-- those of a queue are unparked, or moved to another, who are chosen
pub after_requeue-is : (queues kept : List Queue) (standings after : List Standing) (key other : ℕ)
    (queue old target : Queue) (parts : Parts) (taken moved : ℕ) (token : UnparkToken)
    → Requeued queues kept key other queue old parts taken moved
    → entries_of target ≡ entries_of old ++ entries_of parts.moved
    → ((k : ℕ) → status_by (slice_get after k)
    ≡ statuses_with_taken token (map waiter_of (entries_of parts.taken)) (λ j. status_by (slice_get standings j)) k)
    → machine_of (slice_set kept other target) after
    ≡ after_requeue (machine_of queues standings) key other
    (parted taken moved (waiters_by (slice_get queues key))) token
after_requeue-is queues kept standings after key other queue old target parts taken moved token is grown statuses =
    machine_of-is (slice_set kept other target) after _ _
    (λ k. made-set waiters_by kept other target (slice_get_within kept other old is.there) k
    ∙ with_value-alike (λ j. waiters_by (slice_get kept j)) lists other (map waiter_of (entries_of target)) k
    (lists_kept queues kept key other queue old parts taken moved is k)
    ∙ ap (λ list. with_value lists other list k)
    (ap (map waiter_of) grown ∙ map-append waiter_of (entries_of old) (entries_of parts.moved)
    ∙ ap (λ list. list ++ map waiter_of (entries_of parts.moved))
    (sym (ap waiters_by is.there) ∙ lists_kept queues kept key other queue old parts taken moved is other)
    ∙ ap (λ list. lists other ++ list) (moved_waiters queues kept key other queue old parts taken moved is)))
    (λ k. statuses k
    ∙ ap (λ list. statuses_with_taken token list (λ j. status_by (slice_get standings j)) k)
    (taken_waiters queues kept key other queue old parts taken moved is))
  where
    lists : ℕ → List Waiter
    lists =
        with_value (λ j. waiters_by (slice_get queues j)) key
        (parted taken moved (waiters_by (slice_get queues key))).left

pub length-requeued : (queues kept : List Queue) (standings : List Standing) (key other : ℕ) (queue old : Queue)
    (parts : Parts) (taken moved : ℕ) (token : UnparkToken)
    → Requeued queues kept key other queue old parts taken moved
    → length ((after_requeue (machine_of queues standings) key other
    (parted taken moved (waiters_by (slice_get queues key))) token).lists other)
    ≡ length (entries_of old) + length (entries_of parts.moved)
length-requeued queues kept standings key other queue old parts taken moved token is =
    ap length (with_value-same lists other (lists other ++ split.moved) other refl)
    ∙ length-append (lists other) split.moved
    ∙ ap (λ list. length list + length split.moved)
    (sym (lists_kept queues kept key other queue old parts taken moved is other) ∙ ap waiters_by is.there)
    ∙ ap (λ n. n + length split.moved) (length-map (entries_of old) waiter_of)
    ∙ ap (λ list. length (entries_of old) + length list)
    (sym (moved_waiters queues kept key other queue old parts taken moved is))
    ∙ ap (λ n. length (entries_of old) + n) (length-map (entries_of parts.moved) waiter_of)
  where
    split : Split Waiter
    split = parted taken moved (waiters_by (slice_get queues key))

    lists : ℕ → List Waiter
    lists = with_value (λ j. waiters_by (slice_get queues j)) key split.left

not_true : (b : Bool) → not b ≡ true → b ≡ false
not_true true is = absurd (cc is)
not_true false is = refl

not_false : (b : Bool) → not b ≡ false → b ≡ true
not_false true is = refl
not_false false is = absurd (cc is)

-- a thread is in a queue if it is among its waiters
times_in-queue : (thread : ℕ) (entries : List Entry)
    → has_thread thread entries ≡ not (times_in thread (map waiter_of entries) == 0)
times_in-queue thread [] = refl
times_in-queue thread (entry ∷ entries) = chosen (entry.thread.number == thread) (times_in-queue thread entries)
  where
    rest : List Waiter
    rest = entries_of_thread thread (map waiter_of entries)

    chosen : (b : Bool) → has_thread thread entries ≡ not (length rest == 0)
        → (b || has_thread thread entries) ≡ not (length (if b then waiter_of (entry) ∷ rest else rest) == 0)
    chosen true same = ap not (sym (ne_eqb (length (waiter_of entry ∷ rest)) 0 (λ none. omega (arith, none))))
    chosen false same = same

keys_left : (key : ℕ) → key < 4 → 4 - key ≡ suc (4 - (key + 1))
keys_left key below = omega (arith, below)

pub first_key-here : (queues : List Queue) (standings : List Standing) (thread key : ℕ) (queue : Queue)
    → key < 4 → slice_get queues key ≡ Some queue → has_thread thread (entries_of queue) ≡ true
    → first_key (machine_of queues standings) thread key (4 - key) ≡ Some key
first_key-here queues standings thread key queue below here has =
    ap (first_key (machine_of queues standings) thread key) (keys_left key below)
    ∙ cond-false (times_in thread (waiters_by (slice_get queues key)) == 0)
    (first_key (machine_of queues standings) thread (key + 1) (4 - (key + 1))) (Some key)
    (not_true (times_in thread (waiters_by (slice_get queues key)) == 0)
    (ap (λ found. not (times_in thread (waiters_by found) == 0)) here ∙ sym (times_in-queue thread (entries_of queue))
    ∙ has))

pub first_key-past : (queues : List Queue) (standings : List Standing) (thread key : ℕ) (queue : Queue)
    → key < 4 → slice_get queues key ≡ Some queue → has_thread thread (entries_of queue) ≡ false
    → first_key (machine_of queues standings) thread key (4 - key)
    ≡ first_key (machine_of queues standings) thread (key + 1) (4 - (key + 1))
first_key-past queues standings thread key queue below here has =
    ap (first_key (machine_of queues standings) thread key) (keys_left key below)
    ∙ cond-true (times_in thread (waiters_by (slice_get queues key)) == 0)
    (first_key (machine_of queues standings) thread (key + 1) (4 - (key + 1))) (Some key)
    (not_false (times_in thread (waiters_by (slice_get queues key)) == 0)
    (ap (λ found. not (times_in thread (waiters_by found) == 0)) here ∙ sym (times_in-queue thread (entries_of queue))
    ∙ has))

-- behind the last thread there is none that has not ended
unended-none : (codes : List Code) → unended codes [] ≡ 0
unended-none [] = refl
unended-none (code ∷ codes) = refl

pub unended-past : (codes : List Code) (threads : List Progress) (i : ℕ) → length threads ≤ i
    → unended (drop i codes) (drop i threads) ≡ 0
unended-past codes threads i past =
    ap (λ rest. unended (drop i codes) rest) (drop_all i threads past) ∙ unended-none (drop i codes)

-- no queue has more waiters than there are threads
length-taken : (entries : List Entry) (n : ℕ) → length (take n entries) ≤ n
length-taken entries n = let is = length-take n entries in omega (arith, is)

pub length-waiters : (queues : List Queue) (key : ℕ) → length (waiters_by (slice_get queues key)) ≤ 6
length-waiters queues key = within (slice_get queues key)
  where
    within : (queue : Option Queue) → length (waiters_by queue) ≤ 6
    within None = omega arith
    within (Some queue) =
        let long = length-map (entries_of queue) waiter_of in
        let short = length-taken queue.entries queue.length in
        omega (arith, long, short, queue.fits)

pub length-waiters_8 : (queues : List Queue) (key : ℕ) → length (waiters_by (slice_get queues key)) ≤ 8
length-waiters_8 queues key = let short = length-waiters queues key in omega (arith, short)

-- a state with another machine
pub configuration-is : (next old : State) (m : Machine) → machine_of next.queues next.standings ≡ m
    → next.words ≡ old.words → next.threads ≡ old.threads
    → configuration_of next ≡ with_machine (configuration_of old) m
configuration-is next old m is words threads i = record { machine = is i; words = words i; threads = threads i }

-- states whose parts are the same stand for the same
abbrev listed : Queue → List Waiter
listed queue = map waiter_of (entries_of queue)

abbrev waiters_in : Option (List Waiter) → List Waiter
waiters_in None = []
waiters_in (Some waiters) = waiters

waiters_by-listed : (queues : List Queue) (k : ℕ) → waiters_by (slice_get queues k) ≡ waiters_in (slice_get (map listed queues) k)
waiters_by-listed queues k = of (slice_get queues k) ∙ ap waiters_in (sym (slice_get-map listed queues k))
  where
    of : (queue : Option Queue) → waiters_by queue ≡ waiters_in (option_map listed queue)
    of None = refl
    of (Some queue) = refl

pub configuration-same : (a b : State) → a.words ≡ b.words → a.threads ≡ b.threads → a.standings ≡ b.standings
    → map listed a.queues ≡ map listed b.queues → configuration_of a ≡ configuration_of b
configuration-same a b words threads standings queues i =
    record {
      machine = same_machine i;
      words = words i;
      threads = threads i;
    }
  where
    same_machine : machine_of a.queues a.standings ≡ machine_of b.queues b.standings
    same_machine =
        machine_of-is a.queues a.standings (λ k. waiters_by (slice_get b.queues k))
        (λ k. status_by (slice_get b.standings k))
        (λ k. waiters_by-listed a.queues k ∙ ap (λ lists. waiters_in (slice_get lists k)) queues
        ∙ sym (waiters_by-listed b.queues k))
        (λ k. ap (λ row. status_by (slice_get row k)) standings)
