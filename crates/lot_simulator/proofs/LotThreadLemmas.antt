-- A lot after a step of one thread, which is the machine's.
use Rattle.std.proofs.Common.{◌≡◌, ◌≢◌, ℕ, ◌<◌, Bool, false, List, [], ◌∷◌}
use Rattle.std.proofs.Common.{◌++◌, length, map, refl, sym, ap, ◌∙◌, subst, ⊎_elim, ◌⊎◌, inl, inr, arith}
use Rattle.std.proofs.Common.{slice_set}
use Rattle.std.proofs.Math.ListN.{length-set}
use Rattle.std.proofs.lemmas.List.{map-append, set-get_or}
use Rattle.lot_base.specs.NodeFields.{NodeFields}
use Rattle.lot_base.specs.Place.{IsTableSize}
use Rattle.lot_base.specs.Waiting.{with_value}
use Rattle.lot_base.specs.declared.token.ParkToken.{ParkToken}
use Rattle.lot_base.specs.declared.token.UnparkToken.{UnparkToken}
use Rattle.lot_base.proofs.ValueLemmas.{map-with_value}
use Rattle.lot_simulator.specs.declared.lot.Lot.TheInside.{Inside}
use Rattle.lot_machine.specs.declared.status.Status.{Status}
use Rattle.lot_machine.specs.declared.status.Status.TheVariants.{Free, Running, Waiting}
use Rattle.lot_machine.specs.Status.{is_queued, is_timed}
use Rattle.lot_machine.specs.Machine.{Machine, MatchesStatus}
use Rattle.lot_machine.specs.Machine.{with_status, after_enter}
use Rattle.lot_machine.specs.Machine.{after_retire, after_acquire, after_release, with_records}
use Rattle.lot_machine.specs.Records.{times_recorded, one_more, one_less}
use Rattle.lot_simulator.specs.LotState.{LotState, ThreadState}
use Rattle.lot_simulator.specs.Lot.{thread_at, free_thread, statuses, thread_keys, thread_records, machine, use_of}
use Rattle.lot_simulator.specs.Lot.{uses, IsLot}
use Rattle.lot_simulator.specs.Represents.{with_node, waiter_of, waiters_in, Represents}
use Rattle.lot_simulator.specs.Table.{IsRowStep}
use Rattle.lot_simulator.specs.Represents.{nodes_in}
use Rattle.lot_simulator.proofs.CommitLemmas.{statuses-set, uses-same, keys-set_other, keys-set_same}
use Rattle.lot_simulator.proofs.CommitLemmas.{numbers-set, below_from_status, ne-free-running}
use Rattle.lot_simulator.proofs.CommitLemmas.{records-set, records-kept}
use Rattle.lot_machine.proofs.StandingLemmas.{same_machine}
use Rattle.lot_machine.proofs.StandingLemmas.{with_thread, with_thread-status, with_thread-records}
use Rattle.lot_machine.proofs.MachineLemmas.{MatchesStatus-with_thread, MatchesStatus-after_enter}
use Rattle.lot_simulator.proofs.RowLemmas.{IsRowStep-with_node}

-- a lot by its fields
abbrev pub lot_of : Inside → LotState
lot_of lot = record { buckets = lot.table.cells; threads = lot.threads.items }

-- a lot after a step
pub record IsLotStep (new : LotState) (m : Machine) : Type 0 where
  pub is_lot : IsLot new
  pub means : machine new ≡ m

-- a row of buckets and threads that mean a machine which a rule left
pub IsLotStep-from : (lot new : LotState) (m : Machine) → IsLot lot → Represents new.buckets (waiters_in new.buckets)
    → ((number : ℕ) → (thread_at new.threads number).number ≡ number) → machine new ≡ m
    → m.max_threads ≡ length lot.threads → MatchesStatus (thread_keys new.threads) m → IsLotStep new m
IsLotStep-from lot new m is represents numbers means as_many consistent = record {
  is_lot = record {
    represents = represents;
    numbers = numbers;
    consistent = subst (MatchesStatus (thread_keys new.threads)) (sym means) consistent;
    count = let same : length new.threads ≡ length lot.threads = ap (λ (n : Machine). n.max_threads) means ∙ as_many in
        omega (arith, same, is.count);
  };
  means = means;
}

-- one thread has another status, with which it stands and is timed as before, and other records
pub IsLotStep-with_thread : (lot : LotState) (number : ℕ) (thread : ThreadState) → IsLot lot
    → number < length lot.threads → thread.number ≡ number
    → is_queued thread.status ≡ is_queued (statuses lot.threads number)
    → is_timed thread.status ≡ is_timed (statuses lot.threads number)
    → thread.key ≡ thread_keys lot.threads number ⊎ is_queued thread.status ≡ false
    → (thread.status ≡ Free → (key : ℕ) → times_recorded thread.records key ≡ 0)
    → IsLotStep (record lot { threads = slice_set lot.threads number thread })
    (with_thread (machine lot) number thread.status (times_recorded thread.records))
IsLotStep-with_thread lot number thread is below own queued timed key none =
    IsLotStep-from lot (record lot { threads = threads }) _ is is.represents
    (numbers-set lot.threads number thread below own is.numbers)
    (same_machine _ _ (λ k. refl) (statuses-set lot.threads number thread below)
    (records-set lot.threads number thread below) (length-set lot.threads number thread))
    refl
    (MatchesStatus-with_thread (thread_keys lot.threads) (thread_keys threads)
    (machine lot) number thread.status (times_recorded thread.records) below queued timed
    (keys-set_other lot.threads number thread) stays none is.consistent)
  where
    threads : List ThreadState
    threads = slice_set lot.threads number thread

    stays : thread_keys threads number ≡ thread_keys lot.threads number ⊎ is_queued thread.status ≡ false
    stays =
        ⊎_elim (λ (same : thread.key ≡ thread_keys lot.threads number).
        inl (keys-set_same lot.threads number thread below ∙ same))
        (λ (none : is_queued thread.status ≡ false). inr none)
        key

-- one thread has the records that it had, and another status that is not free
pub IsLotStep-with_status : (lot : LotState) (number : ℕ) (thread : ThreadState) → IsLot lot
    → number < length lot.threads → thread.number ≡ number
    → is_queued thread.status ≡ is_queued (statuses lot.threads number)
    → is_timed thread.status ≡ is_timed (statuses lot.threads number)
    → thread.key ≡ thread_keys lot.threads number ⊎ is_queued thread.status ≡ false → thread.status ≢ Free
    → thread.records ≡ (thread_at lot.threads number).records
    → IsLotStep (record lot { threads = slice_set lot.threads number thread })
    (with_status (machine lot) number thread.status)
IsLotStep-with_status lot number thread is below own queued timed key registered kept =
    subst (IsLotStep (record lot { threads = slice_set lot.threads number thread }))
    (ap (λ records. with_thread (machine lot) number thread.status (times_recorded records)) kept
    ∙ with_thread-status (machine lot) number thread.status)
    (IsLotStep-with_thread lot number thread is below own queued timed key (λ free. absurd (registered free)))

-- a running thread, as it was read, has other records
pub IsLotStep-with_records : (lot : LotState) (number : ℕ) (thread after : ThreadState) (records : ℕ → ℕ) → IsLot lot
    → number < length lot.threads → thread ≡ thread_at lot.threads number
    → after ≡ record thread { records = after.records } → times_recorded after.records ≡ records
    → Running ≡ thread.status
    → IsLotStep (record lot { threads = slice_set lot.threads number after })
    (with_records (machine lot) number records)
IsLotStep-with_records lot number thread after records is below read kept recorded runs =
    subst (IsLotStep (record lot { threads = slice_set lot.threads number after }))
    ((λ i. with_thread (machine lot) number (status i) (recorded i)) ∙ with_thread-records (machine lot) number records)
    (IsLotStep-with_thread lot number after is below
    (ap (λ t. t.number) kept ∙ ap (λ t. t.number) read ∙ is.numbers number) (ap is_queued status) (ap is_timed status)
    (inl (ap (λ t. t.key) kept ∙ ap (λ t. t.key) read))
    (λ free. absurd (ne-free-running (runs ∙ sym (ap (λ t. t.status) kept) ∙ free))))
  where
    status : after.status ≡ statuses lot.threads number
    status = ap (λ t. t.status) kept ∙ ap (λ t. t.status) read

-- so it has where it recorded a key, or released one
module _ (lot : LotState) (number key : ℕ) (thread after : ThreadState) (is : IsLot lot)
    (below : number < length lot.threads) (read : thread ≡ thread_at lot.threads number)
    (kept : after ≡ record thread { records = after.records }) where
  pub IsLotStep-acquired : times_recorded after.records ≡ one_more (times_recorded thread.records) key
      → Running ≡ thread.status → IsLotStep (record lot { threads = slice_set lot.threads number after })
      (after_acquire (machine lot) number key)
  IsLotStep-acquired recorded =
      IsLotStep-with_records lot number thread after (one_more (thread_records lot.threads number) key) is below read
      kept (recorded ∙ ap (λ (t : ThreadState). one_more (times_recorded t.records) key) read)

  pub IsLotStep-released : times_recorded after.records ≡ one_less (times_recorded thread.records) key
      → Running ≡ thread.status → IsLotStep (record lot { threads = slice_set lot.threads number after })
      (after_release (machine lot) number key)
  IsLotStep-released recorded =
      IsLotStep-with_records lot number thread after (one_less (thread_records lot.threads number) key) is below read
      kept (recorded ∙ ap (λ (t : ThreadState). one_less (times_recorded t.records) key) read)

pub uses-recorded : (lot : LotState) (number : ℕ) (thread after : ThreadState) → thread ≡ thread_at lot.threads number
    → after ≡ record thread { records = after.records } → uses (slice_set lot.threads number after) ≡ uses lot.threads
uses-recorded lot number thread after read kept =
    uses-same lot.threads number after
    (ap (λ (t : ThreadState). use_of t.status) kept ∙ ap (λ (t : ThreadState). use_of t.status) read)

-- the thread of a number, as it was read, has another status
module _ (lot : LotState) (number : ℕ) (thread after : ThreadState) (status : Status) (is : IsLot lot)
    (below : number < length lot.threads) (read : thread ≡ thread_at lot.threads number)
    (set : after ≡ record thread { status = status }) where
  now : after ≡ record (thread_at lot.threads number) { status = status }
  now = set ∙ ap (λ (t : ThreadState). record t { status = status }) read

  pub IsLotStep-status : is_queued status ≡ is_queued thread.status → is_timed status ≡ is_timed thread.status
      → status ≢ Free → IsLotStep (record lot { threads = slice_set lot.threads number after })
      (with_status (machine lot) number status)
  IsLotStep-status queued timed registered =
      subst (λ (t : ThreadState). IsLotStep (record lot { threads = slice_set lot.threads number t })
      (with_status (machine lot) number status)) (sym now)
      (IsLotStep-with_status lot number (record (thread_at lot.threads number) { status = status }) is below
      (is.numbers number) (queued ∙ ap (λ (t : ThreadState). is_queued t.status) read)
      (timed ∙ ap (λ (t : ThreadState). is_timed t.status) read) (inl refl) registered refl)

  pub uses-status : use_of status ≡ use_of thread.status → uses (slice_set lot.threads number after) ≡ uses lot.threads
  uses-status used =
      ap (λ (t : ThreadState). uses (slice_set lot.threads number t)) now
      ∙ uses-same lot.threads number _ (used ∙ ap (λ (t : ThreadState). use_of t.status) read)

-- a thread that is written as it was read changes nothing
pub threads-kept : (threads : List ThreadState) (number : ℕ) (thread after : ThreadState)
    → thread ≡ thread_at threads number → after ≡ thread → slice_set threads number after ≡ threads
threads-kept threads number thread after read kept =
    ap (slice_set threads number) (kept ∙ read) ∙ set-get_or threads number (free_thread number)

-- a running thread, as it was read, retires
pub IsLotStep-after_retire : (lot : LotState) (number : ℕ) (thread after : ThreadState) → IsLot lot
    → number < length lot.threads → thread ≡ thread_at lot.threads number
    → after ≡ record thread { status = Free; records = [] } → Running ≡ thread.status
    → IsLotStep (record lot { threads = slice_set lot.threads number after }) (after_retire (machine lot) number)
IsLotStep-after_retire lot number thread after is below read set runs =
    subst (λ (t : ThreadState). IsLotStep (record lot { threads = slice_set lot.threads number t })
    (after_retire (machine lot) number)) (sym now)
    (IsLotStep-with_thread lot number free is below (is.numbers number) (ap is_queued ran) (ap is_timed ran) (inl refl)
    (λ _ key. refl))
  where
    free : ThreadState
    free = record (thread_at lot.threads number) { status = Free; records = [] }

    now : after ≡ free
    now = set ∙ ap (λ (t : ThreadState). record t { status = Free; records = [] }) read

    ran : Running ≡ statuses lot.threads number
    ran = runs ∙ ap (λ t. t.status) read

-- a running thread enters the list of a key
pub IsLotStep-after_enter : (lot : LotState) (number key : ℕ) (park_token : ParkToken) (unpark_token : UnparkToken)
    (timed : Bool) → IsLot lot → IsTableSize (length lot.buckets) → statuses lot.threads number ≡ Running
    →
    IsLotStep
    (record {
      buckets = with_node lot.buckets
          (record { number = number; key = key; park_token = park_token; unpark_token = unpark_token; timed = timed });
      threads = slice_set lot.threads number
          (record (thread_at lot.threads number) { key = key; status = Waiting timed });
    }) (after_enter (machine lot) number key park_token timed)
IsLotStep-after_enter lot number key park_token unpark_token timed is table running =
    IsLotStep-from lot (record { buckets = with_node lot.buckets node; threads = threads }) _ is row.represents
    (numbers-set lot.threads number thread below (is.numbers number) is.numbers)
    (same_machine _ _ lists (statuses-set lot.threads number thread below)
    (records-kept lot.threads number thread below refl) (length-set lot.threads number thread))
    refl
    (MatchesStatus-after_enter (thread_keys lot.threads) (thread_keys threads)
    (machine lot) number key park_token timed running (keys-set_other lot.threads number thread)
    (keys-set_same lot.threads number thread below) is.consistent)
  where
    node : NodeFields
    node = record { number = number; key = key; park_token = park_token; unpark_token = unpark_token; timed = timed }

    thread : ThreadState
    thread = record (thread_at lot.threads number) { key = key; status = Waiting timed }

    threads : List ThreadState
    threads = slice_set lot.threads number thread

    row : IsRowStep lot.buckets (with_node lot.buckets node)
        (with_value (nodes_in lot.buckets) key (nodes_in lot.buckets key ++ node ∷ []))
    row = IsRowStep-with_node lot.buckets node table is.represents

    below : number < length lot.threads
    below = below_from_status lot.threads number (λ free. ne-free-running (sym running ∙ free))

    lists : (k : ℕ) → waiters_in (with_node lot.buckets node) k
        ≡ with_value (waiters_in lot.buckets) key (waiters_in lot.buckets key ++ waiter_of node ∷ []) k
    lists k =
        ap (map waiter_of) (row.nodes k)
        ∙ map-with_value waiter_of (nodes_in lot.buckets) key (nodes_in lot.buckets key ++ node ∷ []) k
        ∙ ap (λ list. with_value (waiters_in lot.buckets) key list k)
        (map-append waiter_of (nodes_in lot.buckets key) (node ∷ []))
