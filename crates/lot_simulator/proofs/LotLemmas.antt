-- Each step of a lot is the machine's, and leaves a lot.
use Rattle.std.proofs.Common.{◌≡◌, ℕ, ◌-◌, ◌^◌, ◌<◌, ◌≤◌, IsTrue, List, [], ◌∷◌}
use Rattle.std.proofs.Common.{length, map, refl, sym, ap, ◌∙◌, subst, inr, arith}
use Rattle.std.proofs.Common.{slice_set, All}
use Rattle.std.proofs.Math.ListN.{length-set}
use Rattle.std.proofs.lemmas.Bool.{MatchBool-at_true}
use Rattle.std.proofs.lemmas.List.{length-map}
use Rattle.std.proofs.lemmas.List.Elements.{All-nil}
use Rattle.std.proofs.lemmas.List.FromFn.{length-map-range_with_len}
use Rattle.std.specs.List.{range_with_len}
use Rattle.lot_base.specs.BucketState.{BucketState}
use Rattle.lot_base.specs.NodeFields.{NodeFields}
use Rattle.lot_base.specs.Place.{place_of}
use Rattle.lot_base.specs.Waiting.{with_value, Split, split_first}
use Rattle.lot_base.specs.NodeLists.{lists_of}
use Rattle.lot_base.specs.Waiting.{split_filter, split_by, result_of, requeue_result}
use Rattle.lot_base.specs.NodeLists.{saturated}
use Rattle.lot_base.specs.Waiting.{without_first}
use Rattle.lot_base.specs.NodeLists.{with_saturated_counts, has_number}
use Rattle.lot_base.specs.declared.token.FilterOp.{FilterOp}
use Rattle.lot_base.specs.declared.token.RequeueOp.{RequeueOp}
use Rattle.lot_base.specs.declared.token.UnparkToken.{UnparkToken}
use Rattle.lot_base.proofs.ValueLemmas.{map-with_value, with_value-same_value}
use Rattle.lot_machine.specs.declared.status.Status.TheVariants.{Free, Running}
use Rattle.lot_machine.specs.declared.numbers.TheConstants.{MAX_THREADS}
use Rattle.lot_machine.specs.Status.{is_queued, is_timed}
use Rattle.lot_machine.specs.Machine.{Waiter, Machine, MatchesStatus, StandsAt, new_machine}
use Rattle.lot_machine.specs.Machine.{with_status, after_unpark}
use Rattle.lot_machine.specs.Machine.{after_timeout}
use Rattle.lot_machine.specs.Records.{times_recorded}
use Rattle.lot_simulator.specs.LotState.{LotState, ThreadState}
use Rattle.lot_simulator.specs.Lot.{thread_at, free_thread, statuses, thread_keys, machine}
use Rattle.lot_simulator.specs.Lot.{uses, IsLot}
use Rattle.lot_simulator.specs.Represents.{bucket_at, waiter_of, waiters_in}
use Rattle.lot_simulator.specs.Table.{IsRowStep, IsTakenFrom, KeepsLists}
use Rattle.lot_simulator.specs.Represents.{nodes_in}
use Rattle.lot_simulator.specs.Private.Commit.{threads_after_commit, threads_with_status, CanCommit}
use Rattle.lot_simulator.proofs.CommitLemmas.{statuses-set, uses-same, use_of-queued, keys-set_other}
use Rattle.lot_simulator.proofs.CommitLemmas.{numbers-set, below_from_status, ne-free-queued, ne-free-running}
use Rattle.lot_simulator.proofs.CommitLemmas.{uses-after_commit}
use Rattle.lot_simulator.proofs.CommitLemmas.{records-kept}
use Rattle.lot_machine.proofs.StandingLemmas.{same_machine}
use Rattle.lot_machine.proofs.MachineLemmas.{MatchesStatus-after_timeout}
use Rattle.lot_machine.proofs.MachineLemmas.{length-le_from_MatchesStatus}
use Rattle.lot_simulator.proofs.RemovalLemmas.{without_first-map}
use Rattle.lot_machine.proofs.SplitLemmas.{AreParts-filter}
use Rattle.lot_simulator.proofs.NodeSplitLemmas.{waiter_split}
use Rattle.lot_simulator.proofs.NodeSplitLemmas.{split_first-map, split_filter-map, split_by-map}
use Rattle.lot_simulator.proofs.NodeSplitLemmas.{result_of-map, requeue_result-map}
use Rattle.lot_machine.proofs.SplitLemmas.{result_of-few, requeue_result-few}
use Rattle.lot_machine.proofs.SplitLemmas.{AreParts-by}
use Rattle.lot_simulator.proofs.TakingLemmas.{IsUnparkSplit}
use Rattle.lot_simulator.proofs.UseLemmas.{thread_at-free}
use Rattle.lot_simulator.proofs.LotThreadLemmas.{IsLotStep, IsLotStep-from, IsLotStep-with_status}
use Rattle.lot_simulator.proofs.LotRequeueLemmas.{AreMoved, AreMoved-nobody, CanCommit-split, IsLotStep-after_unpark}

-- a growth keeps what a lot means
IsLotStep-grown : (lot : LotState) (row : List BucketState) → KeepsLists lot.buckets row → IsLot lot
    → IsLotStep (record lot { buckets = row }) (machine lot)
IsLotStep-grown lot row keeps is =
    IsLotStep-from lot (record lot { buckets = row }) _ is
    (record { in_place = (keeps.represents (waiters_in lot.buckets) is.represents).in_place; in_order = λ key. refl })
    is.numbers
    (same_machine _ _ (λ k. ap (map waiter_of) (keeps.nodes k)) (λ j. refl) (λ j. refl) refl)
    refl
    is.consistent

-- a lot after a step that changes no number's use
pub record IsLotStepOfUse (lot new : LotState) (m : Machine) : Type 0 where
  pub step : IsLotStep new m
  pub uses : uses new.threads ≡ uses lot.threads

module _ (lot : LotState) (key : ℕ) (row : List BucketState) (split : Split NodeFields) (token : UnparkToken)
    (taken : List NodeFields) (is : IsLot lot) (from : IsTakenFrom lot.buckets row key split token taken)
    (unpark : IsUnparkSplit (nodes_in lot.buckets key) split) where
  -- an unpark of one, of all or by a filter: those taken can be committed
  pub CanCommit-taken : CanCommit taken lot.threads
  CanCommit-taken =
      subst (λ nodes. CanCommit nodes lot.threads) (sym from.nodes)
      (CanCommit-split lot key key split token lot.threads is unpark.parts
      (subst (λ moved. AreMoved lot (map waiter_of moved) key lot.threads) (sym unpark.nobody)
      (AreMoved-nobody lot key is)))

  -- and the step is the machine's
  pub IsLotStepOfUse-taken : IsLotStepOfUse lot (record { buckets = row; threads = threads_after_commit taken lot.threads })
      (after_unpark (machine lot) key (waiter_split split) token)
  IsLotStepOfUse-taken = record {
    step = subst (λ nodes. IsLotStep (record { buckets = row; threads = threads_after_commit nodes lot.threads })
        (after_unpark (machine lot) key (waiter_split split) token)) (sym from.nodes)
        (IsLotStep-after_unpark lot key split token row unpark.nobody is unpark.parts from.rows);
    uses = uses-after_commit taken lot.threads CanCommit-taken;
  }

-- a thread that waits or is late stands in the list of its key
pub StandsAt-queued : (lot : LotState) (number : ℕ) → IsLot lot → IsTrue (is_queued (statuses lot.threads number))
    → StandsAt (machine lot) number (thread_keys lot.threads number)
StandsAt-queued lot number is queued = MatchBool-at_true _ _ queued (is.consistent.standing number)

-- a thread was taken out of the list where it stands, and runs
pub IsLotStepOfUse-after_timeout : (lot : LotState) (number key : ℕ) (put_row : List BucketState) → IsLot lot
    → IsTrue (is_queued (statuses lot.threads number)) → StandsAt (machine lot) number key
    → IsRowStep lot.buckets put_row
    (with_value (nodes_in lot.buckets) key (without_first (has_number number) (nodes_in lot.buckets key)))
    → IsLotStepOfUse lot
    (record {
      buckets = put_row;
      threads = threads_with_status lot.threads number Running;
    }) (after_timeout (machine lot) number key)
IsLotStepOfUse-after_timeout lot number key put_row is queued stands row = record {
  step = IsLotStep-from lot (record { buckets = put_row; threads = threads_with_status lot.threads number Running }) _
      is row.represents (numbers-set lot.threads number thread below (is.numbers number) is.numbers)
      (same_machine _ _ lists (statuses-set lot.threads number thread below)
      (records-kept lot.threads number thread below refl) (length-set lot.threads number thread))
      refl
      (MatchesStatus-after_timeout (thread_keys lot.threads)
      (thread_keys (threads_with_status lot.threads number Running)) (machine lot) number key queued stands
      (keys-set_other lot.threads number thread) is.consistent);
  uses = uses-same lot.threads number thread (sym (use_of-queued (statuses lot.threads number) queued));
}
  where
    thread : ThreadState
    thread = record (thread_at lot.threads number) { status = Running }

    below : number < length lot.threads
    below = below_from_status lot.threads number (ne-free-queued (statuses lot.threads number) queued)

    left : List NodeFields
    left = without_first (has_number number) (nodes_in lot.buckets key)

    lists : (k : ℕ) → waiters_in put_row k ≡ (after_timeout (machine lot) number key).lists k
    lists k =
        ap (map waiter_of) (row.nodes k)
        ∙ map-with_value waiter_of (nodes_in lot.buckets) key left k
        ∙ ap (λ list. with_value (waiters_in lot.buckets) key list k)
        (without_first-map number (nodes_in lot.buckets key))

-- the thread of a number that was read
pub read_thread : (lot : LotState) (number : ℕ) (thread : ThreadState) → IsLot lot
    → thread ≡ thread_at lot.threads number → thread.number ≡ number
read_thread lot number thread is read = ap (λ t. t.number) read ∙ is.numbers number

-- a table of empty buckets and free numbers
pub IsLotStep-new : (row : List BucketState) (max_threads : ℕ) → max_threads ≤ MAX_THREADS
    → ((i : ℕ) → (bucket_at row i).nodes ≡ [])
    → IsLotStep (record { buckets = row; threads = map free_thread (range_with_len 0 max_threads) })
    (new_machine max_threads)
IsLotStep-new row max_threads few empty = record {
  is_lot = record {
    represents = record {
      in_place = λ i low. subst (All (λ node. place_of node.key (length row) ≡ i)) (sym (empty i))
          (All-nil (λ node. place_of node.key (length row) ≡ i));
      in_order = λ key. refl;
    };
    numbers = λ j. ap (λ t. t.number) (thread_at-free max_threads j);
    consistent = subst (MatchesStatus (thread_keys threads)) (sym means)
        (record {
          standing = λ number k. refl;
          timing = λ key. All-nil _;
          others_free = λ number high. refl;
          free_of_records = λ number key free. refl;
        });
    count = omega (arith, few, length-map-range_with_len free_thread 0 max_threads);
  };
  means = means;
}
  where
    threads : List ThreadState
    threads = map free_thread (range_with_len 0 max_threads)

    means : machine (record { buckets = row; threads = threads }) ≡ new_machine max_threads
    means =
        same_machine _ _
        (λ k. ap (λ nodes. map waiter_of (lists_of nodes k)) (empty (place_of k (length row))))
        (λ j. ap (λ t. t.status) (thread_at-free max_threads j))
        (λ j. ap (λ t. times_recorded t.records) (thread_at-free max_threads j))
        (length-map-range_with_len free_thread 0 max_threads)

-- the numbers of the waiters of a key are those of its nodes
pub numbers-waiters : (nodes : List NodeFields)
    → map (λ (waiter : Waiter). waiter.number) (map waiter_of nodes) ≡ map (λ node. node.number) nodes
numbers-waiters [] = refl
numbers-waiters (node ∷ nodes) = ap (λ rest. node.number ∷ rest) (numbers-waiters nodes)

-- one thread has another key and the status and records that it had
pub IsLotStep-stayed : (lot : LotState) (number : ℕ) (thread : ThreadState) → IsLot lot → thread.number ≡ number
    → statuses lot.threads number ≡ Running → thread.status ≡ Running
    → thread.records ≡ (thread_at lot.threads number).records
    → IsLotStep (record lot { threads = slice_set lot.threads number thread }) (machine lot)
IsLotStep-stayed lot number thread is own ran runs kept =
    subst (IsLotStep (record lot { threads = slice_set lot.threads number thread })) same
    (IsLotStep-with_status lot number thread is
    (below_from_status lot.threads number (λ free. ne-free-running (sym ran ∙ free))) own
    (ap is_queued (runs ∙ sym ran)) (ap is_timed (runs ∙ sym ran)) (inr (ap is_queued runs))
    (λ free. ne-free-running (sym runs ∙ free)) kept)
  where
    same : with_status (machine lot) number thread.status ≡ machine lot
    same = same_machine _ _ (λ k. refl)
        (with_value-same_value (statuses lot.threads) number thread.status (runs ∙ sym ran)) (λ j. refl) refl

-- a growth, and a free number that is registered in it
pub IsLotStep-registered : (lot : LotState) (row : List BucketState) (number : ℕ) (thread : ThreadState)
    → KeepsLists lot.buckets row → IsLot lot → number < length lot.threads → thread.number ≡ number
    → statuses lot.threads number ≡ Free → thread.status ≡ Running
    → thread.records ≡ (thread_at lot.threads number).records
    → IsLotStep (record { buckets = row; threads = slice_set lot.threads number thread })
    (with_status (machine lot) number Running)
IsLotStep-registered lot row number thread keeps is below own was runs kept =
    let grown = IsLotStep-grown lot row keeps is in
    subst (IsLotStep (record { buckets = row; threads = slice_set lot.threads number thread }))
    (ap (λ m. with_status m number thread.status) grown.means ∙ ap (with_status (machine lot) number) runs)
    (IsLotStep-with_status (record lot { buckets = row }) number thread grown.is_lot below own
    (ap is_queued runs ∙ ap is_queued (sym was)) (ap is_timed runs ∙ ap is_timed (sym was)) (inr (ap is_queued runs))
    (λ free. ne-free-running (sym runs ∙ free)) kept)

-- no list of a lot is so long that a `usize` could not tell it
pub few-waiting : (lot : LotState) → IsLot lot → (key : ℕ) → length (waiters_in lot.buckets key) ≤ 2 ^ 64 - 1
few-waiting lot is key =
    let short = length-le_from_MatchesStatus (thread_keys lot.threads) (machine lot) key is.consistent in
    omega (arith, short, is.count)

-- a bucket answers what the lists say
module _ (row : List BucketState) (key : ℕ) where
  pub answer-first : result_of (split_first (nodes_in row key)) ≡ result_of (split_first (waiters_in row key))
  answer-first =
      sym (result_of-map (split_first (nodes_in row key))) ∙ ap result_of (split_first-map (nodes_in row key))

  -- where it counts, no list may be too long
  module _ (few : length (waiters_in row key) ≤ 2 ^ 64 - 1) where
    pub saturated-all : saturated (length (nodes_in row key)) ≡ length (waiters_in row key)
    saturated-all = let same = length-map (nodes_in row key) waiter_of in omega (arith, same, few)

    pub answer-filter : (decisions : List FilterOp)
        → with_saturated_counts (result_of (split_filter decisions (nodes_in row key)))
        ≡ result_of (split_filter decisions (waiters_in row key))
    answer-filter decisions =
        ap with_saturated_counts (sym (result_of-map (split_filter decisions (nodes_in row key)))
        ∙ ap result_of (split_filter-map decisions (nodes_in row key)))
        ∙ result_of-few (split_filter decisions (waiters_in row key)) (waiters_in row key)
        (AreParts-filter decisions (waiters_in row key)) few

    pub answer-requeue : (op : RequeueOp)
        → with_saturated_counts (requeue_result op (split_by op (nodes_in row key)))
        ≡ requeue_result op (split_by op (waiters_in row key))
    answer-requeue op =
        ap with_saturated_counts (sym (requeue_result-map op (split_by op (nodes_in row key)))
        ∙ ap (requeue_result op) (split_by-map op (nodes_in row key)))
        ∙ requeue_result-few (split_by op (waiters_in row key)) (waiters_in row key)
        (AreParts-by op (waiters_in row key)) few op
