-- A requeue of a lot is the machine's, and leaves a lot.
use Rattle.std.proofs.Common.{◌≡◌, ◌≢◌, ℕ, ◌<◌, List, length, map, sym, ap, ◌∙◌, subst, arith}
use Rattle.lot_base.specs.BucketState.{BucketState}
use Rattle.lot_base.specs.NodeFields.{NodeFields}
use Rattle.lot_base.specs.declared.token.RequeueOp.{RequeueOp}
use Rattle.lot_base.specs.declared.token.UnparkToken.{UnparkToken}
use Rattle.lot_base.specs.Requeue.{numbers}
use Rattle.lot_base.specs.Waiting.{Split, lists_after_requeue, split_by}
use Rattle.lot_base.specs.NodeLists.{split_to, with_token}
use Rattle.lot_machine.specs.Machine.{after_requeue, times_in}
use Rattle.lot_simulator.specs.LotState.{LotState, ThreadState}
use Rattle.lot_simulator.specs.Lot.{thread_keys, machine, uses, IsLot}
use Rattle.lot_simulator.specs.Represents.{waiter_of, waiters_in}
use Rattle.lot_simulator.specs.Table.{IsRowStep}
use Rattle.lot_simulator.specs.Represents.{nodes_in}
use Rattle.lot_simulator.specs.Private.Commit.{threads_with_keys, threads_after_commit, CanCommit}
use Rattle.lot_simulator.proofs.CommitLemmas.{below_from_status, ne-free-queued, uses-after_commit}
use Rattle.lot_simulator.proofs.KeyLemmas.{length-moved, numbers-moved, statuses-moved, uses-moved, keys-not_moved}
use Rattle.lot_simulator.proofs.KeyLemmas.{keys-moved, records-moved}
use Rattle.lot_simulator.proofs.LotRequeueLemmas.{AreMoved, CanCommit-split, IsLotStep-after_requeue}
use Rattle.lot_simulator.proofs.LotThreadLemmas.{IsLotStep}
use Rattle.lot_machine.proofs.StandingLemmas.{is_queued-standing}
use Rattle.lot_machine.proofs.SplitLemmas.{AreParts, AreParts-by}
use Rattle.lot_simulator.proofs.NodeSplitLemmas.{waiter_split, split_by-map}

module _ (lot : LotState) (from to : ℕ) (is : IsLot lot) (op : RequeueOp) where
  abbrev split : Split NodeFields
  split = split_by op (nodes_in lot.buckets from)

  -- the threads, those that move with the new key
  abbrev after : List ThreadState
  after = threads_with_keys to (numbers split.moved) lot.threads

  parts : AreParts (waiter_split split) (waiters_in lot.buckets from)
  parts =
      subst (λ parted. AreParts parted (waiters_in lot.buckets from))
      (sym (split_by-map op (nodes_in lot.buckets from))) (AreParts-by op (waiters_in lot.buckets from))

  are_moved : AreMoved lot (map waiter_of split.moved) to after
  are_moved = record {
    count = length-moved to split.moved lot.threads;
    numbers = numbers-moved to split.moved lot.threads is.numbers;
    status = statuses-moved to split.moved lot.threads;
    records = records-moved to split.moved lot.threads;
    others = keys-not_moved to split.moved lot.threads;
    own = keys-moved to split.moved lot.threads below;
  }
    where
      below : (j : ℕ) → times_in j (map waiter_of split.moved) ≢ 0 → j < length lot.threads
      below j some =
          let stands : 0 < times_in j (waiters_in lot.buckets from) = omega (arith, parts.counts j) in
          below_from_status lot.threads j
          (ne-free-queued _
          (is_queued-standing (thread_keys lot.threads) (machine lot) j from is.consistent.standing stands))

  module _ (token : UnparkToken) (threads : List ThreadState) (taken : List NodeFields)
      (moved : threads ≡ threads_with_keys to (numbers (split_by op (nodes_in lot.buckets from)).moved) lot.threads)
      (takes : taken ≡ map (with_token token) (split_by op (nodes_in lot.buckets from)).taken) where
    pub CanCommit-requeue : CanCommit taken threads
    CanCommit-requeue =
        subst (λ nodes. CanCommit nodes threads) (sym takes)
        (subst (CanCommit (map (with_token token) split.taken)) (sym moved)
        (CanCommit-split lot from to split token after is parts are_moved))

    pub uses-requeue : uses (threads_after_commit taken threads) ≡ uses lot.threads
    uses-requeue = uses-after_commit taken threads CanCommit-requeue ∙ ap uses moved
        ∙ uses-moved to split.moved lot.threads

    pub IsLotStep-requeue : (row : List BucketState)
        → IsRowStep lot.buckets row
        (lists_after_requeue (nodes_in lot.buckets) from to (split_to to (split_by op (nodes_in lot.buckets from))))
        → IsLotStep (record { buckets = row; threads = threads_after_commit taken threads })
        (after_requeue (machine lot) from to (split_by op (waiters_in lot.buckets from)) token)
    IsLotStep-requeue row rows =
        subst (λ parted. IsLotStep (record { buckets = row; threads = threads_after_commit taken threads })
        (after_requeue (machine lot) from to parted token)) (split_by-map op (nodes_in lot.buckets from))
        (subst (λ nodes. IsLotStep (record { buckets = row; threads = threads_after_commit nodes threads })
        (after_requeue (machine lot) from to (waiter_split split) token)) (sym takes)
        (subst (λ all. IsLotStep
        (record { buckets = row; threads = threads_after_commit (map (with_token token) split.taken) all })
        (after_requeue (machine lot) from to (waiter_split split) token)) (sym moved)
        (IsLotStep-after_requeue lot from to split token row after is parts are_moved rows)))
