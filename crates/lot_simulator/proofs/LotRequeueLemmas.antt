-- A lot after some waiters of a key were taken, and some moved to another, which is the machine's step.
use Rattle.std.proofs.Common.{◌≡◌, ◌≢◌, ℕ, ◌<◌, List, []}
use Rattle.std.proofs.Common.{◌++◌, length, append-nil, map, refl, sym, ap, ◌∙◌, subst, ⊎_elim, arith}
use Rattle.std.proofs.lemmas.Bool.{cases_eq}
use Rattle.std.proofs.lemmas.List.{map-append}
use Rattle.lot_base.specs.BucketState.{BucketState}
use Rattle.lot_base.specs.NodeFields.{NodeFields}
use Rattle.lot_base.specs.Waiting.{with_value, lists_after_requeue, Split}
use Rattle.lot_base.specs.NodeLists.{split_to}
use Rattle.lot_base.specs.NodeLists.{with_token, with_new_key}
use Rattle.lot_base.specs.declared.token.UnparkToken.{UnparkToken}
use Rattle.lot_base.proofs.ValueLemmas.{with_value-same, with_value-other, map-with_value}
use Rattle.lot_machine.specs.Status.{is_queued}
use Rattle.lot_machine.specs.Machine.{Waiter, times_in}
use Rattle.lot_machine.specs.Machine.{statuses_with_taken, after_unpark, after_requeue}
use Rattle.lot_simulator.specs.LotState.{LotState, ThreadState}
use Rattle.lot_simulator.specs.Lot.{thread_at, statuses, thread_keys, thread_records, machine}
use Rattle.lot_simulator.specs.Lot.{IsLot}
use Rattle.lot_simulator.specs.Represents.{waiter_of, waiters_in}
use Rattle.lot_simulator.specs.Table.{IsRowStep}
use Rattle.lot_simulator.specs.Represents.{nodes_in}
use Rattle.lot_simulator.specs.Private.Commit.{threads_after_commit, CanCommit}
use Rattle.lot_simulator.proofs.CommitLemmas.{length-after_commit, numbers-after_commit, keys-after_commit}
use Rattle.lot_simulator.proofs.CommitLemmas.{statuses-after_commit, CanCommit-standing}
use Rattle.lot_simulator.proofs.CommitLemmas.{records-after_commit}
use Rattle.lot_machine.proofs.StandingLemmas.{same_machine, is_queued-standing, StandsAt-standing}
use Rattle.lot_machine.proofs.MachineLemmas.{MatchesStatus-after_requeue}
use Rattle.lot_machine.proofs.StandingLemmas.{after_requeue-after_unpark}
use Rattle.lot_machine.proofs.SplitLemmas.{AreParts}
use Rattle.lot_simulator.proofs.NodeSplitLemmas.{waiter_split}
use Rattle.lot_simulator.proofs.NodeSplitLemmas.{map-with_new_key}
use Rattle.lot_simulator.proofs.LotThreadLemmas.{IsLotStep, IsLotStep-from}

-- threads that differ from those of a lot in the keys of some that moved
pub record AreMoved (lot : LotState) (moved : List Waiter) (to : ℕ) (threads : List ThreadState) : Type 0 where
  pub count : length threads ≡ length lot.threads
  pub numbers : (j : ℕ) → (thread_at threads j).number ≡ j
  pub status : (j : ℕ) → statuses threads j ≡ statuses lot.threads j
  pub records : (j : ℕ) → thread_records threads j ≡ thread_records lot.threads j
  pub others : (j : ℕ) → times_in j moved ≡ 0 → thread_keys threads j ≡ thread_keys lot.threads j
  pub own : (j : ℕ) → times_in j moved ≢ 0 → thread_keys threads j ≡ to

pub AreMoved-nobody : (lot : LotState) (to : ℕ) → IsLot lot → AreMoved lot [] to lot.threads
AreMoved-nobody lot to is =
    record {
      count = refl;
      numbers = is.numbers;
      status = λ j. refl;
      records = λ j. refl;
      others = λ j none. refl;
      own = λ j some. absurd (some refl);
    }

-- those who are taken out of their list can be committed
pub CanCommit-split : (lot : LotState) (from to : ℕ) (split : Split NodeFields) (token : UnparkToken)
    (threads : List ThreadState) → IsLot lot → AreParts (waiter_split split) (waiters_in lot.buckets from)
    → AreMoved lot (map waiter_of split.moved) to threads → CanCommit (map (with_token token) split.taken) threads
CanCommit-split lot from to split token threads is parts moved =
    CanCommit-standing token split.taken threads moved.numbers
    (λ j some. let stands : 0 < times_in j (waiters_in lot.buckets from) = omega (arith, parts.counts j) in
    let stood = StandsAt-standing (thread_keys lot.threads) (machine lot) j from is.consistent.standing stands in (
      omega (arith, parts.counts j, stood.once),
      ap is_queued (moved.status j) ∙ is_queued-standing (thread_keys lot.threads)
          (machine lot) j from is.consistent.standing stands,
    ))

-- some waiters of a key are taken, some moved to another, the others left
pub IsLotStep-after_requeue : (lot : LotState) (from to : ℕ) (split : Split NodeFields) (token : UnparkToken)
    (row : List BucketState) (threads : List ThreadState) → IsLot lot
    → AreParts (waiter_split split) (waiters_in lot.buckets from) → AreMoved lot (map waiter_of split.moved) to threads
    → IsRowStep lot.buckets row (lists_after_requeue (nodes_in lot.buckets) from to (split_to to split))
    → IsLotStep (record { buckets = row; threads = threads_after_commit (map (with_token token) split.taken) threads })
    (after_requeue (machine lot) from to (waiter_split split) token)
IsLotStep-after_requeue lot from to split token row threads is parts moved step =
    IsLotStep-from lot (record { buckets = row; threads = after }) _ is step.represents
    (numbers-after_commit taken threads can moved.numbers)
    (same_machine _ _ lists (λ j. statuses-after_commit token split.taken threads can j
    ∙ (λ i. statuses_with_taken token (map waiter_of split.taken) (λ k. moved.status k i) j))
    (λ j. records-after_commit taken threads can j ∙ moved.records j)
    (length-after_commit taken threads ∙ moved.count))
    refl
    (MatchesStatus-after_requeue (thread_keys lot.threads) (thread_keys after) (machine lot) from to
    (waiter_split split) token parts (λ j none. keys-after_commit taken threads can j ∙ moved.others j none)
    (λ j some. keys-after_commit taken threads can j ∙ moved.own j some) is.consistent)
  where
    taken : List NodeFields
    taken = map (with_token token) split.taken

    after : List ThreadState
    after = threads_after_commit taken threads

    can : CanCommit taken threads
    can = CanCommit-split lot from to split token threads is parts moved

    kept : (k : ℕ) → map waiter_of (with_value (nodes_in lot.buckets) from split.left k)
        ≡ with_value (waiters_in lot.buckets) from (map waiter_of split.left) k
    kept k = map-with_value waiter_of (nodes_in lot.buckets) from split.left k

    behind : map waiter_of (with_value (nodes_in lot.buckets) from split.left to ++ (split_to to split).moved)
        ≡ with_value (waiters_in lot.buckets) from (map waiter_of split.left) to ++ map waiter_of split.moved
    behind =
        map-append waiter_of (with_value (nodes_in lot.buckets) from split.left to) (split_to to split).moved
        ∙ ap (λ list. list ++ map waiter_of (split_to to split).moved) (kept to)
        ∙ ap (λ list. with_value (waiters_in lot.buckets) from (map waiter_of split.left) to ++ list)
        (map-with_new_key to split.moved)

    lists : (k : ℕ) → waiters_in row k ≡ lists_after_requeue (waiters_in lot.buckets) from to (waiter_split split) k
    lists k =
        ap (map waiter_of) (step.nodes k)
        ∙ map-with_value waiter_of (with_value (nodes_in lot.buckets) from split.left) to
        (with_value (nodes_in lot.buckets) from split.left to ++ (split_to to split).moved) k
        ∙ (λ i. with_value (λ q. kept q i) to (behind i) k)

-- some are taken, and the others are left
pub IsLotStep-after_unpark : (lot : LotState) (key : ℕ) (split : Split NodeFields) (token : UnparkToken)
    (row : List BucketState) → split.moved ≡ [] → IsLot lot → AreParts (waiter_split split) (waiters_in lot.buckets key)
    → IsRowStep lot.buckets row (with_value (nodes_in lot.buckets) key split.left)
    → IsLotStep (record { buckets = row; threads = threads_after_commit (map (with_token token) split.taken) lot.threads })
    (after_unpark (machine lot) key (waiter_split split) token)
IsLotStep-after_unpark lot key split token row none is parts step =
    subst (IsLotStep (record { buckets = row; threads = threads_after_commit (map (with_token token) split.taken) lot.threads }))
    (after_requeue-after_unpark (machine lot) key (waiter_split split) token (ap (map waiter_of) none))
    (IsLotStep-after_requeue lot key key split token row lot.threads is parts
    (subst (λ moved. AreMoved lot (map waiter_of moved) key lot.threads) (sym none) (AreMoved-nobody lot key is))
    (record { count = step.count; nodes = λ k. step.nodes k ∙ sym (nobody k); represents = step.represents }))
  where
    kept : ℕ → List NodeFields
    kept = with_value (nodes_in lot.buckets) key split.left

    nobody : (k : ℕ) → lists_after_requeue (nodes_in lot.buckets) key key (split_to key split) k ≡ kept k
    nobody k =
        ap (λ moved. with_value kept key (kept key ++ map (with_new_key key) moved) k) none
        ∙ ⊎_elim (λ (same : k ≡ key). with_value-same kept key (kept key ++ []) k same ∙ append-nil (kept key)
        ∙ ap kept (sym same)) (with_value-other kept key (kept key ++ []) k) (cases_eq k key)
