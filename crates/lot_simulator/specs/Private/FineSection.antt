-- What the beginning of a section does to a row of buckets and to the threads of an interleaved lot.
use Rattle.std.specs.Prelude.{◌≡◌, ℕ, List, ◌∷◌, [], length, map, slice_set}
use Rattle.lot_base.specs.BucketState.{BucketState}
use Rattle.lot_base.specs.NodeFields.{NodeFields}
use Rattle.lot_base.specs.NodeLists.{saturated, split_to, with_saturated_counts, with_token}
use Rattle.lot_base.specs.Requeue.{numbers}
use Rattle.lot_base.specs.Waiting.{Split, lists_after_requeue, requeue_result, result_of, with_value}
use Rattle.lot_machine.specs.declared.step.Answer.{Answer}
use Rattle.lot_machine.specs.declared.step.Answer.TheVariants as answer
use Rattle.lot_machine.specs.declared.step.Op.{Op}
use Rattle.lot_machine.specs.declared.step.Op.TheVariants.{One, All, Filter, Requeue}
use Rattle.lot_simulator.specs.FineLot.{fine_thread_at}
use Rattle.lot_simulator.specs.FineLotState.{FineThreadState}
use Rattle.lot_machine.specs.Operation.{split_of, token_of}
use Rattle.lot_simulator.specs.Represents.{nodes_in}
use Rattle.lot_simulator.specs.Table.{IsRowStep}

-- the nodes of each key once this became of those of the operation's key
abbrev pub lists_by : Op → (ℕ → List NodeFields) → Split NodeFields → ℕ → List NodeFields
lists_by (Requeue from to op token) lists split = lists_after_requeue lists from to (split_to to split)
lists_by (One key token) lists split = with_value lists key split.left
lists_by (All key token) lists split = with_value lists key split.left
lists_by (Filter key decisions token) lists split = with_value lists key split.left

-- what a bucket answers
abbrev pub answer_by : Op → Split NodeFields → Answer
answer_by (One key token) split = answer.Unpark (result_of split)
answer_by (All key token) split = answer.Count (saturated (length split.taken))
answer_by (Filter key decisions token) split = answer.Unpark (with_saturated_counts (result_of split))
answer_by (Requeue from to op token) split = answer.Unpark (with_saturated_counts (requeue_result op split))

-- the threads, one of them with another key word, or each of these numbers
abbrev pub fine_threads_with_key : List FineThreadState → ℕ → ℕ → List FineThreadState
fine_threads_with_key threads number key =
    let t : FineThreadState = fine_thread_at threads number in
    slice_set threads number (record t { thread = record t.thread { key = key } })

abbrev pub fine_threads_with_keys : ℕ → List ℕ → List FineThreadState → List FineThreadState
fine_threads_with_keys key [] threads = threads
fine_threads_with_keys key (number ∷ numbers) threads =
    fine_threads_with_keys key numbers (fine_threads_with_key threads number key)

-- and once an operation moved these nodes
abbrev pub threads_by : Op → Split NodeFields → List FineThreadState → List FineThreadState
threads_by (Requeue from to op token) split threads = fine_threads_with_keys to (numbers split.moved) threads
threads_by _ split threads = threads

-- an operation on a row left this one, gave this answer and took these nodes
pub record IsTakenBy (op : Op) (row new : List BucketState) (given : Answer) (taken : List NodeFields) : Type 0 where
  pub rows : IsRowStep row new (lists_by op (nodes_in row) (split_of op (nodes_in row)))
  pub answer : given ≡ answer_by op (split_of op (nodes_in row))
  pub nodes : taken ≡ map (with_token (token_of op)) (split_of op (nodes_in row)).taken
