-- Requeues, in one bucket and across two: the step that they are, and whose the nodes are then.
use Rattle.std.proofs.Common.{None, ◌≡◌, ◌≢◌, ℕ, ◌≤◌, ◌==◌, Bool, true, false, if◌then◌else◌, List, [], ◌∷◌, ◌++◌, All, map}
use Rattle.std.proofs.Common.{length, refl, ap, subst, arith}
use Rattle.std.proofs.lemmas.List.{length-map}
use Rattle.std.proofs.lemmas.List.Elements.{All-nil, All-cons, All-head, All-tail, All-filter, All-append}
use Rattle.lot_base.specs.BucketState.{BucketState, KeepsPlace}
use Rattle.lot_base.specs.NodeFields.{NodeFields}
use Rattle.lot_base.specs.NodeLists.{lists_of, ChangesOnly, split_to, with_new_key, with_saturated_counts, with_token}
use Rattle.lot_base.specs.Place.{place_of}
use Rattle.lot_base.specs.Waiting.{Split, lists_after_requeue, requeue_result, split_by, with_value}
use Rattle.lot_base.specs.declared.token.RequeueOp.{RequeueOp}
use Rattle.lot_base.specs.declared.token.RequeueOp.TheVariants.{Abort, RequeueAll, RequeueOne, UnparkOne}
use Rattle.lot_base.specs.declared.token.RequeueOp.TheVariants.{UnparkOneRequeueRest}
use Rattle.lot_base.specs.declared.token.UnparkToken.{UnparkToken}
use Rattle.lot_base.proofs.RequeueLemmas.{All-left, All-moved}
use Rattle.lot_base.proofs.WaitingLemmas.{All-from_lists}
use Rattle.lot_machine.specs.declared.step.Answer.{Answer}
use Rattle.lot_machine.specs.declared.step.Answer.TheVariants as answer
use Rattle.lot_machine.specs.declared.step.Op.TheVariants as op
use Rattle.lot_machine.specs.declared.step.Step.{Step}
use Rattle.lot_machine.specs.declared.step.Step.TheVariants as step
use Rattle.lot_history.specs.declared.view.Piece.{Piece}
use Rattle.lot_history.specs.declared.view.Piece.TheVariants.{TitledLists}
use Rattle.lot_history.specs.Moves.{Moves}
use Rattle.lot_history.specs.Pieces.{standing_in, threads_taken}
use Rattle.lot_history.proofs.KeyedLemmas.{requeues_keyed_across}
use Rattle.lot_history.proofs.NodeLemmas.{requeues_two}
use Rattle.lot_history.proofs.ThreadLemmas.{Is, said_moves}
use Rattle.lot_threads.specs.Cells.{IsBelow, lists_in, threads_in}
use Rattle.lot_threads.proofs.BelowLemmas.{HoldsOfParts, first_parts}
use Rattle.lot_threads.proofs.TakingLemmas.{taken_pieces}

-- what holds of all waiters holds of those that a requeue takes, and of those that it leaves
pub requeue_parts : (chosen : RequeueOp) (waiting : List NodeFields)
    → HoldsOfParts (split_by chosen waiting) waiting
requeue_parts Abort waiting = record { taken = λ P all. All-nil P; left = λ P all. all }
requeue_parts UnparkOneRequeueRest waiting =
    record { taken = (first_parts waiting).taken; left = λ P all. All-nil P }
requeue_parts RequeueAll waiting = record { taken = λ P all. All-nil P; left = λ P all. All-nil P }
requeue_parts UnparkOne waiting = first_parts waiting
requeue_parts RequeueOne waiting = record { taken = λ P all. All-nil P; left = (first_parts waiting).left }

-- it takes one at most
taken_one : (chosen : RequeueOp) (waiting : List NodeFields) → length (split_by chosen waiting).taken ≤ 1
taken_one Abort waiting = omega arith
taken_one UnparkOneRequeueRest [] = omega arith
taken_one UnparkOneRequeueRest (node ∷ waiting) = omega arith
taken_one RequeueAll waiting = omega arith
taken_one UnparkOne [] = omega arith
taken_one UnparkOne (node ∷ waiting) = omega arith
taken_one RequeueOne waiting = omega arith

pub one_taken : (chosen : RequeueOp) (waiting taken : List NodeFields) (token : UnparkToken)
    → taken ≡ map (with_token token) (split_by chosen waiting).taken → length taken ≤ 1
one_taken chosen waiting taken token is =
    let nodes = length-map (split_by chosen waiting).taken (with_token token) in
    let few = taken_one chosen waiting in
    let same = ap (λ (those : List NodeFields). length those) is in
    omega (arith, nodes, few, same)

-- another key changes no number
below-moved : (bound key : ℕ) (nodes : List NodeFields) → All (IsBelow bound) nodes
    → All (IsBelow bound) (map (with_new_key key) nodes)
below-moved bound key [] all = All-nil (IsBelow bound)
below-moved bound key (node ∷ nodes) all =
    All-cons (IsBelow bound) (with_new_key key node) (map (with_new_key key) nodes)
    (All-head (IsBelow bound) node nodes all)
    (below-moved bound key nodes (All-tail (IsBelow bound) node nodes all))

either_below : (bound : ℕ) (same : Bool) (nodes others : List NodeFields) → All (IsBelow bound) nodes
    → All (IsBelow bound) others → All (IsBelow bound) (if same then nodes else others)
either_below bound true nodes others first second = first
either_below bound false nodes others first second = second

at_key_below : (bound key : ℕ) (nodes : List NodeFields) → All (IsBelow bound) nodes
    → All (IsBelow bound) (lists_of nodes key)
at_key_below bound key nodes all = All-filter (λ (node : NodeFields). node.key == key) (IsBelow bound) nodes all

module _ (bound from to : ℕ) (chosen : RequeueOp) (old : List NodeFields) (all : All (IsBelow bound) old) where
  abbrev split : Split NodeFields
  split = split_by chosen (lists_of old from)

  moved_below : All (IsBelow bound) (split_to to split).moved
  moved_below = below-moved bound to split.moved
      (All-moved (IsBelow bound) chosen (lists_of old from) (at_key_below bound from old all))

  kept_below : (k : ℕ) → All (IsBelow bound) (with_value (lists_of old) from split.left k)
  kept_below k = either_below bound (k == from) split.left (lists_of old k)
      (All-left (IsBelow bound) chosen (lists_of old from) (at_key_below bound from old all))
      (at_key_below bound k old all)

  -- in one bucket
  pub below-requeued : (new : List NodeFields)
      → ((k : ℕ) → lists_of new k ≡ lists_after_requeue (lists_of old) from to (split_to to split) k)
      → All (IsBelow bound) new
  below-requeued new lists = All-from_lists (IsBelow bound) new
      (λ k. rw (lists k) (either_below bound (k == to)
      (with_value (lists_of old) from split.left to ++ (split_to to split).moved)
      (with_value (lists_of old) from split.left k)
      (All-append (IsBelow bound) (with_value (lists_of old) from split.left to) (split_to to split).moved
      (kept_below to) moved_below)
      (kept_below k)))

  -- in the bucket of the other key
  pub below-target : (target new : List NodeFields) → All (IsBelow bound) target
      → ChangesOnly target new to (lists_of target to ++ (split_to to split).moved) → All (IsBelow bound) new
  below-target target new others lists = All-from_lists (IsBelow bound) new
      (λ k. rw (lists k) (either_below bound (k == to) (lists_of target to ++ (split_to to split).moved)
      (lists_of target k)
      (All-append (IsBelow bound) (lists_of target to) (split_to to split).moved
      (at_key_below bound to target others) moved_below)
      (at_key_below bound k target others)))

-- a requeue across two buckets, where neither key has a title
module _ (bound limit from to : ℕ) (chosen : RequeueOp) (token : UnparkToken)
    (source target source_new target_new : BucketState) (keeps : KeepsPlace source source_new)
    (keeps_other : KeepsPlace target target_new) (size : target.size ≡ source.size)
    (apart : target.place ≢ source.place) (from_here : place_of from source.size ≡ source.place)
    (to_there : place_of to target.size ≡ target.place) (above : limit ≤ from) (to_above : limit ≤ to) where
  abbrev requeued : Split NodeFields
  requeued = split_by chosen (lists_of source.nodes from)

  abbrev given : Answer
  given = answer.Unpark (with_saturated_counts (requeue_result chosen requeued))

  pub across_moves : (taken : List NodeFields) (said : Step → Answer → Type 0)
      → taken ≡ map (with_token token) requeued.taken
      → said (step.Unpark (op.Requeue from to chosen token)) given
      → ChangesOnly source.nodes source_new.nodes from requeued.left
      → ChangesOnly target.nodes target_new.nodes to (lists_of target.nodes to ++ (split_to to requeued).moved)
      → Moves bound said (lists_in limit source ∷ lists_in limit target ∷ [])
      (lists_in limit source_new ∷ lists_in limit target_new ∷ threads_in taken)
  across_moves taken said is_taken is_said lists targets =
      let taken_pieces_there : List Piece = threads_taken token (standing_in requeued.taken) ++ [] in
      let before : List Piece =
      TitledLists limit source.size source.place (standing_in source.nodes)
      ∷ TitledLists limit source.size target.place (standing_in target.nodes) ∷ [] in
      let after : List Piece =
      TitledLists limit source.size source.place (standing_in source_new.nodes)
      ∷ TitledLists limit source.size target.place (standing_in target_new.nodes) ∷ taken_pieces_there in
      let is_before : lists_in limit source ∷ lists_in limit target ∷ [] ≡ before = rw size refl in
      let is_after : lists_in limit source_new ∷ lists_in limit target_new ∷ threads_in taken ≡ after =
      rw (keeps.place, keeps.size, keeps_other.place, keeps_other.size, size, taken_pieces token requeued.taken taken is_taken)
      refl in
      let to_size : place_of to source.size ≡ target.place =
      subst (λ (n : ℕ). place_of to n ≡ target.place) size to_there in
      said_moves bound (step.Unpark (op.Requeue from to chosen token)) given said before after
      (lists_in limit source ∷ lists_in limit target ∷ [])
      (lists_in limit source_new ∷ lists_in limit target_new ∷ threads_in taken) is_before is_after is_said
      (requeues_keyed_across bound limit source.size source.place from to source.nodes source_new.nodes requeued token
      (standing_in requeued.taken) (Is (step.Unpark (op.Requeue from to chosen token)) given) None None above to_above
      from_here target.place target.nodes target_new.nodes apart to_size lists targets
      (requeues_two bound source.size source.place from to source.nodes source_new.nodes chosen token [] from_here
      target.place target.nodes target_new.nodes apart to_size lists targets))
