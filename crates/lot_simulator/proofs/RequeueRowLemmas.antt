-- A requeue in a row of buckets: within one bucket, or from one to another.
use Rattle.std.proofs.Common.{◌≡◌, ◌≢◌, ℕ, ◌<◌, ◌==◌, ◌++◌, List, [], length, map, All, refl, sym, ap, ◌∙◌, subst}
use Rattle.std.proofs.Common.{⊎_elim, arith, slice_set}
use Rattle.std.proofs.Math.ListN.{length-set}
use Rattle.std.proofs.lemmas.Bool.{cases_eq}
use Rattle.std.proofs.lemmas.List.{set-set, set_comm, set-get_or}
use Rattle.std.proofs.lemmas.List.Elements.{All-append, All-map, All-filter}
use Rattle.lot_base.proofs.PlaceLemmas.{place_of-below}
use Rattle.lot_base.proofs.WaitingLemmas.{All-from_lists, All-after_taking}
use Rattle.lot_base.specs.BucketState.{BucketState}
use Rattle.lot_base.specs.NodeFields.{NodeFields}
use Rattle.lot_base.specs.Place.{IsTableSize, place_of}
use Rattle.lot_base.specs.Waiting.{with_value, lists_after_requeue, Split}
use Rattle.lot_base.specs.NodeLists.{lists_of, split_to}
use Rattle.lot_base.specs.NodeLists.{with_new_key}
use Rattle.lot_simulator.specs.Represents.{bucket_at, waiters_in, Represents}
use Rattle.lot_simulator.specs.Table.{IsRowStep}
use Rattle.lot_simulator.specs.Represents.{nodes_in}
use Rattle.lot_base.proofs.ValueLemmas.{with_value-same, with_value-other, with_value-alike}
use Rattle.lot_simulator.proofs.RowLemmas.{bucket_at-set_same, bucket_at-set_other, nodes_in-set, Represents-set}
use Rattle.lot_simulator.proofs.RowLemmas.{All-nodes_in}

-- a requeue changes the lists of its two keys alone
lists_after_requeue-other : {A : Type 0} (lists : ℕ → List A) (from to : ℕ) (split : Split A) (k : ℕ) → k ≢ from
    → k ≢ to → lists_after_requeue lists from to split k ≡ lists k
lists_after_requeue-other lists from to split k not_from not_to =
    with_value-other (with_value lists from split.left) to _ k not_to
    ∙ with_value-other lists from split.left k not_from

-- and looks at these alone
lists_after_requeue-alike : {A : Type 0} (f g : ℕ → List A) (from to : ℕ) (split : Split A) (k : ℕ) → f to ≡ g to
    → f k ≡ g k → lists_after_requeue f from to split k ≡ lists_after_requeue g from to split k
lists_after_requeue-alike f g from to split k at_to at_k =
    ⊎_elim (λ (same : k ≡ to). with_value-same (with_value f from split.left) to _ k same
    ∙ ap (λ list. list ++ split.moved) (with_value-alike f g from split.left to at_to)
    ∙ sym (with_value-same (with_value g from split.left) to _ k same))
    (λ (other : k ≢ to). with_value-other (with_value f from split.left) to _ k other
    ∙ with_value-alike f g from split.left k at_k ∙ sym (with_value-other (with_value g from split.left) to _ k other))
    (cases_eq k to)

-- the nodes of a key after the bucket of its place, or another, is replaced
nodes_in-here : (row : List BucketState) (place : ℕ) (bucket : BucketState) (k : ℕ) → place < length row
    → place_of k (length row) ≡ place → nodes_in (slice_set row place bucket) k ≡ lists_of bucket.nodes k
nodes_in-here row place bucket k below here =
    ap (λ size. lists_of (bucket_at (slice_set row place bucket) (place_of k size)).nodes k)
    (length-set row place bucket)
    ∙ ap (λ p. lists_of (bucket_at (slice_set row place bucket) p).nodes k) here
    ∙ ap (λ b. lists_of b.nodes k) (bucket_at-set_same row place bucket below)

nodes_in-elsewhere : (row : List BucketState) (place : ℕ) (bucket : BucketState) (k : ℕ)
    → place_of k (length row) ≢ place → nodes_in (slice_set row place bucket) k ≡ nodes_in row k
nodes_in-elsewhere row place bucket k elsewhere =
    ap (λ size. lists_of (bucket_at (slice_set row place bucket) (place_of k size)).nodes k)
    (length-set row place bucket)
    ∙ ap (λ b. lists_of b.nodes k) (bucket_at-set_other row place bucket (place_of k (length row)) elsewhere)

All-with_list : (P : NodeFields → Type 0) (nodes : List NodeFields) (key : ℕ) (one : List NodeFields) (k : ℕ)
    → All P nodes → All P one → All P (with_value (lists_of nodes) key one k)
All-with_list P nodes key one k all at_one =
    ⊎_elim (λ (same : k ≡ key). subst (All P) (sym (with_value-same (lists_of nodes) key one k same)) at_one)
    (λ (other : k ≢ key). subst (All P) (sym (with_value-other (lists_of nodes) key one k other))
    (All-filter (λ node. node.key == k) P nodes all)) (cases_eq k key)

-- nodes that moved to a key have its place
All-moved : (size place to : ℕ) (moved : List NodeFields) → place_of to size ≡ place
    → All (λ node. place_of node.key size ≡ place) (map (with_new_key to) moved)
All-moved size place to moved at = All-map (λ node. place_of node.key size ≡ place) (with_new_key to) moved
    (λ k d h. at)

-- a node whose key has a place of a table of this size
abbrev HasPlace : ℕ → ℕ → NodeFields → Type 0
HasPlace size place node = place_of node.key size ≡ place

-- within one bucket
pub IsRowStep-requeue_one : (row : List BucketState) (from to : ℕ) (before empty after : BucketState)
    (split : Split NodeFields) → IsTableSize (length row) → Represents row (waiters_in row)
    → before ≡ bucket_at row (place_of from (length row)) → before.place ≡ place_of from (length row)
    → place_of to (length row) ≡ before.place → after.place ≡ before.place
    → ((k : ℕ) → lists_of after.nodes k ≡ lists_after_requeue (lists_of before.nodes) from to (split_to to split) k)
    → ((P : NodeFields → Type 0) → All P (lists_of before.nodes from) → All P split.left)
    → IsRowStep row (slice_set (slice_set row before.place empty) after.place after)
    (lists_after_requeue (nodes_in row) from to (split_to to split))
IsRowStep-requeue_one row from to before empty after split table represents taken at together back lists stays =
    subst (λ new. IsRowStep row new (lists_after_requeue (nodes_in row) from to (split_to to split))) (sym same)
    (record {
      count = length-set row place after;
      nodes = λ k. ⊎_elim (λ (here : place_of k (length row) ≡ place). nodes_in-here row place after k below here
          ∙ lists k ∙ lists_after_requeue-alike (lists_of before.nodes) (nodes_in row) from to (split_to to split) k
          (in_row to to_place) (in_row k here))
          (λ (elsewhere : place_of k (length row) ≢ place). nodes_in-elsewhere row place after k elsewhere
          ∙ sym (lists_after_requeue-other (nodes_in row) from to (split_to to split) k
          (λ same. elsewhere (ap (λ q. place_of q (length row)) same))
          (λ same. elsewhere (ap (λ q. place_of q (length row)) same ∙ to_place))))
          (cases_eq (place_of k (length row)) place);
      represents = Represents-set row place after below
          (All-from_lists (HasPlace (length row) place) after.nodes in_place) represents;
    })
  where
    place : ℕ
    place = place_of from (length row)

    below : place < length row
    below = place_of-below from (length row) table

    to_place : place_of to (length row) ≡ place
    to_place = together ∙ at

    in_row : (k : ℕ) → place_of k (length row) ≡ place → lists_of before.nodes k ≡ nodes_in row k
    in_row k here = ap (λ b. lists_of b.nodes k) taken ∙ ap (λ p. lists_of (bucket_at row p).nodes k) (sym here)

    all_before : All (HasPlace (length row) place) before.nodes
    all_before = subst (λ b. All (HasPlace (length row) place) b.nodes) (sym taken) (represents.in_place place below)

    all_kept : (q : ℕ) → All (HasPlace (length row) place) (with_value (lists_of before.nodes) from split.left q)
    all_kept q = All-with_list (HasPlace (length row) place) before.nodes from split.left q all_before
        (stays (HasPlace (length row) place)
        (All-filter (λ node. node.key == from) (HasPlace (length row) place) before.nodes all_before))

    in_place : (k : ℕ) → All (HasPlace (length row) place) (lists_of after.nodes k)
    in_place k =
        subst (All (HasPlace (length row) place)) (sym (lists k))
        (⊎_elim (λ (same : k ≡ to). subst (All (HasPlace (length row) place))
        (sym (with_value-same (with_value (lists_of before.nodes) from split.left) to _ k same))
        (All-append (HasPlace (length row) place) (with_value (lists_of before.nodes) from split.left to)
        (split_to to split).moved (all_kept to) (All-moved (length row) place to split.moved to_place)))
        (λ (other : k ≢ to). subst (All (HasPlace (length row) place))
        (sym (with_value-other (with_value (lists_of before.nodes) from split.left) to _ k other)) (all_kept k))
        (cases_eq k to))

    same : slice_set (slice_set row before.place empty) after.place after ≡ slice_set row place after
    same = ap (λ p. slice_set (slice_set row before.place empty) p after) back ∙ set-set row before.place empty after
        ∙ ap (λ p. slice_set row p after) at

-- from one bucket to another
pub IsRowStep-requeue_two : (row : List BucketState) (from to : ℕ)
    (source empty source' target empty' target' : BucketState) (split : Split NodeFields) → IsTableSize (length row)
    → Represents row (waiters_in row) → source ≡ bucket_at row (place_of from (length row))
    → source.place ≡ place_of from (length row) → place_of to (length row) ≢ source.place
    → target ≡ bucket_at (slice_set row source.place empty) (place_of to (length row))
    → target.place ≡ place_of to (length row) → source'.place ≡ source.place → target'.place ≡ target.place
    → ((k : ℕ) → lists_of source'.nodes k ≡ with_value (lists_of source.nodes) from split.left k)
    → ((k : ℕ) → lists_of target'.nodes k ≡ with_value (lists_of target.nodes) to
    (lists_of target.nodes to ++ (split_to to split).moved) k)
    → ((P : NodeFields → Type 0) → All P (lists_of source.nodes from) → All P split.left)
    → IsRowStep row
    (slice_set (slice_set (slice_set (slice_set row source.place empty) target.place empty') target'.place target')
    source'.place source') (lists_after_requeue (nodes_in row) from to (split_to to split))
IsRowStep-requeue_two row from to source empty source' target empty' target' split table represents taken
    at apart taken' at' back back' lists lists' stays =
    subst (λ new. IsRowStep row new (lists_after_requeue (nodes_in row) from to (split_to to split))) (sym same)
    (record {
      count = length-set row1 p source' ∙ length-set row q target';
      nodes = λ k. second k ∙ together k;
      represents = represents2;
    })
  where
    p : ℕ
    p = place_of from (length row)

    q : ℕ
    q = place_of to (length row)

    row1 : List BucketState
    row1 = slice_set row q target'

    sized : length row1 ≡ length row
    sized = length-set row q target'

    below_p : p < length row
    below_p = place_of-below from (length row) table

    below_q : q < length row
    below_q = place_of-below to (length row) table

    q_not_p : q ≢ p
    q_not_p same = apart (same ∙ sym at)

    p_not_q : p ≢ q
    p_not_q same = q_not_p (sym same)

    target_is : target ≡ bucket_at row q
    target_is = taken' ∙ ap (λ place. bucket_at (slice_set row place empty) q) at
        ∙ bucket_at-set_other row p empty q q_not_p

    first : (k : ℕ) → nodes_in row1 k ≡ with_value (nodes_in row) to (nodes_in row to ++ (split_to to split).moved) k
    first = nodes_in-set row target' to (nodes_in row to ++ (split_to to split).moved) below_q
        (subst (λ b. (k : ℕ) → lists_of target'.nodes k
        ≡ with_value (lists_of b.nodes) to (lists_of b.nodes to ++ (split_to to split).moved) k) target_is lists')

    represents1 : Represents row1 (waiters_in row1)
    represents1 = Represents-set row q target' below_q
        (All-after_taking (λ node. place_of node.key (length row) ≡ q) to (bucket_at row q).nodes target'.nodes
        (nodes_in row to ++ (split_to to split).moved) (represents.in_place q below_q)
        (All-append (λ node. place_of node.key (length row) ≡ q) (nodes_in row to) (split_to to split).moved
        (All-nodes_in row to table represents) (All-moved (length row) q to split.moved refl))
        (subst (λ b. (k : ℕ) → lists_of target'.nodes k ≡ with_value (lists_of b.nodes) to
        (lists_of b.nodes to ++ (split_to to split).moved) k) target_is lists')) represents

    source_is : source ≡ bucket_at row1 p
    source_is = taken ∙ sym (bucket_at-set_other row q target' p p_not_q)

    place1 : place_of from (length row1) ≡ p
    place1 = ap (place_of from) sized

    changed : (k : ℕ) → lists_of source'.nodes k
        ≡ with_value (lists_of (bucket_at row1 (place_of from (length row1))).nodes) from split.left k
    changed = subst (λ place. (k : ℕ) → lists_of source'.nodes k
        ≡ with_value (lists_of (bucket_at row1 place).nodes) from split.left k) (sym place1)
        (subst (λ b. (k : ℕ) → lists_of source'.nodes k ≡ with_value (lists_of b.nodes) from split.left k) source_is
        lists)

    row2 : List BucketState
    row2 = slice_set row1 p source'

    second : (k : ℕ) → nodes_in row2 k ≡ with_value (nodes_in row1) from split.left k
    second = subst (λ place. (k : ℕ) → nodes_in (slice_set row1 place source') k
        ≡ with_value (nodes_in row1) from split.left k) place1
        (nodes_in-set row1 source' from split.left (omega (arith, below_p, sized, place1)) changed)

    together : (k : ℕ) → with_value (nodes_in row1) from split.left k
        ≡ lists_after_requeue (nodes_in row) from to (split_to to split) k
    together k =
        ⊎_elim (λ (here : k ≡ to). with_value-other (nodes_in row1) from split.left k (not_from k here) ∙ first k
        ∙ with_value-same (nodes_in row) to (nodes_in row to ++ (split_to to split).moved) k here
        ∙ ap (λ list. list ++ (split_to to split).moved)
        (sym (with_value-other (nodes_in row) from split.left to to_not_from))
        ∙ sym (with_value-same (with_value (nodes_in row) from split.left) to
        (with_value (nodes_in row) from split.left to ++ (split_to to split).moved) k here))
        (λ (other : k ≢ to). with_value-alike (nodes_in row1) (nodes_in row) from split.left k
        (first k ∙ with_value-other (nodes_in row) to (nodes_in row to ++ (split_to to split).moved) k other)
        ∙ sym (with_value-other (with_value (nodes_in row) from split.left) to
        (with_value (nodes_in row) from split.left to ++ (split_to to split).moved) k other))
        (cases_eq k to)
      where
        to_not_from : to ≢ from
        to_not_from same = q_not_p (ap (λ k. place_of k (length row)) same)

        not_from : (k : ℕ) → k ≡ to → k ≢ from
        not_from k here same = to_not_from (sym here ∙ same)

    all_left : All (λ node. place_of node.key (length row1) ≡ p) split.left
    all_left =
        subst (λ size. All (λ node. place_of node.key size ≡ p) split.left) (sym sized)
        (stays (λ node. place_of node.key (length row) ≡ p)
        (subst (λ b. All (λ node. place_of node.key (length row) ≡ p) (lists_of b.nodes from)) (sym taken)
        (All-nodes_in row from table represents)))

    represents2 : Represents row2 (waiters_in row2)
    represents2 =
        Represents-set row1 p source' (omega (arith, below_p, sized))
        (All-after_taking (λ node. place_of node.key (length row1) ≡ p) from
        (bucket_at row1 p).nodes source'.nodes split.left
        (represents1.in_place p (omega (arith, below_p, sized))) all_left
        (subst (λ b. (k : ℕ) → lists_of source'.nodes k ≡ with_value (lists_of b.nodes) from split.left k) source_is
        lists)) represents1

    same : slice_set (slice_set (slice_set (slice_set row source.place empty) target.place empty') target'.place
        target') source'.place source' ≡ row2
    same =
        ap
        (λ place. slice_set (slice_set (slice_set (slice_set row source.place empty) target.place empty') place target')
        source'.place source') back'
        ∙ ap (λ r. slice_set r source'.place source')
        (set-set (slice_set row source.place empty) target.place empty' target')
        ∙ ap (λ place. slice_set (slice_set (slice_set row source.place empty) place target') source'.place source') at'
        ∙ ap (λ place. slice_set (slice_set (slice_set row place empty) q target') source'.place source') at
        ∙ ap (λ place. slice_set (slice_set (slice_set row p empty) q target') place source') (back ∙ at)
        ∙ ap (λ r. slice_set r p source') (set_comm row p q empty target' p_not_q)
        ∙ set-set row1 p empty source'

-- both buckets were put back as they were
pub put_back_both : (row : List BucketState) (from to : ℕ) (source empty source' target empty' target' : BucketState)
    → source ≡ bucket_at row (place_of from (length row)) → source.place ≡ place_of from (length row)
    → place_of to (length row) ≢ source.place
    → target ≡ bucket_at (slice_set row source.place empty) (place_of to (length row))
    → target.place ≡ place_of to (length row) → source' ≡ source → target' ≡ target
    → slice_set (slice_set (slice_set (slice_set row source.place empty) target.place empty') target'.place target')
    source'.place source' ≡ row
put_back_both row from to source empty source' target empty' target' taken at apart taken' at' same same' =
    ap (λ b. slice_set (slice_set (slice_set (slice_set row source.place empty) target.place empty') b.place b)
    source'.place source') same'
    ∙ ap (λ r. slice_set r source'.place source')
    (set-set (slice_set row source.place empty) target.place empty' target
    ∙ ap (λ place. slice_set (slice_set row source.place empty) place target) at'
    ∙ ap (slice_set (slice_set row source.place empty) q) taken'
    ∙ set-get_or (slice_set row source.place empty) q (record { place = q; size = 0; nodes = [] }))
    ∙ ap (λ b. slice_set (slice_set row source.place empty) b.place b) same
    ∙ set-set row source.place empty source
    ∙ ap (λ place. slice_set row place source) at
    ∙ ap (slice_set row (place_of from (length row))) taken
    ∙ set-get_or row (place_of from (length row)) (record { place = place_of from (length row); size = 0; nodes = [] })
  where
    q : ℕ
    q = place_of to (length row)

-- a second bucket was taken out of a row of the same length
pub second_taken : (row : List BucketState) (place : ℕ) (empty target : BucketState) (to : ℕ)
    → target ≡ bucket_at (slice_set row place empty) (place_of to (length (slice_set row place empty)))
    → target ≡ bucket_at (slice_set row place empty) (place_of to (length row))
second_taken row place empty target to taken =
    taken ∙ ap (λ size. bucket_at (slice_set row place empty) (place_of to size)) (length-set row place empty)

pub second_place : (row : List BucketState) (place : ℕ) (empty : BucketState) (at to : ℕ)
    → at ≡ place_of to (length (slice_set row place empty)) → at ≡ place_of to (length row)
second_place row place empty at to is = is ∙ ap (place_of to) (length-set row place empty)
