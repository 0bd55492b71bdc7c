-- A row of buckets, and what a step on one of them does to the nodes of each key.
use Rattle.std.proofs.Common.{◌≡◌, ◌≢◌, ℕ, ◌<◌, ◌==◌, List, [], ◌∷◌, ◌++◌, length, All, refl, sym, ap, ◌∙◌, subst}
use Rattle.std.proofs.Common.{⊎_elim, arith, get_or-set_same, get_or-set_other, slice_set}
use Rattle.std.proofs.Math.ListN.{length-set}
use Rattle.std.proofs.lemmas.Bool.{cases_eq}
use Rattle.std.proofs.lemmas.List.{set-set, set-get_or}
use Rattle.std.proofs.lemmas.List.Elements.{All-push, All-filter}
use Rattle.lot_base.proofs.PlaceLemmas.{place_of-below}
use Rattle.lot_base.proofs.SpreadLemmas.{lists_of-push}
use Rattle.lot_base.proofs.WaitingLemmas.{All-after_taking}
use Rattle.lot_base.specs.BucketState.{BucketState}
use Rattle.lot_base.specs.NodeFields.{NodeFields}
use Rattle.lot_base.specs.Place.{IsTableSize, place_of}
use Rattle.lot_base.specs.Waiting.{with_value}
use Rattle.lot_base.specs.NodeLists.{lists_of}
use Rattle.lot_simulator.specs.Represents.{bucket_at, waiters_in, with_node, Represents}
use Rattle.lot_simulator.specs.Table.{IsRowStep}
use Rattle.lot_simulator.specs.Represents.{nodes_in}
use Rattle.lot_base.proofs.ValueLemmas.{with_value-same, with_value-other}

pub bucket_at-set_same : (row : List BucketState) (place : ℕ) (bucket : BucketState) → place < length row
    → bucket_at (slice_set row place bucket) place ≡ bucket
bucket_at-set_same row place bucket below = get_or-set_same row place bucket _ below

pub bucket_at-set_other : (row : List BucketState) (place : ℕ) (bucket : BucketState) (i : ℕ) → i ≢ place
    → bucket_at (slice_set row place bucket) i ≡ bucket_at row i
bucket_at-set_other row place bucket i other = get_or-set_other row place i bucket _ other

-- one key's nodes change in its bucket, and so in the row
pub nodes_in-set : (row : List BucketState) (bucket : BucketState) (key : ℕ) (list : List NodeFields)
    → place_of key (length row) < length row
    → ((k : ℕ) → lists_of bucket.nodes k
    ≡ with_value (lists_of (bucket_at row (place_of key (length row))).nodes) key list k) → (k : ℕ)
    → nodes_in (slice_set row (place_of key (length row)) bucket) k ≡ with_value (nodes_in row) key list k
nodes_in-set row bucket key list below lists k =
    ⊎_elim (λ (same : k ≡ key). at_place k (ap (λ q. place_of q (length row)) same) ∙ lists k
    ∙ with_value-same (lists_of (bucket_at row place).nodes) key list k same
    ∙ sym (with_value-same (nodes_in row) key list k same))
    (λ (other : k ≢ key). ⊎_elim
    (λ (here : place_of k (length row) ≡ place). at_place k here ∙ lists k
    ∙ with_value-other (lists_of (bucket_at row place).nodes) key list k other
    ∙ ap (λ p. lists_of (bucket_at row p).nodes k) (sym here)
    ∙ sym (with_value-other (nodes_in row) key list k other))
    (λ (elsewhere : place_of k (length row) ≢ place). sized k
    ∙ ap (λ b. lists_of b.nodes k) (bucket_at-set_other row place bucket (place_of k (length row)) elsewhere)
    ∙ sym (with_value-other (nodes_in row) key list k other)) (cases_eq (place_of k (length row)) place))
    (cases_eq k key)
  where
    place : ℕ
    place = place_of key (length row)

    sized : (q : ℕ) → nodes_in (slice_set row place bucket) q
        ≡ lists_of (bucket_at (slice_set row place bucket) (place_of q (length row))).nodes q
    sized q = ap (λ size. lists_of (bucket_at (slice_set row place bucket) (place_of q size)).nodes q)
        (length-set row place bucket)

    at_place : (q : ℕ) → place_of q (length row) ≡ place
        → nodes_in (slice_set row place bucket) q ≡ lists_of bucket.nodes q
    at_place q here = sized q ∙ ap (λ p. lists_of (bucket_at (slice_set row place bucket) p).nodes q) here
        ∙ ap (λ b. lists_of b.nodes q) (bucket_at-set_same row place bucket below)

-- the row still represents its lists if the nodes of the new bucket are in place
pub Represents-set : (row : List BucketState) (place : ℕ) (bucket : BucketState) → place < length row
    → All (λ node. place_of node.key (length row) ≡ place) bucket.nodes → Represents row (waiters_in row)
    → Represents (slice_set row place bucket) (waiters_in (slice_set row place bucket))
Represents-set row place bucket below nodes represents = record {
  in_place = λ i low. subst
      (λ size. All (λ node. place_of node.key size ≡ i) (bucket_at (slice_set row place bucket) i).nodes)
      (sym (length-set row place bucket))
      (⊎_elim (λ (same : i ≡ place). subst
      (λ p. All (λ node. place_of node.key (length row) ≡ p) (bucket_at (slice_set row place bucket) p).nodes)
      (sym same) (subst (λ b. All (λ node. place_of node.key (length row) ≡ place) b.nodes)
      (sym (bucket_at-set_same row place bucket below)) nodes))
      (λ (other : i ≢ place). subst (λ b. All (λ node. place_of node.key (length row) ≡ i) b.nodes)
      (sym (bucket_at-set_other row place bucket i other))
      (represents.in_place i (omega (arith, length-set row place bucket)))) (cases_eq i place));
  in_order = λ key. refl;
}

-- what holds of the nodes of a key where each is in place: their keys have its place
pub All-nodes_in : (row : List BucketState) (key : ℕ) → IsTableSize (length row) → Represents row (waiters_in row)
    → All (λ node. place_of node.key (length row) ≡ place_of key (length row)) (nodes_in row key)
All-nodes_in row key table represents =
    All-filter (λ node. node.key == key) (λ node. place_of node.key (length row) ≡ place_of key (length row))
    (bucket_at row (place_of key (length row))).nodes
    (represents.in_place (place_of key (length row)) (place_of-below key (length row) table))

-- a bucket was taken out, its nodes of one key changed, and it was put back
pub IsRowStep-put : (row : List BucketState) (key : ℕ) (before empty after : BucketState) (list : List NodeFields)
    → IsTableSize (length row) → Represents row (waiters_in row) → before ≡ bucket_at row (place_of key (length row))
    → before.place ≡ place_of key (length row) → after.place ≡ before.place
    → ((k : ℕ) → lists_of after.nodes k ≡ with_value (lists_of before.nodes) key list k)
    → All (λ node. place_of node.key (length row) ≡ place_of key (length row)) list
    → IsRowStep row (slice_set (slice_set row before.place empty) after.place after)
    (with_value (nodes_in row) key list)
IsRowStep-put row key before empty after list table represents taken at back lists in_place =
    subst (λ new. IsRowStep row new (with_value (nodes_in row) key list)) (sym same)
    (record {
      count = length-set row place after;
      nodes = nodes_in-set row after key list below changed;
      represents = Represents-set row place after below
          (All-after_taking (λ node. place_of node.key (length row) ≡ place) key
          (bucket_at row place).nodes after.nodes list (represents.in_place place below) in_place changed) represents;
    })
  where
    place : ℕ
    place = place_of key (length row)

    below : place < length row
    below = place_of-below key (length row) table

    changed : (k : ℕ) → lists_of after.nodes k ≡ with_value (lists_of (bucket_at row place).nodes) key list k
    changed = subst (λ b. (k : ℕ) → lists_of after.nodes k ≡ with_value (lists_of b.nodes) key list k) taken lists

    same : slice_set (slice_set row before.place empty) after.place after ≡ slice_set row place after
    same = ap (λ p. slice_set (slice_set row before.place empty) p after) back ∙ set-set row before.place empty after
        ∙ ap (λ p. slice_set row p after) at

-- a bucket was taken out and put back as it was
pub put_back : (row : List BucketState) (key : ℕ) (before empty after : BucketState)
    → before ≡ bucket_at row (place_of key (length row)) → before.place ≡ place_of key (length row) → after ≡ before
    → slice_set (slice_set row before.place empty) after.place after ≡ row
put_back row key before empty after taken at back =
    ap (λ b. slice_set (slice_set row before.place empty) b.place b) back
    ∙ set-set row before.place empty before
    ∙ ap (λ p. slice_set row p before) at
    ∙ ap (slice_set row (place_of key (length row))) taken
    ∙ set-get_or row (place_of key (length row)) (record { place = place_of key (length row); size = 0; nodes = [] })

-- a node that was put last in the bucket of its key
pub put_with_node : (row : List BucketState) (key : ℕ) (before empty after : BucketState) (node : NodeFields)
    → before ≡ bucket_at row (place_of key (length row)) → before.place ≡ place_of key (length row) → node.key ≡ key
    → after ≡ record before { nodes = before.nodes ++ node ∷ [] }
    → slice_set (slice_set row before.place empty) after.place after ≡ with_node row node
put_with_node row key before empty after node taken at own entered =
    ap (λ b. slice_set (slice_set row before.place empty) b.place b) entered
    ∙ set-set row before.place empty (record before { nodes = before.nodes ++ node ∷ [] })
    ∙ ap (λ p. slice_set row p (record before { nodes = before.nodes ++ node ∷ [] })) at
    ∙ ap (λ b. slice_set row (place_of key (length row)) (record b { nodes = b.nodes ++ node ∷ [] })) taken
    ∙ ap (λ k. slice_set row (place_of k (length row))
    (record (bucket_at row (place_of k (length row))) {
      nodes = (bucket_at row (place_of k (length row))).nodes ++ node ∷ [];
    })) (sym own)

pub IsRowStep-with_node : (row : List BucketState) (node : NodeFields) → IsTableSize (length row)
    → Represents row (waiters_in row)
    → IsRowStep row (with_node row node) (with_value (nodes_in row) node.key (nodes_in row node.key ++ node ∷ []))
IsRowStep-with_node row node table represents = record {
  count = length-set row place after;
  nodes = nodes_in-set row after node.key (nodes_in row node.key ++ node ∷ []) below
      (lists_of-push (bucket_at row place).nodes node);
  represents = Represents-set row place after below
      (All-push (λ other. place_of other.key (length row) ≡ place) (bucket_at row place).nodes node
      (represents.in_place place below) refl) represents;
}
  where
    place : ℕ
    place = place_of node.key (length row)

    below : place < length row
    below = place_of-below node.key (length row) table

    after : BucketState
    after = record (bucket_at row place) { nodes = (bucket_at row place).nodes ++ node ∷ [] }
