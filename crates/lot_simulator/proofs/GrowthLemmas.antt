-- Growth: nodes that are spread over the buckets of another table keep the list of each key.
use Rattle.std.proofs.Common.{◌≡◌, ◌≢◌, ℕ, ◌+◌, ◌<◌, ◌≤◌, ◌==◌, List, [], ◌∷◌, ◌++◌, length, get_or, map}
use Rattle.std.proofs.Common.{slice_set, All, refl, sym, ap, ◌∙◌, subst, ⊎_elim, arith, append_assoc, append-nil}
use Rattle.std.proofs.lemmas.Bool.{cases_eq, ne_eqb, cond-false}
use Rattle.std.proofs.lemmas.List.{get_or_read, length-set}
use Rattle.std.proofs.lemmas.List.Elements.{All-push, All-cons, All-head, All-tail, filter-append}
use Rattle.lot_base.proofs.PlaceLemmas.{place_of-below}
use Rattle.lot_base.specs.BucketState.{BucketState}
use Rattle.lot_base.specs.NodeFields.{NodeFields}
use Rattle.lot_base.specs.Place.{IsTableSize, place_of}
use Rattle.lot_base.specs.NodeLists.{lists_of}
use Rattle.lot_simulator.specs.Represents.{bucket_at, waiters_in, waiter_of, with_node, Represents}
use Rattle.lot_simulator.specs.Table.{IsRowOf, AreEmpty, KeepsLists}
use Rattle.lot_simulator.specs.Represents.{nodes_in}
use Rattle.lot_simulator.proofs.RowLemmas.{bucket_at-set_same, bucket_at-set_other, Represents-set}
use Rattle.lot_simulator.proofs.TableLemmas.{IsRowOf-set, nodes-empty, read_in_place}

-- one node waits on its own key alone
lists_of-other : (node : NodeFields) (k : ℕ) → k ≢ node.key → lists_of (node ∷ []) k ≡ []
lists_of-other node k other = cond-false (node.key == k) (node ∷ []) [] (ne_eqb node.key k (λ same. other (sym same)))

-- a node that enters the row stands last among those of its key
nodes_in-with_node : (row : List BucketState) (node : NodeFields) → IsTableSize (length row) → (k : ℕ)
    → nodes_in (with_node row node) k ≡ nodes_in row k ++ lists_of (node ∷ []) k
nodes_in-with_node row node table k =
    ap (λ size. lists_of (bucket_at (with_node row node) (place_of k size)).nodes k) (length-set row at entered)
    ∙ chosen
  where
    at : ℕ
    at = place_of node.key (length row)

    here : BucketState
    here = bucket_at row at

    entered : BucketState
    entered = record here { nodes = here.nodes ++ node ∷ [] }

    chosen : lists_of (bucket_at (slice_set row at entered) (place_of k (length row))).nodes k
        ≡ nodes_in row k ++ lists_of (node ∷ []) k
    chosen = ⊎_elim (λ (same : place_of k (length row) ≡ at).
        ap (λ p. lists_of (bucket_at (slice_set row at entered) p).nodes k) same
        ∙ ap (λ b. lists_of b.nodes k) (bucket_at-set_same row at entered (place_of-below node.key (length row) table))
        ∙ filter-append (λ n. n.key == k) here.nodes (node ∷ [])
        ∙ ap (λ p. lists_of (bucket_at row p).nodes k ++ lists_of (node ∷ []) k) (sym same))
        (λ (other : place_of k (length row) ≢ at). ap (λ b. lists_of b.nodes k)
        (bucket_at-set_other row at entered (place_of k (length row)) other) ∙ sym (append-nil (nodes_in row k))
        ∙ ap (λ nodes. nodes_in row k ++ nodes)
        (sym (lists_of-other node k (λ same. other (ap (λ q. place_of q (length row)) same)))))
        (cases_eq (place_of k (length row)) at)

-- the nodes of a bucket are on their way from it into a row
pub record IsSpreading (from : List BucketState) (source : BucketState) (row : List BucketState)
    (bucket : BucketState) : Type 0 where
  pub is_row : IsRowOf (length from) row
  pub represents : Represents row (waiters_in row)
  pub nodes : (k : ℕ) → nodes_in row k ++ lists_of bucket.nodes k ≡ nodes_in from k ++ lists_of source.nodes k
  pub place : bucket.place ≡ source.place
  pub size : bucket.size ≡ source.size
  pub in_place : All (λ node. place_of node.key source.size ≡ source.place) bucket.nodes
      → All (λ node. place_of node.key source.size ≡ source.place) source.nodes

pub IsSpreading-start : (row : List BucketState) (bucket : BucketState) → IsRowOf (length row) row
    → Represents row (waiters_in row) → IsSpreading row bucket row bucket
IsSpreading-start row bucket is_row represents =
    record {
      is_row = is_row;
      represents = represents;
      nodes = λ k. refl;
      place = refl;
      size = refl;
      in_place = λ all. all;
    }

pub IsSpreading-step : (row : List BucketState) (bucket : BucketState) (row_now : List BucketState)
    (bucket_now left : BucketState) (node : NodeFields) → IsTableSize (length row)
    → bucket_now.nodes ≡ node ∷ left.nodes → left.place ≡ bucket_now.place → left.size ≡ bucket_now.size
    → place_of node.key bucket_now.size ≡ bucket_now.place → IsSpreading row bucket row_now bucket_now
    → IsSpreading row bucket (with_node row_now node) left
IsSpreading-step row bucket row_now bucket_now left node table popped place size own spreading = record {
  is_row = IsRowOf-set (length row) row_now at entered below_row (spreading.is_row.places at below_row)
      (spreading.is_row.sizes at below_row) spreading.is_row;
  represents = Represents-set row_now at entered below
      (All-push (λ n. place_of n.key (length row_now) ≡ at) (bucket_at row_now at).nodes node
      (spreading.represents.in_place at below) refl) spreading.represents;
  nodes = λ k. ap (λ front. front ++ lists_of left.nodes k) (nodes_in-with_node row_now node table_now k)
      ∙ append_assoc (nodes_in row_now k) (lists_of (node ∷ []) k) (lists_of left.nodes k)
      ∙ ap (λ back. nodes_in row_now k ++ back) (sym (filter-append (λ n. n.key == k) (node ∷ []) left.nodes))
      ∙ ap (λ ns. nodes_in row_now k ++ lists_of ns k) (sym popped) ∙ spreading.nodes k;
  place = place ∙ spreading.place;
  size = size ∙ spreading.size;
  in_place = λ rest. spreading.in_place
      (subst (All (λ n. place_of n.key bucket.size ≡ bucket.place)) (sym popped)
      (All-cons (λ n. place_of n.key bucket.size ≡ bucket.place) node left.nodes
      (ap (place_of node.key) (sym spreading.size) ∙ own ∙ spreading.place) rest));
}
  where
    at : ℕ
    at = place_of node.key (length row_now)

    entered : BucketState
    entered = record (bucket_at row_now at) { nodes = (bucket_at row_now at).nodes ++ node ∷ [] }

    table_now : IsTableSize (length row_now)
    table_now = subst IsTableSize (sym spreading.is_row.count) table

    below : at < length row_now
    below = place_of-below node.key (length row_now) table_now

    below_row : at < length row
    below_row = omega (arith, spreading.is_row.count, below)

-- a bucket that was read at the place of a node
pub own_place : (row : List BucketState) (place : ℕ) (bucket : BucketState) (node : NodeFields)
    → IsRowOf (length row) row → place ≡ place_of node.key (length row) → place < length row
    → bucket ≡ get_or row place bucket → place_of node.key bucket.size ≡ bucket.place
own_place row place bucket node is_row at below read =
    let own = read_in_place row place bucket below read is_row in
    ap (place_of node.key) own.1 ∙ sym at ∙ sym own.0

pub with_node-is : (row : List BucketState) (place : ℕ) (bucket new : BucketState) (node : NodeFields)
    → place ≡ place_of node.key (length row) → place < length row → bucket ≡ get_or row place bucket
    → new ≡ record bucket { nodes = bucket.nodes ++ node ∷ [] } → slice_set row place new ≡ with_node row node
with_node-is row place bucket new node at below read is =
    let here : bucket ≡ bucket_at row place = get_or_read row place bucket below read _ in
    ap (slice_set row place) (is ∙ ap with_last here)
    ∙ ap (λ p. slice_set row p (with_last (bucket_at row p))) at
  where
    with_last : BucketState → BucketState
    with_last b = record b { nodes = b.nodes ++ node ∷ [] }

-- a key of another place has no list in a bucket
lists_of-elsewhere : (size place : ℕ) (nodes : List NodeFields) (k : ℕ)
    → All (λ node. place_of node.key size ≡ place) nodes → place_of k size ≢ place → lists_of nodes k ≡ []
lists_of-elsewhere size place [] k all other = refl
lists_of-elsewhere size place (node ∷ nodes) k all other =
    cond-false (node.key == k) (node ∷ lists_of nodes k) (lists_of nodes k)
    (ne_eqb node.key k
    (λ same. other (ap (λ q. place_of q size) (sym same) ∙ All-head (λ n. place_of n.key size ≡ place) node nodes all)))
    ∙ lists_of-elsewhere size place nodes k (All-tail (λ n. place_of n.key size ≡ place) node nodes all) other

-- the buckets below a place were spread over a row
pub record IsGathered (told told_now row row_now : List BucketState) (place : ℕ) : Type 0 where
  pub later : (i : ℕ) → place ≤ i → bucket_at told_now i ≡ bucket_at told i
  pub done : (k : ℕ) → place_of k (length told) < place → nodes_in row_now k ≡ nodes_in row k ++ nodes_in told k
  pub waiting : (k : ℕ) → place ≤ place_of k (length told) → nodes_in row_now k ≡ nodes_in row k

pub IsGathered-step : (told told_now row row_now row_next : List BucketState) (place : ℕ) (left bucket : BucketState)
    → place < length told → IsRowOf (length told) told → bucket ≡ bucket_at told_now place
    → All (λ node. place_of node.key bucket.size ≡ bucket.place) bucket.nodes
    → ((k : ℕ) → nodes_in row_next k ≡ nodes_in row_now k ++ lists_of bucket.nodes k)
    → IsGathered told told_now row row_now place
    → IsGathered told (slice_set told_now place left) row row_next (place + 1)
IsGathered-step told told_now row row_now row_next place left bucket below is_row read all moved gathered = record {
  later = λ i from. bucket_at-set_other told_now place left i (λ same. omega (arith, same))
      ∙ gathered.later i (omega arith);
  done = λ k low. ⊎_elim (λ (same : place_of k (length told) ≡ place). moved k
      ∙ ap (λ front. front ++ lists_of bucket.nodes k) (gathered.waiting k (omega arith))
      ∙ ap (λ b. nodes_in row k ++ lists_of b.nodes k) (here ∙ ap (bucket_at told) (sym same)))
      (λ (other : place_of k (length told) ≢ place). unmoved k other ∙ gathered.done k (omega arith))
      (cases_eq (place_of k (length told)) place);
  waiting = λ k from. unmoved k (λ same. omega (arith, same)) ∙ gathered.waiting k (omega arith);
}
  where
    here : bucket ≡ bucket_at told place
    here = read ∙ gathered.later place (omega arith)

    in_place : All (λ node. place_of node.key (length told) ≡ place) bucket.nodes
    in_place = subst (λ size. All (λ node. place_of node.key size ≡ place) bucket.nodes)
        (ap (λ b. b.size) here ∙ is_row.sizes place below)
        (subst (λ p. All (λ node. place_of node.key bucket.size ≡ p) bucket.nodes)
        (ap (λ b. b.place) here ∙ is_row.places place below) all)

    unmoved : (k : ℕ) → place_of k (length told) ≢ place → nodes_in row_next k ≡ nodes_in row_now k
    unmoved k other = moved k ∙ ap (λ nodes. nodes_in row_now k ++ nodes)
        (lists_of-elsewhere (length told) place bucket.nodes k in_place other) ∙ append-nil (nodes_in row_now k)

-- rows whose buckets are empty
pub nodes_in-empty : (size : ℕ) (row : List BucketState) → AreEmpty size row → (k : ℕ) → nodes_in row k ≡ []
nodes_in-empty size row empty k =
    ap (λ nodes. lists_of nodes k) (nodes-empty size row empty (place_of k (length row)))

-- a row that has the nodes of another one
pub KeepsLists-from_nodes : (old new : List BucketState) → Represents new (waiters_in new)
    → ((k : ℕ) → nodes_in new k ≡ nodes_in old k) → KeepsLists old new
KeepsLists-from_nodes old new represents same = record {
  nodes = same;
  represents = λ lists was. record {
    in_place = represents.in_place;
    in_order = λ key. was.in_order key ∙ ap (map waiter_of) (sym (same key));
  };
}
