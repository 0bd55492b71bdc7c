-- Lists of nodes by their keys.
use Rattle.std.proofs.Common.{◌≡◌, ℕ, ◌==◌, Bool, true, false, List, [], ◌∷◌, ◌++◌, if◌then◌else◌, All, refl}
use Rattle.std.proofs.lemmas.Bool.{eq-eqb}
use Rattle.std.proofs.lemmas.List.Elements.{All-nil, All-cons, All-head, All-tail, All-filter}
use Rattle.lot_base.specs.NodeFields.{NodeFields}
use Rattle.lot_base.specs.Waiting.{with_value}
use Rattle.lot_base.specs.NodeLists.{lists_of, ChangesOnly}
use Rattle.lot_base.specs.Place.{place_of}
use Rattle.lot_base.specs.BucketState.{BucketState, IsInPlace}

pub All-append_right : {A : Type 0} (P : A → Type 0) (xs ys : List A) → All P (xs ++ ys) → All P ys
All-append_right P [] ys all = all
All-append_right P (x ∷ xs) ys all = All-append_right P xs ys (All-tail P x (xs ++ ys) all)

All-chosen : {A : Type 0} (P : A → Type 0) (b : Bool) (xs ys : List A) → All P xs → All P ys
    → All P (if b then xs else ys)
All-chosen P true xs ys at_xs at_ys = at_xs
All-chosen P false xs ys at_xs at_ys = at_ys

-- what holds of the waiters of each key holds of all nodes
pub All-from_lists : (P : NodeFields → Type 0) (nodes : List NodeFields) → ((k : ℕ) → All P (lists_of nodes k))
    → All P nodes
All-from_lists P [] all = All-nil P
All-from_lists P (node ∷ nodes) all =
    All-cons P node nodes
    (All-head P node (lists_of nodes node.key) (rw (eq-eqb node.key node.key refl) at (all node.key)))
    (All-from_lists P nodes (λ k. behind (node.key == k) (lists_of nodes k) (all k)))
  where
    behind : (same : Bool) (rest : List NodeFields) → All P (if same then node ∷ rest else rest) → All P rest
    behind true rest h = All-tail P node rest h
    behind false rest h = h

-- a step that takes waiters of one key keeps what holds of all nodes
pub All-after_taking : (P : NodeFields → Type 0) (key : ℕ) (old new : List NodeFields) (left : List NodeFields)
    → All P old
    → All P left → ((k : ℕ) → lists_of new k ≡ with_value (lists_of old) key left k) → All P new
All-after_taking P key old new left all at_left lists =
    All-from_lists P new
    (λ k. rw (lists k)
    (All-chosen P (k == key) left (lists_of old k) at_left (All-filter (λ node. node.key == k) P old all)))

-- a bucket's invariant, where a step leaves of the waiters of one key such as were there
pub IsInPlace-left : (bucket : BucketState) (key : ℕ) (queue left : List NodeFields)
    → ((P : NodeFields → Type 0) → All P (lists_of bucket.nodes key) → All P left)
    → ChangesOnly bucket.nodes queue key left → IsInPlace bucket → IsInPlace (record bucket { nodes = queue })
IsInPlace-left bucket key queue left of_old lists is_in_place =
    let InPlace : NodeFields → Type 0 = λ node. place_of node.key bucket.size ≡ bucket.place in
    let at_left = of_old InPlace (All-filter (λ node. node.key == key) InPlace bucket.nodes is_in_place.in_place) in
    record {
      table = is_in_place.table;
      below = is_in_place.below;
      in_place = All-after_taking InPlace key bucket.nodes queue left is_in_place.in_place at_left lists;
    }
