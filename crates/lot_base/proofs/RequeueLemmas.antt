-- Lists of nodes through a requeue.
use Rattle.std.proofs.Common.{false, sym, subst, ◌≡◌, ℕ, ◌+◌, ◌-◌, ◌^◌, ◌==◌, ◌≢◌, All, ◌∙◌}
use Rattle.std.proofs.Common.{min, not, filter, List, [], ◌∷◌, ◌++◌, map, take, append_assoc, refl, ap, arith}
use Rattle.std.proofs.lemmas.Bool.{eq-eqb}
use Rattle.std.proofs.lemmas.List.{append-nil}
use Rattle.std.proofs.lemmas.List.Elements.{All-nil, All-append, All-drop, All-take, All-map, filter-append}
use Rattle.lot_base.specs.declared.queue.Node.{Node}
use Rattle.lot_base.specs.Node.{fields}
use Rattle.lot_base.specs.declared.token.UnparkResult.{UnparkResult}
use Rattle.lot_base.specs.declared.token.UnparkToken.{UnparkToken}
use Rattle.lot_base.specs.declared.token.RequeueOp.{RequeueOp}
use Rattle.lot_base.specs.declared.token.RequeueOp.TheVariants.{Abort, UnparkOneRequeueRest, RequeueAll, UnparkOne}
use Rattle.lot_base.specs.declared.token.RequeueOp.TheVariants.{RequeueOne}
use Rattle.lot_base.specs.Place.{place_of}
use Rattle.lot_base.specs.BucketState.{BucketState, IsInPlace}
use Rattle.lot_base.specs.NodeFields.{NodeFields}
use Rattle.lot_base.proofs.ValueLemmas.{with_value-same_value}
use Rattle.std.specs.Fn.{Once, Mut, Called}
use Rattle.lot_base.specs.Waiting.{Split, with_value, split_none, split_by}
use Rattle.lot_base.specs.NodeLists.{lists_of, ChangesOnly, with_new_key}
use Rattle.lot_base.specs.Waiting.{lists_after_requeue}
use Rattle.lot_base.specs.NodeLists.{split_to}
use Rattle.lot_base.specs.Requeue.{Move, moves_of, IsCallableAtEach, IsCalledAtEach, AreCalled}

-- the nodes of all other keys
abbrev pub others_of : ℕ → List NodeFields → List NodeFields
others_of key nodes = filter (λ node. not (node.key == key)) nodes

pub lists_of-others_none : (key : ℕ) (nodes : List NodeFields) → lists_of (others_of key nodes) key ≡ []
lists_of-others_none key [] = refl
lists_of-others_none key (node ∷ nodes) = grind (arith, lists_of-others_none key nodes)

pub lists_of-others_all : (key : ℕ) (nodes : List NodeFields) (k : ℕ) → (k ≡ key → ⊥)
    → lists_of (others_of key nodes) k ≡ lists_of nodes k
lists_of-others_all key [] k h = refl
lists_of-others_all key (node ∷ nodes) k h = grind (arith, lists_of-others_all key nodes k h)

pub lists_of-others : (key : ℕ) (nodes : List NodeFields) (k : ℕ)
    → lists_of (others_of key nodes) k ≡ with_value (lists_of nodes) key [] k
lists_of-others key nodes k = grind (arith, lists_of-others_none key nodes, lists_of-others_all key nodes k)

-- the waiters of the key of the first node
pub lists_of-first : (key : ℕ) (first : NodeFields) (rest nodes : List NodeFields) → nodes ≡ first ∷ rest
    → first.key ≡ key → lists_of nodes key ≡ first ∷ lists_of rest key
lists_of-first key first rest nodes popped of_key = rw (popped, eq-eqb first.key key of_key) refl

-- the first waiter of a key waits on it
pub lists_of-take_one : (key : ℕ) (nodes : List NodeFields)
    → lists_of (take 1 (lists_of nodes key)) key ≡ take 1 (lists_of nodes key)
lists_of-take_one key [] = refl
lists_of-take_one key (node ∷ nodes) = grind (arith, lists_of-take_one key nodes)

pub count_one_more : (count n : ℕ) → min (min (count + 1) (2 ^ 64 - 1) + n) (2 ^ 64 - 1)
    ≡ min (count + (n + 1)) (2 ^ 64 - 1)
count_one_more count n = omega arith

-- one turn of a loop that moves nodes behind others
pub moved_one_more : (key : ℕ) (first : NodeFields) (rest nodes target next all : List NodeFields)
    → nodes ≡ first ∷ rest → next ≡ target ++ with_new_key key first ∷ [] → target ++ map (with_new_key key) nodes ≡ all
    → next ++ map (with_new_key key) rest ≡ all
moved_one_more key first rest nodes target next all popped pushed before =
    rw (pushed, append_assoc) (rw popped at before)

-- what is told of the first node
abbrev pub move_of : NodeFields → Move
move_of node = (node.number, (node.timed, tt))

pub callable_first : {M : Type 0} (m : Mut M Move (Unit {0})) (on_move : M) (first : NodeFields)
    (rest nodes : List NodeFields) (move : Move) → nodes ≡ first ∷ rest → move ≡ move_of first
    → IsCallableAtEach m on_move (moves_of nodes) → m.pre on_move move
callable_first m on_move first rest nodes move popped of_first callable =
    rw of_first (callable.at [] (move_of first) (moves_of rest) on_move (ap moves_of popped) refl)

module _ {M : Type 0} (m : Mut M Move (Unit {0})) (on_move next : M) (first : NodeFields)
    (rest nodes : List NodeFields) (move : Move) (popped : nodes ≡ first ∷ rest)
    (call : Called m on_move move tt next) (of_first : move ≡ move_of first) where
  pub callable_one_more : IsCallableAtEach m on_move (moves_of nodes) → IsCallableAtEach m next (moves_of rest)
  callable_one_more callable =
      record {
        at = λ before also after now parts calls. callable.at (move_of first ∷ before) also after now
            (rw (popped, parts)) (next, rw of_first at call, calls);
      }

  pub called_one_more : (last : M) → IsCalledAtEach m next (moves_of rest) last
      → IsCalledAtEach m on_move (moves_of nodes) last
  called_one_more last after = rw popped (next, rw of_first at call, after)

-- reading the number of a node, and whether its thread waits with a timeout
pub move_read : (node seen also : Node) → seen ≡ node → also ≡ node
    → (seen.number, (also.timed, tt)) ≡ move_of (fields node)
move_read node seen also same too = rw (same, too) refl

-- nodes with a new key stand in its list alone
lists_of-with_new_key : (key : ℕ) (nodes : List NodeFields)
    → lists_of (map (with_new_key key) nodes) key ≡ map (with_new_key key) nodes
lists_of-with_new_key key [] = refl
lists_of-with_new_key key (node ∷ nodes) = rw (eq-eqb key key refl)
    (ap (λ (ns : List NodeFields). with_new_key key node ∷ ns) (lists_of-with_new_key key nodes))

lists_of-with_other_key : (key : ℕ) (nodes : List NodeFields) (k : ℕ) → k ≢ key
    → lists_of (map (with_new_key key) nodes) k ≡ []
lists_of-with_other_key key [] k other = refl
lists_of-with_other_key key (node ∷ nodes) k other = grind (arith, lists_of-with_other_key key nodes k other)

-- the lists after nodes have moved behind the others, with another key
pub lists_of-moved : (key : ℕ) (nodes moved : List NodeFields) (k : ℕ)
    → lists_of (nodes ++ map (with_new_key key) moved) k
    ≡ with_value (lists_of nodes) key (lists_of nodes key ++ map (with_new_key key) moved) k
lists_of-moved key nodes moved k =
    let split = filter-append (λ node. node.key == k) nodes (map (with_new_key key) moved) in
    grind (arith, split, append-nil, lists_of-with_new_key key moved, lists_of-with_other_key key moved k)

-- the same, where they were in the queue before
pub lists_of-requeued : (from to : ℕ) (old kept : List NodeFields) (split : Split NodeFields)
    → ChangesOnly old kept from split.left → (k : ℕ) → lists_of (kept ++ (split_to to split).moved) k
    ≡ lists_after_requeue (lists_of old) from to (split_to to split) k
lists_of-requeued from to old kept split lists k = lists_of-moved to kept split.moved k ∙ rw (lists to, lists k) refl

-- what holds of all waiters holds of those that a requeue leaves
pub All-left : {A : Type 0} (P : A → Type 0) (op : RequeueOp) (waiters : List A) → All P waiters
    → All P (split_by op waiters).left
All-left P Abort waiters all = all
All-left P UnparkOneRequeueRest waiters all = All-nil P
All-left P RequeueAll waiters all = All-nil P
All-left P UnparkOne waiters all = All-drop P 1 waiters all
All-left P RequeueOne waiters all = All-drop P 1 waiters all

-- and of those that it moves
pub All-moved : {A : Type 0} (P : A → Type 0) (op : RequeueOp) (waiters : List A) → All P waiters
    → All P (split_by op waiters).moved
All-moved P Abort waiters all = All-nil P
All-moved P UnparkOneRequeueRest waiters all = All-drop P 1 waiters all
All-moved P RequeueAll waiters all = all
All-moved P UnparkOne waiters all = All-nil P
All-moved P RequeueOne waiters all = All-take P 1 waiters all

-- a bucket's invariant where nodes with a key of its place are put last
pub IsInPlace-moved : (bucket : BucketState) (key : ℕ) (moved queue : List NodeFields)
    → queue ≡ bucket.nodes ++ map (with_new_key key) moved → place_of key bucket.size ≡ bucket.place → IsInPlace bucket
    → IsInPlace (record bucket { nodes = queue })
IsInPlace-moved bucket key moved queue nodes at_place is_in_place =
    let InPlace : NodeFields → Type 0 = λ node. place_of node.key bucket.size ≡ bucket.place in
    record {
      table = is_in_place.table;
      below = is_in_place.below;
      in_place = rw nodes
          (All-append InPlace bucket.nodes (map (with_new_key key) moved) is_in_place.in_place
          (All-map InPlace (with_new_key key) moved (λ k d h. at_place)));
    }

-- an abort changes no list
pub lists-aborted : {A : Type 0} (lists : ℕ → List A) (from to k : ℕ)
    → lists_after_requeue lists from to (split_none (lists from)) k ≡ lists k
lists-aborted lists from to k =
    with_value-same_value (with_value lists from (lists from)) to _ (append-nil _) k
    ∙ with_value-same_value lists from _ refl k

-- the answer where nothing was done
abbrev pub no_answer : UnparkResult
no_answer = record { unparked_threads = 0; requeued_threads = 0; have_more_threads = false }

-- at an abort no closure is called
pub AreCalled-aborted : {C M : Type 0} (c : Once C (RequeueOp × (UnparkResult × Unit {0})) UnparkToken)
    (m : Mut M Move (Unit {0})) (op : RequeueOp) (waiters : List NodeFields) (callback : C) (moved last : M)
    (taken : List NodeFields) → op ≡ Abort → last ≡ moved → taken ≡ []
    → AreCalled c m op waiters callback moved last no_answer taken
AreCalled-aborted c m op waiters callback moved last taken aborts same none =
    subst (λ o. AreCalled c m o waiters callback moved last no_answer taken) (sym aborts)
    (record {
      results = refl;
      moves = sym same;
      token = record { 0 = 0 };
      calls_back = λ other. absurd (other refl);
      takes = none;
    })
