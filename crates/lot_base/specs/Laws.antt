-- What the definitions of `Waiting`, `NodeLists` and `Spread` give for every list of waiters.
use Rattle.std.specs.Prelude.{◌≡◌, ℕ, false, ◌≤◌, List, ◌∷◌, ◌++◌, length, map, replicate, ◌⊎◌, []}
use Rattle.lot_base.specs.declared.token.FilterOp.{FilterOp}
use Rattle.lot_base.specs.declared.token.FilterOp.TheVariants.{Unpark, Stop}
use Rattle.lot_base.specs.declared.token.RequeueOp.{RequeueOp}
use Rattle.lot_base.specs.declared.token.RequeueOp.TheVariants.{Abort, RequeueAll}
use Rattle.lot_base.specs.declared.token.UnparkToken.{UnparkToken}
use Rattle.lot_base.specs.NodeFields.{NodeFields}
use Rattle.lot_base.specs.Waiting.{Split, split_none, split_first, split_all, split_by, split_filter}
use Rattle.lot_base.specs.Waiting.{lists_after_requeue}
use Rattle.lot_base.specs.NodeLists.{lists_of}
use Rattle.lot_base.specs.Waiting.{result_of}
use Rattle.lot_base.specs.NodeLists.{with_new_key, with_token}
use Rattle.lot_base.specs.Spread.{with_entered, with_all_entered}

-- a list is made of two others, each of which keeps its order
abbrev pub IsMerge : {A : Type 0} → List A → List A → List A → Type 0
IsMerge xs ys [] = (xs ≡ []) × (ys ≡ [])
IsMerge {A} xs ys (z ∷ zs) =
    ((rest : List A) × (xs ≡ z ∷ rest) × IsMerge rest ys zs) ⊎ ((rest : List A) × (ys ≡ z ∷ rest) × IsMerge xs rest zs)

module _ (A : Type 0) where
  -- a filter that says `Unpark` to each waiter takes them all
  abbrev pub UnparkEachTakesAll : Type 0
  UnparkEachTakesAll = (waiters : List A) (n : ℕ) → length waiters ≤ n
      → split_filter (replicate n Unpark) waiters ≡ split_all waiters

  -- one that says `Unpark` and then `Stop` takes the first, if there is one
  abbrev pub UnparkThenStopTakesFirst : Type 0
  UnparkThenStopTakesFirst = (waiters : List A) (decisions : List FilterOp)
      → split_filter (Unpark ∷ Stop ∷ decisions) waiters ≡ split_first waiters

  -- one that says `Stop` at once takes nobody
  abbrev pub StopTakesNobody : Type 0
  StopTakesNobody = (waiters : List A) (decisions : List FilterOp)
      → split_filter (Stop ∷ decisions) waiters ≡ split_none waiters

  -- each of the waiters is taken by the filter or left, both in order, and none is moved
  abbrev pub FilterSplitsInOrder : Type 0
  FilterSplitsInOrder = (decisions : List FilterOp) (waiters : List A) →
      let split : Split A = split_filter decisions waiters in
      IsMerge split.taken split.left waiters × (split.moved ≡ [])

  -- those that an unpark of the first, or of all, takes and leaves are the old waiters in order
  abbrev pub UnparkSplitsInOrder : Type 0
  UnparkSplitsInOrder = (waiters : List A) →
      ((split_first waiters).taken ++ (split_first waiters).left ≡ waiters)
      × ((split_all waiters).taken ++ (split_all waiters).left ≡ waiters)

  -- so are those that a requeue takes, moves and leaves
  abbrev pub RequeueSplitsInOrder : Type 0
  RequeueSplitsInOrder = (op : RequeueOp) (waiters : List A) →
      let split : Split A = split_by op waiters in split.taken ++ split.moved ++ split.left ≡ waiters

  -- an abort changes no list
  abbrev pub AbortKeepsLists : Type 0
  AbortKeepsLists = (lists : ℕ → List A) (from to k : ℕ)
      → lists_after_requeue lists from to (split_by Abort (lists from)) k ≡ lists k

  -- a requeue of all to the same key changes no list
  abbrev pub RequeueToItselfKeepsLists : Type 0
  RequeueToItselfKeepsLists = (lists : ℕ → List A) (key k : ℕ)
      → lists_after_requeue lists key key (split_by RequeueAll (lists key)) k ≡ lists k

  -- a requeue of all counts each, and has none left
  abbrev pub RequeueAllCountsEach : Type 0
  RequeueAllCountsEach = (waiters : List A) →
      result_of (split_by RequeueAll waiters)
      ≡ record { unparked_threads = 0; requeued_threads = length waiters; have_more_threads = false }

-- nodes that are given the key that they have stay as they are
abbrev pub OwnKeyChangesNothing : Type 0
OwnKeyChangesNothing = (nodes : List NodeFields) (key : ℕ)
    → map (with_new_key key) (lists_of nodes key) ≡ lists_of nodes key

-- a new key and a new unpark token leave the park token
abbrev pub ParkTokenStays : Type 0
ParkTokenStays = (node : NodeFields) (key : ℕ) (token : UnparkToken) →
    ((with_new_key key node).park_token ≡ node.park_token) × ((with_token token node).park_token ≡ node.park_token)

-- a node that is put behind others stands last in the list of its key, and no other list changes
abbrev pub EnteredStandsLast : Type 0
EnteredStandsLast = (nodes : List NodeFields) (node : NodeFields) (k : ℕ)
    → lists_of (nodes ++ node ∷ []) k ≡ with_entered (lists_of nodes) node k

-- nodes that are entered one by one, the first first, keep the order of each key
abbrev pub EnteringKeepsOrder : Type 0
EnteringKeepsOrder = (lists : ℕ → List NodeFields) (nodes : List NodeFields) (node : NodeFields) (k : ℕ) →
    (with_all_entered lists [] k ≡ lists k)
    × (with_all_entered lists (node ∷ nodes) k ≡ with_all_entered (with_entered lists node) nodes k)
