-- What a step takes, moves and leaves of the waiters of a key, in which order, and what it answers. Waiters may be
-- anything here: a bucket's nodes, or the machine's waiters.
use Rattle.std.specs.Prelude.{ℕ, Bool, true, false, ◌==◌, if◌then◌else◌, List, ◌∷◌, ◌++◌, length, take, drop, []}
use Rattle.lot_base.specs.declared.token.UnparkResult.{UnparkResult}
use Rattle.lot_base.specs.declared.token.RequeueOp.{RequeueOp}
use Rattle.lot_base.specs.declared.token.RequeueOp.TheVariants.{Abort, UnparkOneRequeueRest, RequeueAll, UnparkOne}
use Rattle.lot_base.specs.declared.token.RequeueOp.TheVariants.{RequeueOne}
use Rattle.lot_base.specs.declared.token.FilterOp.{FilterOp}
use Rattle.lot_base.specs.declared.token.FilterOp.TheVariants.{Unpark, Skip, Stop}

-- a function with another value at one argument: the lists of all keys, one of them another list
abbrev pub with_value : {A : Type 0} → (ℕ → A) → ℕ → A → ℕ → A
with_value f key value k = if k == key then value else f k

-- what becomes of the waiters of a key: some are taken, some are moved to a second key, which may be the same, and the
-- others are left
pub record Split (A : Type 0) : Type 0 where
  pub taken : List A
  pub moved : List A
  pub left : List A

-- all of them are left
abbrev pub split_none : {A : Type 0} → List A → Split A
split_none waiters = record { taken = []; moved = []; left = waiters }

-- an unpark of one takes the first
abbrev pub split_first : {A : Type 0} → List A → Split A
split_first waiters = record { taken = take 1 waiters; moved = []; left = drop 1 waiters }

-- an unpark of all takes each
abbrev pub split_all : {A : Type 0} → List A → Split A
split_all waiters = record { taken = waiters; moved = []; left = [] }

-- a filter decides on each in order, up to its first `Stop`; one without a decision is left
abbrev pub split_filter : {A : Type 0} → List FilterOp → List A → Split A
split_filter [] waiters = split_none waiters
split_filter (_ ∷ _) [] = split_none []
split_filter (Unpark ∷ decisions) (waiter ∷ waiters) =
    let rest = split_filter decisions waiters in record rest { taken = waiter ∷ rest.taken }
split_filter (Skip ∷ decisions) (waiter ∷ waiters) =
    let rest = split_filter decisions waiters in record rest { left = waiter ∷ rest.left }
split_filter (Stop ∷ _) (waiter ∷ waiters) = split_none (waiter ∷ waiters)

-- a requeue does what its operation says: nothing at `Abort`; else it takes or moves the first, and moves or leaves
-- the others
abbrev pub split_by : {A : Type 0} → RequeueOp → List A → Split A
split_by Abort waiters = split_none waiters
split_by UnparkOneRequeueRest waiters = record { taken = take 1 waiters; moved = drop 1 waiters; left = [] }
split_by RequeueAll waiters = record { taken = []; moved = waiters; left = [] }
split_by UnparkOne waiters = split_first waiters
split_by RequeueOne waiters = record { taken = []; moved = take 1 waiters; left = drop 1 waiters }

-- the lists after a requeue: first the one key keeps what is left, and then those that moved stand behind the others
-- of the second, which may be the same key
abbrev pub lists_after_requeue : {A : Type 0} → (ℕ → List A) → ℕ → ℕ → Split A → ℕ → List A
lists_after_requeue {A} lists from to split =
    let kept : ℕ → List A = with_value lists from split.left in with_value kept to (kept to ++ split.moved)

-- whether there are any
abbrev pub has_any : {A : Type 0} → List A → Bool
has_any [] = false
has_any (_ ∷ _) = true

-- the result of an unpark: how many were taken, how many were moved, and whether one is left; those that moved do not
-- count as left, also where they moved to the same key
abbrev pub result_of : {A : Type 0} → Split A → UnparkResult
result_of split =
    record {
      unparked_threads = length split.taken;
      requeued_threads = length split.moved;
      have_more_threads = has_any split.left;
    }

-- the result of a requeue: the same, but that an abort tells of no waiter
abbrev pub requeue_result : {A : Type 0} → RequeueOp → Split A → UnparkResult
requeue_result Abort split = record { unparked_threads = 0; requeued_threads = 0; have_more_threads = false }
requeue_result UnparkOneRequeueRest split = result_of split
requeue_result RequeueAll split = result_of split
requeue_result UnparkOne split = result_of split
requeue_result RequeueOne split = result_of split

-- the list without the first that passes the test
abbrev pub without_first : {A : Type 0} → (A → Bool) → List A → List A
without_first test [] = []
without_first test (waiter ∷ waiters) = if test waiter then waiters else waiter ∷ without_first test waiters
