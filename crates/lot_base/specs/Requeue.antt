-- What a requeue asks of its closures, and how it called them.
use Rattle.std.specs.Prelude.{◌≡◌, ◌≢◌, ℕ, Bool, List, ◌∷◌, ◌++◌, map}
use Rattle.std.specs.Fn.{Once, Mut, Called}
use Rattle.std.specs.List.{FoldsTo}
use Rattle.lot_base.specs.declared.token.UnparkResult.{UnparkResult}
use Rattle.lot_base.specs.declared.token.UnparkToken.{UnparkToken}
use Rattle.lot_base.specs.declared.token.RequeueOp.{RequeueOp}
use Rattle.lot_base.specs.declared.token.RequeueOp.TheVariants.{Abort}
use Rattle.lot_base.specs.NodeFields.{NodeFields}
use Rattle.lot_base.specs.Waiting.{split_by, requeue_result}
use Rattle.lot_base.specs.NodeLists.{with_saturated_counts, with_token}

-- the numbers of nodes
abbrev pub numbers : List NodeFields → List ℕ
numbers nodes = map (λ node. node.number) nodes

-- what `moved` is told of a node: the number of its thread, and whether that waits with a timeout
abbrev pub Move : Type 0
Move = ℕ × (Bool × Unit {0})

abbrev pub moves_of : List NodeFields → List Move
moves_of nodes = map (λ node. (node.number, (node.timed, tt))) nodes

module _ {M : Type 0} (m : Mut M Move (Unit {0})) where
  -- calls of `moved` (here `on_move`) at each of these moves in turn left it so
  abbrev pub IsCalledAtEach : M → List Move → M → Type 0
  IsCalledAtEach on_move moves last = FoldsTo (λ now move next. Called m now move tt next) on_move moves last

  -- it may be called at each of them in turn, wherever its calls at those before lead
  pub record IsCallableAtEach (on_move : M) (moves : List Move) : Type 0 where
    pub at : (before : List Move) (move : Move) (after : List Move) (now : M) → moves ≡ before ++ move ∷ after
        → IsCalledAtEach on_move before now → m.pre now move

module _ {C M : Type 0} (c : Once C (RequeueOp × (UnparkResult × Unit {0})) UnparkToken)
    (m : Mut M Move (Unit {0})) (op : RequeueOp) (waiters : List NodeFields) where
  -- `on_move` may be called for each waiter that moves, and once it was, `callback` with the result;
  -- none of them at an abort
  pub record AreCallable (callback : C) (on_move : M) : Type 0 where
    pub may_move : op ≢ Abort → IsCallableAtEach m on_move (moves_of (split_by op waiters).moved)
    pub may_call_back : op ≢ Abort → (last : M) → IsCalledAtEach m on_move (moves_of (split_by op waiters).moved) last
        → c.pre callback (op, (with_saturated_counts (requeue_result op (split_by op waiters)), tt))

  -- they were called so, with this result, and those that were taken got the token that `callback` gave
  pub record AreCalled (callback : C) (on_move last : M) (result : UnparkResult)
      (taken : List NodeFields) : Type 0 where
    pub results : result ≡ with_saturated_counts (requeue_result op (split_by op waiters))
    pub moves : IsCalledAtEach m on_move (moves_of (split_by op waiters).moved) last
    pub token : UnparkToken
    pub calls_back : op ≢ Abort → c.post callback (op, (result, tt)) token
    pub takes : taken ≡ map (with_token token) (split_by op waiters).taken
