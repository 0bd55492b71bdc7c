-- Splits of lists of nodes, as the machine sees them.
use Rattle.std.proofs.Common.{◌≡◌, ℕ, List, [], ◌∷◌, map, refl}
use Rattle.std.proofs.Common.{sym, ap}
use Rattle.std.proofs.lemmas.List.{length-map, take-map, drop-map}
use Rattle.lot_base.specs.NodeFields.{NodeFields}
use Rattle.lot_base.specs.declared.token.FilterOp.{FilterOp}
use Rattle.lot_base.specs.declared.token.FilterOp.TheVariants.{Unpark, Skip, Stop}
use Rattle.lot_base.specs.declared.token.RequeueOp.{RequeueOp}
use Rattle.lot_base.specs.declared.token.RequeueOp.TheVariants.{Abort, UnparkOneRequeueRest, RequeueAll, UnparkOne}
use Rattle.lot_base.specs.declared.token.RequeueOp.TheVariants.{RequeueOne}
use Rattle.lot_base.specs.Filter.{park_tokens}
use Rattle.lot_base.specs.Waiting.{Split, split_first, split_filter, split_by}
use Rattle.lot_base.specs.NodeLists.{with_new_key}
use Rattle.lot_base.specs.Waiting.{result_of, requeue_result}
use Rattle.lot_machine.specs.Machine.{Waiter}
use Rattle.lot_simulator.specs.Lot.{waiter_park_tokens}
use Rattle.lot_simulator.specs.Represents.{waiter_of}
use Rattle.lot_machine.proofs.SplitLemmas.{has_any-map}

-- a split of nodes, as the machine sees it
abbrev pub waiter_split : Split NodeFields → Split Waiter
waiter_split split =
    record { taken = map waiter_of split.taken; moved = map waiter_of split.moved; left = map waiter_of split.left }

-- nodes are split as their waiters are
pub split_first-map : (nodes : List NodeFields) → waiter_split (split_first nodes) ≡ split_first (map waiter_of nodes)
split_first-map nodes =
    λ i. record { taken = sym (take-map waiter_of 1 nodes) i; moved = []; left = sym (drop-map waiter_of 1 nodes) i }

pub split_filter-map : (decisions : List FilterOp) (nodes : List NodeFields)
    → waiter_split (split_filter decisions nodes) ≡ split_filter decisions (map waiter_of nodes)
split_filter-map [] nodes = refl
split_filter-map (_ ∷ _) [] = refl
split_filter-map (Unpark ∷ decisions) (node ∷ nodes) =
    ap (λ (split : Split Waiter). record split { taken = waiter_of node ∷ split.taken })
    (split_filter-map decisions nodes)
split_filter-map (Skip ∷ decisions) (node ∷ nodes) =
    ap (λ (split : Split Waiter). record split { left = waiter_of node ∷ split.left })
    (split_filter-map decisions nodes)
split_filter-map (Stop ∷ _) (node ∷ nodes) = refl

pub split_by-map : (op : RequeueOp) (nodes : List NodeFields)
    → waiter_split (split_by op nodes) ≡ split_by op (map waiter_of nodes)
split_by-map Abort nodes = refl
split_by-map UnparkOneRequeueRest nodes =
    λ i. record { taken = sym (take-map waiter_of 1 nodes) i; moved = sym (drop-map waiter_of 1 nodes) i; left = [] }
split_by-map RequeueAll nodes = refl
split_by-map UnparkOne nodes = split_first-map nodes
split_by-map RequeueOne nodes =
    λ i. record { taken = []; moved = sym (take-map waiter_of 1 nodes) i; left = sym (drop-map waiter_of 1 nodes) i }

pub map-with_new_key : (to : ℕ) (nodes : List NodeFields)
    → map waiter_of (map (with_new_key to) nodes) ≡ map waiter_of nodes
map-with_new_key to [] = refl
map-with_new_key to (node ∷ nodes) = ap (λ rest. waiter_of node ∷ rest) (map-with_new_key to nodes)

-- what a filter sees of nodes is what it sees of their waiters
pub park_tokens-map : (nodes : List NodeFields) → park_tokens nodes ≡ waiter_park_tokens (map waiter_of nodes)
park_tokens-map [] = refl
park_tokens-map (node ∷ nodes) = ap (λ rest. node.park_token ∷ rest) (park_tokens-map nodes)

-- and so are the answers
pub result_of-map : (split : Split NodeFields) → result_of (waiter_split split) ≡ result_of split
result_of-map split = λ i. record {
  unparked_threads = length-map split.taken waiter_of i;
  requeued_threads = length-map split.moved waiter_of i;
  have_more_threads = has_any-map waiter_of split.left i;
}

pub requeue_result-map : (op : RequeueOp) (split : Split NodeFields)
    → requeue_result op (waiter_split split) ≡ requeue_result op split
requeue_result-map Abort split = refl
requeue_result-map UnparkOneRequeueRest split = result_of-map split
requeue_result-map RequeueAll split = result_of-map split
requeue_result-map UnparkOne split = result_of-map split
requeue_result-map RequeueOne split = result_of-map split
