-- The laws of `specs/Laws`.
use Rattle.std.proofs.Common.{inl, inr, ◌≡◌, ℕ, zero, suc, ◌==◌, ◌≤◌, Bool, true, false, List, [], ◌∷◌, ◌++◌, length}
use Rattle.std.proofs.Common.{map, take}
use Rattle.std.proofs.Common.{drop, replicate, if◌then◌else◌, refl, sym, ap, ◌∙◌, append-nil}
use Rattle.std.proofs.Common.{take-append-drop, arith}
use Rattle.std.proofs.lemmas.Bool.{eq-eqb, eqb-true}
use Rattle.lot_base.specs.declared.token.FilterOp.{FilterOp}
use Rattle.lot_base.specs.declared.token.FilterOp.TheVariants.{Unpark, Skip, Stop}
use Rattle.lot_base.specs.declared.token.RequeueOp.TheVariants.{Abort, UnparkOneRequeueRest, RequeueAll, UnparkOne}
use Rattle.lot_base.specs.declared.token.RequeueOp.TheVariants.{RequeueOne}
use Rattle.lot_base.specs.NodeLists.{lists_of, with_new_key}
use Rattle.lot_base.proofs.FilterLemmas.{taken_by, left_by, split_filter-moves_nobody}
use Rattle.lot_base.proofs.RequeueLemmas.{lists-aborted}
use Rattle.lot_base.specs.Laws.{IsMerge, UnparkEachTakesAll, UnparkThenStopTakesFirst, StopTakesNobody}
use Rattle.lot_base.specs.Laws.{FilterSplitsInOrder}
use Rattle.lot_base.specs.Laws.{UnparkSplitsInOrder}
use Rattle.lot_base.specs.Laws.{RequeueSplitsInOrder, AbortKeepsLists, RequeueToItselfKeepsLists, RequeueAllCountsEach}
use Rattle.lot_base.specs.Laws.{OwnKeyChangesNothing, ParkTokenStays}

-- decisions that are all `Unpark`
taken_by-unpark_each : {A : Type 0} (waiters : List A) (n : ℕ) → length waiters ≤ n
    → taken_by (replicate n Unpark) waiters ≡ waiters
taken_by-unpark_each [] zero h = refl
taken_by-unpark_each [] (suc n) h = refl
taken_by-unpark_each (waiter ∷ waiters) zero h = absurd (omega arith)
taken_by-unpark_each (waiter ∷ waiters) (suc n) h =
    ap (λ taken. waiter ∷ taken) (taken_by-unpark_each waiters n (omega arith))

left_by-unpark_each : {A : Type 0} (waiters : List A) (n : ℕ) → length waiters ≤ n
    → left_by (replicate n Unpark) waiters ≡ []
left_by-unpark_each [] zero h = refl
left_by-unpark_each [] (suc n) h = refl
left_by-unpark_each (waiter ∷ waiters) zero h = absurd (omega arith)
left_by-unpark_each (waiter ∷ waiters) (suc n) h = left_by-unpark_each waiters n (omega arith)

pub split_filter-unpark_each : (A : Type 0) → UnparkEachTakesAll A
split_filter-unpark_each A waiters n h =
    λ i. record {
      taken = taken_by-unpark_each waiters n h i;
      moved = split_filter-moves_nobody (replicate n Unpark) waiters i;
      left = left_by-unpark_each waiters n h i;
    }

pub split_filter-unpark_stop : (A : Type 0) → UnparkThenStopTakesFirst A
split_filter-unpark_stop A [] decisions = refl
split_filter-unpark_stop A (waiter ∷ []) decisions = refl
split_filter-unpark_stop A (waiter ∷ second ∷ waiters) decisions = refl

pub split_filter-stop : (A : Type 0) → StopTakesNobody A
split_filter-stop A [] decisions = refl
split_filter-stop A (waiter ∷ waiters) decisions = refl

-- a requeue of all to the same key
pub lists_after_requeue-to_itself : (A : Type 0) → RequeueToItselfKeepsLists A
lists_after_requeue-to_itself A lists key k = rw (eq-eqb key key refl) (chosen (k == key) refl)
  where
    chosen : (b : Bool) → (k == key) ≡ b → (if b then lists key else (if b then [] else lists k)) ≡ lists k
    chosen true e = ap lists (sym (eqb-true k key e))
    chosen false e = refl

-- the waiters of a key have the key
pub map-with_new_key : OwnKeyChangesNothing
map-with_new_key [] key = refl
map-with_new_key (node ∷ nodes) key = chosen (node.key == key) refl (map-with_new_key nodes key)
  where
    chosen : (b : Bool) → (node.key == key) ≡ b → map (with_new_key key) (lists_of nodes key) ≡ lists_of nodes key
        → map (with_new_key key) (if b then node ∷ lists_of nodes key else lists_of nodes key)
        ≡ (if b then node ∷ lists_of nodes key else lists_of nodes key)
    chosen true e rest = ap (λ k. with_new_key k node ∷ map (with_new_key key) (lists_of nodes key))
        (sym (eqb-true node.key key e)) ∙ ap (λ waiters. node ∷ waiters) rest
    chosen false e rest = rest

pub lists_after_requeue-aborted : (A : Type 0) → AbortKeepsLists A
lists_after_requeue-aborted A = lists-aborted

pub result_of-requeue_all : (A : Type 0) → RequeueAllCountsEach A
result_of-requeue_all A waiters = refl

-- the parts of a split
pub parts-split_by : (A : Type 0) → RequeueSplitsInOrder A
parts-split_by A Abort waiters = refl
parts-split_by A UnparkOneRequeueRest waiters = append-nil (take 1 waiters ++ drop 1 waiters)
    ∙ take-append-drop 1 waiters
parts-split_by A RequeueAll waiters = append-nil waiters
parts-split_by A UnparkOne waiters = ap (λ front. front ++ drop 1 waiters) (append-nil (take 1 waiters))
    ∙ take-append-drop 1 waiters
parts-split_by A RequeueOne waiters = take-append-drop 1 waiters

pub parts-split_first : (A : Type 0) → UnparkSplitsInOrder A
parts-split_first A waiters = (take-append-drop 1 waiters, append-nil waiters)

-- all of a list are left
IsMerge-none : {A : Type 0} (waiters : List A) → IsMerge [] waiters waiters
IsMerge-none [] = (refl, refl)
IsMerge-none (waiter ∷ waiters) = inr (waiters, refl, IsMerge-none waiters)

IsMerge-filter : {A : Type 0} (decisions : List FilterOp) (waiters : List A)
    → IsMerge (taken_by decisions waiters) (left_by decisions waiters) waiters
IsMerge-filter [] waiters = IsMerge-none waiters
IsMerge-filter (_ ∷ _) [] = (refl, refl)
IsMerge-filter (Unpark ∷ decisions) (waiter ∷ waiters) =
    inl (taken_by decisions waiters, refl, IsMerge-filter decisions waiters)
IsMerge-filter (Skip ∷ decisions) (waiter ∷ waiters) =
    inr (left_by decisions waiters, refl, IsMerge-filter decisions waiters)
IsMerge-filter (Stop ∷ _) (waiter ∷ waiters) = IsMerge-none (waiter ∷ waiters)

pub parts-split_filter : (A : Type 0) → FilterSplitsInOrder A
parts-split_filter A decisions waiters = (IsMerge-filter decisions waiters, split_filter-moves_nobody decisions waiters)

pub park_token-kept : ParkTokenStays
park_token-kept node key token = (refl, refl)
