-- The nodes of a bucket are those of threads of the lot.
use Rattle.std.proofs.Common.{◌≡◌, ℕ, ◌==◌, Bool, true, false, cond, List, [], ◌∷◌, ◌++◌, All, map, sym, subst}
use Rattle.std.proofs.lemmas.List.Elements.{All-nil, All-cons, All-head, All-tail, All-filter}
use Rattle.lot_base.specs.NodeFields.{NodeFields}
use Rattle.lot_base.specs.NodeLists.{lists_of, ChangesOnly, has_number, with_token}
use Rattle.lot_base.specs.Waiting.{Split, split_first, split_all, split_filter, without_first}
use Rattle.lot_base.specs.declared.token.FilterOp.{FilterOp}
use Rattle.lot_base.specs.declared.token.FilterOp.TheVariants.{Unpark, Skip, Stop}
use Rattle.lot_base.specs.declared.token.UnparkToken.{UnparkToken}
use Rattle.lot_base.proofs.WaitingLemmas.{All-after_taking}
use Rattle.lot_threads.specs.Cells.{IsBelow}

pub below-entered : (bound : ℕ) (nodes : List NodeFields) (node : NodeFields) → All (IsBelow bound) nodes
    → IsBelow bound node → All (IsBelow bound) (nodes ++ node ∷ [])
below-entered bound [] node all own = All-cons (IsBelow bound) node [] own (All-nil (IsBelow bound))
below-entered bound (first ∷ nodes) node all own =
    All-cons (IsBelow bound) first (nodes ++ node ∷ []) (All-head (IsBelow bound) first nodes all)
    (below-entered bound nodes node (All-tail (IsBelow bound) first nodes all) own)

-- a token changes no number
below-token : (bound : ℕ) (token : UnparkToken) (nodes : List NodeFields) → All (IsBelow bound) nodes
    → All (IsBelow bound) (map (with_token token) nodes)
below-token bound token [] all = All-nil (IsBelow bound)
below-token bound token (node ∷ nodes) all =
    All-cons (IsBelow bound) (with_token token node) (map (with_token token) nodes)
    (All-head (IsBelow bound) node nodes all)
    (below-token bound token nodes (All-tail (IsBelow bound) node nodes all))

-- of what holds of all waiters, it holds of those taken and of those left
pub record HoldsOfParts (split : Split NodeFields) (waiting : List NodeFields) : Type 1 where
  pub taken : (P : NodeFields → Type 0) → All P waiting → All P split.taken
  pub left : (P : NodeFields → Type 0) → All P waiting → All P split.left

pub first_parts : (waiting : List NodeFields) → HoldsOfParts (split_first waiting) waiting
first_parts [] = record { taken = λ P all. all; left = λ P all. all }
first_parts (node ∷ waiting) = record {
  taken = λ P all. All-cons P node [] (All-head P node waiting all) (All-nil P);
  left = λ P all. All-tail P node waiting all;
}

pub all_parts : (waiting : List NodeFields) → HoldsOfParts (split_all waiting) waiting
all_parts waiting = record { taken = λ P all. all; left = λ P all. All-nil P }

pub filter_parts : (decisions : List FilterOp) (waiting : List NodeFields)
    → HoldsOfParts (split_filter decisions waiting) waiting
filter_parts [] waiting = record { taken = λ P all. All-nil P; left = λ P all. all }
filter_parts (_ ∷ _) [] = record { taken = λ P all. all; left = λ P all. all }
filter_parts (Unpark ∷ decisions) (node ∷ waiting) =
    let rest = filter_parts decisions waiting in
    record {
      taken = λ P all. All-cons P node (split_filter decisions waiting).taken (All-head P node waiting all)
          (rest.taken P (All-tail P node waiting all));
      left = λ P all. rest.left P (All-tail P node waiting all);
    }
filter_parts (Skip ∷ decisions) (node ∷ waiting) =
    let rest = filter_parts decisions waiting in
    record {
      taken = λ P all. rest.taken P (All-tail P node waiting all);
      left = λ P all. All-cons P node (split_filter decisions waiting).left (All-head P node waiting all)
          (rest.left P (All-tail P node waiting all));
    }
filter_parts (Stop ∷ decisions) (node ∷ waiting) = record { taken = λ P all. All-nil P; left = λ P all. all }

-- a list without its first of a number
abbrev pub split_without : ℕ → List NodeFields → Split NodeFields
split_without number waiting = record { taken = []; moved = []; left = without_first (has_number number) waiting }

without_left : (P : NodeFields → Type 0) (number : ℕ) (waiting : List NodeFields) → All P waiting
    → All P (without_first (has_number number) waiting)
without_left P number [] all = all
without_left P number (node ∷ waiting) all =
    either (has_number number node) (without_left P number waiting (All-tail P node waiting all))
  where
    either : (found : Bool) → All P (without_first (has_number number) waiting)
        → All P (cond found waiting (node ∷ without_first (has_number number) waiting))
    either true rest = All-tail P node waiting all
    either false rest = All-cons P node (without_first (has_number number) waiting) (All-head P node waiting all) rest

pub without_parts : (number : ℕ) (waiting : List NodeFields) → HoldsOfParts (split_without number waiting) waiting
without_parts number waiting = record {
  taken = λ P all. All-nil P;
  left = λ P all. without_left P number waiting all;
}

module _ (bound key : ℕ) (old : List NodeFields) (split : Split NodeFields)
    (parts : HoldsOfParts split (lists_of old key)) (all : All (IsBelow bound) old) where
  waiting_below : All (IsBelow bound) (lists_of old key)
  waiting_below = All-filter (λ (node : NodeFields). node.key == key) (IsBelow bound) old all

  pub below-left : (new : List NodeFields) → ChangesOnly old new key split.left → All (IsBelow bound) new
  below-left new lists = All-after_taking (IsBelow bound) key old new split.left all
      (parts.left (IsBelow bound) waiting_below) lists

  pub below-taken : (token : UnparkToken) (taken : List NodeFields) → taken ≡ map (with_token token) split.taken
      → All (IsBelow bound) taken
  below-taken token taken is =
      subst (λ (nodes : List NodeFields). All (IsBelow bound) nodes) (sym is)
      (below-token bound token split.taken (parts.taken (IsBelow bound) waiting_below))
