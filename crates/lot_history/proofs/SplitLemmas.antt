-- Splits of threads in lists, and of what else stands for them.
use Rattle.std.proofs.Common.{◌≡◌, ℕ, ◌+◌, ◌-◌, ◌^◌, ◌≤◌, List, [], ◌∷◌, length, map, All, refl, sym, ap, ◌∙◌, subst}
use Rattle.std.proofs.Common.{arith}
use Rattle.std.proofs.lemmas.List.{length-map, take-map, drop-map}
use Rattle.std.proofs.lemmas.List.Elements.{All-nil, All-drop}
use Rattle.lot_base.specs.declared.token.FilterOp.{FilterOp}
use Rattle.lot_base.specs.declared.token.FilterOp.TheVariants.{Unpark, Skip, Stop}
use Rattle.lot_base.specs.declared.token.RequeueOp.{RequeueOp}
use Rattle.lot_base.specs.declared.token.RequeueOp.TheVariants.{Abort, UnparkOneRequeueRest, RequeueAll, UnparkOne}
use Rattle.lot_base.specs.declared.token.RequeueOp.TheVariants.{RequeueOne}
use Rattle.lot_base.specs.NodeLists.{with_saturated_counts}
use Rattle.lot_base.specs.Waiting.{Split, split_first, split_all, split_filter, split_by, result_of, requeue_result}
use Rattle.lot_base.proofs.FilterLemmas.{All-left_by, split_filter-moves_nobody}
use Rattle.lot_base.proofs.RequeueLemmas.{All-left, All-moved}
use Rattle.lot_machine.specs.Machine.{Waiter}
use Rattle.lot_machine.proofs.SplitLemmas.{AreParts, AreParts-first, AreParts-all, AreParts-filter, AreParts-by}
use Rattle.lot_machine.proofs.SplitLemmas.{has_any-map, result_of-few, requeue_result-few}
use Rattle.lot_history.specs.declared.view.Standing.{Standing}
use Rattle.lot_history.specs.Pieces.{times_standing, waiter_of}
use Rattle.lot_history.proofs.PieceLemmas.{times_in-waiters}

module _ {A B : Type 0} (f : A → B) where
  -- a split, something else in place of each waiter
  abbrev pub split_map : Split A → Split B
  split_map split = record { taken = map f split.taken; moved = map f split.moved; left = map f split.left }

  pub split_first-map : (xs : List A) → split_map (split_first xs) ≡ split_first (map f xs)
  split_first-map xs =
      λ i. record { taken = sym (take-map f 1 xs) i; moved = []; left = sym (drop-map f 1 xs) i }

  pub split_filter-map : (decisions : List FilterOp) (xs : List A)
      → split_map (split_filter decisions xs) ≡ split_filter decisions (map f xs)
  split_filter-map [] xs = refl
  split_filter-map (_ ∷ _) [] = refl
  split_filter-map (Unpark ∷ decisions) (x ∷ xs) =
      ap (λ (split : Split B). record split { taken = f x ∷ split.taken }) (split_filter-map decisions xs)
  split_filter-map (Skip ∷ decisions) (x ∷ xs) =
      ap (λ (split : Split B). record split { left = f x ∷ split.left }) (split_filter-map decisions xs)
  split_filter-map (Stop ∷ _) (x ∷ xs) = refl

  pub split_by-map : (op : RequeueOp) (xs : List A) → split_map (split_by op xs) ≡ split_by op (map f xs)
  split_by-map Abort xs = refl
  split_by-map UnparkOneRequeueRest xs =
      λ i. record { taken = sym (take-map f 1 xs) i; moved = sym (drop-map f 1 xs) i; left = [] }
  split_by-map RequeueAll xs = refl
  split_by-map UnparkOne xs = split_first-map xs
  split_by-map RequeueOne xs =
      λ i. record { taken = []; moved = sym (take-map f 1 xs) i; left = sym (drop-map f 1 xs) i }

  pub result_of-map : (split : Split A) → result_of (split_map split) ≡ result_of split
  result_of-map split = λ i. record {
    unparked_threads = length-map split.taken f i;
    requeued_threads = length-map split.moved f i;
    have_more_threads = has_any-map f split.left i;
  }

  pub requeue_result-map : (op : RequeueOp) (split : Split A)
      → requeue_result op (split_map split) ≡ requeue_result op split
  requeue_result-map Abort split = refl
  requeue_result-map UnparkOneRequeueRest split = result_of-map split
  requeue_result-map RequeueAll split = result_of-map split
  requeue_result-map UnparkOne split = result_of-map split
  requeue_result-map RequeueOne split = result_of-map split

-- a split of threads, as the machine has it
abbrev pub waiter_split : Split Standing → Split Waiter
waiter_split = split_map waiter_of

-- of the threads of a key some are taken, some moved, and the others left
pub record IsParted (split : Split Standing) (standing : List Standing) : Type 1 where
  pub waiters : AreParts (waiter_split split) (map waiter_of standing)
  pub moved : (P : Standing → Type 0) → All P standing → All P split.moved
  pub left : (P : Standing → Type 0) → All P standing → All P split.left

module _ (split : Split Standing) (standing : List Standing) (parts : IsParted split standing) where
  pub parted_times : (number : ℕ)
      → times_standing number split.taken + times_standing number split.moved + times_standing number split.left
      ≡ times_standing number standing
  parted_times number =
      omega (
        arith,
        parts.waiters.counts number,
        times_in-waiters number split.taken,
        times_in-waiters number split.moved,
        times_in-waiters number split.left,
        times_in-waiters number standing,
      )

  -- counts of few threads are exact
  module _ (few : length (map waiter_of standing) ≤ 2 ^ 64 - 1) where
    pub result_of-exact : with_saturated_counts (result_of split) ≡ result_of split
    result_of-exact = ap with_saturated_counts (sym (result_of-map waiter_of split))
        ∙ (result_of-few (waiter_split split) (map waiter_of standing) parts.waiters few
        ∙ result_of-map waiter_of split)

    pub requeue_result-exact : (op : RequeueOp)
        → with_saturated_counts (requeue_result op split) ≡ requeue_result op split
    requeue_result-exact op = ap with_saturated_counts (sym (requeue_result-map waiter_of op split))
        ∙ (requeue_result-few (waiter_split split) (map waiter_of standing) parts.waiters few op
        ∙ requeue_result-map waiter_of op split)

module _ (standing : List Standing) where
  abbrev waiters : List Waiter
  waiters = map waiter_of standing

  abbrev Parts : Split Waiter → Type 1
  Parts split = AreParts split waiters

  pub parted_first : IsParted (split_first standing) standing
  parted_first = record {
    waiters = subst Parts (sym (split_first-map waiter_of standing)) (AreParts-first waiters);
    moved = λ P all. All-nil P;
    left = λ P all. All-drop P 1 standing all;
  }

  pub parted_all : IsParted (split_all standing) standing
  parted_all =
      record { waiters = AreParts-all waiters; moved = λ P all. All-nil P; left = λ P all. All-nil P }

  pub parted_filter : (decisions : List FilterOp) → IsParted (split_filter decisions standing) standing
  parted_filter decisions = record {
    waiters = subst Parts (sym (split_filter-map waiter_of decisions standing)) (AreParts-filter decisions waiters);
    moved = λ P all. subst (All P) (sym (split_filter-moves_nobody decisions standing)) (All-nil P);
    left = λ P all. All-left_by P decisions standing all;
  }

  pub parted_by : (op : RequeueOp) → IsParted (split_by op standing) standing
  parted_by op = record {
    waiters = subst Parts (sym (split_by-map waiter_of op standing)) (AreParts-by op waiters);
    moved = λ P all. All-moved P op standing all;
    left = λ P all. All-left P op standing all;
  }
