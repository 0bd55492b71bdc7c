-- Splits of lists of waiters.
use Rattle.std.proofs.Common.{◌≡◌, ℕ, ◌+◌, ◌-◌, ◌^◌, ◌≤◌, List, [], ◌∷◌, length, map, take, drop, All, refl}
use Rattle.std.proofs.Common.{sym, subst, arith}
use Rattle.std.proofs.lemmas.List.Elements.{All-drop, All-nil}
use Rattle.lot_base.specs.declared.token.FilterOp.{FilterOp}
use Rattle.lot_base.specs.declared.token.FilterOp.TheVariants.{Unpark, Skip, Stop}
use Rattle.lot_base.specs.declared.token.RequeueOp.{RequeueOp}
use Rattle.lot_base.specs.declared.token.RequeueOp.TheVariants.{Abort, UnparkOneRequeueRest, RequeueAll, UnparkOne}
use Rattle.lot_base.specs.declared.token.RequeueOp.TheVariants.{RequeueOne}
use Rattle.lot_base.specs.Waiting.{Split, split_first, split_all, split_filter, split_by, has_any}
use Rattle.lot_base.specs.Waiting.{result_of, requeue_result}
use Rattle.lot_base.specs.NodeLists.{saturated, with_saturated_counts}
use Rattle.lot_base.proofs.FilterLemmas.{taken_by, left_by, All-left_by, split_filter-moves_nobody}
use Rattle.lot_base.proofs.RequeueLemmas.{All-left, All-moved}
use Rattle.lot_machine.specs.Machine.{Waiter, times_in}
use Rattle.lot_machine.proofs.WaiterLemmas.{times_in-append}

-- the waiters of a split are those of a list: each as often, and those moved and left are among them
pub record AreParts (split : Split Waiter) (waiters : List Waiter) : Type 1 where
  pub counts : (j : ℕ) → times_in j split.taken + times_in j split.moved + times_in j split.left ≡ times_in j waiters
  pub lengths : length split.taken + length split.moved + length split.left ≡ length waiters
  pub moved : (P : Waiter → Type 0) → All P waiters → All P split.moved
  pub left : (P : Waiter → Type 0) → All P waiters → All P split.left

pub AreParts-first : (waiters : List Waiter) → AreParts (split_first waiters) waiters
AreParts-first waiters = record {
  counts = counts waiters;
  lengths = lengths waiters;
  moved = λ P all. All-nil P;
  left = λ P all. All-drop P 1 waiters all;
}
  where
    lengths : (waiters : List Waiter) → length (take 1 waiters) + length {A = Waiter} [] + length (drop 1 waiters)
        ≡ length waiters
    lengths [] = refl
    lengths (waiter ∷ waiters) = omega arith

    counts : (waiters : List Waiter) (j : ℕ) → times_in j (take 1 waiters) + times_in j [] + times_in j (drop 1 waiters)
        ≡ times_in j waiters
    counts [] j = refl
    counts (waiter ∷ waiters) j = omega (arith, times_in-append j (waiter ∷ []) waiters)

pub AreParts-all : (waiters : List Waiter) → AreParts (split_all waiters) waiters
AreParts-all waiters =
    record { counts = λ j. omega arith; lengths = omega arith; moved = λ P all. All-nil P; left = λ P all. All-nil P }

pub AreParts-filter : (decisions : List FilterOp) (waiters : List Waiter)
    → AreParts (split_filter decisions waiters) waiters
AreParts-filter decisions waiters = record {
  counts = counts decisions waiters;
  lengths = lengths decisions waiters;
  moved = λ P all. subst (All P) (sym (split_filter-moves_nobody decisions waiters)) (All-nil P);
  left = λ P all. All-left_by P decisions waiters all;
}
  where
    counts : (decisions : List FilterOp) (waiters : List Waiter) (j : ℕ)
        → times_in j (split_filter decisions waiters).taken + times_in j
        (split_filter decisions waiters).moved + times_in j (split_filter decisions waiters).left ≡ times_in j waiters
    counts [] waiters j = omega arith
    counts (_ ∷ _) [] j = refl
    counts (Unpark ∷ decisions) (waiter ∷ waiters) j =
        omega (
          arith,
          counts decisions waiters j,
          times_in-append j (waiter ∷ []) waiters,
          times_in-append j (waiter ∷ []) (taken_by decisions waiters),
        )
    counts (Skip ∷ decisions) (waiter ∷ waiters) j =
        omega (
          arith,
          counts decisions waiters j,
          times_in-append j (waiter ∷ []) waiters,
          times_in-append j (waiter ∷ []) (left_by decisions waiters),
        )
    counts (Stop ∷ _) (waiter ∷ waiters) j = omega arith

    lengths : (decisions : List FilterOp) (waiters : List Waiter)
        → length (split_filter decisions waiters).taken + length (split_filter decisions waiters).moved + length
        (split_filter decisions waiters).left ≡ length waiters
    lengths [] waiters = omega arith
    lengths (_ ∷ _) [] = refl
    lengths (Unpark ∷ decisions) (waiter ∷ waiters) = omega (arith, lengths decisions waiters)
    lengths (Skip ∷ decisions) (waiter ∷ waiters) = omega (arith, lengths decisions waiters)
    lengths (Stop ∷ _) (waiter ∷ waiters) = omega arith

pub AreParts-by : (op : RequeueOp) (waiters : List Waiter) → AreParts (split_by op waiters) waiters
AreParts-by op waiters = record {
  counts = counts op waiters;
  lengths = lengths op waiters;
  moved = λ P all. All-moved P op waiters all;
  left = λ P all. All-left P op waiters all;
}
  where
    first : (waiters : List Waiter) (j : ℕ) → times_in j (take 1 waiters) + times_in j (drop 1 waiters)
        ≡ times_in j waiters
    first [] j = refl
    first (waiter ∷ waiters) j = omega (arith, times_in-append j (waiter ∷ []) waiters)

    counts : (op : RequeueOp) (waiters : List Waiter) (j : ℕ)
        → times_in j (split_by op waiters).taken + times_in j (split_by op waiters).moved + times_in j
        (split_by op waiters).left ≡ times_in j waiters
    counts Abort waiters j = omega arith
    counts UnparkOneRequeueRest waiters j = omega (arith, first waiters j)
    counts RequeueAll waiters j = omega arith
    counts UnparkOne waiters j = omega (arith, first waiters j)
    counts RequeueOne waiters j = omega (arith, first waiters j)

    first_length : (waiters : List Waiter) → length (take 1 waiters) + length (drop 1 waiters) ≡ length waiters
    first_length [] = refl
    first_length (waiter ∷ waiters) = omega arith

    lengths : (op : RequeueOp) (waiters : List Waiter)
        → length (split_by op waiters).taken + length (split_by op waiters).moved + length (split_by op waiters).left
        ≡ length waiters
    lengths Abort waiters = omega arith
    lengths UnparkOneRequeueRest waiters = omega (arith, first_length waiters)
    lengths RequeueAll waiters = omega arith
    lengths UnparkOne waiters = omega (arith, first_length waiters)
    lengths RequeueOne waiters = omega (arith, first_length waiters)

-- a list has an element exactly if its image has one
pub has_any-map : {A B : Type 0} (f : A → B) (xs : List A) → has_any (map f xs) ≡ has_any xs
has_any-map f [] = refl
has_any-map f (x ∷ xs) = refl

-- counts of few waiters are exact
saturated-few : (n : ℕ) → n ≤ 2 ^ 64 - 1 → saturated n ≡ n
saturated-few n few = omega arith

module _ (split : Split Waiter) (waiters : List Waiter) (parts : AreParts split waiters)
    (few : length waiters ≤ 2 ^ 64 - 1) where
  pub result_of-few : with_saturated_counts (result_of split) ≡ result_of split
  result_of-few = λ i. record {
    unparked_threads = saturated-few (length split.taken) (omega (arith, parts.lengths, few)) i;
    requeued_threads = saturated-few (length split.moved) (omega (arith, parts.lengths, few)) i;
    have_more_threads = has_any split.left;
  }

  pub requeue_result-few : (op : RequeueOp) → with_saturated_counts (requeue_result op split) ≡ requeue_result op split
  requeue_result-few Abort = refl
  requeue_result-few UnparkOneRequeueRest = result_of-few
  requeue_result-few RequeueAll = result_of-few
  requeue_result-few UnparkOne = result_of-few
  requeue_result-few RequeueOne = result_of-few
