-- What a critical section that has the part of a bucket says of it.
use Rattle.std.proofs.Common.{◌≡◌, ◌==◌, ℕ, Bool, true, false, cond, List, [], ◌∷◌, map, refl, sym, ap, ◌∙◌}
use Rattle.lot_base.specs.BucketState.{BucketState}
use Rattle.lot_base.specs.NodeLists.{lists_of}
use Rattle.lot_base.specs.Place.{place_of}
use Rattle.lot_base.specs.Waiting.{result_of, split_first}
use Rattle.lot_machine.specs.Machine.{Machine, Waiter}
use Rattle.lot_history.specs.declared.history.History.{History}
use Rattle.lot_history.specs.declared.view.Piece.{Piece}
use Rattle.lot_history.specs.declared.view.Standing.{Standing}
use Rattle.lot_history.specs.Pieces.{AllSo, at_key, standing_in, standing_of, waiter_of}
use Rattle.lot_history.specs.Witness.{id_of, limit_of}
use Rattle.lot_history.proofs.NodeLemmas.{at_key-nodes}
use Rattle.lot_history.proofs.SplitLemmas.{split_first-map, result_of-map}
use Rattle.lot_threads.specs.Cells.{Has, lists_in}
use Rattle.lot_threads.specs.Late.{late_of, late_pieces}
use Rattle.lot_threads.specs.Within.{IsSectionOf, waiters_in, waiting_in}
use Rattle.lot_threads.specs.declared.critical_section.CriticalSection.{CriticalSection}

-- what an unpark of the first answers of waiters and of what stands for them
same_first : {A B : Type 0} (f : A → B) (xs : List A)
    → result_of (split_first (map f xs)) ≡ result_of (split_first xs)
same_first f xs = ap result_of (sym (split_first-map f xs)) ∙ result_of-map f (split_first xs)

-- a thread whose deadline has passed waits still
pub late_waiters : (number key : ℕ) (standing : List Standing)
    → map waiter_of (at_key key (map (late_of number) standing)) ≡ map waiter_of (at_key key standing)
late_waiters number key [] = refl
late_waiters number key (each ∷ standing) = either (each.key == key) (late_waiters number key standing)
  where
    either : (is_here : Bool)
        → map waiter_of (at_key key (map (late_of number) standing)) ≡ map waiter_of (at_key key standing)
        → map waiter_of (cond is_here (late_of number each ∷ at_key key (map (late_of number) standing))
        (at_key key (map (late_of number) standing)))
        ≡ map waiter_of (cond is_here (each ∷ at_key key standing) (at_key key standing))
    either true same = ap (λ (waiters : List Waiter). waiter_of each ∷ waiters) same
    either false same = same

module _ (history : History) (bucket : BucketState) (key : ℕ) (here : place_of key bucket.size ≡ bucket.place)
    (section : CriticalSection) (has : Has (id_of history) (lists_in (limit_of history) bucket ∷ []) section.part) where
  pub is_section : IsSectionOf history key section
  is_section = record {
    size = bucket.size;
    place = bucket.place;
    standing = standing_in bucket.nodes;
    bucket = has;
    here = here;
  }

  waiters_stand : waiters_in section key ≡ map waiter_of (at_key key (standing_in bucket.nodes))
  waiters_stand = ap (λ (pieces : List Piece). waiting_in pieces key) has.pieces

  -- the machine that the step finds
  pub finds : (m : Machine) → AllSo m (lists_in (limit_of history) bucket ∷ []) → m.lists key ≡ waiters_in section key
  finds m so = (so.0 key here).waiters ∙ sym waiters_stand

  -- and where the deadline of one of them has passed
  pub finds_late : (number : ℕ) (m : Machine) → AllSo m (late_pieces number (lists_in (limit_of history) bucket ∷ []))
      → m.lists key ≡ waiters_in section key
  finds_late number m so =
      (so.0 key here).waiters ∙ (late_waiters number key (standing_in bucket.nodes) ∙ sym waiters_stand)

  pub first_result : result_of (split_first (waiters_in section key)) ≡ result_of (split_first (lists_of bucket.nodes key))
  first_result =
      ap (λ (waiters : List Waiter). result_of (split_first waiters))
      (waiters_stand ∙ ap (λ (standing : List Standing). map waiter_of standing) (at_key-nodes bucket.nodes key))
      ∙ (same_first waiter_of (standing_in (lists_of bucket.nodes key)) ∙ same_first standing_of (lists_of bucket.nodes key))
