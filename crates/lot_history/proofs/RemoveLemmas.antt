-- A timeout, as a bucket tells of it: a node of the key is found by its number, and taken out.
use Rattle.std.proofs.Common.{◌≡◌, ℕ, Bool, true, not, find, Some, List, [], ◌∷◌, refl, sym, ap, ◌∙◌, subst, arith}
use Rattle.lot_base.specs.NodeFields.{NodeFields}
use Rattle.lot_base.specs.NodeLists.{lists_of, ChangesOnly, has_number}
use Rattle.lot_base.specs.Place.{place_of}
use Rattle.lot_base.specs.Waiting.{without_first, has_any}
use Rattle.lot_machine.specs.declared.status.Status.TheVariants as status
use Rattle.lot_machine.specs.declared.step.Answer.TheVariants as answer
use Rattle.lot_machine.specs.declared.step.Step.TheVariants as step
use Rattle.lot_machine.proofs.SplitLemmas.{has_any-map}
use Rattle.lot_history.specs.declared.view.Standing.{Standing}
use Rattle.lot_history.specs.declared.view.Piece.{Piece}
use Rattle.lot_history.specs.declared.view.Piece.TheVariants.{Lists, Thread, TitledLists, Timing}
use Rattle.lot_machine.specs.Machine.{Machine}
use Rattle.lot_history.specs.Moves.{Finds, Moves}
use Rattle.lot_history.specs.Pieces.{Name, list, title, dealing, thread, records, timing, numbers, cover, at_key}
use Rattle.lot_history.specs.Pieces.{standing_of, standing_in}
use Rattle.lot_history.proofs.FrameLemmas.{framed}
use Rattle.lot_history.proofs.KeyedLemmas.{late_titled}
use Rattle.lot_history.proofs.NodeLemmas.{at_key-nodes, changes_nodes}
use Rattle.lot_history.proofs.ThreadLemmas.{Is, supposing}
use Rattle.lot_history.proofs.TimeoutLemmas.{is_number, with_late, late_times, found_status, find-map, without_first-map, passes_deadline}
use Rattle.lot_history.proofs.TimeoutLemmas.{times_out}
use Rattle.lot_history.proofs.TimesLemmas.{ChangesKey}

module _ (max_threads size place key number : ℕ) (old : List NodeFields) (node : NodeFields) (rest : List Piece)
    (here : place_of key size ≡ place) (found : find (has_number number) (lists_of old key) ≡ Some node) where
  abbrev left : List NodeFields
  left = without_first (has_number number) (lists_of old key)

  abbrev here_left : List Standing
  here_left = without_first (is_number number) (at_key key (standing_in old))

  found_here : find (is_number number) (at_key key (standing_in old)) ≡ Some (standing_of node)
  found_here =
      subst (λ (l : List Standing). find (is_number number) l ≡ Some (standing_of node)) (sym (at_key-nodes old key))
      (find-map standing_of (has_number number) (is_number number) (λ x. refl) (lists_of old key) node found)

  same_left : here_left ≡ standing_in left
  same_left = ap (λ (l : List Standing). without_first (is_number number) l) (at_key-nodes old key)
      ∙ sym (without_first-map standing_of (has_number number) (is_number number) (λ x. refl) (lists_of old key))

  -- its deadline passes
  pub removes_late : node.timed ≡ true
      → Moves max_threads (Is (step.Deadline number) answer.Late) (Lists size place (standing_in old) ∷ rest)
      (Lists size place (with_late number (standing_in old)) ∷ rest)
  removes_late timed =
      framed max_threads (Is (step.Deadline number) answer.Late) (Lists size place (standing_in old) ∷ [])
      (Lists size place (with_late number (standing_in old)) ∷ []) rest
      (passes_deadline max_threads size place key number (standing_in old) (standing_of node) here found_here timed
      refl)

  -- and it is out
  pub removes : (new : List NodeFields) → ChangesOnly old new key left
      → Moves max_threads (Is (step.Resolve number) (answer.TimedOut key (not (has_any left))))
      (Lists size place (with_late number (standing_in old)) ∷ rest)
      (Lists size place (standing_in new) ∷ Thread number status.Running ∷ rest)
  removes new lists =
      let last : not (has_any here_left) ≡ not (has_any left) =
      ap (λ (l : List Standing). not (has_any l)) same_left ∙ ap not (has_any-map standing_of left) in
      framed max_threads (Is (step.Resolve number) (answer.TimedOut key (not (has_any left))))
      (Lists size place (with_late number (standing_in old)) ∷ [])
      (Lists size place (standing_in new) ∷ Thread number status.Running ∷ []) rest
      (subst (λ (b : Bool). Moves max_threads (Is (step.Resolve number) (answer.TimedOut key b))
      (Lists size place (with_late number (standing_in old)) ∷ [])
      (Lists size place (standing_in new) ∷ Thread number status.Running ∷ [])) last
      (times_out max_threads size place key number (standing_in old) (standing_of node) here found_here
      (standing_in new)
      (subst (ChangesKey (standing_in old) (standing_in new) key) (sym same_left)
      (changes_nodes old new key left lists))))

-- its deadline passes, since it waits with a timeout, as its own piece says
module _ (max_threads limit size place key number : ℕ) (old : List NodeFields) (node : NodeFields)
    (here : place_of key size ≡ place) (found : find (has_number number) (lists_of old key) ≡ Some node) where
  abbrev before : List Piece
  before = TitledLists limit size place (standing_in old) ∷ Timing number true ∷ []

  abbrev after : List Piece
  after = TitledLists limit size place (with_late number (standing_in old)) ∷ Timing number true ∷ []

  same_cover : (name : Name) → cover name after ≡ cover name before
  same_cover (list k) = refl
  same_cover (title k) = refl
  same_cover (dealing k) = refl
  same_cover (thread other) = omega (arith, late_times number other (standing_in old))
  same_cover (records other) = refl
  same_cover (timing other) = refl
  same_cover numbers = refl

  timed : (m : Machine) → Finds max_threads before m → node.timed ≡ true
  timed m finds = finds.so.1.0 node.timed
      (found_status number m (at_key key (standing_in old)) (standing_of node)
      (found_here max_threads size place key number old node [] here found) (finds.so.0 key here).wait)

  pub removes_timed : Moves max_threads (Is (step.Deadline number) answer.Late)
      (TitledLists limit size place (standing_in old) ∷ Timing number true ∷ [])
      (TitledLists limit size place (with_late number (standing_in old)) ∷ Timing number true ∷ [])
  removes_timed = supposing max_threads (Is (step.Deadline number) answer.Late) before after same_cover
      (λ m finds. framed max_threads (Is (step.Deadline number) answer.Late)
      (TitledLists limit size place (standing_in old) ∷ [])
      (TitledLists limit size place (with_late number (standing_in old)) ∷ []) (Timing number true ∷ [])
      (late_titled max_threads limit size place number (standing_in old) (Is (step.Deadline number) answer.Late)
      (removes_late max_threads size place key number old node [] here found (timed m finds))))
