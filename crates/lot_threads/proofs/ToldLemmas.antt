-- What a title tells of the nodes of a bucket, before a step and after it.
use Rattle.std.proofs.Common.{◌≡◌, ℕ, ◌==◌, List, [], ◌∷◌, ◌++◌, map, refl, sym, ap, ◌∙◌}
use Rattle.std.proofs.lemmas.Bool.{eq-eqb}
use Rattle.std.proofs.lemmas.List.{map-append}
use Rattle.lot_base.specs.NodeFields.{NodeFields}
use Rattle.lot_base.specs.NodeLists.{lists_of, ChangesOnly, has_number}
use Rattle.lot_base.specs.Place.{place_of}
use Rattle.lot_base.specs.Waiting.{has_any, result_of, split_first, without_first}
use Rattle.lot_base.proofs.FilterLemmas.{lists_of-append}
use Rattle.lot_base.proofs.ValueLemmas.{with_value-same}
use Rattle.lot_machine.specs.Machine.{Machine}
use Rattle.lot_history.specs.declared.view.Piece.{Piece}
use Rattle.lot_history.specs.declared.view.Piece.TheVariants.{TitledLists, Title}
use Rattle.lot_history.specs.declared.view.Standing.{Standing}
use Rattle.lot_history.specs.Pieces.{AllSo, at_key, numbers_of, standing_in, waiter_of}
use Rattle.lot_history.proofs.NodeLemmas.{at_key-nodes}
use Rattle.lot_history.proofs.SplitLemmas.{split_first-map}
use Rattle.lot_history.proofs.TimeoutLemmas.{without_first-map}
use Rattle.atomic_table.specs.Seated.{TableId}
use Rattle.lot_history.specs.Witness.{id_of}
use Rattle.lot_history.specs.declared.history.History.{History}
use Rattle.lot_threads.specs.Cells.{Has}
use Rattle.lot_threads.specs.Late.{late_of}
use Rattle.lot_threads.specs.Titled.{Retells, WasDealtFor, told_in, without_next, without_one}
use Rattle.lot_threads.specs.declared.title.Title as titles
use Rattle.lot_threads.proofs.WithinLemmas.{late_waiters}

-- the numbers of nodes
abbrev pub numbers_at : List NodeFields → ℕ → List ℕ
numbers_at nodes key = map (λ (node : NodeFields). node.number) (lists_of nodes key)

numbers_stand : (those : List NodeFields)
    → map (λ (each : Standing). each.number) (standing_in those) ≡ map (λ (node : NodeFields). node.number) those
numbers_stand [] = refl
numbers_stand (node ∷ those) = ap (λ (numbers : List ℕ). node.number ∷ numbers) (numbers_stand those)

numbers_wait : (standing : List Standing)
    → numbers_of (map waiter_of standing) ≡ map (λ (each : Standing). each.number) standing
numbers_wait [] = refl
numbers_wait (each ∷ standing) = ap (λ (numbers : List ℕ). each.number ∷ numbers) (numbers_wait standing)

-- what the title tells of these nodes
pub told_after : (key : ℕ) (nodes : List NodeFields)
    → map (λ (each : Standing). each.number) (at_key key (standing_in nodes)) ≡ numbers_at nodes key
told_after key nodes = ap (λ (standing : List Standing). map (λ (each : Standing). each.number) standing)
    (at_key-nodes nodes key) ∙ numbers_stand (lists_of nodes key)

module _ (m : Machine) (limit size place key : ℕ) (nodes : List NodeFields) (told : List ℕ) (rest : List Piece)
    (here : place_of key size ≡ place) where
  pub told_before : AllSo m (TitledLists limit size place (standing_in nodes) ∷ Title key told ∷ rest)
      → told ≡ numbers_at nodes key
  told_before so = sym so.1.0 ∙ (ap numbers_of (so.0 key here).waiters
      ∙ (numbers_wait (at_key key (standing_in nodes)) ∙ told_after key nodes))

  -- and where the deadline of one of them has passed
  pub told_late : (number : ℕ)
      → AllSo m (TitledLists limit size place (map (late_of number) (standing_in nodes)) ∷ Title key told ∷ rest)
      → told ≡ numbers_at nodes key
  told_late number so = sym so.1.0 ∙ (ap numbers_of ((so.0 key here).waiters
      ∙ late_waiters number key (standing_in nodes))
      ∙ (numbers_wait (at_key key (standing_in nodes)) ∙ told_after key nodes))

first_result : (nodes : List NodeFields)
    → result_of (split_first nodes) ≡ result_of (split_first (map (λ (node : NodeFields). node.number) nodes))
first_result [] = refl
first_result (_ ∷ []) = refl
first_result (_ ∷ _ ∷ _) = refl

-- whether anybody is left where one has left
any_number : (nodes : List NodeFields) → has_any nodes ≡ has_any (map (λ (node : NodeFields). node.number) nodes)
any_number [] = refl
any_number (_ ∷ _) = refl

kept_at : (key : ℕ) (old new left : List NodeFields) → ChangesOnly old new key left → lists_of new key ≡ left
kept_at key old new left lists = lists key ∙ with_value-same (lists_of old) key left key refl

-- once all were taken
pub told_none : (key : ℕ) (old new : List NodeFields) → ChangesOnly old new key [] → numbers_at new key ≡ []
told_none key old new lists =
    ap (λ (those : List NodeFields). map (λ (node : NodeFields). node.number) those) (kept_at key old new [] lists)

module _ (key : ℕ) (old new : List NodeFields) (told : List ℕ) (was : told ≡ numbers_at old key) where
  -- once the first was taken
  pub told_next : ChangesOnly old new key (split_first (lists_of old key)).left
      → numbers_at new key ≡ without_next told
  told_next lists =
      ap (λ (those : List NodeFields). map (λ (node : NodeFields). node.number) those)
      (kept_at key old new (split_first (lists_of old key)).left lists)
      ∙ (ap (λ split. split.left) (split_first-map (λ (node : NodeFields). node.number) (lists_of old key))
      ∙ ap without_next (sym was))

  -- whether a thread is the last goes by it
  pub told_last : (number : ℕ) → has_any (without_first (has_number number) (lists_of old key))
      ≡ has_any (without_one number told)
  told_last number = any_number (without_first (has_number number) (lists_of old key))
      ∙ ap has_any (without_first-map (λ (node : NodeFields). node.number) (has_number number) (λ each. each == number)
      (λ node. refl) (lists_of old key)
      ∙ ap (without_one number) (sym was))

  -- once one has left
  pub told_left : (number : ℕ) → ChangesOnly old new key (without_first (has_number number) (lists_of old key))
      → numbers_at new key ≡ without_one number told
  told_left number lists =
      ap (λ (those : List NodeFields). map (λ (node : NodeFields). node.number) those)
      (kept_at key old new (without_first (has_number number) (lists_of old key)) lists)
      ∙ (without_first-map (λ (node : NodeFields). node.number) (has_number number) (λ each. each == number)
      (λ node. refl) (lists_of old key)
      ∙ ap (without_one number) (sym was))

-- the result of an unpark of one goes by what the title tells
pub told_result : (key : ℕ) (old : List NodeFields) (told : List ℕ) → told ≡ numbers_at old key
    → result_of (split_first (lists_of old key)) ≡ result_of (split_first told)
told_result key old told was =
    first_result (lists_of old key) ∙ ap (λ (numbers : List ℕ). result_of (split_first numbers)) (sym was)

-- once one has entered
pub told_more : (old : List NodeFields) (node : NodeFields) (told : List ℕ) → told ≡ numbers_at old node.key
    → numbers_at (old ++ node ∷ []) node.key ≡ told ++ node.number ∷ []
told_more old node told was =
    ap (λ (those : List NodeFields). map (λ (n : NodeFields). n.number) those)
    (lists_of-append old (node ∷ []) node.key
    ∙ ap (λ (b : List NodeFields). lists_of old node.key ++ b) own)
    ∙ (map-append (λ (n : NodeFields). n.number) (lists_of old node.key) (node ∷ [])
    ∙ ap (λ (numbers : List ℕ). numbers ++ node.number ∷ []) (sym was))
  where
    own : lists_of (node ∷ []) node.key ≡ node ∷ []
    own = rw (eq-eqb node.key node.key refl) refl

-- a title that tells so
pub retells : (history : History) (key : ℕ) (old new : titles.Title) (numbers after : List ℕ)
    → Has (id_of history) (Title key numbers ∷ []) new.part → numbers ≡ after
    → ((home : TableId) → WasDealtFor key home old → WasDealtFor key home new) → Retells history key old after new
retells history key old new numbers after has same dealt = record {
  title = record {
    has = record {
      of_history = has.of_history;
      pieces = has.pieces ∙ ap (λ (ns : List ℕ). Title key ns ∷ []) (sym (ap told_in has.pieces));
    };
  };
  tells = ap told_in has.pieces ∙ same;
  dealt = dealt;
}
