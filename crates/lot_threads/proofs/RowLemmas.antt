-- Lists of which each item has its number, and the pieces of a new machine, cut up for a row of buckets.
use Rattle.std.proofs.Common.{◌≡◌, ◌≢◌, ℕ, zero, suc, ◌+◌, ◌-◌, ◌<◌, ◌≤◌, ◌==◌, false, cond, List, [], ◌∷◌, ◌++◌, length}
use Rattle.std.proofs.Common.{Bor, IfSome, None, Option, Some, get_or, replicate, refl, sym, ap, ◌∙◌, subst, ⊎_elim, arith}
use Rattle.std.proofs.lemmas.Bool.{cases_eq, cases_lt, eq-eqb, ne_eqb, lt-ltb, le-ltb}
use Rattle.std.specs.Slice.{IsItemAt}
use Rattle.lot_base.specs.Place.{IsTableSize, place_of}
use Rattle.lot_base.proofs.PlaceLemmas.{place_of-below}
use Rattle.lot_machine.specs.Machine.{Machine}
use Rattle.lot_history.specs.Moves.{Finds, Regroups}
use Rattle.lot_history.specs.Pieces.{Name, list, title, dealing, thread, records, timing, numbers, has_number}
use Rattle.lot_history.specs.Pieces.{at_or_above, cover, covers, AllSo}
use Rattle.lot_history.specs.Titles.{titled_pieces}
use Rattle.lot_history.specs.declared.view.Piece.{Piece}
use Rattle.lot_history.specs.declared.view.Piece.TheVariants.{TitledLists}
use Rattle.lot_threads.specs.Rows.{EachAt, empty_lists, free_numbers, other_pieces}

-- one item more
pub EachAt-push : {A : Type 0} (P : ℕ → A → Type 0) (number : ℕ) (items : List A) (item : A)
    → P (number + length items) item → EachAt P number items → EachAt P number (items ++ item ∷ [])
EachAt-push P number [] item is each =
    let same : number + 0 ≡ number = omega arith in (subst (λ n. P n item) same is, tt)
EachAt-push P number (first ∷ items) item is each =
    let same : number + suc (length items) ≡ (number + 1) + length items = omega arith in
    (each.0, EachAt-push P (number + 1) items item (subst (λ n. P n item) same is) each.1)

-- the item that was read at a number
pub item_at : {A : Type 0} (P : ℕ → A → Type 0) (number : ℕ) (items : List A) (k : ℕ) (item : A) → k < length items
    → item ≡ get_or items k item → EachAt P number items → P (number + k) item
item_at P number [] k item below read each = absurd (omega arith)
item_at P number (first ∷ items) zero item below read each =
    let same : number ≡ number + 0 = omega arith in
    subst (λ n. P n item) same (subst (P number) (sym read) each.0)
item_at P number (first ∷ items) (suc k) item below read each =
    let same : (number + 1) + k ≡ number + suc k = omega arith in
    subst (λ n. P n item) same (item_at P (number + 1) items k item (omega arith) read each.1)

-- and the one that was got
pub item_got : {A : Type 0} (P : ℕ → A → Type 0) (items : List A) (k : ℕ) (found : Option (Bor A))
    → IsItemAt items k found → EachAt P 0 items → IfSome found (λ item. P k item.now)
item_got P items k None is each = tt
item_got P items k (Some item) is each =
    let same : 0 + k ≡ k = omega arith in
    subst (λ n. P n item.now) same (item_at P 0 items k item.now is.3.0 is.1 each)

-- in a table of one every key stands at place 0
place_of-one : (key : ℕ) → place_of key 1 ≡ 0
place_of-one key = omega arith

-- of so many numbers none is registered
unused : (count k : ℕ) → has_number (replicate count false) k ≡ false
unused zero k = refl
unused (suc count) zero = refl
unused (suc count) (suc k) = unused count k

module _ (limit size : ℕ) (others : List Piece) where
  -- a key of a place before these, and one of a place among these
  list_before : (key place count : ℕ) → place_of key size < place
      → cover (list key) (empty_lists limit size place count others) ≡ cover (list key) others
  list_before key place zero before = refl
  list_before key place (suc count) before =
      let rest = list_before key (place + 1) count (omega arith) in
      rw (ne_eqb (place_of key size) place (λ same. absurd (omega arith))) (omega arith)

  list_among : (key place count : ℕ) → place ≤ place_of key size → place_of key size < place + count
      → cover (list key) (empty_lists limit size place count others) ≡ 1 + cover (list key) others
  list_among key place zero from to = absurd (omega arith)
  list_among key place (suc count) from to =
      ⊎_elim
      (λ (same : place_of key size ≡ place).
      let rest = list_before key (place + 1) count (omega arith) in
      rw (eq-eqb (place_of key size) place same) (omega arith))
      (λ (other : place_of key size ≢ place).
      let rest = list_among key (place + 1) count (omega arith) (omega arith) in
      rw (ne_eqb (place_of key size) place other) (omega arith))
      (cases_eq (place_of key size) place)

  -- a key below the limit has its title elsewhere, and each other one where its list is
  titles_below : (key place count : ℕ) → key < limit
      → (cover (title key) (empty_lists limit size place count others) ≡ cover (title key) others)
      × (cover (dealing key) (empty_lists limit size place count others) ≡ cover (dealing key) others)
  titles_below key place zero below = (refl, refl)
  titles_below key place (suc count) below =
      let rest = titles_below key (place + 1) count below in
      let first = lt-ltb key limit below in (rw first (omega (arith, rest.0)), rw first (omega (arith, rest.1)))

  titles_above : (key place count : ℕ) → limit ≤ key
      → (cover (title key) (empty_lists limit size place count others) + cover (list key) others
      ≡ cover (list key) (empty_lists limit size place count others) + cover (title key) others)
      × (cover (dealing key) (empty_lists limit size place count others) + cover (list key) others
      ≡ cover (list key) (empty_lists limit size place count others) + cover (dealing key) others)
  titles_above key place zero above = (omega arith, omega arith)
  titles_above key place (suc count) above =
      let rest = titles_above key (place + 1) count above in
      let first = le-ltb key limit above in (rw first (omega (arith, rest.0)), rw first (omega (arith, rest.1)))

  thread_covered : (number place count : ℕ)
      → cover (thread number) (empty_lists limit size place count others) ≡ cover (thread number) others
  thread_covered number place zero = refl
  thread_covered number place (suc count) = omega (arith, thread_covered number (place + 1) count)

  records_covered : (number place count : ℕ)
      → cover (records number) (empty_lists limit size place count others) ≡ cover (records number) others
  records_covered number place zero = refl
  records_covered number place (suc count) = omega (arith, records_covered number (place + 1) count)

  timing_covered : (number place count : ℕ)
      → cover (timing number) (empty_lists limit size place count others) ≡ cover (timing number) others
  timing_covered number place zero = refl
  timing_covered number place (suc count) = omega (arith, timing_covered number (place + 1) count)

  numbers_covered : (place count : ℕ)
      → cover numbers (empty_lists limit size place count others) ≡ cover numbers others
  numbers_covered place zero = refl
  numbers_covered place (suc count) = omega (arith, numbers_covered (place + 1) count)

-- the first of those that are left, and the others
pub empty_lists-first : (limit size place : ℕ) (others : List Piece) → place < size
    → empty_lists limit size place (size - place) others
    ≡ TitledLists limit size place [] ∷ empty_lists limit size (place + 1) (size - (place + 1)) others
empty_lists-first limit size place others below =
    let more : size - place ≡ suc (size - (place + 1)) = omega arith in
    ap (λ count. empty_lists limit size place count others) more

module _ (max_threads limit size : ℕ) (table : IsTableSize size) where
  abbrev rest : List Piece
  rest = other_pieces max_threads limit

  abbrev cut : List Piece
  cut = empty_lists limit size 0 size rest

  list_one : (key : ℕ) → cover (list key) cut ≡ 1
  list_one key =
      let below = place_of-below key size table in
      let one = list_among limit size rest key 0 size (omega arith) (omega arith) in omega (arith, one)

  list_cover : (key : ℕ) → cover (list key) cut ≡ cover (list key) (titled_pieces limit)
  list_cover key = rw (eq-eqb (place_of key 1) 0 (place_of-one key)) (list_one key)

  title_cover : (key : ℕ) → (cover (title key) cut ≡ cover (title key) (titled_pieces limit))
      × (cover (dealing key) cut ≡ cover (dealing key) (titled_pieces limit))
  title_cover key =
      let here = eq-eqb (place_of key 1) 0 (place_of-one key) in
      ⊎_elim
      (λ (below : key < limit). let both = titles_below limit size rest key 0 size below in
      let none : at_or_above limit key (place_of key 1 == 0) ≡ 0 = rw (lt-ltb key limit below) refl in
      (omega (arith, both.0, none), omega (arith, both.1, none)))
      (λ (above : limit ≤ key). let both = titles_above limit size rest key 0 size above in
      let own : at_or_above limit key (place_of key 1 == 0) ≡ 1 = rw (le-ltb key limit above, here) refl in
      let one = list_one key in (omega (arith, both.0, one, own), omega (arith, both.1, one, own)))
      (cases_lt key limit)

  same_cover : (name : Name) → cover name cut ≡ cover name (titled_pieces limit)
  same_cover (list key) = list_cover key
  same_cover (title key) = (title_cover key).0
  same_cover (dealing key) = (title_cover key).1
  same_cover (thread number) =
      let free : covers (thread number) (free_numbers max_threads) ≡ 1 =
      ap (λ is. cond is 0 1) (unused max_threads number) in
      omega (arith, thread_covered limit size rest number 0 size, free)
  same_cover (records number) =
      let free : covers (records number) (free_numbers max_threads) ≡ 1 =
      ap (λ is. cond is 0 1) (unused max_threads number) in
      omega (arith, records_covered limit size rest number 0 size, free)
  same_cover (timing number) =
      let free : covers (timing number) (free_numbers max_threads) ≡ 1 =
      ap (λ is. cond is 0 1) (unused max_threads number) in
      omega (arith, timing_covered limit size rest number 0 size, free)
  same_cover numbers = numbers_covered limit size rest 0 size

  module _ (bound : ℕ) (m : Machine) (finds : Finds bound (titled_pieces limit) m) where
    lists_so : (place count : ℕ) (others : List Piece) → AllSo m others
        → AllSo m (empty_lists limit size place count others)
    lists_so place zero others so = so
    lists_so place (suc count) others so =
        (λ key there. finds.so.0 key (place_of-one key), lists_so (place + 1) count others so)

    rest_so : AllSo m rest
    rest_so = (
      finds.so.1.0,
      (
        (
          λ number. finds.so.1.1.0.0 number ∙ sym (unused max_threads number),
          λ number free. finds.so.1.1.0.1 number refl,
        ),
        tt,
      ),
    )

  pub cuts_up : (bound : ℕ) → Regroups bound (titled_pieces limit) cut
  cuts_up bound = record {
    cover = same_cover;
    so = λ m finds. lists_so bound m finds 0 size rest (rest_so bound m finds);
  }
