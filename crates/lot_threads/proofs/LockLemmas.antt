-- The locks of buckets in the rows of a lot.
use Rattle.std.proofs.Common.{◌≡◌, ◌≢◌, ℕ, ◌+◌, ◌*◌, ◌^◌, ◌<◌, List, length, get_or, sym, ap, ◌∙◌, subst, arith}
use Rattle.std.proofs.lemmas.Nat.{pow-add}
use Rattle.atomic_table.specs.Seated.{TableId}
use Rattle.lot_base.specs.BucketState.{IsBucketAt}
use Rattle.lot_base.specs.Place.{place_of}
use Rattle.lot_history.specs.Witness.{id_of, limit_of, max_threads_of}
use Rattle.lot_history.specs.declared.history.History.{History}
use Rattle.lot_word_lock.specs.WordLock.{key_of}
use Rattle.lot_word_lock.specs.declared.word_lock.WordLock.{WordLock}
use Rattle.lot_threads.specs.Cells.{AreApart, FitsCell, IsCell, IsCellLock, IsLockAt, IsLockFor, IsRow, home_of}
use Rattle.lot_threads.specs.declared.cell.Cell.{Cell}
use Rattle.lot_threads.specs.declared.cell.CellKey.{CellKey}
use Rattle.lot_threads.specs.declared.cell.Slot.{Slot}
use Rattle.lot_threads.proofs.RowLemmas.{item_at}

pub own_at : (row : List (WordLock Slot CellKey)) (place : ℕ) (lock : WordLock Slot CellKey) → place < length row
    → lock ≡ get_or row place lock → IsLockAt place row lock
own_at row place lock below read = λ home max_threads limit size is_row.
    let same : 0 + place ≡ place = omega arith in
    subst (λ n. IsCellLock home max_threads limit size n lock) same
    (item_at (IsCellLock home max_threads limit size) 0 row place lock below read is_row.locks)

-- the row of twice the size, by its index
pub larger_row : (home : TableId) (max_threads limit index next : ℕ) (row larger : List (WordLock Slot CellKey))
    → IsRow home max_threads limit (2 ^ (index + 4)) row → next ≡ index + 1 → IsRow home max_threads limit (2 ^ (next + 4)) larger
    → IsRow home max_threads limit (2 * length row) larger
larger_row home max_threads limit index next row larger is_row follows is_larger =
    let one = pow-add 2 (index + 4) 1 in
    let same : next + 4 ≡ index + 4 + 1 = omega (arith, follows) in
    let power = ap (λ n. 2 ^ n) same in
    let double : 2 ^ (next + 4) ≡ 2 * length row = omega (arith, one, power, is_row.count) in
    subst (λ size. IsRow home max_threads limit size larger) double is_larger

module _ (history : History) (cells : List (WordLock Slot CellKey))
    (row : IsRow (id_of history) (max_threads_of history) (limit_of history) (length cells) cells) where
  -- the lock of the key's place
  pub lock_for : (place key : ℕ) (lock : WordLock Slot CellKey) → IsLockAt place cells lock
      → place_of key (length cells) ≡ place → IsLockFor history key lock
  lock_for place key lock at found =
      let own = at (id_of history) (max_threads_of history) (limit_of history) (length cells) row in
      record {
        for_key = ap (place_of key) own.of_size ∙ found ∙ sym own.at_place;
        for_threads = own.for_threads;
        for_limit = own.for_limit;
        of_lot = own.of_lot;
      }

  -- and its place
  pub place_at : (place : ℕ) (lock : WordLock Slot CellKey) → IsLockAt place cells lock → (key_of lock).place ≡ place
  place_at place lock at = (at (id_of history) (max_threads_of history) (limit_of history) (length cells) row).at_place

  -- those of two places
  pub apart_at : (place other_place : ℕ) (lock other : WordLock Slot CellKey) → IsLockAt place cells lock
      → IsLockAt other_place cells other → place ≢ other_place → AreApart lock other
  apart_at place other_place lock other at other_at apart =
      let own = at (id_of history) (max_threads_of history) (limit_of history) (length cells) row in
      let others = other_at (id_of history) (max_threads_of history) (limit_of history) (length cells) row in
      record {
        size = others.of_size ∙ sym own.of_size;
        places = λ same. apart (sym own.at_place ∙ (sym same ∙ others.at_place));
      }

module _ (home : TableId) (max_threads limit size place : ℕ) (lock : WordLock Slot CellKey)
    (own : IsCellLock home max_threads limit size place lock) (cell : Cell) where
  -- what a place's lock has, and what may be put there
  pub bucket_at : FitsCell (key_of lock) cell → IsBucketAt place size cell.bucket
  bucket_at fits = record {
    place = fits.bucket.place ∙ own.at_place;
    size = fits.bucket.size ∙ own.of_size;
  }

  pub cell_of : FitsCell (key_of lock) cell → IsCell home max_threads limit cell
  cell_of fits = subst (λ (found : TableId). IsCell found max_threads limit cell) own.of_lot
      (subst (λ n. IsCell (home_of (key_of lock).home) max_threads n cell) own.for_limit
      (subst (λ n. IsCell (home_of (key_of lock).home) n (key_of lock).limit cell) own.for_threads fits.own))

  pub fits_lock : IsBucketAt place size cell.bucket → IsCell home max_threads limit cell → FitsCell (key_of lock) cell
  fits_lock at is_cell = record {
    bucket = record {
      place = at.place ∙ sym own.at_place;
      size = at.size ∙ sym own.of_size;
    };
    own = subst (λ n. IsCell (home_of (key_of lock).home) n (key_of lock).limit cell) (sym own.for_threads)
        (subst (λ n. IsCell (home_of (key_of lock).home) max_threads n cell) (sym own.for_limit)
        (subst (λ (found : TableId). IsCell found max_threads limit cell) (sym own.of_lot) is_cell));
  }
