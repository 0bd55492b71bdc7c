-- The rule of a `Once`: at most one closure begins.
use Rattle.std.specs.Prelude.{◌≡◌, ℕ, ◌≤◌, Bool, true, false, cond, length, slice_index}
use mathlib.Core.Option.{some}
use lib.ListN.{get_elem?}
use Rattle.atomic_table.specs.Table.{State, Me, Step}
use Rattle.lot_word_lock.specs.WordPlaces.{total}

-- 1 for a caller that has begun, else 0
abbrev pub begun_it : Bool → ℕ
begun_it begun = cond begun 1 0

-- the rule of the word
pub record CountsBegun (s : State (Unit {0}) Bool) : Type 0 where
  pub long : 1 ≤ length s.words
  -- the word says how many callers have begun
  pub word : slice_index s.words 0 ≡ total begun_it s.views
  -- at most one has
  pub one : total begun_it s.views ≤ 1

-- the law: no two callers have begun
abbrev pub BeginsOnce : State (Unit {0}) Bool → Type 0
BeginsOnce s = (i j : ℕ) → get_elem? s.views i ≡ some true → get_elem? s.views j ≡ some true → i ≡ j

-- what the steps on the word tell their caller
abbrev pub Play : Type 1
Play = Step (Unit {0}) → Me (Unit {0}) Bool → ℕ → Me (Unit {0}) Bool → Type 0

abbrev pub ArriveTells : Play
ArriveTells st m r n = n.0 ≡ false

abbrev pub BeginTells : Play
BeginTells st m r n = r ≡ st.first → n.0 ≡ true
