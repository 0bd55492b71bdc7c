-- Rows of buckets, and what every table keeps.
use Rattle.std.specs.Prelude.{◌≡◌, ℕ, ◌*◌, ◌<◌, ◌≤◌, List, length, map, []}
use Rattle.lot_base.specs.BucketState.{BucketState}
use Rattle.lot_base.specs.NodeFields.{NodeFields}
use Rattle.lot_base.specs.NodeLists.{with_token}
use Rattle.lot_base.specs.Place.{IsTableSize}
use Rattle.lot_base.specs.Waiting.{Split, with_value}
use Rattle.lot_base.specs.declared.token.UnparkToken.{UnparkToken}
use Rattle.lot_machine.specs.Numbers.{count_registered}
use Rattle.lot_simulator.specs.Represents.{bucket_at, nodes_in, waiters_in, Represents}
use Rattle.lot_simulator.specs.TableState.{TableState}

-- a row of so many buckets, each at its own place
pub record IsRowOf (size : ℕ) (row : List BucketState) : Type 0 where
  pub count : length row ≡ size
  pub places : (i : ℕ) → i < size → (bucket_at row i).place ≡ i
  pub sizes : (i : ℕ) → i < size → (bucket_at row i).size ≡ size

-- buckets of a table of this size, each empty and at its own place
abbrev pub AreEmpty : ℕ → List BucketState → Type 0
AreEmpty size row = (i : ℕ) → i < length row → bucket_at row i ≡ record { place = i; size = size; nodes = [] }

-- a row after a step: the nodes of each key, all in place
pub record IsRowStep (row new : List BucketState) (lists : ℕ → List NodeFields) : Type 0 where
  pub count : length new ≡ length row
  pub nodes : (k : ℕ) → nodes_in new k ≡ lists k
  pub represents : Represents new (waiters_in new)

-- some of the nodes of a key were taken out of a row, and have a token, and the others are left
pub record IsTakenFrom (row new : List BucketState) (key : ℕ) (split : Split NodeFields) (token : UnparkToken)
    (taken : List NodeFields) : Type 0 where
  pub rows : IsRowStep row new (with_value (nodes_in row) key split.left)
  pub nodes : taken ≡ map (with_token token) split.taken

-- the new row has the nodes of each key as the old one had, and represents what the old one represented
pub record KeepsLists (old new : List BucketState) : Type 0 where
  pub nodes : (key : ℕ) → nodes_in new key ≡ nodes_in old key
  pub represents : (lists : _) → Represents old lists → Represents new lists

-- what every table keeps
pub record IsTable (table : TableState) : Type 0 where
  pub size : IsTableSize (length table.cells)
  pub room : 3 * count_registered table.numbers ≤ length table.cells
  pub row : IsRowOf (length table.cells) table.cells
