-- A place of a table is two places of one of twice the size.
use Rattle.std.specs.Prelude.{◌≡◌, ℕ, ◌+◌, ◌*◌, ◌<◌, ◌≤◌, ◌^◌, ◌++◌, All, List}
use Rattle.lot_base.specs.NodeFields.{NodeFields}
use Rattle.lot_base.specs.NodeLists.{lists_of}
use Rattle.lot_base.specs.Place.{place_of}

-- the size of a table, where there is one of twice that size
pub record IsHalfSize (size : ℕ) : Type 0 where
  pub bits : ℕ
  pub at_least_4 : 4 ≤ bits
  pub below_16 : bits < 16
  pub is_power : size ≡ 2 ^ bits

-- the nodes of a place are those of its two places in a table of twice the size, and the list of each key is the same
pub record AreHalves (size place : ℕ) (nodes low high : List NodeFields) : Type 0 where
  pub low_place : All (λ node. place_of node.key (2 * size) ≡ 2 * place) low
  pub high_place : All (λ node. place_of node.key (2 * size) ≡ 2 * place + 1) high
  pub lists : (k : ℕ) → lists_of nodes k ≡ lists_of low k ++ lists_of high k
