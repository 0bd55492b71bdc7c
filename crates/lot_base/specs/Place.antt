-- Where a key stands in a table of buckets.
use Rattle.std.specs.Prelude.{◌≡◌, ℕ, ◌*◌, ◌/◌, ◌%◌, ◌^◌, ◌≤◌}

-- a table has 16, 32, .. or 65,536 buckets
pub record IsTableSize (size : ℕ) : Type 0 where
  pub bits : ℕ
  pub at_least_4 : 4 ≤ bits
  pub at_most_16 : bits ≤ 16
  pub is_power : size ≡ 2 ^ bits

-- the place of a key in a table of this many buckets, which are 2 ^ bits: the highest bits of its product with
-- upstream's multiplier; the contract of `bucket::place` shows that it is below the size
abbrev pub place_of : ℕ → ℕ → ℕ
place_of key size = key * 0x9E3779B97F4A7C15 % 2 ^ 64 / (2 ^ 64 / size)
