-- A bucket as contracts see it, and what every bucket and every step of one keeps.
use Rattle.std.specs.Prelude.{◌≡◌, ◌<◌, All, ℕ, List}
use Rattle.lot_base.specs.NodeFields.{NodeFields}
use Rattle.lot_base.specs.Place.{IsTableSize, place_of}

-- its place in a table of that many buckets, and the nodes in it; of their order only that within each key is promised,
-- but that the contracts of `enter` and `pop` tell all of it
pub record BucketState : Type 0 where
  pub place : ℕ
  pub size : ℕ
  pub nodes : List NodeFields

-- every bucket: the keys of all its nodes have its place
pub record IsInPlace (bucket : BucketState) : Type 0 where
  pub table : IsTableSize bucket.size
  pub below : bucket.place < bucket.size
  pub in_place : All (λ node. place_of node.key bucket.size ≡ bucket.place) bucket.nodes

-- the bucket is that of the place p in a table of n buckets
pub record IsBucketAt (p n : ℕ) (bucket : BucketState) : Type 0 where
  pub place : bucket.place ≡ p
  pub size : bucket.size ≡ n

-- every step: the bucket is that of the same place of a table of the same size
pub record KeepsPlace (old new : BucketState) : Type 0 where
  pub place : new.place ≡ old.place
  pub size : new.size ≡ old.size
