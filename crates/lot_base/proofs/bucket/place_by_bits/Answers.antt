use Rattle.std.proofs.Common.{◌≡◌, ◌^◌, refl}
use Rattle.lot_base.specs.Place.{IsTableSize}
use Rattle.lot_base.proofs.PlaceLemmas.{place-value, place-below}
use Rattle.lot_base.proofs.bucket.place_by_bits.Goals as goal
use Rattle.lot_base.proofs.bucket.place_by_bits.Goals.{Start}

-- a table of so many buckets
abbrev table : (c : Start) → IsTableSize (2 ^ c.args.bits)
table c = record {
  bits = c.args.bits;
  at_least_4 = c.requires.least;
  at_most_16 = c.requires.most;
  is_power = refl;
}

pub returns-clause-value : goal.returns-clause-value
returns-clause-value c = place-value c.args.key (2 ^ c.args.bits) c.args.bits (table c) refl

pub returns-clause-below : goal.returns-clause-below
returns-clause-below c = place-below c.args.key (2 ^ c.args.bits) c.args.bits (table c) refl
