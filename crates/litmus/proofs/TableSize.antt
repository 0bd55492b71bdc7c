-- The size of the table by which the keys of a lot are chosen.
use Rattle.std.proofs.Common.{refl, arith}
use Rattle.lot_base.specs.Place.{IsTableSize}

pub is_table_size_64 : IsTableSize 64
is_table_size_64 = record { bits = 6; at_least_4 = omega arith; at_most_16 = omega arith; is_power = refl }
