-- The sizes of the tables that the tests have buckets of.
use Rattle.std.proofs.Common.{refl, arith}
use Rattle.lot_base.specs.Place.{IsTableSize}

pub is_table_size_16 : IsTableSize 16
is_table_size_16 = record { bits = 4; at_least_4 = omega arith; at_most_16 = omega arith; is_power = refl }

pub is_table_size_32 : IsTableSize 32
is_table_size_32 = record { bits = 5; at_least_4 = omega arith; at_most_16 = omega arith; is_power = refl }

pub is_table_size_65536 : IsTableSize 65536
is_table_size_65536 = record { bits = 16; at_least_4 = omega arith; at_most_16 = omega arith; is_power = refl }
