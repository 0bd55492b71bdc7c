-- How large a row is, and which comes into use: the table's size follows the threads that are registered.
use Rattle.std.proofs.Common.{◌≡◌, ℕ, ◌+◌, ◌*◌, ◌^◌, ◌<◌, ◌≤◌, ap, ⊎_elim, arith}
use Rattle.std.proofs.Math.Nat.{pow-le-pow_right}
use Rattle.std.proofs.lemmas.Bool.{cases_lt}
use Rattle.std.proofs.lemmas.Nat.{pow-add}
use Rattle.lot_base.specs.Place.{IsTableSize}
use Rattle.lot_machine.specs.Size.{IsSizeFor}
use Rattle.lot_threads.specs.Halves.{IsHalfSize}

-- the next row has twice the size
pub next_size : (index next : ℕ) → next ≡ index + 1 → 2 ^ (next + 4) ≡ 2 * 2 ^ (index + 4)
next_size index next follows =
    let one = pow-add 2 (index + 4) 1 in
    let same : next + 4 ≡ index + 4 + 1 = omega (arith, follows) in
    let power = ap (λ n. 2 ^ n) same in
    omega (arith, one, power)

pub least_size : (index : ℕ) → 16 ≤ 2 ^ (index + 4)
least_size index =
    let least : 2 ^ 4 ≤ 2 ^ (index + 4) = pow-le-pow_right {n = 2} (omega arith) {i = 4} {j = index + 4} (omega arith) in
    omega (arith, least)

pub half_size : (index size : ℕ) → index + 1 < 13 → size ≡ 2 ^ (index + 4) → IsHalfSize size
half_size index size below is = record {
  bits = index + 4;
  at_least_4 = omega arith;
  below_16 = omega (arith, below);
  is_power = is;
}

-- a row that is too small for one thread more is not the last
pub too_small : (index threads : ℕ) → threads ≤ 16384 → 2 ^ (index + 4) < 3 * (threads + 1) → index + 1 < 13
too_small index threads few small =
    ⊎_elim (λ (h : index < 12). omega (arith, h))
    (λ (h : 12 ≤ index). absurd (let most : 2 ^ 16 ≤ 2 ^ (index + 4) =
    pow-le-pow_right {n = 2} (omega arith) {i = 16} {j = index + 4} (omega (arith, h)) in
    omega (arith, most, few, small)))
    (cases_lt index 12)

module _ (threads old new : ℕ) where
  -- the size for one thread more: the same, or twice that
  pub size_kept : 3 * (threads + 1) ≤ old → new ≡ old → IsSizeFor (threads + 1) old new
  size_kept enough same = record { kept = λ _. same; grown = λ small. absurd (omega (arith, enough, small)) }

  module _ (index next : ℕ) (old_is : old ≡ 2 ^ (index + 4)) (follows : next ≡ index + 1) (new_is : new ≡ 2 ^ (next + 4))
      (room : 3 * threads ≤ old) where
    pub room_doubled : 3 * (threads + 1) ≤ new
    room_doubled =
        let twice = next_size index next follows in
        let least = least_size index in
        omega (arith, twice, least, old_is, new_is, room)

    pub size_doubled : old < 3 * (threads + 1) → IsSizeFor (threads + 1) old new
    size_doubled small =
        let twice = next_size index next follows in
        record {
          kept = λ enough. absurd (omega (arith, enough, small));
          grown = λ _. record {
            is_power = (next + 4, new_is);
            not_below = room_doubled;
            least = omega (arith, twice, old_is, new_is, small);
          };
        }

-- a row that is larger than a table of this size is not the first, and half of it is large enough
pub too_large : (size index : ℕ) → IsTableSize size → size < 2 ^ (index + 4)
    → (0 < index) × (2 * size ≤ 2 ^ (index + 4))
too_large size index table large =
    let bits = table.bits in
    let below : bits < index + 4 =
    ⊎_elim (λ (h : bits < index + 4). h)
    (λ (h : index + 4 ≤ bits). absurd (let above = pow-le-pow_right {n = 2} (omega arith) {i = index + 4} {j = bits} h in
    omega (arith, above, large, table.is_power)))
    (cases_lt bits (index + 4)) in
    let most : 2 ^ (bits + 1) ≤ 2 ^ (index + 4) =
    pow-le-pow_right {n = 2} (omega arith) {i = bits + 1} {j = index + 4} (omega (arith, below)) in
    let one = pow-add 2 bits 1 in
    (omega (arith, below, table.at_least_4), omega (arith, most, one, table.is_power))
