-- No two buckets have one place, since each has the piece of its lists, and no piece is there twice.
use Rattle.std.proofs.Common.{◌≡◌, ℕ, ◌+◌, ◌-◌, ◌*◌, ◌/◌, ◌%◌, ◌^◌, ◌<◌, [], ◌∷◌, sym, ap, ◌∙◌, subst, arith}
use Rattle.std.proofs.Math.Nat.{mul-div_cancel, mul-lt-mul_of_pos_right}
use Rattle.std.proofs.lemmas.Nat.{mod-mul-add, pow-add, pow_pos}
use Rattle.lot_base.specs.BucketState.{BucketState}
use Rattle.lot_base.specs.Place.{IsTableSize, place_of}
use Rattle.lot_base.proofs.PlaceLemmas.{width_of_place}
use Rattle.lot_machine.specs.Machine.{Machine}
use Rattle.lot_history.specs.Moves.{Finds}
use Rattle.lot_history.specs.Pieces.{list, standing_in}
use Rattle.lot_history.proofs.PieceLemmas.{own_list}
use Rattle.lot_threads.specs.Cells.{lists_in}

-- upstream's multiplier and its inverse: their product is 1 and a multiple of 2 ^ 64
multiplied : (x : ℕ) → x * 0xF1DE83E19937733D * 0x9E3779B97F4A7C15 ≡ x * 10771413168148108919 * 2 ^ 64 + x
multiplied x = omega arith

-- each place has a key
module _ (size place : ℕ) (table : IsTableSize size) (below : place < size) where
  abbrev width : ℕ
  width = 2 ^ (64 - table.bits)

  abbrev key : ℕ
  key = place * width * 0xF1DE83E19937733D

  whole : size * width ≡ 2 ^ 64
  whole =
      let split : 2 ^ (table.bits + (64 - table.bits)) ≡ 2 ^ table.bits * width = pow-add 2 table.bits (64 - table.bits) in
      let all : table.bits + (64 - table.bits) ≡ 64 = omega (arith, table.at_most_16) in
      ap (λ n. n * width) table.is_power ∙ (sym split ∙ ap (λ n. 2 ^ n) all)

  fits : place * width < 2 ^ 64
  fits =
      let smaller : place * width < size * width = mul-lt-mul_of_pos_right below (pow_pos (64 - table.bits)) in
      subst (λ n. place * width < n) whole smaller

  is_there : place_of key size ≡ place
  is_there =
      ap (λ n. n % 2 ^ 64 / (2 ^ 64 / size)) (multiplied (place * width))
      ∙ (ap (λ n. n / (2 ^ 64 / size)) (mod-mul-add (place * width * 10771413168148108919) (2 ^ 64) (place * width) fits)
      ∙ (ap (λ n. place * width / n) (ap (λ n. 2 ^ 64 / n) table.is_power ∙ width_of_place table.bits table.at_most_16)
      ∙ mul-div_cancel place (pow_pos (64 - table.bits))))

-- so no machine is as two buckets of one place say
pub none_twice : (max_threads limit : ℕ) (one other : BucketState) → IsTableSize one.size → one.place < one.size
    → other.size ≡ one.size → other.place ≡ one.place → (m : Machine)
    → Finds max_threads (lists_in limit one ∷ lists_in limit other ∷ []) m → ⊥
none_twice max_threads limit one other table below same_size same_place m finds =
    let k = key one.size one.place table below in
    let here = is_there one.size one.place table below in
    let there : place_of k other.size ≡ other.place =
    ap (λ n. place_of k n) same_size ∙ (here ∙ sym same_place) in
    let first = own_list k one.size one.place (standing_in one.nodes) here in
    let second = own_list k other.size other.place (standing_in other.nodes) there in
    omega (arith, finds.once (list k), first, second)
