-- The place of a key in a table of twice the size.
use Rattle.std.proofs.Common.{◌≡◌, ℕ, ◌+◌, ◌-◌, ◌*◌, ◌/◌, ◌%◌, ◌^◌, ◌<◌, sym, ap, ◌∙◌, arith}
use Rattle.std.proofs.Math.Nat.{div-div-eq-div-mul}
use Rattle.std.proofs.lemmas.Nat.{pow-add}
use Rattle.lot_base.specs.Place.{place_of}
use Rattle.lot_base.proofs.PlaceLemmas.{width_of_place}

module _ (key size bits : ℕ) (few : bits < 16) (power : size ≡ 2 ^ bits) where
  abbrev product : ℕ
  product = key * 0x9E3779B97F4A7C15 % 2 ^ 64

  abbrev width : ℕ
  width = 2 ^ (64 - (bits + 1))

  double : 2 * size ≡ 2 ^ (bits + 1)
  double = let one = pow-add 2 bits 1 in omega (arith, one, power)

  narrow : 2 ^ 64 / (2 * size) ≡ width
  narrow = ap (λ n. 2 ^ 64 / n) double ∙ width_of_place (bits + 1) (omega (arith, few))

  wide : 2 ^ 64 / size ≡ width * 2
  wide =
      let longer : 64 - bits ≡ 64 - (bits + 1) + 1 = omega (arith, few) in
      ap (λ n. 2 ^ 64 / n) power
      ∙ (width_of_place bits (omega (arith, few)) ∙ (ap (λ n. 2 ^ n) longer ∙ pow-add 2 (64 - (bits + 1)) 1))

  -- a key's place in a table is half of its place in one of twice as many buckets
  pub place_of-half : place_of key (2 * size) / 2 ≡ place_of key size
  place_of-half = ap (λ n. product / n / 2) narrow
      ∙ (div-div-eq-div-mul product width 2 ∙ ap (λ n. product / n) (sym wide))
