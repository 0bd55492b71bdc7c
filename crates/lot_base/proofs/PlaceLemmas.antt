-- Powers of two, and the place of a key.
use Rattle.std.proofs.Common.{refl, ◌≡◌, ℕ, ◌+◌, ◌-◌, ◌*◌, ◌/◌, ◌%◌, ◌^◌, ◌<◌, ◌≤◌, sym, ap, ◌∙◌, subst, arith}
use Rattle.std.proofs.lemmas.Nat.{pow-add, pow_below, shl-shr, shr_below, mod_below, pow_pos}
use Rattle.std.proofs.lemmas.Bool.{cases_lt}
use Rattle.std.proofs.Common.{⊎_elim}
use Rattle.lot_base.specs.Place.{IsTableSize, place_of}

-- the power that is not above a power of two, and whose double is, is that power
pub exponent_of_power : (bits log : ℕ) → 2 ^ log ≤ 2 ^ bits → 2 ^ bits < 2 * 2 ^ log → log ≡ bits
exponent_of_power bits log le gt =
    ⊎_elim (λ (h : log < bits). absurd (higher h))
    (λ (h : bits ≤ log). ⊎_elim (λ (k : bits < log). absurd (lower k)) (λ (k : log ≤ bits). omega arith)
    (cases_lt bits log))
    (cases_lt log bits)
  where
    lower : bits < log → ⊥
    lower h = let p = pow_below bits log h in omega arith

    next : log < bits → 2 ^ (log + 1) ≤ 2 ^ bits
    next h = ⊎_elim (λ (k : log + 1 < bits). let p = pow_below (log + 1) bits k in omega arith)
        (λ (k : bits ≤ log + 1). let e : log + 1 ≡ bits = omega arith in
        let p : 2 ^ (log + 1) ≡ 2 ^ bits = ap (λ n. 2 ^ n) e in omega arith) (cases_lt (log + 1) bits)

    higher : log < bits → ⊥
    higher h = let p = next h in let q = pow-add 2 log 1 in omega arith

-- dividing 2 ^ 64 by a table's size
pub width_of_place : (bits : ℕ) → bits ≤ 16 → 2 ^ 64 / 2 ^ bits ≡ 2 ^ (64 - bits)
width_of_place bits h =
    let split : 2 ^ (64 - bits + bits) ≡ 2 ^ (64 - bits) * 2 ^ bits = pow-add 2 (64 - bits) bits in
    let whole : 64 - bits + bits ≡ 64 = omega arith in
    let e : 2 ^ 64 ≡ 2 ^ (64 - bits) * 2 ^ bits = ap (λ n. 2 ^ n) (sym whole) ∙ split in
    ap (λ n. n / 2 ^ bits) e ∙ shl-shr (2 ^ (64 - bits)) bits

pub place-value : (key size log : ℕ) → (table : IsTableSize size) → log ≡ table.bits
    → key * 0x9E3779B97F4A7C15 % 2 ^ 64 / 2 ^ (64 - log) ≡ place_of key size
place-value key size log table e =
    ap (λ n. key * 0x9E3779B97F4A7C15 % 2 ^ 64 / n)
    (ap (λ n. 2 ^ (64 - n)) e ∙ sym (width_of_place table.bits table.at_most_16)
    ∙ ap (λ n. 2 ^ 64 / n) (sym table.is_power))

pub place-below : (key size log : ℕ) → (table : IsTableSize size) → log ≡ table.bits
    → key * 0x9E3779B97F4A7C15 % 2 ^ 64 / 2 ^ (64 - log) < size
place-below key size log table e =
    let whole : log + (64 - log) ≡ 64 = omega (arith, table.at_most_16) in
    let fits : key * 0x9E3779B97F4A7C15 % 2 ^ 64 < 2 ^ (log + (64 - log)) = let P : ℕ → Type 0 =
    λ n. key * 0x9E3779B97F4A7C15 % 2 ^ 64 < 2 ^ n in
    subst P (sym whole) (mod_below (key * 0x9E3779B97F4A7C15) (2 ^ 64) (pow_pos 64)) in
    let below : key * 0x9E3779B97F4A7C15 % 2 ^ 64 / 2 ^ (64 - log) < 2 ^ log =
    shr_below (key * 0x9E3779B97F4A7C15 % 2 ^ 64) log (64 - log) fits in
    let P : ℕ → Type 0 = λ n. key * 0x9E3779B97F4A7C15 % 2 ^ 64 / 2 ^ (64 - log) < n in
    subst P (ap (λ n. 2 ^ n) e ∙ sym table.is_power) below

-- a place is in its table
pub place_of-below : (key size : ℕ) → IsTableSize size → place_of key size < size
place_of-below key size table =
    let P : ℕ → Type 0 = λ n. n < size in
    subst P (place-value key size table.bits table refl) (place-below key size table.bits table refl)
