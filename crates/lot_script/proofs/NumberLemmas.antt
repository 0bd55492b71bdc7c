-- Numbers in decimal, read digit by digit.
use Rattle.std.proofs.Common.{◌≡◌, ◌≢◌, ℕ, zero, ◌<◌, ◌≤◌, ◌+◌, ◌-◌, ◌*◌, ◌^◌, List, [], ◌∷◌, length, drop, get_or, refl, sym, ap, ◌∙◌, subst, suc, arith}
use Rattle.std.proofs.Math.Seq.{drop-cons}
use Rattle.std.proofs.Math.ListN.{drop_of_length-le}
use Rattle.std.specs.Prelude.{decimal}
use Rattle.std.specs.Int.{IsInRange}
use Rattle.std.proofs.lemmas.Str.Parse.{IsNumeralModel, numerals_by_fold, tells_by_index}
use Rattle.std.proofs.lemmas.Fmt.{digits_decimal, digits_value-decimal, decimal-digits_value, decimal_digit, first_decimal}

-- the number that digits give behind a number
abbrev pub value_behind : ℕ → List ℕ → ℕ
value_behind n [] = n
value_behind n (byte ∷ bytes) = value_behind (n * 10 + (byte - 48)) bytes

abbrev pub AreDigits : List ℕ → Type 0
AreDigits bytes = (i : ℕ) → i < length bytes → IsInRange 48 57 (get_or bytes i 0)

model : IsNumeralModel AreDigits (value_behind 0)
model = numerals_by_fold AreDigits tells_by_index value_behind record { empty = λ n. refl; more = λ n c cs digit. refl }

value_behind-le : (bytes : List ℕ) (n : ℕ) → n ≤ value_behind n bytes
value_behind-le [] n = omega arith
value_behind-le (byte ∷ bytes) n = omega (arith, value_behind-le bytes (n * 10 + (byte - 48)))

-- one more digit
value_behind-more : (bytes : List ℕ) (i n digit : ℕ) → i < length bytes → get_or bytes i 0 ≡ 48 + digit
    → value_behind n (drop i bytes) ≡ value_behind (n * 10 + digit) (drop (i + 1) bytes)
value_behind-more bytes i n digit within is =
    let next : i + 1 ≡ suc i = omega arith in
    let same : get_or bytes i 0 - 48 ≡ digit = omega arith in
    ap (value_behind n) (drop-cons bytes i 0 within)
    ∙ ap (λ d. value_behind (n * 10 + d) (drop (suc i) bytes)) same
    ∙ ap (λ j. value_behind (n * 10 + digit) (drop j bytes)) (sym next)

-- a number's digits are digits, and give it
decimal-digits : (n : ℕ) (bytes : List ℕ) → n < 2 ^ 64 → bytes ≡ decimal n → AreDigits bytes
decimal-digits n bytes fits is = subst AreDigits (sym is) (digits_decimal model n fits)

decimal-value : (n : ℕ) (bytes : List ℕ) → n < 2 ^ 64 → bytes ≡ decimal n → value_behind 0 bytes ≡ n
decimal-value n bytes fits is = ap (value_behind 0) is ∙ digits_value-decimal model n fits

-- so each of its bytes is a digit
pub digit_at : (n : ℕ) (bytes : List ℕ) (i : ℕ) → n < 2 ^ 64 → bytes ≡ decimal n → i < length bytes
    → IsInRange 48 57 (get_or bytes i 0)
digit_at n bytes i fits is within = decimal-digits n bytes fits is i within

-- and the first of them give no more
pub front-le : (n : ℕ) (bytes : List ℕ) (i front digit : ℕ) → n < 2 ^ 64 → bytes ≡ decimal n → i < length bytes
    → get_or bytes i 0 ≡ 48 + digit → value_behind front (drop i bytes) ≡ value_behind 0 bytes → front * 10 + digit ≤ n
front-le n bytes i front digit fits is within at value =
    omega (
      arith,
      value_behind-le (drop (i + 1) bytes) (front * 10 + digit),
      value_behind-more bytes i front digit within at,
      value,
      decimal-value n bytes fits is,
    )

-- zero is the only number that begins with a zero
pub zero_alone : (n : ℕ) (rest : List ℕ) → n < 2 ^ 64 → 48 ∷ rest ≡ decimal n → rest ≡ []
zero_alone zero rest fits is = ap (drop 1) (is ∙ decimal_digit 0 (omega arith))
zero_alone (suc n) rest fits is =
    absurd (omega (arith, first_decimal (suc n) (omega arith) fits, ap (λ l. get_or l 0 0) is))

-- digits that begin with no zero are those of the number that they give
pub decimal_of : (bytes rest : List ℕ) (first i n : ℕ) → bytes ≡ first ∷ rest → first ≢ 48 → length bytes ≤ i
    → value_behind n (drop i bytes) ≡ value_behind 0 bytes
    → ((k : ℕ) → k < i → IsInRange 48 57 (get_or bytes k 0)) → n < 2 ^ 64 → bytes ≡ decimal n
decimal_of bytes rest first i n cut other past value digits fits =
    let same : n ≡ value_behind 0 bytes = sym (ap (value_behind n) (drop_of_length-le bytes {i = i} past)) ∙ value in
    let small : value_behind 0 bytes < 2 ^ 64 = omega arith in
    sym (ap decimal same ∙ decimal-digits_value model bytes (λ k within. digits k (omega arith))
    (omega (arith, ap length cut)) (λ zero. absurd (other (sym (ap (λ l. get_or l 0 0) cut) ∙ zero))) small)
