-- Thread numbers, and the sizes of tables.
use Rattle.std.proofs.Common.{◌≡◌, ℕ, ◌+◌, ◌/◌, ◌^◌, ◌<◌, ◌≤◌, List, [], ◌∷◌, length, get_or, max, min, slice_get, slice_set}
use Rattle.std.proofs.Common.{◌≢◌, Some, refl, sym, ap, ◌∙◌, ◌*◌, subst, ⊎_elim, arith, suc, zero, cond}
use Rattle.std.proofs.Math.Nat.{pow-le-pow_right}
use Rattle.std.proofs.Math.ListN.{length-set}
use Rattle.std.proofs.lemmas.Bool.{cases_eq, cases_lt}
use Rattle.std.proofs.lemmas.List.{get_or-set_other, get_or-set_same}
use Rattle.std.proofs.lemmas.Nat.{pow_below}
use Rattle.std.proofs.lemmas.List.Sums.{count_by-le-length, sum_by-cons, sum_by-set}
use Rattle.std.proofs.lemmas.Option.{none-some, get_or_from_slice_get, slice_get_read, slice_get_within}
use Rattle.std.specs.Int.{IsPowerOfTwo}
use Rattle.lot_base.specs.Place.{IsTableSize}
use Rattle.lot_base.proofs.PlaceLemmas.{exponent_of_power}
use Rattle.lot_machine.specs.declared.numbers.Use.{Use}
use Rattle.lot_machine.specs.declared.numbers.Use.TheVariants.{Free, Registered}
use Rattle.lot_machine.specs.Size.{IsNextPowerOfTwo, IsTrimmedSize, IsTooLarge}
use Rattle.lot_machine.specs.Numbers.{is_in_use, count_registered, AreRegisteredBelow, IsLeastUnregistered}

-- one number more, and what is counted then
count-free : (numbers : List Use) → count_registered (Free ∷ numbers) ≡ count_registered numbers
count-free numbers = refl

count-registered : (numbers : List Use) → count_registered (Registered ∷ numbers) ≡ 1 + count_registered numbers
count-registered numbers = sum_by-cons (λ number. cond (is_in_use number) 1 0) Registered numbers

-- all numbers are registered, or one is free
pub count_registered-all : (numbers : List Use) → ((k : ℕ) → k < length numbers → slice_get numbers k ≡ Some Registered)
    → count_registered numbers ≡ length numbers
count_registered-all [] all = refl
count_registered-all (Registered ∷ numbers) all =
    let rest = count_registered-all numbers (λ k low. all (suc k) (omega arith)) in
    omega (arith, count-registered numbers)
count_registered-all (Free ∷ numbers) all = absurd (let e = all 0 (omega arith) in cc)

count_registered-most : (numbers : List Use) → count_registered numbers ≤ length numbers
count_registered-most numbers = count_by-le-length is_in_use numbers

pub count_registered-free : (numbers : List Use) (k : ℕ) → slice_get numbers k ≡ Some Free
    → count_registered numbers < length numbers
count_registered-free [] k free = absurd (none-some Free free)
count_registered-free (Free ∷ numbers) k free =
    omega (arith, count-free numbers, count_registered-most numbers)
count_registered-free (Registered ∷ numbers) zero free = absurd cc
count_registered-free (Registered ∷ numbers) (suc k) free =
    omega (arith, count-registered numbers, count_registered-free numbers k free)

-- a free number is registered
pub count_registered-set : (numbers : List Use) (k : ℕ) → slice_get numbers k ≡ Some Free
    → count_registered (slice_set numbers k Registered) ≡ count_registered numbers + 1
count_registered-set numbers k free =
    let weight : Use → ℕ = λ number. cond (is_in_use number) 1 0 in
    let was : weight (get_or numbers k Free) ≡ 0 = ap weight (get_or_from_slice_get numbers k Free Free free) in
    omega (arith, was, sum_by-set weight numbers k Registered Free (slice_get_within numbers k Free free))

-- a number keeps being registered where another is changed, and where it is registered itself
registered-other : (numbers : List Use) (number k : ℕ) (now : Use) → k ≢ number → slice_get numbers k ≡ Some Registered
    → slice_get (slice_set numbers number now) k ≡ Some Registered
registered-other numbers number k now other registered =
    slice_get_read (slice_set numbers number now) (length numbers) k Registered (sym (length-set numbers number now))
    (slice_get_within numbers k Registered registered)
    (sym (get_or-set_other numbers number k now Registered other
    ∙ get_or_from_slice_get numbers k Registered Registered registered))

registered-same : (numbers : List Use) (number : ℕ) → slice_get numbers number ≡ Some Free
    → slice_get (slice_set numbers number Registered) number ≡ Some Registered
registered-same numbers number free =
    let low = slice_get_within numbers number Free free in
    slice_get_read (slice_set numbers number Registered) (length numbers) number Registered
    (sym (length-set numbers number Registered)) low (sym (get_or-set_same numbers number Registered Registered low))

-- the least free number is registered: all up to it are then
pub AreRegisteredBelow-registered : (numbers : List Use) (number : ℕ) → IsLeastUnregistered numbers number
    → AreRegisteredBelow (slice_set numbers number Registered) (number + 1)
AreRegisteredBelow-registered numbers number least k low =
    ⊎_elim
    (λ (here : k ≡ number). subst (λ j. slice_get (slice_set numbers number Registered) j ≡ Some Registered) (sym here)
    (registered-same numbers number least.free))
    (λ (other : k ≢ number). registered-other numbers number k Registered other
    (least.least k (omega (arith, other, low))))
    (cases_eq k number)

-- a number is freed: all below it stay registered
pub AreRegisteredBelow-freed : (numbers : List Use) (number from : ℕ) → AreRegisteredBelow numbers from
    → AreRegisteredBelow (slice_set numbers number Free) (min from number)
AreRegisteredBelow-freed numbers number from below k low =
    registered-other numbers number k Free (λ same. absurd (omega (arith, same, low))) (below k (omega (arith, low)))

-- a power of two of this range is the size of a table; the first from 9 on is 16
pub IsTableSize-power : (size : ℕ) → IsPowerOfTwo size → 9 ≤ size → size < 131072 → IsTableSize size
IsTableSize-power size power low high = record {
  bits = power.0;
  at_least_4 = ⊎_elim (λ (h : power.0 < 4). absurd (let p = pow-le-pow_right {n = 2} (omega arith) {i = power.0} {j = 3} (omega arith)
      in omega (arith, power.1))) (λ (h : 4 ≤ power.0). h) (cases_lt power.0 4);
  at_most_16 = ⊎_elim (λ (h : 16 < power.0). absurd (let p = pow-le-pow_right {n = 2} (omega arith) {i = 17} {j = power.0} h
      in omega (arith, power.1))) (λ (h : power.0 ≤ 16). h) (cases_lt 16 power.0);
  is_power = power.1;
}

pub IsTableSize-least : (size : ℕ) → IsTableSize size → 16 ≤ size
IsTableSize-least size table =
    ⊎_elim (λ (h : 4 < table.bits). let p = pow_below 4 table.bits h in omega (arith, table.is_power))
    (λ (h : table.bits ≤ 4). let e : table.bits ≡ 4 = omega (arith, table.at_least_4) in
    omega (arith, table.is_power ∙ ap (λ n. 2 ^ n) e))
    (cases_lt 4 table.bits)

pub IsTableSize-greatest : (size : ℕ) → IsTableSize size → size ≤ 65536
IsTableSize-greatest size table =
    let p = pow-le-pow_right {n = 2} (omega arith) {i = table.bits} {j = 16} table.at_most_16 in omega (arith, table.is_power)

-- the next power of two after so many buckets is the size of a table
pub IsTableSize-grown : (old wanted size : ℕ) → IsTableSize old → old < wanted → wanted ≤ 49152 → IsPowerOfTwo size
    → wanted ≤ size → size / 2 < max 1 wanted → IsTableSize size
IsTableSize-grown old wanted size table more few power not_below least =
    let low = IsTableSize-least old table in IsTableSize-power size power (omega arith) (omega arith)

-- and so is the smaller of the size of a table and a power of two from 9 on
pub IsTableSize-trimmed : (size least : ℕ) → IsTableSize size → IsPowerOfTwo least → 9 ≤ least
    → IsTableSize (min least size)
IsTableSize-trimmed size least table power above =
    ⊎_elim (λ (h : size < least). let e : min least size ≡ size = omega arith in rw e table)
    (λ (h : least ≤ size). let e : min least size ≡ least = omega arith in
    rw e (IsTableSize-power least power above (omega (arith, h, IsTableSize-greatest size table))))
    (cases_lt size least)

-- two next powers of two, the one not above the other
IsNextPowerOfTwo-ordered : (n new other : ℕ) → IsNextPowerOfTwo n new → IsNextPowerOfTwo n other → new ≤ other
    → new ≡ other
IsNextPowerOfTwo-ordered n new other is is_other below =
    let (bits, power) = is.is_power in
    let (other_bits, other_power) = is_other.is_power in
    let above : 2 ^ other_bits < 2 * 2 ^ bits = omega (arith, is.not_below, is_other.least, power, other_power) in
    let same : bits ≡ other_bits = exponent_of_power other_bits bits (omega (arith, below, power, other_power)) above in
    power ∙ ap (λ b. 2 ^ b) same ∙ sym other_power

pub IsNextPowerOfTwo-fixes : (n new other : ℕ) → IsNextPowerOfTwo n new → IsNextPowerOfTwo n other → new ≡ other
IsNextPowerOfTwo-fixes n new other is is_other =
    ⊎_elim (λ (h : other < new). sym (IsNextPowerOfTwo-ordered n other new is_other is (omega (arith, h))))
    (λ (h : new ≤ other). IsNextPowerOfTwo-ordered n new other is is_other h)
    (cases_lt other new)

-- there is one size that a trim gives, and it is smaller where the table is too large, and there alone
pub IsTrimmedSize-fixes : (threads old new other : ℕ) → IsTrimmedSize threads old new → IsTrimmedSize threads old other
    → new ≡ other
IsTrimmedSize-fixes threads old new other (least, is_least, new_is) (another, is_another, other_is) =
    new_is ∙ ap (λ n. min n old) (IsNextPowerOfTwo-fixes (3 * max threads 3) least another is_least is_another)
    ∙ sym other_is

pub IsTooLarge-smaller : (threads old new : ℕ) → IsTrimmedSize threads old new → new < old → IsTooLarge threads old
IsTooLarge-smaller threads old new (least, is_least, new_is) below = (least, is_least, omega (arith, new_is, below))

pub smaller-IsTooLarge : (threads old new : ℕ) → IsTrimmedSize threads old new → IsTooLarge threads old → new < old
smaller-IsTooLarge threads old new (least, is_least, new_is) (another, is_another, above) =
    let same = IsNextPowerOfTwo-fixes (3 * max threads 3) least another is_least is_another in
    omega (arith, new_is, same, above)
