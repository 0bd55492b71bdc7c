-- Thread numbers, and which of them are registered.
use Rattle.std.specs.Prelude.{◌≡◌, ℕ, ◌<◌, Bool, true, false, List, count_by, slice_get, Some}
use Rattle.lot_machine.specs.declared.numbers.Use.{Use}
use Rattle.lot_machine.specs.declared.numbers.Use.TheVariants.{Free, Registered}

-- whether a number is in use
abbrev pub is_in_use : Use → Bool
is_in_use Free = false
is_in_use Registered = true

-- whether nobody has the number
abbrev pub is_free : Use → Bool
is_free Free = true
is_free Registered = false

-- how many numbers are registered
abbrev pub count_registered : List Use → ℕ
count_registered numbers = count_by is_in_use numbers

-- all numbers below this one are registered
abbrev pub AreRegisteredBelow : List Use → ℕ → Type 0
AreRegisteredBelow numbers number = (k : ℕ) → k < number → slice_get numbers k ≡ Some Registered

-- the number is free, and all below it are registered
pub record IsLeastUnregistered (numbers : List Use) (number : ℕ) : Type 0 where
  pub free : slice_get numbers number ≡ Some Free
  pub least : AreRegisteredBelow numbers number
