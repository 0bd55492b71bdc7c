-- Definitions that are not unfolded elsewhere, since they compute far.
use Rattle.std.proofs.Common.{◌≡◌, ℕ, length, refl}
use Rattle.lot_litmus.specs.Steps.{local_bound, decisions_of, decisions_on}

pub local_bound-is : local_bound ≡ 256
unfolding local_bound
local_bound-is = refl

pub decisions_on-is : (chosen : ℕ) → decisions_of 8 chosen ≡ decisions_on chosen
unfolding decisions_on
decisions_on-is chosen = refl

pub length-decisions_on : (chosen : ℕ) → length (decisions_on chosen) ≡ 8
unfolding decisions_on
length-decisions_on chosen = refl
