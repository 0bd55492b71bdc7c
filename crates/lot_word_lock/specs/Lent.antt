-- A claim on a lock, after a write to the value that it lends.
use Rattle.std.specs.Prelude.{ℕ, List, [], ◌∷◌, Option, None}
use Rattle.atomic_table.specs.Lent.{seat_with}
use Rattle.lot_word_lock.specs.declared.word_lock.Claim.{Claim}

-- what is in the slot that was taken last
abbrev pub last_taken : {T : Type 0} → List (ℕ × Option T) → Option T
last_taken [] = None
last_taken ((slot, inside) ∷ _) = inside

module _ {T K : Type 0} where
  -- what lies in the lock that is claimed
  abbrev pub value_in : Claim T K → Option T
  value_in claim = last_taken claim.caller.seat.me.1

  -- the claim, with this in the lock
  abbrev pub claim_with : Claim T K → Option T → Claim T K
  claim_with claim w = record claim { caller = record claim.caller { seat = seat_with claim.caller.seat 0 w } }
