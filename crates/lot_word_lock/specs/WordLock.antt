-- A word lock and its callers as contracts see them.
use Rattle.std.specs.Prelude.{◌≡◌, ◌+◌, ◌*◌, ◌≤◌, ℕ, Bool, List, ◌∷◌, [], length, Option, None, Some}
use Rattle.atomic_table.specs.Table.{Me}
use Rattle.lot_word_lock.specs.declared.word_lock.view.View.{View}
use Rattle.lot_word_lock.specs.declared.word_lock.view.View.TheVariants.{Trying, Holding}
use Rattle.lot_word_lock.specs.declared.word_lock.WordLock.{WordLock}
use Rattle.lot_word_lock.specs.declared.word_lock.Claim.{Claim}
use Rattle.lot_word_lock.specs.declared.word_lock.Held.{Held}
use Rattle.lot_word_lock.specs.declared.word_lock.steps.Caller.{Caller}
use Rattle.lot_word_lock.specs.WordLockInvariant.{IsHolder}
use Rattle.lot_word_lock.specs.WordPlaces.{IsPlace}
use Rattle.lot_word_lock.specs.WordView.{owed_by}
use Rattle.lot_word_lock.specs.WordKey.{without_key}

-- a step that may remove a place: its caller holds the lock and had removed none since it took it, and removes one at most
pub record RemovesOnce (old new : View) : Type 0 where
  pub holder : IsHolder old
  pub none_before : owed_by old ≡ []
  pub one : length (owed_by new) ≤ 1

module _ {T K : Type 0} where
  -- the key that the lock was made with
  abbrev pub key_of : WordLock T K → K
  key_of lock = lock.table.shared.key

  -- the caller is one of this lock, and carries its key
  pub record IsCallerOf (lock : WordLock T K) (caller : Caller T K) : Type 0 where
    pub table : caller.seat.table_id ≡ lock.table.shared.table_id
    pub carried : caller.seat.me.0.0 ≡ key_of lock

  -- what the caller knows, and the slots that are out with it, each with what is in it
  abbrev pub seat_of : Caller T K → Me (Option T) View
  seat_of caller = without_key caller.seat.me

  -- it is what `lock` of this lock gave: a caller that holds the lock, and has the slot, whose value was taken from it
  abbrev pub IsHeldOf : WordLock T K → Held T K → Type 0
  IsHeldOf lock held = IsCallerOf lock held.caller × (seat_of held.caller ≡ (Holding [] [], (0, None) ∷ []))

  -- the caller has this place, or none at 0, whose link says n, and does not wait with it
  abbrev pub IsTrying : Caller T K → ℕ → ℕ → Type 0
  IsTrying caller p n = (woken : Bool) × (seat_of caller ≡ (Trying woken p n, []))

  -- the caller has the slot, and in it a value that fits
  abbrev pub HasFullSlot : (T → Type 0) → Caller T K → Type 0
  HasFullSlot fits caller = (value : T) × ((seat_of caller).1 ≡ (0, Some value) ∷ []) × fits value

  -- it is what `claim` of this lock gave: a caller that holds the lock, and has the slot with a value that fits
  pub record IsClaimOn (fits : T → Type 0) (lock : WordLock T K) (claim : Claim T K) : Type 0 where
    pub of_lock : IsCallerOf lock claim.caller
    pub holds : (seat_of claim.caller).0 ≡ Holding [] []
    pub home : HasFullSlot fits claim.caller

  -- the slot is out with the caller exactly if it holds the lock
  pub record SlotIsWithHolder (caller : Caller T K) : Type 0 where
    pub holder : IsHolder (seat_of caller).0 → (inside : Option T) × ((seat_of caller).1 ≡ (0, inside) ∷ [])
    pub other : ¬ IsHolder (seat_of caller).0 → (seat_of caller).1 ≡ []

  -- the caller holds the lock and has seen these places, the oldest of the list, newest first
  abbrev pub Sees : Caller T K → List ℕ → Type 0
  Sees caller places = (seat_of caller).0 ≡ Holding places []

  -- the caller holds the lock and has seen the list from the place on that this word tells, with n or more behind it
  abbrev pub SeesMore : Caller T K → ℕ → ℕ → Type 0
  SeesMore caller n word = (newest : ℕ) × (older : List ℕ) × Sees caller (newest ∷ older) × (word ≡ 1 + 2 * newest)
      × IsPlace newest × (n ≤ length older)
