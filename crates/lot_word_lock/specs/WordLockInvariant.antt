-- What holds of a word lock between any two steps of all its callers.
use Rattle.std.specs.Prelude.{◌≡◌, ◌≢◌, ◌⊎◌, ◌↔◌, ⊤, ℕ, ◌/◌, ◌%◌, ◌≤◌, true, List, [], length, Contains, slice_index}
use Rattle.std.specs.Prelude.{Option, Some}
use mathlib.Core.Option.{some, none}
use mathlib.Core.Option as maybe
use lib.ListN.{get_elem?}
use Rattle.atomic_table.specs.Table.{State}
use Rattle.lot_word_lock.specs.declared.word_lock.view.View.{View}
use Rattle.lot_word_lock.specs.declared.word_lock.view.View.TheVariants.{Trying, Enqueued, Holding, Leaving}
use Rattle.lot_word_lock.specs.WordPlaces.{AllPlaces, times, head, FollowsLinks}
use Rattle.lot_word_lock.specs.WordView.{owed_by}

-- it holds the lock
abbrev pub IsHolder : View → Type 0
IsHolder (Trying woken p n) = ⊥
IsHolder (Enqueued p) = ⊥
IsHolder (Holding seen owed) = ⊤
IsHolder (Leaving owed) = ⊥

-- it is inside `lock`, knows that it was removed from the list, and has neither had the lock nor entered again since
abbrev pub IsAwake : View → Type 0
IsAwake (Trying woken p n) = woken ≡ true
IsAwake (Enqueued p) = ⊥
IsAwake (Holding seen owed) = ⊥
IsAwake (Leaving owed) = ⊥

-- it is inside `lock`: it entered the list with this place, and has not read since that it was removed
abbrev pub IsEnqueued : ℕ → View → Type 0
IsEnqueued p view = view ≡ Enqueued p

-- it removed the place from the list, and has not told it yet
abbrev pub Owes : ℕ → View → Type 0
Owes p view = Contains (owed_by view) p

-- the table has the slot, slot 0, and in it a value that fits. `homes` tells of each slot what lies in it, or `none` while
-- a caller has it out; `some` and `none` are of the table's own options, and `Some` and `None` of the program's
abbrev pub HasValue : {T : Type 0} → (T → Type 0) → List (maybe.Option (Option T)) → Type 0
HasValue {T} fits homes = (value : T) × (get_elem? homes 0 ≡ some (some (Some value))) × fits value

module _ {T : Type 0} (s : State (Option T) View) where
  abbrev pub SomeCaller : (View → Type 0) → Type 0
  SomeCaller P = (id : ℕ) × (view : View) × (get_elem? s.views id ≡ some view) × P view

  abbrev pub AtMostOneCaller : (View → Type 0) → Type 0
  AtMostOneCaller P = (i j : ℕ) (v u : View) → get_elem? s.views i ≡ some v → get_elem? s.views j ≡ some u
      → P v → P u → i ≡ j

  -- bit 0 of the lock's word
  abbrev pub IsLocked : Type 0
  IsLocked = slice_index s.words 0 % 2 ≡ 1

  -- the link of a place: 0 once it was told that it is not in the list
  abbrev pub link : ℕ → ℕ
  link p = slice_index s.words p

  -- 1. Bit 0 tells whether somebody holds the lock, and at most one caller does
  pub record BitAndHolder : Type 0 where
    pub bit : IsLocked ↔ SomeCaller IsHolder
    pub one : AtMostOneCaller IsHolder

  -- 2. While nobody holds the lock the table has the slot, with a value that fits; and else the slot is not there: that
  -- it is out with the holder is told to the holder itself (`SlotIsWithHolder`)
  pub record ValueAtHome (fits : T → Type 0) : Type 0 where
    pub free : ¬ IsLocked → HasValue fits s.homes
    pub held : IsLocked → get_elem? s.homes 0 ≡ some none

  -- 3. A place that a caller owes is no longer in the list, was not told so yet, and is that of a caller inside `lock`;
  -- and nobody owes more than one
  pub record Removals (list : List ℕ) : Type 0 where
    pub removed : (p : ℕ) → SomeCaller (Owes p) → ¬ Contains list p
    pub untold : (p : ℕ) → SomeCaller (Owes p) → link p ≢ 0
    pub callers : (p : ℕ) → SomeCaller (Owes p) → SomeCaller (IsEnqueued p)
    pub one : (id : ℕ) (view : View) → get_elem? s.views id ≡ some view → length (owed_by view) ≤ 1

  -- 4. The waiting list, newest first, begins at the place that the other bits of the lock's word tell, or is empty
  -- where they are 0, since 0 is no place; it goes on by the links, repeats no place, and each of its places is that of
  -- a caller inside `lock`; no two callers wait with the same place
  pub record IsWaitingList (list : List ℕ) : Type 0 where
    pub begins : slice_index s.words 0 / 2 ≡ head list
    pub places : AllPlaces list
    pub goes_on : FollowsLinks s.words list
    pub once : (p : ℕ) → times p list ≤ 1
    pub callers : (p : ℕ) → Contains list p → SomeCaller (IsEnqueued p)
    pub alone : (p : ℕ) → AtMostOneCaller (IsEnqueued p)

  -- it will see to the list: it is awake, or was told that it is not in the list, or owes a place
  abbrev pub IsCharged : View → Type 0
  IsCharged view = IsAwake view ⊎ (((p : ℕ) × IsEnqueued p view × (link p ≡ 0)) ⊎ ((p : ℕ) × Owes p view))

  -- 5. If somebody waits, the lock is held or somebody is charged with the list
  abbrev pub HasCharge : List ℕ → Type 0
  HasCharge list = list ≢ [] → IsLocked ⊎ SomeCaller IsCharged

  -- 6. A caller that entered the list and was not told is in the list or owed, and no two callers owe the same place
  pub record NobodyIsLost (list : List ℕ) : Type 0 where
    pub known : (p : ℕ) → SomeCaller (IsEnqueued p) → link p ≢ 0 → Contains list p ⊎ SomeCaller (Owes p)
    pub one : (p : ℕ) → AtMostOneCaller (Owes p)

-- what holds of a word lock between any two steps, in six parts. It follows from `Orderly`, which each step keeps; alone
-- it would not be kept, since it says nothing of a place before its caller has entered the list
pub record WordLockInvariant {T : Type 0} (fits : T → Type 0) (s : State (Option T) View) : Type 0 where
  pub list : List ℕ
  pub holder : BitAndHolder s
  pub value : ValueAtHome s fits
  pub removals : Removals s list
  pub waiting : IsWaitingList s list
  pub charge : HasCharge s list
  pub callers : NobodyIsLost s list
