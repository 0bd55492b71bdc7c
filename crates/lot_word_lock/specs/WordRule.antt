-- The rule of a word lock, as its table keeps it: in the form in which each step is proved to keep it. Word 0 is the
-- lock's, word p the link of the place p, and word p + 4 its mark: 0 while nobody has the place, and else 1, or 2 where
-- another may sleep until it is given back: once one has asked to be woken then, and from the start where the caller
-- that has it found no place free before.
use Rattle.std.specs.Prelude.{◌≡◌, ◌≢◌, ◌⊎◌, ℕ, ◌+◌, ◌*◌, ◌<◌, ◌≤◌, List, [], ◌++◌, length, slice_index, true, Option}
use mathlib.Core.Option.{some, none}
use lib.ListN.{get_elem?}
use Rattle.atomic_table.specs.Table.{State}
use Rattle.lot_word_lock.specs.declared.word_lock.view.View.{View}
use Rattle.lot_word_lock.specs.declared.word_lock.view.View.TheVariants.{Trying, Enqueued, Holding, Leaving}
use Rattle.lot_word_lock.specs.WordPlaces.{IsPlace, AllPlaces, head, FollowsLinks, total, one_at, times}
use Rattle.lot_word_lock.specs.WordView.{owed_by}
use Rattle.lot_word_lock.specs.WordLockInvariant.{HasValue}

-- 1 for a caller of that kind, else 0
abbrev pub holds_lock : View → ℕ
holds_lock (Trying woken p n) = 0
holds_lock (Enqueued p) = 0
holds_lock (Holding seen owed) = 1
holds_lock (Leaving owed) = 0

abbrev pub has_place : ℕ → View → ℕ
has_place p (Trying woken q n) = one_at p q
has_place p (Enqueued q) = one_at p q
has_place p (Holding seen owed) = 0
has_place p (Leaving owed) = 0

abbrev pub waits_with : ℕ → View → ℕ
waits_with p (Trying woken q n) = 0
waits_with p (Enqueued q) = one_at p q
waits_with p (Holding seen owed) = 0
waits_with p (Leaving owed) = 0

abbrev pub owes_place : ℕ → View → ℕ
owes_place p view = times p (owed_by view)

-- what the words and the list say of one caller
abbrev pub SeatOk : List ℕ → List ℕ → View → Type 0
SeatOk words list (Trying woken p n) = 0 < p → IsPlace p × (slice_index words p ≡ n)
SeatOk words list (Enqueued p) = IsPlace p
SeatOk words list (Holding seen owed) = ((newer : List ℕ) × (list ≡ newer ++ seen)) × AllPlaces owed × (length owed ≤ 1)
SeatOk words list (Leaving owed) = AllPlaces owed × (length owed ≤ 1)

-- one place: at most one caller has it, and it is in the list or owed, once, while that caller waits and was not told
pub record PlaceOk (words list : List ℕ) (views : List View) (p : ℕ) : Type 0 where
  pub wanted : ℕ
  pub marked : total (has_place p) views + wanted ≡ slice_index words (p + 4)
  pub asked : wanted ≤ total (has_place p) views
  pub once : total (has_place p) views ≤ 1
  pub removed : slice_index words p ≡ 0 → times p list + total (owes_place p) views ≡ 0
  pub waiting : slice_index words p ≢ 0 → times p list + total (owes_place p) views ≡ total (waits_with p) views

-- a caller that will see to the list although it does not hold the lock
abbrev pub Charge : List ℕ → View → Type 0
Charge words (Trying woken p n) = woken ≡ true
Charge words (Enqueued p) = slice_index words p ≡ 0
Charge words (Holding seen owed) = ⊥
Charge words (Leaving owed) = owed ≢ []

abbrev pub SomeCharge : List ℕ → List View → Type 0
SomeCharge words views = (id : ℕ) × (view : View) × (get_elem? views id ≡ some view) × Charge words view

-- `list` is the waiting list, newest first
pub record Orderly {T : Type 0} (fits : T → Type 0) (s : State (Option T) View) : Type 0 where
  pub list : List ℕ
  pub long : length s.words ≡ 24
  pub word : slice_index s.words 0 ≡ total holds_lock s.views + 2 * head list
  pub single : total holds_lock s.views ≤ 1
  pub home : total holds_lock s.views ≡ 0 → HasValue fits s.homes
  pub away : total holds_lock s.views ≡ 1 → get_elem? s.homes 0 ≡ some none
  pub chain : FollowsLinks s.words list
  pub in_places : AllPlaces list
  pub each_place : (p : ℕ) → IsPlace p → PlaceOk s.words list s.views p
  pub charged : (list ≡ []) ⊎ ((total holds_lock s.views ≡ 1) ⊎ SomeCharge s.words s.views)
  pub each_seat : (id : ℕ) (view : View) → get_elem? s.views id ≡ some view → SeatOk s.words list view
