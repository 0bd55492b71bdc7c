-- The views of the callers of a word lock: what each of them has seen, and owes.
use Rattle.std.specs.Prelude.{ℕ, false, List, [], ◌∷◌}
use Rattle.lot_word_lock.specs.declared.word_lock.view.View.{View}
use Rattle.lot_word_lock.specs.declared.word_lock.view.View.TheVariants.{Trying, Enqueued, Holding, Leaving}

-- a caller that has no place, holds nothing and owes nothing
abbrev pub resting : View
resting = Trying false 0 0

-- a caller that has let the lock go and removed these places
abbrev pub leaving : List ℕ → View
leaving [] = resting
leaving (p ∷ ps) = Leaving (p ∷ ps)

-- the place of a caller that waits or tries, or 0
abbrev pub place_of_caller : View → ℕ
place_of_caller (Trying woken p n) = p
place_of_caller (Enqueued p) = p
place_of_caller (Holding seen owed) = 0
place_of_caller (Leaving owed) = 0

-- a trying caller with another place and another link of it
abbrev pub with_place : View → ℕ → ℕ → View
with_place (Trying woken q m) p n = Trying woken p n
with_place (Enqueued q) p n = Enqueued q
with_place (Holding seen owed) p n = Holding seen owed
with_place (Leaving owed) p n = Leaving owed

-- the oldest places of the list, as far as the holder has seen them
abbrev pub seen_by : View → List ℕ
seen_by (Trying woken p n) = []
seen_by (Enqueued p) = []
seen_by (Holding seen owed) = seen
seen_by (Leaving owed) = []

-- the places that the caller has removed from the list and not told yet
abbrev pub owed_by : View → List ℕ
owed_by (Trying woken p n) = []
owed_by (Enqueued p) = []
owed_by (Holding seen owed) = owed
owed_by (Leaving owed) = owed
