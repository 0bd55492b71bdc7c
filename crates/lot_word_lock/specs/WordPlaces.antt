-- The places of a word lock, and lists of them, newest first.
use Rattle.std.specs.Prelude.{◌≡◌, ◌≢◌, ℕ, ◌+◌, ◌-◌, ◌<◌, ◌≤◌, List, [], ◌∷◌, ◌==◌, cond, slice_index}

-- a place is a number from 8 to 11, the index of its link among the words
abbrev pub IsPlace : ℕ → Type 0
IsPlace p = (7 < p) × (p < 12)

abbrev pub AllPlaces : List ℕ → Type 0
AllPlaces [] = Unit {0}
AllPlaces (p ∷ ps) = IsPlace p × AllPlaces ps

-- the newest place of a list, or 0
abbrev pub head : List ℕ → ℕ
head [] = 0
head (p ∷ ps) = p

-- the list without its newest place
abbrev pub behind : List ℕ → List ℕ
behind [] = []
behind (p ∷ ps) = ps

abbrev pub total : {A : Type 0} → (A → ℕ) → List A → ℕ
total f [] = 0
total f (x ∷ xs) = f x + total f xs

abbrev pub one_at : ℕ → ℕ → ℕ
one_at p x = cond (x == p) 1 0

-- how often a place stands in a list
abbrev pub times : ℕ → List ℕ → ℕ
times p ps = total (one_at p) ps

-- the link of each place is 1 more than the next place, or 1 at the last
abbrev pub FollowsLinks : List ℕ → List ℕ → Type 0
FollowsLinks words [] = Unit {0}
FollowsLinks words (p ∷ ps) = (slice_index words p ≡ 1 + head ps) × FollowsLinks words ps

-- a link that leads to the first of these places, or tells that there is none
pub record LinkLeadsTo (link : ℕ) (places : List ℕ) : Type 0 where
  pub some_link : 1 ≤ link
  pub last : link ≡ 1 → places ≡ []
  pub next : link ≢ 1 → (places ≡ (link - 1) ∷ behind places) × IsPlace (link - 1)
