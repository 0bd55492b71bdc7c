-- What a table of values by keys tells, as a list of pairs of a key and its value.
use Rattle.std.specs.Prelude.{◌≡◌, ℕ, ◌<◌, ◌≤◌, List, [], ◌∷◌, length, if◌then◌else◌, ◌==◌, slice_index_or, Some, None, Option, AllPairs}

-- the value of the first entry that has the key
abbrev pub value_of : {V : Type 0} → List (ℕ × V) → ℕ → Option V
value_of [] key = None
value_of (entry ∷ rest) key = if entry.0 == key then Some entry.1 else value_of rest key

-- the keys rise, so that none comes twice
abbrev pub HasRisingKeys : {V : Type 0} → List (ℕ × V) → Type 0
HasRisingKeys = AllPairs (λ first second. first.0 < second.0)

-- the entry at the place has the key
pub record IsPlaceOf {V : Type 0} (entries : List (ℕ × V)) (key place : ℕ) : Type 0 where
  pub in_range : place < length entries
  pub has_key : (d : ℕ × V) → (slice_index_or entries place d).0 ≡ key

-- an entry with the key would go to the place: those before it have smaller keys, and the others greater ones
pub record IsGapFor {V : Type 0} (entries : List (ℕ × V)) (key place : ℕ) : Type 0 where
  pub in_range : place ≤ length entries
  pub smaller_before : (i : ℕ) (d : ℕ × V) → i < place → (slice_index_or entries i d).0 < key
  pub greater_after : (i : ℕ) (d : ℕ × V) → place ≤ i → i < length entries → key < (slice_index_or entries i d).0
