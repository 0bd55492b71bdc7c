-- Where a binary search ends in a table, and what an edit there does to the values.
use Rattle.std.proofs.Common.{◌≡◌, ◌≢◌, ℕ, zero, suc, ◌+◌, ◌-◌, ◌<◌, ◌≤◌, eqb, List, [], ◌∷◌, length, get_or, set, Bool, true, false, if◌then◌else◌}
use Rattle.std.proofs.Common.{Some, None, Option, Result, Ok, Err, IfOk, IfErr, refl, sym, ap, subst, arith}
use Rattle.std.specs.List.{insert, remove}
use Rattle.std.specs.List.Sorted.{IsSearchInRange, IsBinarySearchResult, IsNonDecreasingBy}
use Rattle.std.specs.Ordering.{nat_cmp, ordering_index}
use Rattle.std.proofs.lemmas.Cmp.{ranked}
use Rattle.std.proofs.lemmas.List.Edits.{length-insert, get_or-insert_below, get_or-insert_at, get_or-insert_above}
use Rattle.std.proofs.lemmas.Bool.Decides.{nat_tests}
use Rattle.examples.specs.SortedEntries.{value_of, HasRisingKeys, IsPlaceOf, IsGapFor}

-- the first has o at the key, and at each other key what the second has
abbrev HasAt : {V : Type 0} → ℕ → Option V → List (ℕ × V) → List (ℕ × V) → Type 0
HasAt key o new old = (k : ℕ) → value_of new k ≡ (if eqb key k then o else value_of old k)

module _ {V : Type 0} (key : ℕ) where
  -- no entry before the place has the key
  abbrev NoneBefore : List (ℕ × V) → ℕ → Type 0
  NoneBefore xs place = (i : ℕ) (d : ℕ × V) → i < place → (get_or xs i d).0 ≢ key

  -- nor has one behind it
  abbrev NoneBehind : List (ℕ × V) → ℕ → Type 0
  NoneBehind xs place = (i : ℕ) (d : ℕ × V) → place < i → i < length xs → (get_or xs i d).0 ≢ key

  -- so it is in the tail, one place lower
  before_tail : (x : ℕ × V) (xs : List (ℕ × V)) (place : ℕ) → NoneBefore (x ∷ xs) (suc place) → NoneBefore xs place
  before_tail x xs place none i d lt = none (suc i) d (omega arith)

  behind_tail : (x : ℕ × V) (xs : List (ℕ × V)) (place : ℕ) → NoneBehind (x ∷ xs) (suc place) → NoneBehind xs place
  behind_tail x xs place none i d lt in_range = none (suc i) d (omega arith) (omega arith)

  place_tail : (x : ℕ × V) (xs : List (ℕ × V)) (place : ℕ) → IsPlaceOf (x ∷ xs) key (suc place) → IsPlaceOf xs key place
  place_tail x xs place found = record { in_range = omega (arith, found.in_range); has_key = found.has_key }

  -- a key that no entry has
  value_of-missing : (xs : List (ℕ × V)) → NoneBefore xs (length xs) → value_of xs key ≡ None
  value_of-missing [] none = refl
  value_of-missing (x ∷ xs) none =
      grind (arith, nat_tests, none 0 x (omega arith), value_of-missing xs (before_tail x xs _ none))

  -- the first entry with the key
  value_of-found : (xs : List (ℕ × V)) (place : ℕ) (d : ℕ × V) → IsPlaceOf xs key place → NoneBefore xs place
      → value_of xs key ≡ Some (get_or xs place d).1
  value_of-found [] place d found none = absurd (omega (arith, found.in_range))
  value_of-found (x ∷ xs) zero d found none = grind (arith, nat_tests, found.has_key x)
  value_of-found (x ∷ xs) (suc place) d found none =
      let rest = value_of-found xs place d (place_tail x xs place found) (before_tail x xs place none) in
      grind (arith, nat_tests, none 0 x (omega arith), rest)

  -- another value in place of its own
  value_of-set : (xs : List (ℕ × V)) (place : ℕ) (v : V) → IsPlaceOf xs key place → NoneBefore xs place
      → HasAt key (Some v) (set xs place (key, v)) xs
  value_of-set [] place v found none k = absurd (omega (arith, found.in_range))
  value_of-set (x ∷ xs) zero v found none k = grind (arith, nat_tests, found.has_key x)
  value_of-set (x ∷ xs) (suc place) v found none k =
      let rest = value_of-set xs place v (place_tail x xs place found) (before_tail x xs place none) k in
      grind (arith, nat_tests, none 0 x (omega arith), rest)

  -- a new entry
  value_of-insert : (xs : List (ℕ × V)) (place : ℕ) (v : V) → NoneBefore xs place
      → HasAt key (Some v) (insert xs place (key, v)) xs
  value_of-insert xs zero v none k = refl
  value_of-insert [] (suc place) v none k = refl
  value_of-insert (x ∷ xs) (suc place) v none k =
      let rest = value_of-insert xs place v (before_tail x xs place none) k in
      grind (arith, nat_tests, none 0 x (omega arith), rest)

  -- the only entry with the key, taken out
  value_of-remove : (xs : List (ℕ × V)) (place : ℕ) → IsPlaceOf xs key place → NoneBefore xs place
      → NoneBehind xs place → HasAt key None (remove xs place) xs
  value_of-remove [] place found none behind k = absurd (omega (arith, found.in_range))
  value_of-remove (x ∷ xs) zero found none behind k =
      let missing = value_of-missing xs (λ i d lt. behind (suc i) d (omega arith) (omega arith)) in
      grind (arith, nat_tests, found.has_key x, missing)
  value_of-remove (x ∷ xs) (suc place) found none behind k =
      let found_behind = place_tail x xs place found in
      let rest = value_of-remove xs place found_behind (before_tail x xs place none) (behind_tail x xs place behind) k in
      grind (arith, nat_tests, none 0 x (omega arith), rest)

module _ {V : Type 0} (xs : List (ℕ × V)) (rising : HasRisingKeys xs) (key : ℕ) where
  -- compared with the key, the entries go up, as a binary search asks
  comparisons_rise : IsNonDecreasingBy (λ (entry : ℕ × V). ordering_index (nat_cmp entry.0 key)) xs
  comparisons_rise i j d le in_range =
      let keys_rise : (get_or xs i d).0 ≤ (get_or xs j d).0 =
      grind (arith, rising i j d, λ (same : i ≡ j). ap (λ k. (get_or xs k d).0) same) in
      grind (arith, nat_tests)

  -- so it ends at the key's entry, or where one would go
  pub search_ends : (r : Result ℕ ℕ) → IsSearchInRange r (length xs)
      → IsBinarySearchResult (λ (entry : ℕ × V). nat_cmp entry.0 key) xs r
      → IfOk r (IsPlaceOf xs key) × IfErr r (IsGapFor xs key)
  search_ends (Ok place) in_range equal =
      (record { in_range = in_range; has_key = λ d. ranked _ key _ (sym (equal d)) }, tt)
  search_ends (Err place) in_range parts =
      let around = parts comparisons_rise in (
        tt,
        record {
          in_range = in_range;
          smaller_before = λ i d lt. ranked _ key _ (sym (around.0 i d (omega arith) lt));
          greater_after = λ i d le lt. ranked _ key _ (sym (around.1 i d le lt));
        },
      )

module _ {V : Type 0} (xs : List (ℕ × V)) (rising : HasRisingKeys xs) (key place : ℕ) (found : IsPlaceOf xs key place) where
  before : NoneBefore key xs place
  before i d lt same = omega (arith, rising i place d lt found.in_range, found.has_key d)

  behind : NoneBehind key xs place
  behind i d lt in_range same = omega (arith, rising place i d lt in_range, found.has_key d)

  pub value_at : (d : ℕ × V) → value_of xs key ≡ Some (get_or xs place d).1
  value_at d = value_of-found key xs place d found before

  pub replaced : (v : V) → HasAt key (Some v) (set xs place (key, v)) xs
  replaced v = value_of-set key xs place v found before

  pub removed : HasAt key None (remove xs place) xs
  removed = value_of-remove key xs place found before behind

module _ {V : Type 0} (xs : List (ℕ × V)) (key place : ℕ) (gap : IsGapFor xs key place) where
  pub no_value : value_of xs key ≡ None
  no_value = value_of-missing key xs (λ i d lt same. grind (arith, gap.smaller_before i d, gap.greater_after i d))

  pub added : (v : V) → HasAt key (Some v) (insert xs place (key, v)) xs
  added v = value_of-insert key xs place v (λ i d lt same. omega (arith, gap.smaller_before i d lt))

  -- a removal that finds nothing to remove
  pub nothing_removed : HasAt key None xs xs
  nothing_removed k = grind (arith, nat_tests, no_value)

  -- the keys still rise: each is one below the gap, the new one, or one that moved up
  pub rising_with : (v : V) → HasRisingKeys xs → HasRisingKeys (insert xs place (key, v))
  rising_with v rising i j d lt in_range =
      let new = insert xs place (key, v) in
      let count = length-insert xs place (key, v) gap.in_range in
      let key_in = λ (ys : List (ℕ × V)) (k : ℕ). (get_or ys k d).0 in
      let below : (k : ℕ) → k < place → key_in new k ≡ key_in xs k =
      λ k lt. ap (λ (x : ℕ × V). x.0) (get_or-insert_below xs place (key, v) d k lt gap.in_range) in
      let here : (k : ℕ) → k ≡ place → key_in new k ≡ key =
      λ k same. rw same (ap (λ (x : ℕ × V). x.0) (get_or-insert_at xs place (key, v) d gap.in_range)) in
      let moved : (k : ℕ) → place ≤ k → key_in new (k + 1) ≡ key_in xs k =
      λ k le. ap (λ (x : ℕ × V). x.0) (get_or-insert_above xs place (key, v) d k le gap.in_range) in
      let above : (k : ℕ) → place < k → key_in new k ≡ key_in xs (k - 1) =
      λ k lt. subst (λ n. key_in new n ≡ key_in xs (k - 1)) {x = k - 1 + 1} (omega arith) (moved (k - 1) (omega arith)) in
      let old = rising i j d in
      let old_before = rising i (j - 1) d in
      let old_behind = rising (i - 1) (j - 1) d in
      grind (arith, below i, here i, above i, below j, here j, above j, old, old_before, old_behind, gap.smaller_before i d, gap.greater_after (j - 1) d)

  -- also where memory may be wanted for the new entry
  pub rising_after : (v : V) (is_added : Bool) → HasRisingKeys xs
      → HasRisingKeys (if is_added then insert xs place (key, v) else xs)
  rising_after v true rising = rising_with v rising
  rising_after v false rising = rising
