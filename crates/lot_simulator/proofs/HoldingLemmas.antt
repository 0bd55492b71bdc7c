-- Which callers' sections are open, and which buckets they hold.
use Rattle.std.proofs.Common.{◌≡◌, ℕ, zero, suc, ◌==◌, Bool, true, false, List, [], ◌∷◌, map, refl, sym, ap, ◌∙◌}
use Rattle.std.proofs.Common.{subst, ⊎_elim, inl, inr, None, slice_get, slice_set, replicate}
use Rattle.std.proofs.lemmas.Bool.{cases_Bool, eqb-true, false≢true, true≢false}
use Rattle.std.specs.List.{list_any}
use Rattle.std.specs.Prelude.{Option, is_some, IsTrue, ◌||◌, ◌⊎◌, option_and_then}
use Rattle.lot_base.specs.Place.{place_of}
use Rattle.lot_simulator.specs.InterleavedState.{FineState, Section, Caller, new_fine_state}
use Rattle.lot_simulator.specs.InterleavedSteps.{holds, is_held, section_of}
use Rattle.lot_simulator.specs.InterleavedView.{EachHoldsABucket, EachHoldsAlone}

-- the section of the caller of this number among these
abbrev section_at : List Caller → ℕ → Option Section
section_at callers caller = option_and_then (λ (cl : Caller). cl.section) (slice_get callers caller)

or_true : (x y : Bool) → y ≡ true → (x || y) ≡ true
or_true true y is = refl
or_true false y is = is

-- a caller whose section passes a test that no closed one passes
module _ (test : Option Section → Bool) (closed : test None ≡ false) where
  pub some_holds : (callers : List Caller) (caller : ℕ) → test (section_at callers caller) ≡ true
      → list_any (λ (cl : Caller). test cl.section) callers ≡ true
  some_holds [] caller passes = absurd (false≢true (sym closed ∙ passes))
  some_holds (cl ∷ callers) zero passes =
      ap (λ b. b || list_any (λ (cl : Caller). test cl.section) callers) passes
  some_holds (cl ∷ callers) (suc caller) passes = or_true (test cl.section) _ (some_holds callers caller passes)

  pub who_holds : (callers : List Caller) → list_any (λ (cl : Caller). test cl.section) callers ≡ true
      → (caller : ℕ) × (test (section_at callers caller) ≡ true)
  who_holds [] none = absurd (false≢true none)
  who_holds (cl ∷ callers) some =
      ⊎_elim (λ (first : test cl.section ≡ true). (0, first))
      (λ (other : test cl.section ≡ false).
      let (caller, passes) = who_holds callers
      (sym (ap (λ b. b || list_any (λ (cl : Caller). test cl.section) callers) other) ∙ some) in
      (suc caller, passes))
      (cases_Bool (test cl.section))

-- one caller has another section, if there is one of its number
section-set : (callers : List Caller) (caller : ℕ) (cl : Caller) (j : ℕ)
    → ((j ≡ caller) × (section_at (slice_set callers caller cl) j ≡ cl.section))
    ⊎ (section_at (slice_set callers caller cl) j ≡ section_at callers j)
section-set [] caller cl j = inr refl
section-set (x ∷ xs) zero cl zero = inl (refl, refl)
section-set (x ∷ xs) zero cl (suc j) = inr refl
section-set (x ∷ xs) (suc caller) cl zero = inr refl
section-set (x ∷ xs) (suc caller) cl (suc j) =
    ⊎_elim (λ (own : (j ≡ caller) × (section_at (slice_set xs caller cl) j ≡ cl.section)).
    let (same, is) = own in inl (ap suc same, is))
    (λ (stays : section_at (slice_set xs caller cl) j ≡ section_at xs j). inr stays)
    (section-set xs caller cl j)

module _ (s : FineState) (caller : ℕ) (cl : Caller) where
  abbrev set : FineState
  set = record s { callers = slice_set s.callers caller cl }

  abbrev IsOwn : ℕ → Type 0
  IsOwn j = (j ≡ caller) × (section_of set j ≡ cl.section)

  abbrev Stays : ℕ → Type 0
  Stays j = section_of set j ≡ section_of s j

  pub EachHoldsABucket-set : (IsTrue (is_some cl.section) → (place : ℕ) × IsTrue (holds place cl.section))
      → EachHoldsABucket s → EachHoldsABucket set
  EachHoldsABucket-set own others j is_open =
      ⊎_elim (λ (mine : IsOwn j). let (same, is) = mine in
      subst (λ o. (place : ℕ) × IsTrue (holds place o)) (sym is) (own (subst (λ o. IsTrue (is_some o)) is is_open)))
      (λ (stays : Stays j). subst (λ o. (place : ℕ) × IsTrue (holds place o)) (sym stays)
      (others j (subst (λ o. IsTrue (is_some o)) stays is_open)))
      (section-set s.callers caller cl j)

  pub EachHoldsAlone-set : ((place other : ℕ) → IsTrue (holds place cl.section)
      → IsTrue (holds place (section_of s other)) → caller ≡ other) → EachHoldsAlone s → EachHoldsAlone set
  EachHoldsAlone-set own others place j k here there =
      ⊎_elim (λ (mine : IsOwn j). let (same, is) = mine in
      ⊎_elim (λ (also : IsOwn k). same ∙ sym also.0)
      (λ (stays : Stays k). same ∙ own place k (by is here) (by stays there))
      (section-set s.callers caller cl k))
      (λ (stays : Stays j).
      ⊎_elim (λ (mine : IsOwn k). let (same, is) = mine in sym (own place j (by is there) (by stays here)) ∙ sym same)
      (λ (also : Stays k). others place j k (by stays here) (by also there))
      (section-set s.callers caller cl k))
      (section-set s.callers caller cl j)
    where
      by : {o p : Option Section} → o ≡ p → IsTrue (holds place o) → IsTrue (holds place p)
      by same = subst (λ o. IsTrue (holds place o)) same

-- the places of keys whose buckets are free are held by nobody
pub places_free : (s : FineState) (keys : List ℕ) → list_any (is_held s) keys ≡ false → (place : ℕ)
    → list_any (λ h. h == place) (map (λ key. place_of key s.size) keys) ≡ true
    → list_any (λ (cl : Caller). holds place cl.section) s.callers ≡ false
places_free s [] free place none = absurd (false≢true none)
places_free s (key ∷ keys) free place among =
    ⊎_elim (λ (held : is_held s key ≡ true). absurd (true≢false
    (sym (ap (λ b. b || list_any (is_held s) keys) held) ∙ free)))
    (λ (unheld : is_held s key ≡ false).
    ⊎_elim (λ (first : (place_of key s.size == place) ≡ true).
    subst (λ p. list_any (λ (cl : Caller). holds p cl.section) s.callers ≡ false)
    (eqb-true (place_of key s.size) place first) unheld)
    (λ (other : (place_of key s.size == place) ≡ false).
    places_free s keys (sym (ap (λ b. b || list_any (is_held s) keys) unheld) ∙ free) place
    (sym (ap (λ b. b || list_any (λ h. h == place) (map (λ key. place_of key s.size) keys)) other) ∙ among))
    (cases_Bool (place_of key s.size == place)))
    (cases_Bool (is_held s key))

-- of new callers none has a section open
none_open : (callers caller : ℕ)
    → section_at (replicate callers (record { section = None; wakes = 0 })) caller ≡ None
none_open zero caller = refl
none_open (suc callers) zero = refl
none_open (suc callers) (suc caller) = none_open callers caller

pub EachHoldsABucket-new : (max_threads callers : ℕ) → EachHoldsABucket (new_fine_state max_threads callers)
EachHoldsABucket-new max_threads callers caller is_open =
    absurd (false≢true (subst (λ o. IsTrue (is_some o)) (none_open callers caller) is_open))

pub EachHoldsAlone-new : (max_threads callers : ℕ) → EachHoldsAlone (new_fine_state max_threads callers)
EachHoldsAlone-new max_threads callers place caller other here there =
    absurd (false≢true (subst (λ o. IsTrue (holds place o)) (none_open callers caller) here))
