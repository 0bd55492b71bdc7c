-- What a step of one caller leaves of what the words and the list say of places and callers.
use Rattle.std.proofs.Common.{◌≡◌, ℕ, zero, suc, ◌+◌, ◌-◌, ◌<◌, ◌≤◌, ◌≢◌, ◌⊎◌}
use Rattle.std.proofs.Common.{List, [], ◌∷◌, ◌++◌, length, get_or, set, sym, refl, ap, ◌∙◌, subst, inl, inr}
use Rattle.std.proofs.Common.{⊎_elim, arith, length-append}
use Rattle.std.proofs.Common.{replicate, slice_index}
use mathlib.Core.Logic.{dite}
use mathlib.Core.Option.{some, some-injective, some-ne-none}
use native.Mathlib.Decide.{ℕ_discrete}
use lib.ListN.{get_elem?}
use Rattle.atomic_table.proofs.Lists.{set_here, set_else}
use Rattle.lot_word_lock.specs.declared.word_lock.view.View.{View}
use Rattle.lot_word_lock.specs.declared.word_lock.view.View.TheVariants.{Trying, Enqueued, Holding, Leaving}
use Rattle.lot_word_lock.specs.WordPlaces.{IsPlace, AllPlaces, total, times, head, LinkLeadsTo}
use Rattle.lot_word_lock.specs.WordView.{leaving}
use Rattle.lot_word_lock.specs.WordRule.{holds_lock, has_place, waits_with, owes_place, SeatOk, PlaceOk, Charge, SomeCharge}
use Rattle.lot_word_lock.proofs.WordCounts.{total-set, one_term, two_terms, total_below}
use Rattle.lot_word_lock.proofs.WordCounts.{one_at-same, one_at-other}

-- whoever waits with a place has it
pub waits_has : (p : ℕ) (v : View) → waits_with p v ≤ has_place p v
waits_has p (Trying woken q n) = omega arith
waits_has p (Enqueued q) = omega arith
waits_has p (Holding seen owed) = omega arith
waits_has p (Leaving owed) = omega arith

-- a place at which a step of the seat id changes nothing
pub place_kept : (vs : List View) (id : ℕ) (v w : View) (ws ws' list list' : List ℕ) (p : ℕ) → get_elem? vs id ≡ some v
    → has_place p w ≡ has_place p v → waits_with p w ≡ waits_with p v
    → times p list' + owes_place p w ≡ times p list + owes_place p v
    → (get_or ws' p 0 ≡ 0 → get_or ws p 0 ≡ 0) → (get_or ws' p 0 ≢ 0 → get_or ws p 0 ≢ 0)
    → get_or ws' (p + 4) 0 ≡ get_or ws (p + 4) 0
    → PlaceOk ws list vs p → PlaceOk ws' list' (set vs id w) p
place_kept vs id v w ws ws' list list' p me has waits owes zero-kept one-kept mark ok =
    let h = total-set (has_place p) vs id v w me in
    let t = total-set (waits_with p) vs id v w me in
    let o = total-set (owes_place p) vs id v w me in
    let marked = ok.marked in
    let asked = ok.asked in
    let once = ok.once in
    record {
      wanted = ok.wanted;
      marked = omega arith;
      asked = omega arith;
      once = omega arith;
      removed = λ e. let r = ok.removed (zero-kept e) in omega arith;
      waiting = λ ne. let r = ok.waiting (one-kept ne) in omega arith;
    }

-- a caller that has a place and does not wait keeps the place from the list
pub not_waiting : (vs : List View) (id : ℕ) (v : View) (ws list : List ℕ) (p : ℕ) → get_elem? vs id ≡ some v
    → has_place p v ≡ 1 → waits_with p v ≡ 0 → PlaceOk ws list vs p
    → (total (has_place p) vs ≡ 1) × (total (waits_with p) vs ≡ 0) × (times p list ≡ 0) × (total (owes_place p) vs ≡ 0)
not_waiting vs id v ws list p me has waits ok =
    let below = total_below (waits_with p) (has_place p) (waits_has p) vs id v me in
    let once = ok.once in
    let mine = one_term (has_place p) vs id v me in
    let none : total (waits_with p) vs ≡ 0 = omega arith in
    let all : times p list + total (owes_place p) vs ≡ 0 =
    dite (ℕ_discrete (get_or ws p 0) 0) (λ e. ok.removed e) (λ ne. ok.waiting ne ∙ none) in
    (omega arith, none, omega arith, omega arith)

-- two callers do not have the same place
pub one_owner : (vs : List View) (i j : ℕ) (v u : View) (ws list : List ℕ) (p : ℕ) → j ≢ i → get_elem? vs i ≡ some v
    → get_elem? vs j ≡ some u
    → has_place p v ≡ 1 → has_place p u ≡ 1 → PlaceOk ws list vs p → ⊥
one_owner vs i j v u ws list p ne at-i at-j has-i has-j ok =
    let two = two_terms (has_place p) vs i j v u ne at-i at-j in
    let once = ok.once in
    absurd (omega arith)

-- what the words and the list say of a caller, where its link and, for the holder, what it has seen are as before
pub seat_kept : (ws ws' list list' : List ℕ) (u : View) → ((p : ℕ) → IsPlace p → has_place p u ≡ 1 → waits_with p u ≡ 0
    → get_or ws' p 0 ≡ get_or ws p 0)
    → ((seen : List ℕ) → holds_lock u ≡ 1 → (newer : List ℕ) × (list ≡ newer ++ seen)
    → (newer : List ℕ) × (list' ≡ newer ++ seen))
    → SeatOk ws list u → SeatOk ws' list' u
seat_kept ws ws' list list' (Trying woken p n) words lists ok = λ pos. let t = ok pos in
    (t.0, words p t.0 (one_at-same p) refl ∙ t.1)
seat_kept ws ws' list list' (Enqueued p) words lists ok = ok
seat_kept ws ws' list list' (Holding seen owed) words lists ok = (lists seen refl ok.0, ok.1, ok.2)
seat_kept ws ws' list list' (Leaving owed) words lists ok = ok

in_range : {A : Type 0} (l : List A) (i : ℕ) (a : A) → get_elem? l i ≡ some a → i < length l
in_range [] i a e = absurd (some-ne-none a (sym e))
in_range (x ∷ xs) zero a e = omega arith
in_range (x ∷ xs) (suc i) a e = omega (arith, in_range xs i a e)

pub charge_here : (vs : List View) (id : ℕ) (v w : View) (ws : List ℕ) → get_elem? vs id ≡ some v → Charge ws w
    → SomeCharge ws (set vs id w)
charge_here vs id v w ws me c = (id, w, set_here vs id w (in_range vs id v me), c)

-- whoever saw to the list still does
charge_kept : (vs : List View) (id : ℕ) (v w : View) (ws ws' : List ℕ) → get_elem? vs id ≡ some v
    → (Charge ws v → Charge ws' w)
    → ((j : ℕ) (u : View) → j ≢ id → get_elem? vs j ≡ some u → Charge ws u → Charge ws' u) → SomeCharge ws vs
    → SomeCharge ws' (set vs id w)
charge_kept vs id v w ws ws' me mine others c = dite (ℕ_discrete c.0 id)
    (λ e.
    let same : v ≡ c.1 = some-injective v c.1 (sym me ∙ (ap (get_elem? vs) (sym e) ∙ c.2)) in
    charge_here vs id v w ws' me (mine (subst (Charge ws) (sym same) c.3)))
    (λ ne. (c.0, c.1, set_else vs id c.0 w ne ∙ c.2, others c.0 c.1 ne c.2 c.3))

-- a caller that is charged is so where its own link, if it was 0, still is
pub charge_same : (ws ws' list : List ℕ) (u : View) → SeatOk ws list u
    → ((p : ℕ) → IsPlace p → has_place p u ≡ 1 → get_or ws p 0 ≡ 0 → get_or ws' p 0 ≡ 0) → Charge ws u → Charge ws' u
charge_same ws ws' list (Trying woken p n) ok links c = c
charge_same ws ws' list (Enqueued p) ok links c = links p ok (one_at-same p) c
charge_same ws ws' list (Holding seen owed) ok links c = c
charge_same ws ws' list (Leaving owed) ok links c = c

-- a caller that waits with a place whose link is 0 was told
pub charge_told : (p : ℕ) (u : View) (ws : List ℕ) → 0 < waits_with p u → get_or ws p 0 ≡ 0 → Charge ws u
charge_told p (Trying woken q n) ws waits zero-link = absurd (omega arith)
charge_told p (Enqueued q) ws waits zero-link = dite (ℕ_discrete q p)
    (λ e. ap (λ (x : ℕ). get_or ws x 0) e ∙ zero-link)
    (λ ne. absurd (omega (arith, one_at-other p q ne)))
charge_told p (Holding seen owed) ws waits zero-link = absurd (omega arith)
charge_told p (Leaving owed) ws waits zero-link = absurd (omega arith)

abbrev pub Charged : List ℕ → List ℕ → List View → ℕ → Type 0
Charged list ws vs n = (list ≡ []) ⊎ ((n ≡ 1) ⊎ SomeCharge ws vs)

pub charged_kept : (list ws ws' : List ℕ) (vs : List View) (id : ℕ) (v w : View) (n : ℕ) → get_elem? vs id ≡ some v
    → (Charge ws v → Charge ws' w)
    → ((j : ℕ) (u : View) → j ≢ id → get_elem? vs j ≡ some u → Charge ws u → Charge ws' u) → Charged list ws vs n
    → Charged list ws' (set vs id w) n
charged_kept list ws ws' vs id v w n me mine others charged =
    ⊎_elim inl (λ r. inr (⊎_elim inl (λ c. inr (charge_kept vs id v w ws ws' me mine others c)) r)) charged

-- what a caller is that lets go with these places removed
pub leaving_holds : (ps : List ℕ) → holds_lock (leaving ps) ≡ 0
leaving_holds [] = refl
leaving_holds (x ∷ xs) = refl

pub leaving_has : (p : ℕ) (ps : List ℕ) → IsPlace p → has_place p (leaving ps) ≡ 0
leaving_has p [] is = let pos = is.0 in one_at-other p 0 (λ e. omega arith)
leaving_has p (x ∷ xs) is = refl

pub leaving_waits : (p : ℕ) (ps : List ℕ) → waits_with p (leaving ps) ≡ 0
leaving_waits p [] = refl
leaving_waits p (x ∷ xs) = refl

pub leaving_owes : (p : ℕ) (ps : List ℕ) → owes_place p (leaving ps) ≡ times p ps
leaving_owes p [] = refl
leaving_owes p (x ∷ xs) = refl

pub leaving_ok : (ws list ps : List ℕ) → AllPlaces ps → length ps ≤ 1 → SeatOk ws list (leaving ps)
leaving_ok ws list [] all short = λ pos. absurd (omega arith)
leaving_ok ws list (x ∷ xs) all short = (all, short)

-- a list that ends with what was seen of it and has another head has a first place that was not seen
pub longer : (list newer seen : List ℕ) → list ≡ newer ++ seen → head list ≢ head seen → AllPlaces list
    → (newest : ℕ) × (older : List ℕ) × (list ≡ newest ∷ older) × IsPlace newest × (length seen ≤ length older)
longer list [] seen is other all = absurd (other (ap head is))
longer list (x ∷ newer) seen is other all =
    (x, newer ++ seen, is, (subst AllPlaces is all).0, omega (arith, length-append newer seen))

pub leads_to : (r : ℕ) (places : List ℕ) → r ≡ 1 + head places → AllPlaces places → LinkLeadsTo r places
leads_to r [] is all = record {
  some_link = omega arith;
  last = λ _. refl;
  next = λ ne. absurd (ne is);
}
leads_to r (x ∷ xs) is all =
    let pos = all.0.0 in
    let same : x ≡ r - 1 = omega arith in
    record {
      some_link = omega arith;
      last = λ e. absurd (omega arith);
      next = λ _. (ap (λ (y : ℕ). y ∷ xs) same, subst IsPlace same all.0);
    }

pub zeros : (n k : ℕ) → slice_index (replicate n 0) k ≡ 0
zeros zero k = refl
zeros (suc n) zero = refl
zeros (suc n) (suc k) = zeros n k
