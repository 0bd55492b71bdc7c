-- Sums over the views of all callers of a word lock, and lists of its places.
use Rattle.std.proofs.Common.{◌≡◌, ℕ, zero, suc, ◌+◌, ◌<◌, ◌≤◌, ◌≢◌, List, [], ◌∷◌, ◌++◌, cond, length, get_or, set}
use Rattle.std.proofs.Common.{sym, refl, ap, ◌∙◌, arith, eq-eqb, ne_eqb, get_or-set_same, get_or-set_other}
use mathlib.Core.Logic.{dite}
use mathlib.Core.Option.{some, some-injective, some-ne-none}
use native.Mathlib.Decide.{ℕ_discrete}
use lib.ListN.{get_elem?}
use Rattle.lot_word_lock.specs.WordPlaces.{IsPlace, AllPlaces, total, one_at, times, head, FollowsLinks}

module _ {A : Type 0} where
  module _ (f : A → ℕ) where
    pub total-append : (l m : List A) → total f (l ++ m) ≡ total f l + total f m
    total-append [] m = omega arith
    total-append (x ∷ xs) m = omega (arith, total-append xs m)

    pub total-set : (l : List A) (j : ℕ) (v w : A) → get_elem? l j ≡ some v
        → total f (set l j w) + f v ≡ total f l + f w
    total-set [] j v w e = absurd (some-ne-none v (sym e))
    total-set (x ∷ xs) zero v w e = omega (arith, ap f (some-injective x v e))
    total-set (x ∷ xs) (suc j) v w e = omega (arith, total-set xs j v w e)

    pub one_term : (l : List A) (j : ℕ) (v : A) → get_elem? l j ≡ some v → f v ≤ total f l
    one_term [] j v e = absurd (some-ne-none v (sym e))
    one_term (x ∷ xs) zero v e = omega (arith, ap f (some-injective x v e))
    one_term (x ∷ xs) (suc j) v e = omega (arith, one_term xs j v e)

    -- two of the terms of a sum
    pub two_terms : (l : List A) (j k : ℕ) (v u : A) → k ≢ j → get_elem? l j ≡ some v → get_elem? l k ≡ some u
        → f v + f u ≤ total f l
    two_terms [] j k v u n e d = absurd (some-ne-none v (sym e))
    two_terms (x ∷ xs) zero zero v u n e d = absurd (n refl)
    two_terms (x ∷ xs) zero (suc k) v u n e d = omega (arith, ap f (some-injective x v e), one_term xs k u d)
    two_terms (x ∷ xs) (suc j) zero v u n e d = omega (arith, ap f (some-injective x u d), one_term xs j v e)
    two_terms (x ∷ xs) (suc j) (suc k) v u n e d = omega (arith, two_terms xs j k v u (λ h. n (ap suc h)) e d)

    -- a sum that is not 0 has a term that is not 0
    pub some_term : (l : List A) → 0 < total f l → (j : ℕ) × (u : A) × (get_elem? l j ≡ some u) × (0 < f u)
    some_term [] h = absurd (omega arith)
    some_term (x ∷ xs) h = dite (ℕ_discrete (f x) 0)
        (λ none. let t = some_term xs (omega arith) in (suc t.0, t.1, t.2, t.3))
        (λ more. (0, x, refl, omega arith))

  -- one function is nowhere above another, and lies below it at v
  pub total_le : (f g : A → ℕ) → ((u : A) → f u ≤ g u) → (l : List A) → total f l ≤ total g l
  total_le f g le [] = omega arith
  total_le f g le (x ∷ xs) = omega (arith, le x, total_le f g le xs)

  pub total_below : (f g : A → ℕ) → ((u : A) → f u ≤ g u) → (l : List A) (j : ℕ) (v : A) → get_elem? l j ≡ some v
      → total f l + g v ≤ total g l + f v
  total_below f g le [] j v e = absurd (some-ne-none v (sym e))
  total_below f g le (x ∷ xs) zero v e = let same = some-injective x v e in
      omega (arith, ap f same, ap g same, total_le f g le xs)
  total_below f g le (x ∷ xs) (suc j) v e = omega (arith, le x, total_below f g le xs j v e)

pub one_at-same : (p : ℕ) → one_at p p ≡ 1
one_at-same p = ap (λ b. cond b 1 0) (eq-eqb p p refl)

pub one_at-other : (p q : ℕ) → q ≢ p → one_at p q ≡ 0
one_at-other p q ne = ap (λ b. cond b 1 0) (ne_eqb q p ne)

pub times-append : (p : ℕ) (xs ys : List ℕ) → times p (xs ++ ys) ≡ times p xs + times p ys
times-append p xs ys = total-append (one_at p) xs ys

pub member_place : (xs : List ℕ) (p : ℕ) → AllPlaces xs → 0 < times p xs → IsPlace p
member_place [] p all h = absurd (omega arith)
member_place (x ∷ xs) p all h = dite (ℕ_discrete x p)
    (λ e. let a = all.0.0 in let b = all.0.1 in (omega arith, omega arith))
    (λ ne. member_place xs p all.1 (omega (arith, one_at-other p x ne)))

pub AllPlaces-behind : (newer xs : List ℕ) → AllPlaces (newer ++ xs) → AllPlaces xs
AllPlaces-behind [] xs all = all
AllPlaces-behind (x ∷ newer) xs all = AllPlaces-behind newer xs all.1

pub AllPlaces-cut : (newer : List ℕ) (b a : ℕ) → AllPlaces (newer ++ b ∷ a ∷ []) → AllPlaces (newer ++ b ∷ [])
AllPlaces-cut [] b a all = (all.0, tt)
AllPlaces-cut (x ∷ newer) b a all = (all.0, AllPlaces-cut newer b a all.1)

-- a list of places whose head is 0 is empty
pub no_head : (xs : List ℕ) → AllPlaces xs → head xs ≡ 0 → xs ≡ []
no_head [] all e = refl
no_head (x ∷ xs) all e = let some = all.0.0 in absurd (omega arith)

-- a list without repeats that ends with at most one place, which is also its head, has no other
pub whole : (list newer seen : List ℕ) → list ≡ newer ++ seen → length seen ≤ 1 → head list ≡ head seen
    → AllPlaces list → ((p : ℕ) → times p list ≤ 1) → list ≡ seen
whole list [] seen is short heads all once = is
whole list (x ∷ newer) [] is short heads all once = no_head list all heads
whole list (x ∷ newer) (a ∷ []) is short heads all once =
    let first : x ≡ a = sym (ap head is) ∙ heads in
    let twice = ap (times a) is in
    let one : one_at a x ≡ 1 = ap (one_at a) first ∙ one_at-same a in
    absurd (omega (arith, once a, twice, one, one_at-same a, times-append a newer (a ∷ [])))
whole list (x ∷ newer) (a ∷ b ∷ seen) is short heads all once = absurd (omega arith)

pub chain_kept : (ws vs : List ℕ) (xs : List ℕ) → ((p : ℕ) → 0 < times p xs → get_or vs p 0 ≡ get_or ws p 0)
    → FollowsLinks ws xs → FollowsLinks vs xs
chain_kept ws vs [] same c = tt
chain_kept ws vs (x ∷ xs) same c =
    (same x (omega (arith, one_at-same x)) ∙ c.0, chain_kept ws vs xs (λ p h. same p (omega arith)) c.1)

pub chain_behind : (ws newer xs : List ℕ) → FollowsLinks ws (newer ++ xs) → FollowsLinks ws xs
chain_behind ws [] xs c = c
chain_behind ws (x ∷ newer) xs c = chain_behind ws newer xs c.1

pub head_cut : (newer : List ℕ) (b a : ℕ) → head (newer ++ b ∷ a ∷ []) ≡ head (newer ++ b ∷ [])
head_cut [] b a = refl
head_cut (x ∷ newer) b a = refl

pub times_cut : (p : ℕ) (newer : List ℕ) (b a : ℕ) → times p (newer ++ b ∷ a ∷ []) ≡ times p
    (newer ++ b ∷ []) + one_at p a
times_cut p newer b a = omega (arith, times-append p newer (b ∷ a ∷ []), times-append p newer (b ∷ []))

-- the chain that ends at b, once the link of b is 1
pub chain_cut : (ws newer : List ℕ) (b a : ℕ) → b < length ws → times b (newer ++ b ∷ a ∷ []) ≤ 1
    → FollowsLinks ws (newer ++ b ∷ a ∷ []) → FollowsLinks (set ws b 1) (newer ++ b ∷ [])
chain_cut ws [] b a long once c = (get_or-set_same ws b 1 0 long, tt)
chain_cut ws (x ∷ newer) b a long once c =
    let further : one_at b x + times b (newer ++ b ∷ a ∷ []) ≤ 1 = once in
    let more : 1 ≤ times b (newer ++ b ∷ a ∷ []) = omega (arith, times-append b newer (b ∷ a ∷ []), one_at-same b) in
    let other : x ≢ b = λ e. absurd (omega (arith, ap (one_at b) e, one_at-same b)) in (
      get_or-set_other ws b x 1 0 other ∙ (c.0 ∙ ap (λ h. 1 + h) (head_cut newer b a)),
      chain_cut ws newer b a long
          (omega arith) c.1,
    )
