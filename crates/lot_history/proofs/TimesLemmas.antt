-- The lists of all keys tell how often a thread stands in a place, and so once the list of a key is another.
use Rattle.std.proofs.Common.{◌≡◌, ◌≢◌, ℕ, ◌+◌, ◌==◌, Bool, true, false, cond, List, [], ◌∷◌, ◌++◌, refl, sym, ap, ◌∙◌}
use Rattle.std.proofs.Common.{All, subst, ⊎_elim, arith, filter, not, append-nil}
use Rattle.std.proofs.lemmas.Bool.{cases_eq, eq-eqb, ne_eqb, cond-true, cond-false, eqb-true}
use Rattle.std.proofs.lemmas.List.Elements.{All-nil, All-cons, All-head, All-tail, filter-append}
use Rattle.lot_base.specs.Waiting.{with_value, without_first}
use Rattle.lot_base.proofs.ValueLemmas.{with_value-same, with_value-other}
use Rattle.lot_history.specs.Pieces.{at_key, times_standing}
use Rattle.lot_history.specs.declared.view.Standing.{Standing}
use Rattle.lot_history.proofs.PieceLemmas.{times-append}

pub at_own : (x : Standing) (xs : List Standing) (k : ℕ) → x.key ≡ k → at_key k (x ∷ xs) ≡ x ∷ at_key k xs
at_own x xs k same = cond-true (x.key == k) (x ∷ at_key k xs) (at_key k xs) (eq-eqb x.key k same)

pub at_other : (x : Standing) (xs : List Standing) (k : ℕ) → x.key ≢ k → at_key k (x ∷ xs) ≡ at_key k xs
at_other x xs k other = cond-false (x.key == k) (x ∷ at_key k xs) (at_key k xs) (ne_eqb x.key k other)

-- a list without its first of a key
abbrev without : ℕ → List Standing → List Standing
without key ys = without_first (λ (y : Standing). y.key == key) ys

record Without (x : Standing) (ys rest : List Standing) : Type 0 where
  own : at_key x.key (without x.key ys) ≡ rest
  others : (k : ℕ) → x.key ≢ k → at_key k (without x.key ys) ≡ at_key k ys
  times : (number : ℕ) → times_standing number ys
      ≡ cond (x.number == number) 1 0 + times_standing number (without x.key ys)

without_is : (x : Standing) (ys rest : List Standing) → at_key x.key ys ≡ x ∷ rest → Without x ys rest
without_is x [] rest is = absurd (cc (is))
without_is x (y ∷ ys) rest is =
    ⊎_elim
    (λ (same : y.key ≡ x.key).
    let gone : without x.key (y ∷ ys) ≡ ys =
    cond-true (y.key == x.key) ys (y ∷ without x.key ys) (eq-eqb y.key x.key same) in
    let first : y ∷ at_key x.key ys ≡ x ∷ rest = sym (at_own y ys x.key same) ∙ is in
    let one : y ≡ x = cc in
    let tail : at_key x.key ys ≡ rest = cc in record {
      own = ap (at_key x.key) gone ∙ tail;
      others = λ k other. ap (at_key k) gone ∙ sym (at_other y ys k (λ e. other (sym same ∙ e)));
      times = λ number. rw (gone, one) refl;
    })
    (λ (other : y.key ≢ x.key).
    let kept : without x.key (y ∷ ys) ≡ y ∷ without x.key ys =
    cond-false (y.key == x.key) ys (y ∷ without x.key ys) (ne_eqb y.key x.key other) in
    let behind : Without x ys rest = without_is x ys rest (sym (at_other y ys x.key other) ∙ is) in record {
      own = ap (at_key x.key) kept ∙ (at_other y (without x.key ys) x.key other ∙ behind.own);
      others = λ k apart. ap (at_key k) kept ∙ either k (behind.others k apart);
      times = λ number. let t = behind.times number in rw kept (omega arith);
    })
    (cases_eq y.key x.key)
  where
    either : (k : ℕ) → at_key k (without x.key ys) ≡ at_key k ys
        → at_key k (y ∷ without x.key ys) ≡ at_key k (y ∷ ys)
    either k same = ap (λ (l : List Standing). cond (y.key == k) (y ∷ l) l) same

pub same_times : (number : ℕ) (xs ys : List Standing) → ((k : ℕ) → at_key k xs ≡ at_key k ys)
    → times_standing number xs ≡ times_standing number ys
same_times number [] [] same = refl
same_times number [] (y ∷ ys) same = let own = at_own y ys y.key refl in absurd (cc (same y.key, own))
same_times number (x ∷ xs) ys same =
    let is : Without x ys (at_key x.key xs) =
    without_is x ys (at_key x.key xs) (sym (same x.key) ∙ at_own x xs x.key refl) in
    let rest : times_standing number xs ≡ times_standing number (without x.key ys) =
    same_times number xs (without x.key ys) (λ k. ⊎_elim
    (λ (own : x.key ≡ k). subst (λ q. at_key q xs ≡ at_key q (without x.key ys)) own (sym is.own))
    (λ (other : x.key ≢ k). sym (at_other x xs k other) ∙ (same k ∙ sym (is.others k other)))
    (cases_eq x.key k)) in
    let t = is.times number in omega arith

-- those of other keys
abbrev pub others_of : ℕ → List Standing → List Standing
others_of key standing = filter (λ each. not (each.key == key)) standing

others-own : (key : ℕ) (standing : List Standing) → at_key key (others_of key standing) ≡ []
others-own key [] = refl
others-own key (x ∷ xs) = either (x.key == key) refl (others-own key xs)
  where
    either : (b : Bool) → (x.key == key) ≡ b → at_key key (others_of key xs) ≡ [] → at_key key (cond (not b) (x ∷ others_of key xs) (others_of key xs)) ≡ []
    either true is none = none
    either false is none = cond-false (x.key == key) (x ∷ at_key key (others_of key xs)) (at_key key (others_of key xs)) is
        ∙ none

pub others-other : (key k : ℕ) (standing : List Standing) → k ≢ key → at_key k (others_of key standing) ≡ at_key k standing
others-other key k [] other = refl
others-other key k (x ∷ xs) other = either (x.key == key) refl (others-other key k xs other)
  where
    either : (b : Bool) → (x.key == key) ≡ b → at_key k (others_of key xs) ≡ at_key k xs
        → at_key k (cond (not b) (x ∷ others_of key xs) (others_of key xs)) ≡ at_key k (x ∷ xs)
    either true is same = same
        ∙ sym (at_other x xs k (λ e. other (sym e ∙ eqb-true x.key key is)))
    either false is same = ap (λ (l : List Standing). cond (x.key == k) (x ∷ l) l) same

pub others-times : (key number : ℕ) (standing : List Standing) → times_standing number (others_of key standing)
    + times_standing number (at_key key standing) ≡ times_standing number standing
others-times key number [] = refl
others-times key number (x ∷ xs) = either (x.key == key) (others-times key number xs)
  where
    either : (b : Bool) → times_standing number (others_of key xs) + times_standing number (at_key key xs)
        ≡ times_standing number xs
        → times_standing number (cond (not b) (x ∷ others_of key xs) (others_of key xs))
        + times_standing number (cond b (x ∷ at_key key xs) (at_key key xs)) ≡ times_standing number (x ∷ xs)
    either true same = omega arith
    either false same = omega arith

-- whether a thread stands at the key
abbrev pub HasKey : ℕ → Standing → Type 0
HasKey key each = each.key ≡ key

pub all_at_key : (key : ℕ) (standing : List Standing) → All (HasKey key) (at_key key standing)
all_at_key key [] = All-nil (HasKey key)
all_at_key key (x ∷ xs) =
    ⊎_elim
    (λ (same : x.key ≡ key). subst (All (HasKey key)) (sym (at_own x xs key same))
    (All-cons (HasKey key) x (at_key key xs) same (all_at_key key xs)))
    (λ (other : x.key ≢ key). subst (All (HasKey key)) (sym (at_other x xs key other)) (all_at_key key xs))
    (cases_eq x.key key)

-- threads that all stand at one key
pub at_key-all : (key : ℕ) (standing : List Standing) → All (HasKey key) standing → at_key key standing ≡ standing
at_key-all key [] all = refl
at_key-all key (x ∷ xs) all = at_own x xs key (All-head (HasKey key) x xs all)
    ∙ ap (λ (l : List Standing). x ∷ l) (at_key-all key xs (All-tail (HasKey key) x xs all))

pub at_key-none : (key k : ℕ) (standing : List Standing) → All (HasKey key) standing → k ≢ key
    → at_key k standing ≡ []
at_key-none key k [] all other = refl
at_key-none key k (x ∷ xs) all other =
    at_other x xs k (λ e. other (sym e ∙ All-head (HasKey key) x xs all))
    ∙ at_key-none key k xs (All-tail (HasKey key) x xs all) other

pub at_key-append : (k : ℕ) (xs ys : List Standing) → at_key k (xs ++ ys) ≡ at_key k xs ++ at_key k ys
at_key-append k xs ys = filter-append (λ (each : Standing). each.key == k) xs ys

-- one list of the key is another, and that of each other key stays
abbrev pub ChangesKey : List Standing → List Standing → ℕ → List Standing → Type 0
ChangesKey standing after key list = (k : ℕ) → at_key k after ≡ with_value (λ q. at_key q standing) key list k

module _ (standing : List Standing) (key : ℕ) (list : List Standing) (of_key : All (HasKey key) list) where
  -- threads that stand so
  abbrev pub changed : List Standing
  changed = others_of key standing ++ list

  pub changed_lists : ChangesKey standing changed key list
  changed_lists k =
      ⊎_elim
      (λ (same : k ≡ key). ap (λ q. at_key q changed) same
      ∙ (at_key-append key (others_of key standing) list
      ∙ (ap (λ (l : List Standing). l ++ at_key key list) (others-own key standing)
      ∙ (at_key-all key list of_key ∙ sym (with_value-same (λ q. at_key q standing) key list k same)))))
      (λ (other : k ≢ key). at_key-append k (others_of key standing) list
      ∙ (ap (λ (l : List Standing). at_key k (others_of key standing) ++ l) (at_key-none key k list of_key other)
      ∙ (append-nil (at_key k (others_of key standing)) ∙ (others-other key k standing other
      ∙ sym (with_value-other (λ q. at_key q standing) key list k other)))))
      (cases_eq k key)

  -- how often each thread stands in any such
  pub changed_times : (after : List Standing) → ChangesKey standing after key list → (number : ℕ)
      → times_standing number after + times_standing number (at_key key standing)
      ≡ times_standing number standing + times_standing number list
  changed_times after lists number =
      let same = same_times number after changed (λ k. lists k ∙ sym (changed_lists k)) in
      let both = times-append number (others_of key standing) list in
      let parts = others-times key number standing in omega arith
