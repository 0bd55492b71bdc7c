-- Records of keys: one of a key taken away, and none of a key.
use Rattle.std.proofs.Common.{◌≡◌, ◌≢◌, ℕ, ◌+◌, ◌-◌, ◌<◌, ◌==◌, List, [], ◌∷◌, length, get_or, All, cond}
use Rattle.std.proofs.Common.{swap_remove, refl, sym, ap, ◌∙◌, ⊎_elim, arith}
use Rattle.std.proofs.lemmas.Bool.{cases_eq, cond-true, cond-false, eq-eqb, ne_eqb}
use Rattle.std.proofs.lemmas.List.Elements.{All-head, All-tail}
use Rattle.std.proofs.lemmas.List.Sums.{sum_by-cons, sum_by-swap_remove}
use Rattle.lot_base.proofs.ValueLemmas.{with_value-same, with_value-other}
use Rattle.lot_machine.specs.Records.{times_recorded, one_less}

-- what one record counts for
abbrev weight : ℕ → ℕ → ℕ
weight key recorded = cond (recorded == key) 1 0

weight-same : (key recorded : ℕ) → recorded ≡ key → weight key recorded ≡ 1
weight-same key recorded same = cond-true (recorded == key) 1 0 (eq-eqb recorded key same)

weight-other : (key recorded : ℕ) → recorded ≢ key → weight key recorded ≡ 0
weight-other key recorded other = cond-false (recorded == key) 1 0 (ne_eqb recorded key other)

-- one record of a key taken away
pub times_recorded-removed : (keys : List ℕ) (index key d : ℕ) → index < length keys → get_or keys index d ≡ key
    → times_recorded (swap_remove keys index d) ≡ one_less (times_recorded keys) key
times_recorded-removed keys index key d low here = λ i k. counted k i
  where
    counted : (k : ℕ) → times_recorded (swap_remove keys index d) k ≡ one_less (times_recorded keys) key k
    counted k =
        let before : times_recorded (swap_remove keys index d) k + weight k (get_or keys index d)
        ≡ times_recorded keys k = sum_by-swap_remove (weight k) keys index d low in
        ⊎_elim (λ (same : k ≡ key). let one = weight-same k (get_or keys index d) (here ∙ sym same) in
        let fewer : times_recorded (swap_remove keys index d) k ≡ times_recorded keys k - 1 =
        omega (arith, before, one) in
        fewer ∙ ap (λ j. times_recorded keys j - 1) same
        ∙ sym (with_value-same (times_recorded keys) key (times_recorded keys key - 1) k same))
        (λ (other : k ≢ key).
        let none = weight-other k (get_or keys index d) (λ same. other (sym same ∙ here)) in
        let alike : times_recorded (swap_remove keys index d) k ≡ times_recorded keys k = omega (arith, before, none) in
        alike ∙ sym (with_value-other (times_recorded keys) key (times_recorded keys key - 1) k other))
        (cases_eq k key)

-- another key
abbrev pub IsNot : ℕ → ℕ → Type 0
IsNot key recorded = recorded ≢ key

not_recorded : (keys : List ℕ) (key : ℕ) → All (IsNot key) keys → times_recorded keys key ≡ 0
not_recorded [] key none = refl
not_recorded (recorded ∷ keys) key none =
    sum_by-cons (weight key) recorded keys
    ∙ ap (λ w. w + times_recorded keys key) (weight-other key recorded (All-head (IsNot key) recorded keys none))
    ∙ ap (λ n. 0 + n) (not_recorded keys key (All-tail (IsNot key) recorded keys none))

-- a key that is not recorded is as often recorded once less
pub times_recorded-none : (keys : List ℕ) (key : ℕ) → All (IsNot key) keys
    → times_recorded keys ≡ one_less (times_recorded keys) key
times_recorded-none keys key none = λ i k. counted k i
  where
    counted : (k : ℕ) → times_recorded keys k ≡ one_less (times_recorded keys) key k
    counted k =
        ⊎_elim (λ (same : k ≡ key). let zero = not_recorded keys key none in
        let alike : times_recorded keys key ≡ times_recorded keys key - 1 = omega (arith, zero) in
        ap (times_recorded keys) same ∙ alike
        ∙ sym (with_value-same (times_recorded keys) key (times_recorded keys key - 1) k same))
        (λ (other : k ≢ key). sym (with_value-other (times_recorded keys) key (times_recorded keys key - 1) k other))
        (cases_eq k key)
