-- A function with another value at one argument.
use Rattle.std.proofs.Common.{◌≡◌, ◌≢◌, ℕ, ◌==◌, List, map, sym, ap, ◌∙◌, ⊎_elim}
use Rattle.std.proofs.lemmas.Bool.{cases_eq, eq-eqb, ne_eqb, cond-true, cond-false}
use Rattle.lot_base.specs.Waiting.{with_value}

pub with_value-same : {A : Type 0} (f : ℕ → A) (key : ℕ) (value : A) (k : ℕ) → k ≡ key
    → with_value f key value k ≡ value
with_value-same f key value k same = cond-true (k == key) value (f k) (eq-eqb k key same)

pub with_value-other : {A : Type 0} (f : ℕ → A) (key : ℕ) (value : A) (k : ℕ) → k ≢ key → with_value f key value k ≡ f k
with_value-other f key value k other = cond-false (k == key) value (f k) (ne_eqb k key other)

-- a value that is there already changes nothing
pub with_value-same_value : {A : Type 0} (f : ℕ → A) (key : ℕ) (value : A) → value ≡ f key → (k : ℕ)
    → with_value f key value k ≡ f k
with_value-same_value f key value there k =
    ⊎_elim (λ (same : k ≡ key). with_value-same f key value k same ∙ there ∙ ap f (sym same))
    (with_value-other f key value k)
    (cases_eq k key)

-- two functions that agree at an argument do so afterwards
pub with_value-alike : {A : Type 0} (f g : ℕ → A) (key : ℕ) (value : A) (k : ℕ) → f k ≡ g k
    → with_value f key value k ≡ with_value g key value k
with_value-alike f g key value k alike =
    ⊎_elim (λ (same : k ≡ key). with_value-same f key value k same ∙ sym (with_value-same g key value k same))
    (λ (other : k ≢ key). with_value-other f key value k other ∙ alike ∙ sym (with_value-other g key value k other))
    (cases_eq k key)

pub map-with_value : {A B : Type 0} (f : A → B) (lists : ℕ → List A) (key : ℕ) (list : List A) (k : ℕ)
    → map f (with_value lists key list k) ≡ with_value (λ q. map f (lists q)) key (map f list) k
map-with_value f lists key list k =
    ⊎_elim (λ (same : k ≡ key). ap (map f) (with_value-same lists key list k same)
    ∙ sym (with_value-same (λ q. map f (lists q)) key (map f list) k same))
    (λ (other : k ≢ key). ap (map f) (with_value-other lists key list k other)
    ∙ sym (with_value-other (λ q. map f (lists q)) key (map f list) k other))
    (cases_eq k key)
