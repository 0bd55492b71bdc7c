-- What a value at one argument replaces.
use Rattle.std.proofs.Common.{◌≡◌, ◌≢◌, ℕ, sym, ◌∙◌, ⊎_elim}
use Rattle.std.proofs.lemmas.Bool.{cases_eq}
use Rattle.lot_base.specs.Waiting.{with_value}
use Rattle.lot_base.proofs.ValueLemmas.{with_value-same, with_value-other}

-- the later of two values at one argument counts
pub with_value-twice : {A : Type 0} (f : ℕ → A) (key : ℕ) (first second : A) (k : ℕ) →
    with_value (with_value f key first) key second k ≡ with_value f key second k
with_value-twice f key first second k =
    ⊎_elim (λ (same : k ≡ key). with_value-same (with_value f key first) key second k same
    ∙ sym (with_value-same f key second k same))
    (λ (other : k ≢ key). with_value-other (with_value f key first) key second k other
    ∙ with_value-other f key first k other ∙ sym (with_value-other f key second k other))
    (cases_eq k key)
