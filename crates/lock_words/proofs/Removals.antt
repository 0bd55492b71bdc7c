-- Lists of numbers from which one was taken.
use Rattle.std.specs.Prelude.{Contains}
use Rattle.std.proofs.Common.{◌≡◌, ◌≢◌, ◌==◌, ℕ, List, [], ◌∷◌, sym, refl, subst, ⊎_elim}
use Rattle.std.proofs.lemmas.Bool.{cases_eq, cond-true, cond-false, eq-eqb, ne_eqb}
use Rattle.std.proofs.lemmas.Map.Made.{Contains-tail}
use Rattle.lot_base.specs.Waiting.{without_first}
use Rattle.lock_words.specs.StockRule.{NoRepeats}
use Rattle.lock_words.specs.StockSteps.{behind}
use Rattle.lock_words.proofs.NumberLists.{Contains-first, Contains-behind, nothing_in}

-- the numbers behind the first, which is none of them
pub behind_once : (ns : List ℕ) → NoRepeats ns → NoRepeats (behind ns)
behind_once [] once = tt
behind_once (n ∷ ns) once = once.1

pub behind_among : (ns : List ℕ) (n : ℕ) → Contains (behind ns) n → Contains ns n
behind_among [] n c = c
behind_among (m ∷ ns) n c = Contains-behind m n ns c

-- the numbers without one of them
pub without_among : (number : ℕ) (numbers : List ℕ) (n : ℕ) → Contains (without_first (λ each. each == number) numbers) n
    → Contains numbers n
without_among number [] n has = has
without_among number (m ∷ numbers) n has =
    ⊎_elim
    (λ (own : m ≡ number). Contains-behind m n numbers
    (subst (λ (ns : List ℕ). Contains ns n)
    (cond-true (m == number) numbers (m ∷ without_first (λ each. each == number) numbers) (eq-eqb m number own)) has))
    (λ (other : m ≢ number). let at = subst (λ (ns : List ℕ). Contains ns n)
    (cond-false (m == number) numbers (m ∷ without_first (λ each. each == number) numbers) (ne_eqb m number other)) has in
    ⊎_elim
    (λ (first : m ≡ n). subst (Contains (m ∷ numbers)) first (Contains-first m numbers))
    (λ (later : m ≢ n). Contains-behind m n numbers
    (without_among number numbers n (Contains-tail m (without_first (λ each. each == number) numbers) n later at)))
    (cases_eq m n))
    (cases_eq m number)

pub without_once : (number : ℕ) (numbers : List ℕ) → NoRepeats numbers → NoRepeats (without_first (λ each. each == number) numbers)
without_once number [] once = once
without_once number (m ∷ numbers) once =
    ⊎_elim
    (λ (own : m ≡ number). subst NoRepeats
    (sym (cond-true (m == number) numbers (m ∷ without_first (λ each. each == number) numbers) (eq-eqb m number own))) once.1)
    (λ (other : m ≢ number). subst NoRepeats
    (sym (cond-false (m == number) numbers (m ∷ without_first (λ each. each == number) numbers) (ne_eqb m number other)))
    ((λ has. once.0 (without_among number numbers m has)), without_once number numbers once.1))
    (cases_eq m number)

pub without_gone : (number : ℕ) (numbers : List ℕ) → NoRepeats numbers → ¬ Contains (without_first (λ each. each == number) numbers) number
without_gone number [] once has = nothing_in [] number refl has
without_gone number (m ∷ numbers) once has =
    ⊎_elim
    (λ (own : m ≡ number). once.0 (subst (Contains numbers) (sym own) (subst (λ (ns : List ℕ). Contains ns number)
    (cond-true (m == number) numbers (m ∷ without_first (λ each. each == number) numbers) (eq-eqb m number own)) has)))
    (λ (other : m ≢ number). without_gone number numbers once.1
    (Contains-tail m (without_first (λ each. each == number) numbers) number other (subst (λ (ns : List ℕ). Contains ns number)
    (cond-false (m == number) numbers (m ∷ without_first (λ each. each == number) numbers) (ne_eqb m number other)) has)))
    (cases_eq m number)
