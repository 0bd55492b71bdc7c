-- Lists of numbers that a title tells.
use Rattle.std.proofs.Common.{◌≡◌, ◌≢◌, ℕ, suc, List, [], ◌∷◌, ◌++◌, length, sym, refl, ap, subst, ⊎_elim, arith, Contains}
use Rattle.std.proofs.lemmas.List.Elements.{Contains-push_cases}
use Rattle.lock_words.specs.StockRule.{NoRepeats}
use Rattle.lock_words.specs.StockSteps.{newest}

pub nothing_in : (ns : List ℕ) (n : ℕ) → ns ≡ [] → Contains ns n → ⊥
nothing_in ns n none c = let short : length ns ≡ 0 = ap length none in let within = c.1 in absurd (omega arith)

pub empty_unless : (ns : List ℕ) → (ns ≢ [] → ⊥) → ns ≡ []
empty_unless [] h = refl
empty_unless (x ∷ xs) h = absurd (h (λ e. cc))

pub Contains-first : (n : ℕ) (ns : List ℕ) → Contains (n ∷ ns) n
Contains-first n ns = (0, omega arith, refl)

pub Contains-behind : (n m : ℕ) (ns : List ℕ) → Contains ns m → Contains (n ∷ ns) m
Contains-behind n m ns c = let within = c.1 in (suc c.0, omega arith, c.2)

pub NoRepeats-push : (ns : List ℕ) (n : ℕ) → NoRepeats ns → ¬ Contains ns n → NoRepeats (ns ++ n ∷ [])
NoRepeats-push [] n once new_one = ((λ c. nothing_in [] n refl c), tt)
NoRepeats-push (m ∷ ns) n once new_one = (
  (λ c. ⊎_elim (λ h. once.0 h) (λ e. new_one (subst (Contains (m ∷ ns)) (sym e) (Contains-first m ns)))
      (Contains-push_cases ns n m c)),
  NoRepeats-push ns n once.1 (λ c. new_one (Contains-behind m n ns c)),
)

pub newest_is : (ns : List ℕ) (n : ℕ) → newest (ns ++ n ∷ []) ≡ n
newest_is [] n = refl
newest_is (m ∷ []) n = refl
newest_is (m ∷ k ∷ ns) n = newest_is (k ∷ ns) n
