-- How many numbers pass a test.
use Rattle.std.proofs.Common.{◌≡◌, ◌≢◌, ℕ, zero, suc, ◌+◌, ◌<◌, ◌≤◌, Bool, true, false, cond, refl, sym, ap, ◌∙◌}
use Rattle.std.proofs.Common.{⊎_elim, arith}
use Rattle.std.specs.List.{count_by, range_with_len}
use Rattle.std.proofs.lemmas.Bool.{cases_eq}
use Rattle.std.proofs.lemmas.List.Sums.{sum_by-cons}

-- what a number counts for
abbrev weigh : Bool → ℕ
weigh b = cond b 1 0

count_by-first : (p : ℕ → Bool) (a n : ℕ) → count_by p (range_with_len a (suc n))
    ≡ weigh (p a) + count_by p (range_with_len (a + 1) n)
count_by-first p a n = sum_by-cons (λ number. weigh (p number)) a (range_with_len (a + 1) n)

-- two tests that agree
pub count_by-alike : (p q : ℕ → Bool) (a n : ℕ) → ((j : ℕ) → p j ≡ q j)
    → count_by p (range_with_len a n) ≡ count_by q (range_with_len a n)
count_by-alike p q a n alike = ap (λ test. count_by test (range_with_len a n)) (λ i j. alike j i)

-- two tests that agree on the numbers from a on
count_by-behind : (p q : ℕ → Bool) (number a n : ℕ) → ((j : ℕ) → j ≢ number → p j ≡ q j) → number < a
    → count_by p (range_with_len a n) ≡ count_by q (range_with_len a n)
count_by-behind p q number a zero others below = refl
count_by-behind p q number a (suc n) others below =
    let alike = ap weigh (others a (λ same. absurd (omega (arith, same, below)))) in
    omega (
      arith,
      count_by-first p a n,
      count_by-first q a n,
      alike,
      count_by-behind p q number (a + 1) n others (omega (arith, below)),
    )

-- one of the numbers passes the second test alone
pub count_by-one_more : (p q : ℕ → Bool) (number a n : ℕ) → p number ≡ false → q number ≡ true
    → ((j : ℕ) → j ≢ number → p j ≡ q j) → a ≤ number → number < a + n
    → count_by q (range_with_len a n) ≡ count_by p (range_with_len a n) + 1
count_by-one_more p q number a zero before after others low high = absurd (omega (arith, low, high))
count_by-one_more p q number a (suc n) before after others low high =
    ⊎_elim here
    (λ (other : number ≢ a). elsewhere other
    (count_by-one_more p q number (a + 1) n before after others (omega (arith, low, other)) (omega (arith, high))))
    (cases_eq number a)
  where
    here : number ≡ a → count_by q (range_with_len a (suc n)) ≡ count_by p (range_with_len a (suc n)) + 1
    here same =
        let at_p : weigh (p a) ≡ 0 = ap (λ k. weigh (p k)) (sym same) ∙ ap weigh before in
        let at_q : weigh (q a) ≡ 1 = ap (λ k. weigh (q k)) (sym same) ∙ ap weigh after in
        omega (
          arith,
          count_by-first p a n,
          count_by-first q a n,
          at_p,
          at_q,
          count_by-behind p q number (a + 1) n others (omega (arith, same)),
        )

    elsewhere : number ≢ a → count_by q (range_with_len (a + 1) n) ≡ count_by p (range_with_len (a + 1) n) + 1
        → count_by q (range_with_len a (suc n)) ≡ count_by p (range_with_len a (suc n)) + 1
    elsewhere other rest =
        let alike = ap weigh (others a (λ same. other (sym same))) in
        omega (arith, count_by-first p a n, count_by-first q a n, alike, rest)
