-- Lists of waiters: how often a thread stands in one, and who is taken.
use Rattle.std.proofs.Common.{◌≡◌, ◌≢◌, ℕ, zero, suc, ◌+◌, ◌<◌, ◌≤◌, ◌==◌, Bool, true, false, not, if◌then◌else◌, List}
use Rattle.std.proofs.Common.{[], ◌∷◌, ◌++◌, length, get_or, filter, All, length-append, refl, sym, ap, ◌∙◌, ⊎_elim}
use Rattle.std.proofs.Common.{arith}
use Rattle.std.proofs.lemmas.Bool.{cases_eq, eq-eqb, ne_eqb, cond-true, cond-false, eqb-false}
use Rattle.std.proofs.lemmas.List.Elements.{filter-append, All-nil, All-cons}
use Rattle.std.proofs.lemmas.List.Filters.{length-filter_both}
use Rattle.lot_base.specs.declared.token.UnparkToken.{UnparkToken}
use Rattle.lot_base.specs.Waiting.{has_any, without_first}
use Rattle.lot_machine.specs.declared.status.Status.{Status}
use Rattle.lot_machine.specs.declared.status.Status.TheVariants.{Taken}
use Rattle.lot_machine.specs.Machine.{Waiter, times_in, entries_of, statuses_with_taken}

-- a thread that is among the waiters is taken, and any other is as it was
pub has_any-none : {A : Type 0} (xs : List A) → length xs ≡ 0 → has_any xs ≡ false
has_any-none [] none = refl
has_any-none (x ∷ xs) none = absurd (omega arith)

pub has_any-some : {A : Type 0} (xs : List A) → length xs ≢ 0 → has_any xs ≡ true
has_any-some [] some = absurd (some refl)
has_any-some (x ∷ xs) some = refl

pub statuses_with_taken-other : (token : UnparkToken) (waiters : List Waiter) (status : ℕ → Status) (j : ℕ)
    → times_in j waiters ≡ 0 → statuses_with_taken token waiters status j ≡ status j
statuses_with_taken-other token waiters status j none =
    cond-false (has_any (entries_of j waiters)) (Taken token) (status j) (has_any-none (entries_of j waiters) none)

pub statuses_with_taken-among : (token : UnparkToken) (waiters : List Waiter) (status : ℕ → Status) (j : ℕ)
    → times_in j waiters ≢ 0 → statuses_with_taken token waiters status j ≡ Taken token
statuses_with_taken-among token waiters status j some =
    cond-true (has_any (entries_of j waiters)) (Taken token) (status j) (has_any-some (entries_of j waiters) some)

pub times_in-append : (j : ℕ) (xs ys : List Waiter) → times_in j (xs ++ ys) ≡ times_in j xs + times_in j ys
times_in-append j xs ys = ap length (filter-append (λ waiter. waiter.number == j) xs ys)
    ∙ length-append (filter (λ waiter. waiter.number == j) xs) (filter (λ waiter. waiter.number == j) ys)

pub times_in-own : (waiter : Waiter) (j : ℕ) → j ≡ waiter.number → times_in j (waiter ∷ []) ≡ 1
times_in-own waiter j same = let e = eq-eqb waiter.number j (sym same) in rw e refl

pub times_in-not_own : (waiter : Waiter) (j : ℕ) → j ≢ waiter.number → times_in j (waiter ∷ []) ≡ 0
times_in-not_own waiter j other = let e = ne_eqb waiter.number j (λ same. other (sym same)) in rw e refl

-- without its first of a number, a list has one of it less, and each other number as often
pub times_in-without_own : (number : ℕ) (waiters : List Waiter) → times_in number waiters ≡ 1
    → times_in number (without_first (λ waiter. waiter.number == number) waiters) ≡ 0
times_in-without_own number [] once = absurd (omega (arith, once))
times_in-without_own number (waiter ∷ waiters) once =
    ⊎_elim own (other (times_in-without_own number waiters)) (cases_eq waiter.number number)
  where
    rest : List Waiter
    rest = without_first (λ waiter. waiter.number == number) waiters

    counted : times_in number (waiter ∷ waiters) ≡ times_in number (waiter ∷ []) + times_in number waiters
    counted = times_in-append number (waiter ∷ []) waiters

    own : waiter.number ≡ number → times_in number (if waiter.number == number then waiters else waiter ∷ rest) ≡ 0
    own same =
        ap (times_in number)
        (cond-true (waiter.number == number) waiters (waiter ∷ rest) (eq-eqb waiter.number number same))
        ∙ omega (arith, counted, times_in-own waiter number (sym same), once)

    other : (times_in number waiters ≡ 1 → times_in number rest ≡ 0) → waiter.number ≢ number
        → times_in number (if waiter.number == number then waiters else waiter ∷ rest) ≡ 0
    other behind ne =
        let none = times_in-not_own waiter number (λ same. ne (sym same)) in
        ap (times_in number)
        (cond-false (waiter.number == number) waiters (waiter ∷ rest) (ne_eqb waiter.number number ne))
        ∙ times_in-append number (waiter ∷ []) rest
        ∙ omega (arith, none, behind (omega (arith, counted, none, once)))

pub times_in-without_other : (number j : ℕ) (waiters : List Waiter) → j ≢ number
    → times_in j (without_first (λ waiter. waiter.number == number) waiters) ≡ times_in j waiters
times_in-without_other number j [] apart = refl
times_in-without_other number j (waiter ∷ waiters) apart =
    ⊎_elim own (other (times_in-without_other number j waiters apart)) (cases_eq waiter.number number)
  where
    rest : List Waiter
    rest = without_first (λ waiter. waiter.number == number) waiters

    counted : times_in j (waiter ∷ waiters) ≡ times_in j (waiter ∷ []) + times_in j waiters
    counted = times_in-append j (waiter ∷ []) waiters

    own : waiter.number ≡ number → times_in j (if waiter.number == number then waiters else waiter ∷ rest)
        ≡ times_in j (waiter ∷ waiters)
    own same =
        ap (times_in j) (cond-true (waiter.number == number) waiters (waiter ∷ rest) (eq-eqb waiter.number number same))
        ∙ omega (arith, counted, times_in-not_own waiter j (λ here. apart (here ∙ same)))

    other : times_in j rest ≡ times_in j waiters → waiter.number ≢ number
        → times_in j (if waiter.number == number then waiters else waiter ∷ rest) ≡ times_in j (waiter ∷ waiters)
    other behind ne =
        ap (times_in j) (cond-false (waiter.number == number) waiters (waiter ∷ rest) (ne_eqb waiter.number number ne))
        ∙ times_in-append j (waiter ∷ []) rest
        ∙ omega (arith, counted, behind)

-- each waiter of a list is among them
pub All-among : (waiters : List Waiter) → All (λ waiter. 0 < times_in waiter.number waiters) waiters
All-among [] = All-nil (λ waiter. 0 < times_in waiter.number [])
All-among (waiter ∷ waiters) =
    All-cons (λ w. 0 < times_in w.number (waiter ∷ waiters)) waiter waiters
    (let counted = times_in-append waiter.number (waiter ∷ []) waiters in
    let own = times_in-own waiter waiter.number refl in omega arith)
    (λ k d low. let w = get_or waiters k d in let among : 0 < times_in w.number waiters = All-among waiters k d low in
    let counted = times_in-append w.number (waiter ∷ []) waiters in omega arith)

-- those of other threads
abbrev others_of : ℕ → List Waiter → List Waiter
others_of number waiters = filter (λ waiter. not (waiter.number == number)) waiters

times_in-others : (number j : ℕ) (waiters : List Waiter) → times_in j (others_of number waiters) ≤ times_in j waiters
times_in-others number j [] = omega arith
times_in-others number j (waiter ∷ waiters) = chosen (waiter.number == number) (times_in-others number j waiters)
  where
    rest : List Waiter
    rest = others_of number waiters

    counted : times_in j (waiter ∷ waiters) ≡ times_in j (waiter ∷ []) + times_in j waiters
    counted = times_in-append j (waiter ∷ []) waiters

    chosen : (b : Bool) → times_in j rest ≤ times_in j waiters
        → times_in j (if not b then waiter ∷ rest else rest) ≤ times_in j (waiter ∷ waiters)
    chosen true behind = omega (arith, counted, behind)
    chosen false behind = omega (arith, counted, behind, times_in-append j (waiter ∷ []) rest)

times_in-others_own : (number : ℕ) (waiters : List Waiter) → times_in number (others_of number waiters) ≡ 0
times_in-others_own number [] = refl
times_in-others_own number (waiter ∷ waiters) =
    chosen (waiter.number == number) refl (times_in-others_own number waiters)
  where
    rest : List Waiter
    rest = others_of number waiters

    chosen : (b : Bool) → (waiter.number == number) ≡ b → times_in number rest ≡ 0
        → times_in number (if not b then waiter ∷ rest else rest) ≡ 0
    chosen true own none = none
    chosen false other none =
        omega (
          arith,
          none,
          times_in-append number (waiter ∷ []) rest,
          times_in-not_own waiter number (λ same. eqb-false waiter.number number other (sym same)),
        )

-- a list is no longer than there are numbers, if each stands in it at most once
pub length-le_from_numbers : (n : ℕ) (waiters : List Waiter) → ((j : ℕ) → times_in j waiters ≤ 1)
    → ((j : ℕ) → n ≤ j → times_in j waiters ≡ 0) → length waiters ≤ n
length-le_from_numbers zero [] once none = omega arith
length-le_from_numbers zero (waiter ∷ waiters) once none =
    absurd (let gone = none waiter.number (omega arith) in let here = times_in-own waiter waiter.number refl in
    let counted = times_in-append waiter.number (waiter ∷ []) waiters in omega arith)
length-le_from_numbers (suc n) waiters once none =
    let fewer : length (others_of n waiters) ≤ n =
    length-le_from_numbers n (others_of n waiters) (λ j. let less = times_in-others n j waiters in let one = once j in
    omega arith) below in
    let parted = length-filter_both (λ (waiter : Waiter). waiter.number == n)
    (λ (waiter : Waiter). not (waiter.number == n)) (λ waiter. refl) waiters in
    let one = once n in
    omega arith
  where
    below : (j : ℕ) → n ≤ j → times_in j (others_of n waiters) ≡ 0
    below j high =
        ⊎_elim (λ (same : j ≡ n). ap (λ k. times_in k (others_of n waiters)) same ∙ times_in-others_own n waiters)
        (λ (other : j ≢ n). let gone = none j (omega arith) in let less = times_in-others n j waiters in omega arith)
        (cases_eq j n)
