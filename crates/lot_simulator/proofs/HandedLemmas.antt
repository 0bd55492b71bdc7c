-- The threads that open sections took, and the statuses of the sequential view.
use Rattle.std.proofs.Common.{◌≡◌, ◌≢◌, ℕ, zero, suc, ◌+◌, ◌≤◌, ◌==◌, Bool, true, false, cond, List, [], ◌∷◌, ◌++◌}
use Rattle.std.proofs.Common.{refl, sym, ap, ◌∙◌, arith, ⊎_elim, Some, None, append_assoc, slice_get, slice_set}
use Rattle.std.proofs.lemmas.Bool.{cases_eq, eq-eqb, ne_eqb, false≢true}
use Rattle.std.proofs.lemmas.List.Folds.{list_any-append}
use Rattle.std.proofs.lemmas.List.Sums.{sum_by-cons, sum_by-append}
use Rattle.std.proofs.lemmas.Option.{none-some, get_or_from_slice_get}
use Rattle.std.specs.List.{list_any}
use Rattle.std.specs.Prelude.{◌||◌, Option, flat_map, is_some, is_none, option_and_then}
use Rattle.lot_base.specs.declared.token.UnparkToken.{UnparkToken}
use Rattle.lot_base.proofs.ValueLemmas.{with_value-same, with_value-other, with_value-alike}
use Rattle.lot_machine.specs.declared.status.Status.{Status}
use Rattle.lot_machine.specs.declared.status.Status.TheVariants.{Taken}
use Rattle.lot_simulator.specs.InterleavedState.{FineState, Section, Caller, TakenThread}
use Rattle.lot_simulator.specs.InterleavedSteps.{section_of, with_tokens}
use Rattle.lot_simulator.specs.InterleavedView.{taken_in, with_taken, times_taken, once_if}
use Rattle.lot_machine.specs.Machine.{Waiter, times_in}
use Rattle.lot_machine.specs.Status.{is_taken}
use Rattle.lot_machine.proofs.WaiterLemmas.{times_in-append, times_in-own, times_in-not_own}

-- those of one list and of another
pub times_taken-append : (n : ℕ) (xs ys : List TakenThread)
    → times_taken n (xs ++ ys) ≡ times_taken n xs + times_taken n ys
times_taken-append n xs ys = sum_by-append (λ (t : TakenThread). cond (t.number == n) 1 0) xs ys

pub times_taken-cons : (n : ℕ) (t : TakenThread) (ts : List TakenThread)
    → times_taken n (t ∷ ts) ≡ cond (t.number == n) 1 0 + times_taken n ts
times_taken-cons n t ts = sum_by-cons (λ (t : TakenThread). cond (t.number == n) 1 0) t ts

pub times_taken-own : (n : ℕ) (t : TakenThread) (ts : List TakenThread) → t.number ≡ n
    → times_taken n (t ∷ ts) ≡ 1 + times_taken n ts
times_taken-own n t ts same =
    let it : cond {A = ℕ} (t.number == n) 1 0 ≡ 1 = ap (λ b. cond b 1 0) (eq-eqb t.number n same) in
    omega (arith, times_taken-cons n t ts, it)

pub times_taken-other : (n : ℕ) (t : TakenThread) (ts : List TakenThread) → t.number ≢ n
    → times_taken n (t ∷ ts) ≡ times_taken n ts
times_taken-other n t ts other =
    let not_it : cond {A = ℕ} (t.number == n) 1 0 ≡ 0 = ap (λ b. cond b 1 0) (ne_eqb t.number n other) in
    omega (arith, times_taken-cons n t ts, not_it)

-- a thread is among those that were taken
abbrev pub is_among : ℕ → List TakenThread → Bool
is_among number taken = list_any (λ thread. thread.number == number) taken

-- one that a caller's section took is among those that all took
pub is_among-callers : (n : ℕ) (callers : List Caller)
    → list_any (λ (caller : Caller). is_among n (taken_in caller.section)) callers
    ≡ is_among n (flat_map (λ (caller : Caller). taken_in caller.section) callers)
is_among-callers n [] = refl
is_among-callers n (caller ∷ callers) =
    ap (λ b. is_among n (taken_in caller.section) || b) (is_among-callers n callers)
    ∙ sym (list_any-append (λ (t : TakenThread). t.number == n) (taken_in caller.section)
    (flat_map (λ (caller : Caller). taken_in caller.section) callers))

module _ (n : ℕ) where
  -- who is not among the taken has the status that he had
  pub with_taken-none : (ts : List TakenThread) (f : ℕ → Status) → times_taken n ts ≡ 0 → with_taken ts f n ≡ f n
  with_taken-none [] f none = refl
  with_taken-none (t ∷ ts) f none =
      ⊎_elim (λ (same : t.number ≡ n). absurd (omega (arith, times_taken-own n t ts same, none)))
      (λ (other : t.number ≢ n). with_value-other (with_taken ts f) t.number (Taken t.token) n
      (λ same. other (sym same))
      ∙ with_taken-none ts f (sym (times_taken-other n t ts other) ∙ none))
      (cases_eq t.number n)

  -- who is, is taken, whatever he was
  pub with_taken-among : (ts : List TakenThread) (f g : ℕ → Status) → times_taken n ts ≢ 0
      → with_taken ts f n ≡ with_taken ts g n
  with_taken-among [] f g some = absurd (some refl)
  with_taken-among (t ∷ ts) f g some =
      ⊎_elim (λ (same : t.number ≡ n). with_value-same (with_taken ts f) t.number (Taken t.token) n (sym same)
      ∙ sym (with_value-same (with_taken ts g) t.number (Taken t.token) n (sym same)))
      (λ (other : t.number ≢ n). with_value-alike (with_taken ts f) (with_taken ts g) t.number (Taken t.token) n
      (with_taken-among ts f g (λ none. some (times_taken-other n t ts other ∙ none))))
      (cases_eq t.number n)

  pub is_taken-among : (ts : List TakenThread) (f : ℕ → Status) → times_taken n ts ≢ 0
      → is_taken (with_taken ts f n) ≡ true
  is_taken-among [] f some = absurd (some refl)
  is_taken-among (t ∷ ts) f some =
      ⊎_elim
      (λ (same : t.number ≡ n). ap is_taken (with_value-same (with_taken ts f) t.number (Taken t.token) n (sym same)))
      (λ (other : t.number ≢ n).
      ap is_taken (with_value-other (with_taken ts f) t.number (Taken t.token) n (λ same. other (sym same)))
      ∙ is_taken-among ts f (λ none. some (times_taken-other n t ts other ∙ none)))
      (cases_eq t.number n)

  -- and the taken have one of his number, or do not
  pub is_among-none : (ts : List TakenThread) → times_taken n ts ≡ 0 → is_among n ts ≡ false
  is_among-none [] none = refl
  is_among-none (t ∷ ts) none =
      ⊎_elim (λ (same : t.number ≡ n). absurd (omega (arith, times_taken-own n t ts same, none)))
      (λ (other : t.number ≢ n). ap (λ b. b || is_among n ts) (ne_eqb t.number n other)
      ∙ is_among-none ts (sym (times_taken-other n t ts other) ∙ none))
      (cases_eq t.number n)

  pub is_among-some : (ts : List TakenThread) → times_taken n ts ≢ 0 → is_among n ts ≡ true
  is_among-some [] some = absurd (some refl)
  is_among-some (t ∷ ts) some =
      ⊎_elim (λ (same : t.number ≡ n). ap (λ b. b || is_among n ts) (eq-eqb t.number n same))
      (λ (other : t.number ≢ n). ap (λ b. b || is_among n ts) (ne_eqb t.number n other)
      ∙ is_among-some ts (λ none. some (times_taken-other n t ts other ∙ none)))
      (cases_eq t.number n)

  -- statuses that agree on a thread agree on it once these are taken
  pub with_taken-alike : (ts : List TakenThread) (f g : ℕ → Status) → f n ≡ g n → with_taken ts f n ≡ with_taken ts g n
  with_taken-alike [] f g alike = alike
  with_taken-alike (t ∷ ts) f g alike =
      with_value-alike (with_taken ts f) (with_taken ts g) t.number (Taken t.token) n (with_taken-alike ts f g alike)

  pub with_taken-append : (xs ys : List TakenThread) (f : ℕ → Status)
      → with_taken (xs ++ ys) f n ≡ with_taken xs (with_taken ys f) n
  with_taken-append [] ys f = refl
  with_taken-append (x ∷ xs) ys f =
      with_value-alike (with_taken (xs ++ ys) f) (with_taken xs (with_taken ys f)) x.number (Taken x.token) n
      (with_taken-append xs ys f)

  -- the waiters that an unpark takes, with its token
  pub times_taken-with_tokens : (token : UnparkToken) (waiters : List Waiter)
      → times_taken n (with_tokens token waiters) ≡ times_in n waiters
  times_taken-with_tokens token [] = refl
  times_taken-with_tokens token (waiter ∷ waiters) =
      let taken : TakenThread = record { number = waiter.number; token = token } in
      let rest = times_taken-with_tokens token waiters in
      let counted = times_in-append n (waiter ∷ []) waiters in
      ⊎_elim (λ (same : waiter.number ≡ n). omega (
        arith,
        times_taken-own n taken (with_tokens token waiters) same,
        rest,
        counted,
        times_in-own waiter n (sym same),
      ))
      (λ (other : waiter.number ≢ n). omega (
        arith,
        times_taken-other n taken (with_tokens token waiters) other,
        rest,
        counted,
        times_in-not_own waiter n (λ same. other (sym same)),
      ))
      (cases_eq waiter.number n)

  pub with_taken-with_tokens : (token : UnparkToken) (waiters : List Waiter) (f : ℕ → Status) → times_in n waiters ≢ 0
      → with_taken (with_tokens token waiters) f n ≡ Taken token
  with_taken-with_tokens token [] f some = absurd (some refl)
  with_taken-with_tokens token (waiter ∷ waiters) f some =
      let rest : ℕ → Status = with_taken (with_tokens token waiters) f in
      ⊎_elim (λ (same : waiter.number ≡ n). with_value-same rest waiter.number (Taken token) n (sym same))
      (λ (other : waiter.number ≢ n).
      with_value-other rest waiter.number (Taken token) n (λ same. other (sym same))
      ∙ with_taken-with_tokens token waiters f (λ none. some (omega (
        arith,
        times_in-append n (waiter ∷ []) waiters,
        times_in-not_own waiter n (λ same. other (sym same)),
        none,
      ))))
      (cases_eq waiter.number n)

pub once_if-most : (b : Bool) → once_if b ≤ 1
once_if-most true = omega arith
once_if-most false = omega arith

-- no slot, where none is counted
pub None-from : {A : Type 0} (o : Option A) → once_if (is_some o) ≡ 0 → o ≡ None
None-from None none = refl
None-from (Some x) none = absurd (omega (arith, none))

pub None-from_test : {A : Type 0} (o : Option A) → is_none o ≡ true → o ≡ None
None-from_test None none = refl
None-from_test (Some x) none = absurd (false≢true none)

-- those that open sections took, before and after those of one caller
pub record TakenAround (callers : List Caller) (i : ℕ) (section : Option Section) : Type 0 where
  pub before : List TakenThread
  pub after : List TakenThread
  pub old : flat_map (λ (c : Caller). taken_in c.section) callers ≡ before ++ (taken_in section ++ after)
  pub set : (c : Caller) → flat_map (λ (c : Caller). taken_in c.section) (slice_set callers i c)
      ≡ before ++ (taken_in c.section ++ after)

pub taken_around : (callers : List Caller) (i : ℕ) (c : Caller) → slice_get callers i ≡ Some c
    → TakenAround callers i c.section
taken_around [] i c at = absurd (none-some c at)
taken_around (x ∷ xs) zero c at =
    let same : x ≡ c = get_or_from_slice_get (x ∷ xs) 0 c c at in
    let rest : List TakenThread = flat_map (λ (c : Caller). taken_in c.section) xs in
    record {
      before = [];
      after = rest;
      old = ap (λ (c : Caller). taken_in c.section ++ rest) same;
      set = λ c. refl;
    }
taken_around (x ∷ xs) (suc i) c at =
    let rest = taken_around xs i c at in
    record {
      before = taken_in x.section ++ rest.before;
      after = rest.after;
      old = ap (λ ts. taken_in x.section ++ ts) rest.old ∙ sym (append_assoc (taken_in x.section) rest.before _);
      set = λ c. ap (λ ts. taken_in x.section ++ ts) (rest.set c)
          ∙ sym (append_assoc (taken_in x.section) rest.before _);
    }

-- a caller with an open section
pub caller_at : (s : FineState) (caller : ℕ) (section : Section) → section_of s caller ≡ Some section
    → (c : Caller) × (slice_get s.callers caller ≡ Some c) × (c.section ≡ Some section)
caller_at s caller section open_is = at (slice_get s.callers caller) refl open_is
  where
    at : (o : Option Caller) → slice_get s.callers caller ≡ o → option_and_then (λ c. c.section) o ≡ Some section
        → (c : Caller) × (slice_get s.callers caller ≡ Some c) × (c.section ≡ Some section)
    at None is none = absurd (none-some section none)
    at (Some c) is same = (c, is, same)
