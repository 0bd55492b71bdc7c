-- The table's rule gives the rule of a word lock in plain words.
use Rattle.std.proofs.Common.{◌≡◌, ℕ, zero, suc, ◌+◌, ◌<◌, ◌≤◌, ◌≢◌, List, [], ◌∷◌, length}
use Rattle.std.proofs.Common.{get_or, Contains, sym, refl, ap, ◌∙◌, subst, inl, inr, ⊎_elim, arith, Option}
use mathlib.Core.Logic.{dite}
use native.Mathlib.Decide.{ℕ_discrete}
use Rattle.atomic_table.specs.Table.{State}
use Rattle.lot_word_lock.specs.declared.word_lock.view.View.{View}
use Rattle.lot_word_lock.specs.declared.word_lock.view.View.TheVariants.{Trying, Enqueued, Holding, Leaving}
use Rattle.lot_word_lock.specs.WordPlaces.{IsPlace, AllPlaces, total, one_at, times}
use Rattle.lot_word_lock.specs.WordView.{owed_by}
use Rattle.lot_word_lock.specs.WordLockInvariant.{IsHolder, IsEnqueued, Owes, SomeCaller, BitAndHolder, ValueAtHome}
use Rattle.lot_word_lock.specs.WordLockInvariant.{Removals, IsWaitingList, IsCharged, HasCharge, NobodyIsLost}
use Rattle.lot_word_lock.specs.WordLockInvariant.{WordLockInvariant}
use Rattle.lot_word_lock.specs.WordRule.{holds_lock, has_place, waits_with, owes_place, SeatOk, Charge, Orderly}
use Rattle.lot_word_lock.proofs.WordCounts.{one_term, two_terms, some_term, total_le, one_at-same, one_at-other}
use Rattle.lot_word_lock.proofs.WordCounts.{member_place}
use Rattle.lot_word_lock.proofs.WordHolds.{no_repeats, held_by}
use Rattle.lot_word_lock.proofs.WordSeats.{waits_has}

times-contains : (xs : List ℕ) (p : ℕ) → 0 < times p xs → Contains xs p
times-contains [] p stands = absurd (omega arith)
times-contains (x ∷ xs) p stands = dite (ℕ_discrete x p)
    (λ e. (0, omega arith, e))
    (λ ne. let t = times-contains xs p (omega (arith, one_at-other p x ne)) in (suc t.0, omega (arith, t.1), t.2))

contains-times : (xs : List ℕ) (p k : ℕ) → k < length xs → get_or xs k p ≡ p → 0 < times p xs
contains-times [] p k within is = absurd (omega arith)
contains-times (x ∷ xs) p zero within is = omega (arith, ap (one_at p) is, one_at-same p)
contains-times (x ∷ xs) p (suc k) within is = omega (arith, contains-times xs p k (omega arith) is)

contained : (xs : List ℕ) (p : ℕ) → Contains xs p → 0 < times p xs
contained xs p c = contains-times xs p c.0 c.1 c.2

holder_is : (v : View) → 0 < holds_lock v → IsHolder v
holder_is (Trying woken p n) h = absurd (omega arith)
holder_is (Enqueued p) h = absurd (omega arith)
holder_is (Holding seen owed) h = tt
holder_is (Leaving owed) h = absurd (omega arith)

holder_holds : (v : View) → IsHolder v → holds_lock v ≡ 1
holder_holds (Trying woken p n) h = absurd h
holder_holds (Enqueued p) h = absurd h
holder_holds (Holding seen owed) h = refl
holder_holds (Leaving owed) h = absurd h

waiter_is : (p : ℕ) (v : View) → 0 < waits_with p v → IsEnqueued p v
waiter_is p (Trying woken q n) h = absurd (omega arith)
waiter_is p (Enqueued q) h = dite (ℕ_discrete q p) (λ e. ap (λ (x : ℕ). Enqueued x) e)
    (λ ne. absurd (omega (arith, one_at-other p q ne)))
waiter_is p (Holding seen owed) h = absurd (omega arith)
waiter_is p (Leaving owed) h = absurd (omega arith)

waiter_waits : (p : ℕ) (v : View) → IsEnqueued p v → waits_with p v ≡ 1
waiter_waits p v is = ap (waits_with p) is ∙ one_at-same p

owed_places : (ws list : List ℕ) (v : View) → SeatOk ws list v → AllPlaces (owed_by v) × (length (owed_by v) ≤ 1)
owed_places ws list (Trying woken p n) ok = (tt, omega arith)
owed_places ws list (Enqueued p) ok = (tt, omega arith)
owed_places ws list (Holding seen owed) ok = (ok.1, ok.2)
owed_places ws list (Leaving owed) ok = ok

first_owed : (ps : List ℕ) → ps ≢ [] → (p : ℕ) × Contains ps p
first_owed [] owes = absurd (owes refl)
first_owed (p ∷ ps) owes = (p, (0, omega arith, refl))

module _ {T : Type 0} (fits : T → Type 0) (s : State (Option T) View) (o : Orderly fits s) where
  is_charged : (v : View) → Charge s.words v → IsCharged s v
  is_charged (Trying woken p n) c = inl c
  is_charged (Enqueued p) c = inr (inl (p, refl, c))
  is_charged (Holding seen owed) c = absurd c
  is_charged (Leaving owed) c = inr (inr (first_owed owed c))

  bit_and_holder : BitAndHolder s
  bit_and_holder =
      let word = o.word in
      let single = o.single in
      record {
        bit = (
          (λ locked. let t = some_term holds_lock s.views (omega arith) in (t.0, t.1, t.2, holder_is t.1 t.3)),
          λ t. let held = held_by fits s o t.0 t.1 t.2 (holder_holds t.1 t.3) in omega arith,
        );
        one = λ i j v u at-i at-j is-v is-u. dite (ℕ_discrete i j) (λ e. e)
            (λ ne.
            let two = two_terms holds_lock s.views i j v u (λ e. ne (sym e)) at-i at-j in
            let hv = holder_holds v is-v in
            let hu = holder_holds u is-u in
            absurd (omega arith));
      }

  value_at_home : ValueAtHome s fits
  value_at_home =
      let word = o.word in
      let single = o.single in
      record {
        free = λ free. o.home (dite (ℕ_discrete (total holds_lock s.views) 0) (λ e. e)
            (λ ne. absurd (free (omega arith))));
        held = λ locked. o.away (omega arith);
      }

  -- a place that is in the list or owed is that of a caller that waits
  waited_for : (p : ℕ) → IsPlace p → 0 < times p o.list + total (owes_place p) s.views
      → (get_or s.words p 0 ≢ 0) × (times p o.list + total (owes_place p) s.views ≡ 1) ×
      (total (waits_with p) s.views ≡ 1)
  waited_for p is needed =
      let ok = o.each_place p is in
      let once = ok.once in
      let below = total_le (waits_with p) (has_place p) (waits_has p) s.views in
      let linked : get_or s.words p 0 ≢ 0 = λ e. let r = ok.removed e in absurd (omega arith) in
      let r = ok.waiting linked in
      (linked, omega arith, omega arith)

  waiter : (p : ℕ) → total (waits_with p) s.views ≡ 1 → SomeCaller s (IsEnqueued p)
  waiter p waits =
      let t = some_term (waits_with p) s.views (omega arith) in
      (t.0, t.1, t.2, waiter_is p t.1 t.3)

  owed_place : (p : ℕ) → SomeCaller s (Owes p)
      → (get_or s.words p 0 ≢ 0) × (times p o.list ≡ 0) × (total (waits_with p) s.views ≡ 1)
  owed_place p (id, v, at, owes) =
      let owed = contained (owed_by v) p owes in
      let is = member_place (owed_by v) p (owed_places s.words o.list v (o.each_seat id v at)).0 owed in
      let term = one_term (owes_place p) s.views id v at in
      let waited = waited_for p is (omega arith) in
      (waited.0, omega (arith, waited.1), waited.2)

  removals : Removals s o.list
  removals = record {
    removed = λ p owed stands. absurd (omega (arith, contained o.list p stands, (owed_place p owed).1));
    untold = λ p owed. (owed_place p owed).0;
    callers = λ p owed. waiter p (owed_place p owed).2;
    one = λ id v at. (owed_places s.words o.list v (o.each_seat id v at)).1;
  }

  waiting_list : IsWaitingList s o.list
  waiting_list =
      let word = o.word in
      let single = o.single in
      record {
        begins = omega arith;
        places = o.in_places;
        goes_on = o.chain;
        once = no_repeats fits s o;
        callers = λ p stands.
            let in-list = contained o.list p stands in
            waiter p (waited_for p (member_place o.list p o.in_places in-list) (omega arith)).2;
        alone = λ p i j v u at-i at-j is-v is-u. dite (ℕ_discrete i j) (λ e. e)
            (λ ne.
            let two = two_terms (waits_with p) s.views i j v u (λ e. ne (sym e)) at-i at-j in
            let waits-v = waiter_waits p v is-v in
            let waits-u = waiter_waits p u is-u in
            let is : IsPlace p = subst (SeatOk s.words o.list) is-v (o.each_seat i v at-i) in
            let below = total_le (waits_with p) (has_place p) (waits_has p) s.views in
            let once = (o.each_place p is).once in
            absurd (omega arith));
      }

  has_charge : HasCharge s o.list
  has_charge waits =
      let word = o.word in
      ⊎_elim (λ none. absurd (waits none))
      (λ r. ⊎_elim (λ held. inl (omega arith)) (λ c. inr (c.0, c.1, c.2, is_charged c.1 c.3)) r) o.charged

  nobody_is_lost : NobodyIsLost s o.list
  nobody_is_lost = record {
    known = λ p t linked.
        let is : IsPlace p = subst (SeatOk s.words o.list) t.3 (o.each_seat t.0 t.1 t.2) in
        let one = one_term (waits_with p) s.views t.0 t.1 t.2 in
        let waits = waiter_waits p t.1 t.3 in
        let r = (o.each_place p is).waiting linked in
        dite (ℕ_discrete (times p o.list) 0)
        (λ absent. let u = some_term (owes_place p) s.views (omega arith) in
        inr (u.0, u.1, u.2, times-contains (owed_by u.1) p u.3))
        (λ stands. inl (times-contains o.list p (omega arith)));
    one = λ p i j v u at-i at-j owes-v owes-u. dite (ℕ_discrete i j) (λ e. e)
        (λ ne.
        let two = two_terms (owes_place p) s.views i j v u (λ e. ne (sym e)) at-i at-j in
        let ov = contained (owed_by v) p owes-v in
        let ou = contained (owed_by u) p owes-u in
        let is = member_place (owed_by v) p (owed_places s.words o.list v (o.each_seat i v at-i)).0 ov in
        let r = (waited_for p is (omega arith)).1 in
        absurd (omega arith));
  }

  pub keeps_invariant : WordLockInvariant fits s
  keeps_invariant = record {
    list = o.list;
    holder = bit_and_holder;
    value = value_at_home;
    removals = removals;
    waiting = waiting_list;
    charge = has_charge;
    callers = nobody_is_lost;
  }
