-- A new lock keeps the rule of the table, and what the steps of a caller ask of its view.
use Rattle.std.proofs.Common.{◌≡◌, ℕ, ◌+◌, ◌*◌, ◌/◌}
use Rattle.std.proofs.Common.{List, [], ◌∷◌, sym, refl, ap, ◌∙◌, subst, inl}
use Rattle.std.proofs.Common.{⊎_elim, arith}
use Rattle.std.proofs.Common.{replicate, get_or, Option, Some, MutBor}
use Rattle.std.proofs.lemmas.Option.{same_Some}
use Rattle.std.specs.Option.{option_copied_mut}
use mathlib.Core.Option.{some-ne-none}
use Rattle.atomic_table.specs.Table.{Me}
use Rattle.atomic_table.specs.Table.{opening}
use Rattle.atomic_table.proofs.Lists.{at_snoc}
use Rattle.lot_word_lock.specs.declared.word_lock.view.View.{View}
use Rattle.lot_word_lock.specs.declared.word_lock.view.View.TheVariants.{Holding}
use Rattle.lot_word_lock.specs.WordPlaces.{IsPlace}
use Rattle.lot_word_lock.specs.WordView.{resting, leaving}
use Rattle.lot_word_lock.specs.WordLock.{SlotIsWithHolder, seat_of}
use Rattle.lot_word_lock.specs.WordLockInvariant.{IsHolder}
use Rattle.lot_word_lock.specs.declared.word_lock.steps.Caller.{Caller}
use Rattle.lot_word_lock.specs.WordRule.{SeatOk}
use Rattle.lot_word_lock.specs.WordRule.{Orderly}
use Rattle.lot_word_lock.proofs.WordCounts.{one_at-other}
use Rattle.lot_word_lock.proofs.WordSeats.{zeros}

module _ {T : Type 0} (fits : T → Type 0) where
  -- a new lock
  pub opens : (value : T) → fits value → Orderly fits (opening (replicate 24 0) (Some value ∷ []) resting)
  opens value fit = record {
    list = [];
    long = refl;
    word = refl;
    single = omega arith;
    home = λ _. (value, refl, fit);
    away = λ e. absurd (omega arith);
    chain = tt;
    in_places = tt;
    each_place = λ p is.
        let pos = is.0 in
        let mark = zeros 24 (p + 4) in
        let no-place = one_at-other p 0 (λ e. omega arith) in
        record {
          wanted = 0;
          marked = omega arith;
          asked = omega arith;
          once = omega arith;
          removed = λ _. refl;
          waiting = λ ne. absurd (ne (zeros 24 p));
        };
    charged = inl refl;
    each_seat = λ j u e. ⊎_elim (λ t. absurd (some-ne-none u (sym t)))
        (λ t. subst (SeatOk (replicate 24 0) []) t (λ pos. absurd (omega arith))) (at_snoc [] resting u j e);
  }

pub seat_is : {T : Type 0} (m : Me (Option T) View) (v : View) (c : List (ℕ × Option T)) → m.0 ≡ v → m.1 ≡ c
    → m ≡ (v, c)
seat_is m v c knows carries = λ i. (knows i, carries i)

-- a holder that has seen these places
abbrev pub seeing : List ℕ → View
seeing places = Holding places []

-- what a holder has seen of the list, by the word that tells its newest place
pub seen_from : (v : View) (newest : ℕ) (older : List ℕ) (word : ℕ) → v ≡ seeing (newest ∷ older)
    → word ≡ 1 + 2 * newest → IsPlace newest
    → (v ≡ seeing (word / 2 ∷ older)) × IsPlace (word / 2)
seen_from v newest older word sees tells-it is =
    let same : newest ≡ word / 2 = omega arith in
    (sees ∙ ap (λ (x : ℕ). seeing (x ∷ older)) same, subst IsPlace same is)

module _ {T K : Type 0} (caller : Caller T K) where
  -- a holder that has the slot
  pub slot-holder : (seen owed : List ℕ) (inside : Option T) → seat_of caller ≡ (Holding seen owed, (0, inside) ∷ [])
      → SlotIsWithHolder caller
  slot-holder seen owed inside is = record {
    holder = λ _. (inside, λ i. (is i).1);
    other = λ is_other. absurd (is_other (subst IsHolder (sym (λ i. (is i).0)) tt));
  }

  -- another caller, which has none
  pub slot-other : (view : View) → seat_of caller ≡ (view, []) → ¬ IsHolder view → SlotIsWithHolder caller
  slot-other view is is_other = record {
    holder = λ holds. absurd (is_other (subst IsHolder (λ i. (is i).0) holds));
    other = λ _. λ i. (is i).1;
  }

-- a caller that let the lock go does not hold it
pub leaving_is-other : (places : List ℕ) → ¬ IsHolder (leaving places)
leaving_is-other [] holds = holds
leaving_is-other (_ ∷ _) holds = holds

-- the reference that a full slot lends is to the value in it
pub lent-value : {T : Type 0} {slot : Option T} {lent : Option (MutBor T)} {others : List (ℕ × Option T)} (value : T)
    (p : MutBor T) (k : ℕ) → lent ≡ Some p → option_copied_mut lent ≡ slot
    → (k, Some value) ∷ [] ≡ (k, slot) ∷ others → p.now ≡ value
lent-value {T} value p k is shows here = same_Some _ _ (ap option_copied_mut (sym is) ∙ shows
    ∙ ap (λ (slots : List (ℕ × Option T)). (get_or slots 0 (k, Some value)).1) (sym here))
