-- A step that keeps the rule of a key keeps it where each caller carries the key, too.
use Rattle.std.proofs.Common.{◌≡◌, ℕ, List, [], ◌∷◌, map, set, get_or, sym, refl, ap, ◌∙◌, subst, ⊎_elim}
use Rattle.std.proofs.Common.{replicate, Option, Some}
use mathlib.Core.Option.{some-ne-none}
use Rattle.std.proofs.lemmas.List.{map-append, map-set}
use Rattle.atomic_table.specs.Table.{State, Me, Step, Allows, Enters, opening, homes_after, carried_after}
use Rattle.atomic_table.proofs.Lists.{at_set, at_snoc, at_map}
use Rattle.lot_word_lock.specs.declared.word_lock.view.View.{View}
use Rattle.lot_word_lock.specs.WordView.{resting}
use Rattle.lot_word_lock.specs.WordKey.{without_key, UnderKey, TellsUnderKey}
use Rattle.lot_word_lock.specs.WordRule.{Orderly}
use Rattle.lot_word_lock.proofs.WordKeeps.{opens}

module _ {S V K : Type 0} (rule : K → State S V → Type 0) (key : K) where
  lift : (n id : ℕ) (m : Me S (K × V)) (i : ℕ) (f g : ℕ → ℕ) (tells : K → Step S → Me S V → ℕ → Me S V → Type 0)
      (st : Step S) → m.0.0 ≡ key
      → Allows (rule key) n id (without_key m) i f (λ r. tells key st (without_key m) (g r))
      → Allows (UnderKey rule key) n id m i f (λ r. TellsUnderKey tells st m (g r))
  lift n id m i f g tells st same allows s o slots me wide =
      let bare = map (λ (carried : K × V). carried.1) in
      let next = allows record { words = s.words; homes = s.homes; views = bare s.views } o.rest slots
      (at_map (λ (carried : K × V). carried.1) s.views id m.0 me) wide in
      let view : K × V = (m.0.0, next.0) in (
        view,
        next.1,
        next.2,
        record {
          carried = λ j other at. ⊎_elim (λ t. ap (λ (v : K × V). v.0) (sym t.1) ∙ same)
              (λ t. o.carried j other t.1) (at_set s.views id j view other at);
          rest = subst (λ (vs : List V). rule key record {
            words = set s.words i (f (get_or s.words i 0));
            homes = homes_after s.homes m.1 next.1;
            views = vs;
          }) (sym (map-set (λ (carried : K × V). carried.1) s.views id view)) next.3;
        },
        record {
          carried = refl;
          told = subst (λ (k : K). tells k st (without_key m) (g (get_or s.words i 0))
              (next.0, carried_after m.1 next.1)) (sym same) next.4;
        },
      )

  -- a step, where the key, the view and the number of slots are known by equations
  pub step_under_key : (n n' id : ℕ) (m : Me S (K × V)) (m' : Me S V) (i : ℕ) (f g : ℕ → ℕ)
      (tells : K → Step S → Me S V → ℕ → Me S V → Type 0) (st : ℕ → Step S) → n ≡ n' → m.0.0 ≡ key → without_key m ≡ m'
      → Allows (rule key) n' id m' i f (λ r. tells key (st n') m' (g r))
      → Allows (UnderKey rule key) n id m i f (λ r. TellsUnderKey tells (st n) m (g r))
  step_under_key n n' id m m' i f g tells st slots same view allows =
      lift n id m i f g tells (st n) same
      (subst (λ (k : ℕ). Allows (rule key) k id (without_key m) i f (λ r. tells key (st k) (without_key m) (g r)))
      (sym slots)
      (subst (λ (x : Me S V). Allows (rule key) n' id x i f (λ r. tells key (st n') x (g r))) (sym view) allows))

  pub opens_under_key : (words : List ℕ) (slots : List S) (view : V) → rule key (opening words slots view)
      → UnderKey rule key (opening words slots (key, view))
  opens_under_key words slots view opens = record {
    carried = λ id other at. ⊎_elim (λ t. absurd (some-ne-none other (sym t))) (λ t. ap (λ (v : K × V). v.0) (sym t))
        (at_snoc [] (key, view) other id at);
    rest = opens;
  }

  pub lift_enters : (n i : ℕ) (v : V) (tells : K → Step S → Me S V → ℕ → Me S V → Type 0) (st : Step S)
      → Enters (rule key) n i (λ r w. tells key st (v, []) r (w, []))
      → Enters (UnderKey rule key) n i (λ r w. TellsUnderKey tells st ((key, v), []) r (w, []))
  lift_enters n i v tells st enters s o slots wide =
      let next = enters record { words = s.words; homes = s.homes; views = map (λ (carried : K × V). carried.1) s.views }
      o.rest slots wide in
      let view : K × V = (key, next.0) in (
        view,
        record {
          carried = λ j other at. ⊎_elim (λ t. o.carried j other t) (λ t. ap (λ (v : K × V). v.0) (sym t))
              (at_snoc s.views view other j at);
          rest = subst (λ (vs : List V). rule key record { words = s.words; homes = s.homes; views = vs })
              (sym (map-append (λ (carried : K × V). carried.1) s.views (view ∷ []))) next.1;
        },
        record { carried = refl; told = next.2 },
      )

module _ {T K : Type 0} (fits : K → T → Type 0) (key : K) where
  -- the rule of a lock of this key
  abbrev pub Keyed : State (Option T) (K × View) → Type 0
  Keyed = UnderKey (λ (k : K). Orderly (fits k)) key

  pub opens_keyed : (value : T) → fits key value → Keyed (opening (replicate 24 0) (Some value ∷ []) (key, resting))
  opens_keyed value fit = opens_under_key (λ (k : K). Orderly (fits k)) key (replicate 24 0) (Some value ∷ []) resting
      (opens (fits key) value fit)

  -- a step of a caller, where the key, the view and the number of slots are known by equations
  pub at_key : (n n' id : ℕ) (m : Me (Option T) (K × View)) (m' : Me (Option T) View) (i : ℕ) (f g : ℕ → ℕ)
      (tells : K → Step (Option T) → Me (Option T) View → ℕ → Me (Option T) View → Type 0) (st : ℕ → Step (Option T))
      → n ≡ n' → m.0.0 ≡ key → without_key m ≡ m'
      → Allows (Orderly (fits key)) n' id m' i f (λ r. tells key (st n') m' (g r))
      → Allows Keyed n id m i f (λ r. TellsUnderKey tells (st n) m (g r))
  at_key = step_under_key (λ (k : K). Orderly (fits k)) key
