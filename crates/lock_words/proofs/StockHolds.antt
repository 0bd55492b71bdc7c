-- The rule of a stock gives its laws.
use Rattle.std.proofs.Common.{◌≡◌, ℕ, ◌/◌, ◌<◌, ◌≤◌, ◌≢◌, Bool, true, List, get_or, sym, ap, ◌∙◌, subst, inl, inr, ⊎_elim, arith, Contains}
use Rattle.std.proofs.Common.{Option, None, Some}
use mathlib.Core.Logic.{dite}
use mathlib.Core.Option.{some}
use native.Mathlib.Decide.{ℕ_discrete}
use lib.ListN.{get_elem?}
use Rattle.lot_word_lock.specs.WordPlaces.{total}
use Rattle.lot_word_lock.proofs.WordCounts.{one_term, two_terms, some_term}
use Rattle.lock_words.specs.declared.stock.Content.TheVariants.{Title}
use Rattle.lock_words.specs.StockRule.{one_if_some, holds_it, carries_it, SomeSeat, NoRepeats, Placed, Counted}
use Rattle.lock_words.specs.StockLaws.{SomeHolder, HasHome, ConservesPermits, IsExclusive, TitleTells, ForgetsNobody}
use Rattle.lock_words.proofs.StockBoard.{St}

pub some_carried : (carries : Option (List ℕ)) → 0 < one_if_some carries → carries ≢ None
some_carried None h = absurd (omega arith)
some_carried (Some ns) h = λ e. cc

module _ {T M : Type 0} (told : M → List ℕ) (fits : M → Type 0) (permits : ℕ) (guards : Bool) (s : St T M)
    (o : Counted told fits permits guards s) where
  free_is : get_or s.words 0 0 / 4 ≡ o.free
  free_is =
      let word = o.word in
      let bit = o.bit in
      let carrier = o.carrier in
      dite (ℕ_discrete (total carries_it s.views) 0) (λ e. omega arith)
      (λ ne. let unmarked = o.away (omega arith) in omega arith)

  pub conserves : ConservesPermits s permits
  conserves =
      let conserved = o.conserved in
      let free = free_is in
      omega arith

  some_holder : 1 ≤ total holds_it s.views → SomeHolder s
  some_holder some_held = let t = some_term holds_it s.views (omega arith) in (t.0, t.1, t.2, omega (arith, t.3))

  held_by : SomeHolder s → 1 ≤ total holds_it s.views
  held_by holder =
      let one = one_term holds_it s.views holder.0 holder.1 holder.2 in
      let holds = holder.3 in
      omega arith

  module _ (guarding : guards ≡ true) where
    placed : (free : ℕ) → o.free ≡ free → Placed true free s.homes
    placed free is = subst (λ (n : ℕ). Placed true n s.homes) is
        (subst (λ (b : Bool). Placed b o.free s.homes) guarding o.placed)

    pub excludes : IsExclusive s
    excludes =
        let one = o.single guarding in
        let conserved = o.conserved in
        let free = free_is in
        record {
          one = λ i j v u at_i at_j holds_i holds_j. dite (ℕ_discrete i j) (λ e. e) (λ ne.
              let two = two_terms holds_it s.views i j v u (λ e. ne (sym e)) at_i at_j in
              absurd (omega arith));
          free = λ nobody. dite (ℕ_discrete (total holds_it s.views) 0)
              (λ none_held. placed 1 (omega arith))
              (λ ne. absurd (nobody (some_holder (omega arith))));
          held = λ holder. let some_held = held_by holder in placed 0 (omega arith);
          told = ((λ few. some_holder (omega arith)), λ holder. let some_held = held_by holder in omega arith);
        }

  -- a title that is at home tells the numbers of the rule
  home_tells : (title : M) → HasHome s title → (total carries_it s.views ≡ 0) × (told title ≡ o.numbers)
  home_tells title home =
      let carrier = o.carrier in
      dite (ℕ_discrete (total carries_it s.views) 0)
      (λ at_home.
      let has = o.title_home at_home in
      let both : get_elem? s.homes 1 ≡ some (some (Title has.title)) = has.home in
      let same : title ≡ has.title = cc in
      (at_home, ap told same ∙ has.tells))
      (λ ne. let out = o.title_out (omega arith) in absurd (cc))

  -- so does one that is out
  tells_them : (numbers : List ℕ) → TitleTells s told numbers → numbers ≡ o.numbers
  tells_them numbers tells = ⊎_elim (λ at_home. sym at_home.2 ∙ (home_tells at_home.0 at_home.1).1)
      (λ away. (o.known away.0 away.1 numbers away.2 away.3).0) tells

  carrier_there : total carries_it s.views ≡ 1 → SomeSeat s.views (λ seat. seat.carries ≢ None)
  carrier_there one =
      let t = some_term carries_it s.views (omega arith) in (t.0, t.1, t.2, some_carried t.1.carries t.3)

  pub forgets_nobody : ForgetsNobody s told fits
  forgets_nobody =
      let word = o.word in
      let bit = o.bit in
      let carrier = o.carrier in
      let free = free_is in
      record {
        title = dite (ℕ_discrete (total carries_it s.views) 0)
            (λ at_home. let has = o.title_home at_home in inl (has.title, has.home, has.fit))
            (λ ne.
            let one : total carries_it s.views ≡ 1 = omega arith in
            let unmarked = o.away one in
            inr (o.title_out one, omega arith, carrier_there one));
        once = λ numbers tells. subst NoRepeats (sym (tells_them numbers tells)) o.once;
        waits = λ numbers tells n c. o.waits n (subst (λ (ns : List ℕ). Contains ns n) (tells_them numbers tells) c);
        marked = λ title home some_wait.
            let known = home_tells title home in
            let at_home = known.0 in
            let marked = o.marked (λ nobody. some_wait (known.1 ∙ nobody)) at_home in
            omega arith;
        awake = λ numbers tells some_wait some_free.
            let same = tells_them numbers tells in
            let charge = o.charged (λ nobody. some_wait (same ∙ nobody)) (omega arith) in
            (charge.0, subst (λ (ns : List ℕ). ¬ Contains ns charge.0) (sym same) charge.1, charge.2);
      }
