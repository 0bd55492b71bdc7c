-- The rule of a word with phases gives its laws.
use Rattle.std.proofs.Common.{◌≡◌, ℕ, ◌/◌, ◌<◌, ◌≤◌, ◌≢◌, List, get_or, sym, ap, ◌∙◌, subst, inl, inr, ⊎_elim, arith, Contains}
use Rattle.std.proofs.Common.{None, Some}
use mathlib.Core.Logic.{dite}
use mathlib.Core.Option.{some}
use native.Mathlib.Decide.{ℕ_discrete}
use lib.ListN.{get_elem?}
use Rattle.lot_word_lock.specs.WordPlaces.{total}
use Rattle.lot_word_lock.proofs.WordCounts.{one_term, two_terms, some_term}
use Rattle.lock_words.specs.StockRule.{SomeSeat, NoRepeats}
use Rattle.lock_words.specs.PhaseRule.{carries_it, leads_it, WaitsIn, Phased}
use Rattle.lock_words.specs.PhaseLaws.{HasHome, TitleTells, LeavesNobody, HasOneLeader}
use Rattle.lock_words.proofs.PhaseBoard.{St}
use Rattle.lock_words.proofs.StockHolds.{some_carried}

module _ {M : Type 0} (told : M → List ℕ) (fits : M → Type 0) (s : St M) (o : Phased told fits s) where
  phase_is : get_or s.words 0 0 / 4 ≡ o.phase
  phase_is =
      let word = o.word in
      let bit = o.bit in
      let carrier = o.carrier in
      dite (ℕ_discrete (total carries_it s.views) 0) (λ e. omega arith)
      (λ ne. let unmarked = o.away (omega arith) in omega arith)

  -- a title that is at home tells the numbers of the rule
  home_tells : (title : M) → HasHome s title → (total carries_it s.views ≡ 0) × (told title ≡ o.numbers)
  home_tells title home =
      let carrier = o.carrier in
      dite (ℕ_discrete (total carries_it s.views) 0)
      (λ at_home.
      let has = o.title_home at_home in
      let both : get_elem? s.homes 0 ≡ some (some (Some has.title)) = has.home in
      let same : title ≡ has.title = cc in
      (at_home, ap told same ∙ has.tells))
      (λ ne. let out = o.title_out (omega arith) in absurd (cc))

  -- so does one that is out
  tells_them : (numbers : List ℕ) → TitleTells s told numbers → numbers ≡ o.numbers
  tells_them numbers tells = ⊎_elim (λ at_home. sym at_home.2 ∙ (home_tells at_home.0 at_home.1).1)
      (λ away. (o.known away.0 away.1 numbers away.2 away.3).0) tells

  carrier_there : total carries_it s.views ≡ 1 → SomeSeat s.views (λ seat. seat.carries ≢ None)
  carrier_there one =
      let t = some_term carries_it s.views (omega arith) in (t.0, t.1, t.2, some_carried t.1.carries t.3)

  pub leaves_nobody : LeavesNobody s told fits
  leaves_nobody =
      let word = o.word in
      let bit = o.bit in
      let carrier = o.carrier in
      record {
        title = dite (ℕ_discrete (total carries_it s.views) 0)
            (λ at_home. let has = o.title_home at_home in inl (has.title, has.home, has.fit))
            (λ ne.
            let one : total carries_it s.views ≡ 1 = omega arith in
            let unmarked = o.away one in
            inr (o.title_out one, omega arith, carrier_there one));
        once = λ numbers tells. subst NoRepeats (sym (tells_them numbers tells)) o.once;
        waits = λ numbers tells n c. subst (λ (p : ℕ). SomeSeat s.views (WaitsIn p n)) (sym phase_is)
            (o.waits n (subst (λ (ns : List ℕ). Contains ns n) (tells_them numbers tells) c));
        marked = λ title home some_wait.
            let known = home_tells title home in
            let at_home = known.0 in
            let marked = o.marked (λ nobody. some_wait (known.1 ∙ nobody)) at_home in
            omega arith;
      }

  some_leader : 0 < total leads_it s.views → SomeSeat s.views (λ seat. 1 ≤ seat.leads)
  some_leader some_lead = let t = some_term leads_it s.views some_lead in (t.0, t.1, t.2, omega (arith, t.3))

  pub has_one_leader : HasOneLeader s
  has_one_leader =
      let led = o.led in
      let is = phase_is in
      record {
        one = λ i j v u at_i at_j leads_i leads_j. dite (ℕ_discrete i j) (λ e. e) (λ ne.
            let two = two_terms leads_it s.views i j v u (λ e. ne (sym e)) at_i at_j in
            absurd (omega arith));
        odd = (
          (λ odd_one. some_leader (omega arith)),
          λ leader.
              let one = one_term leads_it s.views leader.0 leader.1 leader.2 in
              let leads = leader.3 in
              omega arith,
        );
      }
