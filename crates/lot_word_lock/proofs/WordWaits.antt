-- The steps of a caller that enters the list and waits keep the table's rule.
use Rattle.std.proofs.Common.{◌≡◌, ℕ, ◌+◌, ◌*◌, ◌/◌, ◌%◌, ◌≢◌, Bool, true}
use Rattle.std.proofs.Common.{eqb, List, [], ◌∷◌, get_or, set, sym, refl, ap, ◌∙◌, subst, inl, inr}
use Rattle.std.proofs.Common.{arith, length-set, get_or-set_other, get_or-set_same}
use Rattle.std.proofs.Common.{Option}
use mathlib.Core.Logic.{dite}
use mathlib.Core.Option.{some, none, some-injective, some-ne-none}
use mathlib.Core.Option as maybe
use native.Mathlib.Decide.{ℕ_discrete}
use lib.ListN.{get_elem?}
use prog.Atomic.{either}
use Rattle.atomic_table.specs.Table.{Me, step, keeps}
use Rattle.atomic_table.specs.Table.{Allows}
use Rattle.atomic_table.proofs.Lists.{exchanged}
use Rattle.lot_word_lock.specs.declared.word_lock.view.View.{View}
use Rattle.lot_word_lock.specs.declared.word_lock.view.View.TheVariants.{Trying, Enqueued}
use Rattle.lot_word_lock.specs.WordPlaces.{IsPlace, total, times}
use Rattle.lot_word_lock.specs.WordRule.{holds_lock, has_place, waits_with, owes_place, PlaceOk}
use Rattle.lot_word_lock.specs.WordRule.{Orderly}
use Rattle.lot_word_lock.specs.WordSteps.{LinkTells, EnqueueTells, LookTells}
use Rattle.lot_word_lock.proofs.WordCounts.{total-set}
use Rattle.lot_word_lock.proofs.WordCounts.{one_at-same, one_at-other, member_place}
use Rattle.lot_word_lock.proofs.WordCounts.{chain_kept}
use Rattle.lot_word_lock.proofs.WordSeats.{place_kept, not_waiting, one_owner, seat_kept, charge_here}
use Rattle.lot_word_lock.proofs.WordSeats.{charge_same, charged_kept}
use Rattle.lot_word_lock.proofs.WordBoard.{rebuilt, loaded, unmoved, Goes, others_than_0, marks_than_0}

module _ {T : Type 0} (fits : T → Type 0) where
  -- a caller writes the link of its place, which is not in the list
  pub links_own : (n id : ℕ) (woken : Bool) (p link k : ℕ) → IsPlace p
      → Allows (Orderly fits) n id (Trying woken p link, []) p (λ _. k)
      (λ _. LinkTells (step n p k 0 none) (Trying woken p link, []) k)
  links_own n id woken p link k is s o wide me _ =
      let m : Me (Option T) View = (Trying woken p link, []) in
      let low = is.0 in
      let high = is.1 in
      let long = o.long in
      let w : View = Trying woken p k in
      let ws : List ℕ = set s.words p k in
      let here : get_or ws p 0 ≡ k = get_or-set_same s.words p k 0 (omega arith) in
      let elsewhere : (j : ℕ) → j ≢ p → get_or ws j 0 ≡ get_or s.words j 0 =
      λ j ne. get_or-set_other s.words p j k 0 ne in
      let ok = o.each_place p is in
      let apart = not_waiting s.views id m.0 s.words o.list p me (one_at-same p) refl ok in
      let absent = apart.2 in
      let unowed = apart.3 in
      let foreign : (j : ℕ) (u : View) → j ≢ id → get_elem? s.views j ≡ some u → (q : ℕ) → has_place q u ≡ 1 → q ≢ p =
      λ j u ne at q has e. one_owner s.views id j m.0 u s.words o.list p ne me at (one_at-same p)
      (subst (λ (x : ℕ). has_place x u ≡ 1) e has) ok in
      let at-p : PlaceOk ws o.list (set s.views id w) p =
      let h = total-set (has_place p) s.views id m.0 w me in
      let t = total-set (waits_with p) s.views id m.0 w me in
      let d = total-set (owes_place p) s.views id m.0 w me in
      let waits = apart.1 in
      let mark = elsewhere (p + 4) (λ e. omega arith) in
      let marked = ok.marked in
      let asked = ok.asked in
      let once = ok.once in
      record {
        wanted = ok.wanted;
        marked = omega arith;
        asked = omega arith;
        once = omega arith;
        removed = λ e. omega arith;
        waiting = λ ne. omega arith;
      } in (
        w,
        keeps,
        tt,
        (rebuilt fits) s o id m.0 w ws s.homes o.list (total holds_lock s.views) me (length-set s.words p k ∙ long)
            (omega arith) o.single
            (elsewhere 0 (λ e. omega arith) ∙ o.word) o.home o.away
            (chain_kept s.words ws o.list (λ q h. elsewhere q
            (λ e. absurd (omega (arith, ap (λ (x : ℕ). times x o.list) e)))) o.chain) o.in_places
            (λ q is-q ok-q. dite (ℕ_discrete q p) (λ e. subst (λ (x : ℕ). PlaceOk ws o.list (set s.views id w) x)
            (sym e) at-p)
            (λ ne.
            let low-q = is-q.0 in
            place_kept s.views id m.0 w s.words ws o.list o.list q me refl refl refl
            (λ e. sym (elsewhere q ne) ∙ e) (λ some-link e. some-link (elsewhere q ne ∙ e))
            (elsewhere (q + 4) (λ e. omega arith)) ok-q))
            (charged_kept o.list s.words ws s.views id m.0 w (total holds_lock s.views) me (λ c. c)
            (λ j u ne at. charge_same s.words ws o.list u (o.each_seat j u at)
            (λ q is-q has e. elsewhere q (foreign j u ne at q has) ∙ e)) o.charged)
            (λ j u ne at. seat_kept s.words ws o.list o.list u (λ q is-q has _. elsewhere q (foreign j u ne at q has))
            (λ _ _ t. t))
            (λ pos. (is, here)),
        refl,
      )

  -- a caller enters the list
  pub enqueues : (n id : ℕ) (woken : Bool) (p link old new : ℕ) (said : maybe.Option (Option T)) → IsPlace p
      → old % 2 ≡ 1 → link ≡ 1 + old / 2 → new ≡ 1 + 2 * p
      → Allows (Orderly fits) n id (Trying woken p link, []) 0 (λ y. either (eqb y old) new y)
      (EnqueueTells (step n 0 old new said) (Trying woken p link, []))
  enqueues n id woken p link old new said is odd linked-to next s o wide me _ =
      let m : Me (Option T) View = (Trying woken p link, []) in
      exchanged (get_or s.words 0 0) old new ((Goes fits) s 0 id m (EnqueueTells (step n 0 old new said) m))
      (λ hit.
      let low = is.0 in
      let word = o.word in
      let single = o.single in
      let long = o.long in
      let held : total holds_lock s.views ≡ 1 = omega arith in
      let w : View = Enqueued p in
      let ws : List ℕ = set s.words 0 new in
      let list : List ℕ = p ∷ o.list in
      let here : get_or ws 0 0 ≡ new = get_or-set_same s.words 0 new 0 (omega arith) in
      let ok = o.each_place p is in
      let mine : get_or s.words p 0 ≡ link = (o.each_seat id m.0 me (omega arith)).1 in
      let apart = not_waiting s.views id m.0 s.words o.list p me (one_at-same p) refl ok in
      let at-p : PlaceOk ws list (set s.views id w) p =
      let h = total-set (has_place p) s.views id m.0 w me in
      let t = total-set (waits_with p) s.views id m.0 w me in
      let d = total-set (owes_place p) s.views id m.0 w me in
      let waits = apart.1 in
      let absent = apart.2 in
      let unowed = apart.3 in
      let mark = (marks_than_0 fits) s new p in
      let same = (others_than_0 fits) s new p is in
      let marked = ok.marked in
      let asked = ok.asked in
      let once = ok.once in
      let one = one_at-same p in
      record {
        wanted = ok.wanted;
        marked = omega arith;
        asked = omega arith;
        once = omega arith;
        removed = λ e. absurd (omega arith);
        waiting = λ ne. omega arith;
      } in (
        w,
        keeps,
        tt,
        (rebuilt fits) s o id m.0 w ws s.homes list 1 me (length-set s.words 0 new ∙ long) (omega arith) (omega arith)
            (omega arith)
            (λ e. absurd (omega arith)) (λ _. o.away held) (
              omega (arith, (others_than_0 fits) s new p is),
              chain_kept s.words ws o.list
                  (λ q h. (others_than_0 fits) s new q (member_place o.list q o.in_places h)) o.chain,
            ) (is, o.in_places)
            (λ q is-q ok-q. dite (ℕ_discrete q p) (λ e. subst (λ (x : ℕ). PlaceOk ws list (set s.views id w) x)
            (sym e) at-p)
            (λ ne.
            let apart-q = one_at-other q p (λ e. ne (sym e)) in
            let same = (others_than_0 fits) s new q is-q in
            place_kept s.views id m.0 w s.words ws o.list list q me refl apart-q (omega arith)
            (λ e. sym same ∙ e) (λ some-link e. some-link (same ∙ e)) ((marks_than_0 fits) s new q) ok-q))
            (inr (inl refl))
            (λ j u ne at. seat_kept s.words ws o.list list u (λ q is-q _ _. (others_than_0 fits) s new q is-q)
            (λ _ _ t. (p ∷ t.0, ap (λ (l : List ℕ). p ∷ l) t.1)))
            is,
        ((λ _. refl), λ miss. absurd (miss hit)),
      ))
      (λ miss. (m.0, keeps, tt, (unmoved fits) s o 0 id m.0 me, ((λ hit. absurd (miss hit)), λ _. refl)))

  -- a waiting caller looks at its link
  pub looks : (n id p : ℕ) → IsPlace p → Allows (Orderly fits) n id (Enqueued p, []) p (λ y. y)
      (LookTells (step n p 0 0 none) (Enqueued p, []))
  looks n id p is s o wide me _ =
      let m : Me (Option T) View = (Enqueued p, []) in
      dite (ℕ_discrete (get_or s.words p 0) 0)
      (λ gone.
      let w : View = Trying true p 0 in
      let ok = o.each_place p is in
      let at-p : PlaceOk s.words o.list (set s.views id w) p =
      let h = total-set (has_place p) s.views id m.0 w me in
      let d = total-set (owes_place p) s.views id m.0 w me in
      let marked = ok.marked in
      let asked = ok.asked in
      let once = ok.once in
      let r = ok.removed gone in
      record {
        wanted = ok.wanted;
        marked = omega arith;
        asked = omega arith;
        once = omega arith;
        removed = λ _. omega arith;
        waiting = λ ne. absurd (ne gone);
      } in (
        w,
        keeps,
        tt,
        (loaded fits) s.words s.homes (set s.views id w) p ((rebuilt fits) s o id m.0 w s.words s.homes o.list
            (total holds_lock s.views) me o.long (omega arith) o.single o.word o.home o.away o.chain o.in_places
            (λ q is-q ok-q. dite (ℕ_discrete q p) (λ e. subst (λ (x : ℕ). PlaceOk s.words o.list (set s.views id w) x)
            (sym e) at-p)
            (λ ne. place_kept s.views id m.0 w s.words s.words o.list o.list q me refl
            (sym (one_at-other q p (λ e. ne (sym e)))) refl (λ e. e) (λ some-link. some-link) refl ok-q))
            (inr (inr (charge_here s.views id m.0 w s.words me refl)))
            (λ j u ne at kept. kept)
            (λ pos. (is, gone))),
        ((λ _. refl), λ ne. absurd (ne gone)),
      ))
      (λ there. (m.0, keeps, tt, (unmoved fits) s o p id m.0 me, ((λ e. absurd (there e)), λ _. refl)))
