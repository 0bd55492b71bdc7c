-- The steps of the holder, and of whoever tells a place that was removed, keep the table's rule.
use Rattle.std.proofs.Common.{◌≡◌, ℕ, ◌+◌, ◌-◌, ◌*◌, ◌%◌, ◌^◌, ◌≤◌, ◌≢◌}
use Rattle.std.proofs.Common.{eqb, List, [], ◌∷◌, ◌++◌, length, get_or, set, sym, refl, ap, ◌∙◌, subst, inl, inr}
use Rattle.std.proofs.Common.{arith, append-nil, length-set, get_or-set_other, get_or-set_same}
use Rattle.std.proofs.Common.{append_assoc, Option, Some}
use mathlib.Core.Logic.{dite}
use mathlib.Core.Option.{some, none, some-injective, some-ne-none}
use mathlib.Core.Option as maybe
use native.Mathlib.Decide.{ℕ_discrete}
use lib.ListN.{get_elem?}
use prog.Atomic.{either}
use Rattle.atomic_table.specs.Table.{Me, step, keeps, gives}
use Rattle.atomic_table.specs.Table.{Allows}
use Rattle.atomic_table.proofs.Lists.{set_here, set_else, exchanged}
use Rattle.lot_word_lock.specs.declared.word_lock.view.View.{View}
use Rattle.lot_word_lock.specs.declared.word_lock.view.View.TheVariants.{Holding, Leaving}
use Rattle.lot_word_lock.specs.WordPlaces.{IsPlace, AllPlaces, total, times, head, FollowsLinks}
use Rattle.lot_word_lock.specs.WordView.{resting, leaving}
use Rattle.lot_word_lock.specs.WordRule.{holds_lock, has_place, waits_with, owes_place, PlaceOk}
use Rattle.lot_word_lock.specs.WordRule.{Orderly}
use Rattle.lot_word_lock.specs.WordSteps.{ReleaseToZeroTells, ReadFirstTells, ReadNextTells, CutTells, ReleaseAfterCutTells, TellTells}
use Rattle.lot_word_lock.proofs.WordCounts.{total-set, one_term, two_terms, some_term, total_le}
use Rattle.lot_word_lock.proofs.WordCounts.{one_at-same, one_at-other, times-append, member_place, AllPlaces-behind}
use Rattle.lot_word_lock.proofs.WordCounts.{AllPlaces-cut, whole, chain_kept, chain_behind, head_cut, times_cut}
use Rattle.lot_word_lock.proofs.WordCounts.{chain_cut}
use Rattle.lot_word_lock.proofs.WordSeats.{waits_has, place_kept, not_waiting, seat_kept, charge_here}
use Rattle.lot_word_lock.proofs.WordSeats.{charge_told, leaving_holds, leaving_has}
use Rattle.lot_word_lock.proofs.WordSeats.{leaving_waits, leaving_owes, leaving_ok, longer, leads_to}
use Rattle.lot_word_lock.proofs.WordBoard.{St, rebuilt, loaded, unmoved, Goes, others_than_0, marks_than_0}

module _ {T : Type 0} (fits : T → Type 0) where
  -- no place stands in the list twice
  pub no_repeats : (s : St T) (o : Orderly fits s) (p : ℕ) → times p o.list ≤ 1
  no_repeats s o p = dite (ℕ_discrete (times p o.list) 0) (λ e. omega arith)
      (λ ne.
      let ok = o.each_place p (member_place o.list p o.in_places (omega arith)) in
      let below = total_le (waits_with p) (has_place p) (waits_has p) s.views in
      let once = ok.once in
      dite (ℕ_discrete (get_or s.words p 0) 0)
      (λ e. let r = ok.removed e in omega arith)
      (λ some-link. let r = ok.waiting some-link in omega arith))

  -- beside the holder no other caller holds the lock
  one_holder : (s : St T) (o : Orderly fits s) (i j : ℕ) (v u : View) → j ≢ i → get_elem? s.views i ≡ some v
      → get_elem? s.views j ≡ some u → holds_lock v ≡ 1 → holds_lock u ≡ 1 → ⊥
  one_holder s o i j v u ne at-i at-j holds-i holds-j =
      let two = two_terms holds_lock s.views i j v u ne at-i at-j in
      let single = o.single in
      absurd (omega arith)

  pub held_by : (s : St T) (o : Orderly fits s) (id : ℕ) (v : View) → get_elem? s.views id ≡ some v → holds_lock v ≡ 1
      → total holds_lock s.views ≡ 1
  held_by s o id v me holds =
      let one = one_term holds_lock s.views id v me in
      let single = o.single in
      omega arith

  -- the holder lets go where it knows the whole list, of at most one place
  pub releases_to_zero : (id : ℕ) (seen : List ℕ) (value : T) (old : ℕ) (said : maybe.Option (Option T))
      → length seen ≤ 1 → old ≡ 1 + 2 * head seen → fits value
      → Allows (Orderly fits) 1 id (Holding seen [], (0, Some value) ∷ []) 0 (λ y. either (eqb y old) 0 y)
      (ReleaseToZeroTells (step 1 0 old 0 said) (Holding seen [], (0, Some value) ∷ []))
  releases_to_zero id seen value old said short is-old fit s o wide me _ =
      let m : Me (Option T) View = (Holding seen [], (0, Some value) ∷ []) in
      let held = held_by s o id m.0 me refl in
      let word = o.word in
      let long = o.long in
      let known = o.each_seat id m.0 me in
      let newer : List ℕ = known.0.0 in
      let suffix : o.list ≡ newer ++ seen = known.0.1 in
      exchanged (get_or s.words 0 0) old 0 ((Goes fits) s 0 id m (ReleaseToZeroTells (step 1 0 old 0 said) m))
      (λ hit.
      let same : o.list ≡ seen = whole o.list newer seen suffix short (omega arith) o.in_places (no_repeats s o) in
      let w : View = leaving seen in
      let ws : List ℕ = set s.words 0 0 in
      let here : get_or ws 0 0 ≡ 0 = get_or-set_same s.words 0 0 0 (omega arith) in
      let home : maybe.Option (Option T) = some (Some value) in (
        w,
        gives,
        tt,
        (rebuilt fits) s o id m.0 w ws (set s.homes 0 home) [] 0 me (length-set s.words 0 0 ∙ long)
            (omega (arith, leaving_holds seen)) (omega arith) (omega arith)
            (λ _. (value, set_here s.homes 0 home (omega arith), fit)) (λ e. absurd (omega arith)) tt tt
            (λ p is ok.
            let known-sum : times p o.list ≡ times p seen = ap (times p) same in
            let unchanged = (others_than_0 fits) s 0 p is in
            place_kept s.views id m.0 w s.words ws o.list [] p me (leaving_has p seen is) (leaving_waits p seen)
            (omega (arith, leaving_owes p seen))
            (λ e. sym unchanged ∙ e) (λ ne e. ne (unchanged ∙ e)) ((marks_than_0 fits) s 0 p) ok)
            (inl refl)
            (λ j u ne at. seat_kept s.words ws o.list [] u (λ p is _ _. (others_than_0 fits) s 0 p is)
            (λ _ holds _. absurd (one_holder s o id j m.0 u ne me at refl holds)))
            (leaving_ok ws [] seen (AllPlaces-behind newer seen (subst AllPlaces suffix o.in_places)) short),
        ((λ _. refl), λ miss. absurd (miss hit)),
      ))
      (λ miss.
      let w : View = Holding o.list [] in
      let more = longer o.list newer seen suffix (λ e. miss (omega arith)) o.in_places in (
        w,
        keeps,
        tt,
        (loaded fits) s.words s.homes (set s.views id w) 0 ((rebuilt fits) s o id m.0 w s.words s.homes o.list
            (total holds_lock s.views) me o.long (omega arith) o.single o.word o.home o.away o.chain o.in_places
            (λ p is ok. place_kept s.views id m.0 w s.words s.words o.list o.list p me refl refl refl (λ e. e)
            (λ ne. ne) refl ok)
            (inr (inl held))
            (λ j u ne at kept. kept)
            (([], refl), tt, omega arith)),
        (
          (λ hit. absurd (miss hit)),
          λ _. (
            more.0,
            more.1,
            ap
                (λ (l : List ℕ). let r : Me (Option T) View = (Holding l [], m.1) in r) more.2,
            omega
                (arith, ap head more.2),
            more.3,
            more.4,
          ),
        ),
      ))

  -- the holder reads the link of the first place that it has seen
  pub reads_first : (n id h : ℕ) (back : List ℕ) (c : List (ℕ × Option T))
      → Allows (Orderly fits) n id (Holding (h ∷ back) [], c) h (λ y. y)
      (ReadFirstTells (step n h 0 0 none) (Holding (h ∷ back) [], c))
  reads_first n id h back c s o wide me _ =
      let v : View = Holding (h ∷ back) [] in
      let known = o.each_seat id v me in
      let newer : List ℕ = known.0.0 in
      let suffix : o.list ≡ newer ++ h ∷ back = known.0.1 in
      let chain = chain_behind s.words newer (h ∷ back) (subst (FollowsLinks s.words) suffix o.chain) in
      let places = AllPlaces-behind newer (h ∷ back) (subst AllPlaces suffix o.in_places) in
      (v, keeps, tt, (unmoved fits) s o h id v me, (refl, leads_to (get_or s.words h 0) back chain.0 places.1))

  -- the holder reads the link of the second, and goes on to the third if there is one
  pub reads_next : (n id g h : ℕ) (back : List ℕ) (c : List (ℕ × Option T))
      → Allows (Orderly fits) n id (Holding (g ∷ h ∷ back) [], c) h (λ y. y)
      (ReadNextTells (step n h 0 0 none) (Holding (g ∷ h ∷ back) [], c))
  reads_next n id g h back c s o wide me _ =
      let v : View = Holding (g ∷ h ∷ back) [] in
      let known = o.each_seat id v me in
      let newer : List ℕ = known.0.0 in
      let suffix : o.list ≡ newer ++ g ∷ h ∷ back = known.0.1 in
      let chain = chain_behind s.words newer (g ∷ h ∷ back) (subst (FollowsLinks s.words) suffix o.chain) in
      let places = AllPlaces-behind newer (g ∷ h ∷ back) (subst AllPlaces suffix o.in_places) in
      let leads = leads_to (get_or s.words h 0) back chain.1.0 places.1.1 in
      dite (ℕ_discrete (get_or s.words h 0) 1)
      (λ last. (v, keeps, tt, (unmoved fits) s o h id v me, (leads, (λ _. refl), λ ne. absurd (ne last))))
      (λ more.
      let w : View = Holding (h ∷ back) [] in (
        w,
        keeps,
        tt,
        (loaded fits) s.words s.homes (set s.views id w) h ((rebuilt fits) s o id v w s.words s.homes o.list
            (total holds_lock s.views) me o.long (omega arith) o.single o.word o.home o.away o.chain o.in_places
            (λ p is ok. place_kept s.views id v w s.words s.words o.list o.list p me refl refl refl (λ e. e)
            (λ ne. ne) refl ok)
            (inr (inl (held_by s o id v me refl)))
            (λ j u ne at kept. kept)
            ((newer ++ g ∷ [], suffix ∙ sym (append_assoc newer (g ∷ []) (h ∷ back))), tt, omega arith)),
        (leads, (λ e. absurd (more e)), λ _. refl),
      ))

  -- the holder removes the oldest of several
  pub cuts : (n id b a : ℕ) (c : List (ℕ × Option T))
      → Allows (Orderly fits) n id (Holding (b ∷ a ∷ []) [], c) b (λ _. 1)
      (λ _. CutTells (step n b 1 0 none) (Holding (b ∷ a ∷ []) [], c) 1)
  cuts n id b a c s o wide me _ =
      let v : View = Holding (b ∷ a ∷ []) [] in
      let w : View = Holding [] (a ∷ []) in
      let known = o.each_seat id v me in
      let newer : List ℕ = known.0.0 in
      let suffix : o.list ≡ newer ++ b ∷ a ∷ [] = known.0.1 in
      let list : List ℕ = newer ++ b ∷ [] in
      let all = subst AllPlaces suffix o.in_places in
      let places = AllPlaces-behind newer (b ∷ a ∷ []) all in
      let is-b : IsPlace b = places.0 in
      let is-a : IsPlace a = places.1.0 in
      let low = is-b.0 in
      let high = is-b.1 in
      let long = o.long in
      let chain = subst (FollowsLinks s.words) suffix o.chain in
      let link : get_or s.words b 0 ≡ 1 + a = (chain_behind s.words newer (b ∷ a ∷ []) chain).0 in
      let once : times b (newer ++ b ∷ a ∷ []) ≤ 1 = subst (λ (l : List ℕ). times b l ≤ 1) suffix (no_repeats s o b) in
      let stands : 1 ≤ times b o.list = omega (
        arith,
        ap (times b) suffix,
        times-append b newer (b ∷ a ∷ []),
        one_at-same b,
      ) in
      let held = held_by s o id v me refl in
      let ws : List ℕ = set s.words b 1 in
      let here : get_or ws b 0 ≡ 1 = get_or-set_same s.words b 1 0 (omega arith) in
      let elsewhere : (j : ℕ) → j ≢ b → get_or ws j 0 ≡ get_or s.words j 0 =
      λ j ne. get_or-set_other s.words b j 1 0 ne in
      let heads : head list ≡ head o.list = sym (ap head suffix ∙ head_cut newer b a) in
      let foreign : (j : ℕ) (u : View) → get_elem? s.views j ≡ some u → (q : ℕ) → has_place q u ≡ 1
      → waits_with q u ≡ 0 → q ≢ b =
      λ j u at q has waits e.
      let apart = not_waiting s.views j u s.words o.list b at (subst (λ (x : ℕ). has_place x u ≡ 1) e has)
      (subst (λ (x : ℕ). waits_with x u ≡ 0) e waits) (o.each_place b is-b) in
      let absent = apart.2 in
      absurd (omega arith) in (
        w,
        keeps,
        tt,
        (rebuilt fits) s o id v w ws s.homes list (total holds_lock s.views) me (length-set s.words b 1 ∙ long)
            (omega arith) o.single
            (omega (arith, elsewhere 0 (λ e. omega arith), o.word)) o.home o.away
            (chain_cut s.words newer b a (omega arith) once chain) (AllPlaces-cut newer b a all)
            (λ q is-q ok.
            let low-q = is-q.0 in
            place_kept s.views id v w s.words ws o.list list q me refl refl
            (omega (arith, ap (times q) suffix, times_cut q newer b a))
            (λ e. dite (ℕ_discrete q b) (λ same. absurd (omega (arith, ap (λ (x : ℕ). get_or ws x 0) same)))
            (λ ne. sym (elsewhere q ne) ∙ e))
            (λ some-link e. dite (ℕ_discrete q b) (λ same. absurd
            (omega (arith, ap (λ (x : ℕ). get_or s.words x 0) same))) (λ ne. some-link (elsewhere q ne ∙ e)))
            (elsewhere (q + 4) (λ e. omega arith)) ok)
            (inr (inl held))
            (λ j u ne at. seat_kept s.words ws o.list list u (λ q _ has waits. elsewhere q
            (foreign j u at q has waits)) (λ _ holds _. absurd (one_holder s o id j v u ne me at refl holds)))
            ((list, sym (append-nil list)), (is-a, tt), omega arith),
        refl,
      )

  -- the holder lets go after a cut, whoever came since
  pub releases_after_cut : (id a : ℕ) (value : T) (k : ℕ) → k ≡ 1 → fits value
      → Allows (Orderly fits) 1 id (Holding [] (a ∷ []), (0, Some value) ∷ []) 0 (λ y. (y + (2 ^ 64 - k)) % 2 ^ 64)
      (ReleaseAfterCutTells (step 1 0 k 0 none) (Holding [] (a ∷ []), (0, Some value) ∷ []))
  releases_after_cut id a value k one fit s o wide me below =
      let m : Me (Option T) View = (Holding [] (a ∷ []), (0, Some value) ∷ []) in
      let w : View = Leaving (a ∷ []) in
      let held = held_by s o id m.0 me refl in
      let word = o.word in
      let long = o.long in
      let x : ℕ = get_or s.words 0 0 in
      let new : ℕ = (x + (2 ^ 64 - k)) % 2 ^ 64 in
      let next : new + 1 ≡ x = omega arith in
      let ws : List ℕ = set s.words 0 new in
      let here : get_or ws 0 0 ≡ new = get_or-set_same s.words 0 new 0 (omega arith) in
      let home : maybe.Option (Option T) = some (Some value) in
      let known = o.each_seat id m.0 me in (
        w,
        gives,
        tt,
        (rebuilt fits) s o id m.0 w ws (set s.homes 0 home) o.list 0 me (length-set s.words 0 new ∙ long) (omega arith)
            (omega arith) (omega arith)
            (λ _. (value, set_here s.homes 0 home (omega arith), fit)) (λ e. absurd (omega arith))
            (chain_kept s.words ws o.list (λ p h. (others_than_0 fits) s new p (member_place o.list p o.in_places h))
            o.chain) o.in_places
            (λ p is ok.
            let same = (others_than_0 fits) s new p is in
            place_kept s.views id m.0 w s.words ws o.list o.list p me refl refl refl (λ e. sym same ∙ e)
            (λ ne e. ne (same ∙ e)) ((marks_than_0 fits) s new p) ok)
            (inr (inr (charge_here s.views id m.0 w ws me (λ e. absurd
            (omega (arith, ap (λ (l : List ℕ). length l) e))))))
            (λ j u ne at. seat_kept s.words ws o.list o.list u (λ p is _ _. others_than_0 fits s new p is)
            (λ _ _ t. t))
            (known.1, known.2),
        refl,
      )

  -- whoever removed a place tells it
  pub tells : (n id p : ℕ) (c : List (ℕ × Option T))
      → Allows (Orderly fits) n id (Leaving (p ∷ []), c) p (λ _. 0)
      (λ _. TellTells (step n p 0 0 none) (Leaving (p ∷ []), c) 0)
  tells n id p c s o wide me _ =
      let v : View = Leaving (p ∷ []) in
      let w : View = resting in
      let known = o.each_seat id v me in
      let is : IsPlace p = known.0.0 in
      let low = is.0 in
      let high = is.1 in
      let long = o.long in
      let ok = o.each_place p is in
      let owes = one_term (owes_place p) s.views id v me in
      let one = one_at-same p in
      let some-link : get_or s.words p 0 ≢ 0 = λ e. let r = ok.removed e in absurd (omega arith) in
      let sum = ok.waiting some-link in
      let below = total_le (waits_with p) (has_place p) (waits_has p) s.views in
      let marked = ok.marked in
      let asked = ok.asked in
      let once = ok.once in
      let absent : times p o.list ≡ 0 = omega arith in
      let waits : total (waits_with p) s.views ≡ 1 = omega arith in
      let waiter = some_term (waits_with p) s.views (omega arith) in
      let other : waiter.0 ≢ id = λ e.
      let same : v ≡ waiter.1 = some-injective v waiter.1 (sym me ∙ (ap (get_elem? s.views) (sym e) ∙ waiter.2)) in
      let some-wait = waiter.3 in
      absurd (omega (arith, ap (waits_with p) same)) in
      let ws : List ℕ = set s.words p 0 in
      let here : get_or ws p 0 ≡ 0 = get_or-set_same s.words p 0 0 (omega arith) in
      let elsewhere : (j : ℕ) → j ≢ p → get_or ws j 0 ≡ get_or s.words j 0 =
      λ j ne. get_or-set_other s.words p j 0 0 ne in
      let foreign : (j : ℕ) (u : View) → get_elem? s.views j ≡ some u → (q : ℕ) → has_place q u ≡ 1
      → waits_with q u ≡ 0 → q ≢ p =
      λ j u at q has not-waits e.
      let apart = not_waiting s.views j u s.words o.list p at (subst (λ (x : ℕ). has_place x u ≡ 1) e has)
      (subst (λ (x : ℕ). waits_with x u ≡ 0) e not-waits) ok in
      let none-waits = apart.1 in
      absurd (omega arith) in
      let at-p : PlaceOk ws o.list (set s.views id w) p =
      let h = total-set (has_place p) s.views id v w me in
      let d = total-set (owes_place p) s.views id v w me in
      let mark = elsewhere (p + 4) (λ e. omega arith) in
      let no-place = one_at-other p 0 (λ e. omega arith) in
      record {
        wanted = ok.wanted;
        marked = omega arith;
        asked = omega arith;
        once = omega arith;
        removed = λ _. omega arith;
        waiting = λ ne. absurd (ne here);
      } in (
        w,
        keeps,
        tt,
        (rebuilt fits) s o id v w ws s.homes o.list (total holds_lock s.views) me (length-set s.words p 0 ∙ long)
            (omega arith) o.single
            (elsewhere 0 (λ e. omega arith) ∙ o.word) o.home o.away
            (chain_kept s.words ws o.list (λ q h. elsewhere q
            (λ e. absurd (omega (arith, ap (λ (x : ℕ). times x o.list) e)))) o.chain) o.in_places
            (λ q is-q ok-q. dite (ℕ_discrete q p) (λ e. subst (λ (x : ℕ). PlaceOk ws o.list (set s.views id w) x)
            (sym e) at-p)
            (λ ne.
            let low-q = is-q.0 in
            let apart-q = one_at-other q p (λ e. ne (sym e)) in
            place_kept s.views id v w s.words ws o.list o.list q me (one_at-other q 0 (λ e. omega arith)) refl
            (omega arith)
            (λ e. sym (elsewhere q ne) ∙ e) (λ more e. more (elsewhere q ne ∙ e))
            (elsewhere (q + 4) (λ e. omega arith)) ok-q))
            (inr (inr (
              waiter.0,
              waiter.1,
              set_else s.views id waiter.0 w other ∙ waiter.2,
              charge_told p waiter.1 ws waiter.3 here,
            )))
            (λ j u ne at. seat_kept s.words ws o.list o.list u
            (λ q _ has not-waits. elsewhere q (foreign j u at q has not-waits)) (λ _ _ t. t))
            (λ pos. absurd (omega arith)),
        refl,
      )
