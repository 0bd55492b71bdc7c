-- The steps of a caller that comes, takes the lock, or takes or gives back a place keep the table's rule.
use Rattle.std.proofs.Common.{◌≡◌, ℕ, ◌+◌, ◌-◌, ◌%◌, ◌<◌, ◌≤◌, ◌≢◌, Bool}
use Rattle.std.proofs.Common.{eqb, List, [], ◌∷◌, get_or, set, sym, refl, ap, ◌∙◌, subst, inl, inr}
use Rattle.std.proofs.Common.{⊎_elim, arith, append-nil, length-set, get_or-set_other, get_or-set_same}
use Rattle.std.proofs.Common.{Option, Some}
use mathlib.Core.Logic.{dite}
use mathlib.Core.Option.{some, none, some-injective, some-ne-none}
use mathlib.Core.Option as maybe
use native.Mathlib.Decide.{ℕ_discrete}
use lib.ListN.{get_elem?}
use prog.Atomic.{either}
use Rattle.atomic_table.specs.Table.{Me, step, keeps, takes}
use Rattle.atomic_table.specs.Table.{Allows, Enters}
use Rattle.atomic_table.proofs.Lists.{set_here, at_longer, at_snoc, exchanged}
use Rattle.lot_word_lock.specs.declared.word_lock.view.View.{View}
use Rattle.lot_word_lock.specs.declared.word_lock.view.View.TheVariants.{Trying, Holding}
use Rattle.lot_word_lock.specs.WordPlaces.{IsPlace, total, one_at}
use Rattle.lot_word_lock.specs.WordView.{resting}
use Rattle.lot_word_lock.specs.WordRule.{holds_lock, has_place, waits_with, owes_place, SeatOk, PlaceOk}
use Rattle.lot_word_lock.specs.WordRule.{Orderly}
use Rattle.lot_word_lock.specs.WordSteps.{ArriveTells, AcquireTells, TakePlaceTells, GiveBackTells, AskTells}
use Rattle.lot_word_lock.proofs.WordCounts.{total-append, total-set}
use Rattle.lot_word_lock.proofs.WordCounts.{one_at-same, one_at-other, member_place}
use Rattle.lot_word_lock.proofs.WordCounts.{chain_kept}
use Rattle.lot_word_lock.proofs.WordSeats.{place_kept, seat_kept}
use Rattle.lot_word_lock.proofs.WordSeats.{charge_same, charged_kept}
use Rattle.lot_word_lock.proofs.WordBoard.{St, board, rebuilt, unmoved, Goes, others_than_0, marks_than_0}

module _ {T : Type 0} (fits : T → Type 0) where
  -- a new caller
  pub arrives : (n i : ℕ) (m : Me (Option T) View) → Enters (Orderly fits) n i
      (λ r w. ArriveTells (step n i 0 0 none) m r (w, []))
  arrives n i m s o wide _ = (
    resting,
    record {
      list = o.list;
      long = o.long;
      word = omega (arith, o.word, total-append holds_lock s.views (resting ∷ []));
      single = omega (arith, o.single, total-append holds_lock s.views (resting ∷ []));
      home = λ e. o.home (omega (arith, total-append holds_lock s.views (resting ∷ [])));
      away = λ e. o.away (omega (arith, total-append holds_lock s.views (resting ∷ [])));
      chain = o.chain;
      in_places = o.in_places;
      each_place = λ p is.
          let ok = o.each_place p is in
          let pos = is.0 in
          let none : one_at p 0 ≡ 0 = one_at-other p 0 (λ e. omega arith) in
          let h = total-append (has_place p) s.views (resting ∷ []) in
          let t = total-append (waits_with p) s.views (resting ∷ []) in
          let d = total-append (owes_place p) s.views (resting ∷ []) in
          let marked = ok.marked in
          let asked = ok.asked in
          let once = ok.once in
          record {
            wanted = ok.wanted;
            marked = omega arith;
            asked = omega arith;
            once = omega arith;
            removed = λ e. let r = ok.removed e in omega arith;
            waiting = λ ne. let r = ok.waiting ne in omega arith;
          };
      charged = ⊎_elim inl (λ r. inr (⊎_elim
          (λ e. inl (omega (arith, total-append holds_lock s.views (resting ∷ []))))
          (λ c. inr (c.0, c.1, at_longer s.views (resting ∷ []) c.0 c.1 c.2, c.3)) r)) o.charged;
      each_seat = λ j u e. ⊎_elim (λ t. o.each_seat j u t) (λ t. subst (SeatOk s.words o.list) t
          (λ pos. absurd (omega arith))) (at_snoc s.views resting u j e);
    },
    refl,
  )

  pub acquires : (id : ℕ) (woken : Bool) (old new : ℕ) (said : maybe.Option (Option T)) → old % 2 ≡ 0 → new ≡ old + 1
      → Allows (Orderly fits) 1 id (Trying woken 0 0, []) 0 (λ y. either (eqb y old) new y)
      (AcquireTells fits (step 1 0 old new said) (Trying woken 0 0, []))
  acquires id woken old new said even next s o wide me _ =
      let m : Me (Option T) View = (Trying woken 0 0, []) in
      exchanged (get_or s.words 0 0) old new ((Goes fits) s 0 id m (AcquireTells fits (step 1 0 old new said) m))
      (λ hit.
      let word = o.word in
      let single = o.single in
      let long = o.long in
      let free : total holds_lock s.views ≡ 0 = omega arith in
      let home = o.home free in
      let w : View = Holding [] [] in
      let ws : List ℕ = set s.words 0 new in
      let here : get_or ws 0 0 ≡ new = get_or-set_same s.words 0 new 0 (omega arith) in (
        w,
        takes 0 (Some home.0),
        home.1,
        (rebuilt fits) s o id m.0 w ws (set s.homes 0 none) o.list 1 me (length-set s.words 0 new ∙ long) (omega arith)
            (omega arith) (omega arith)
            (λ e. absurd (omega arith)) (λ _. set_here s.homes 0 none (omega arith))
            (chain_kept s.words ws o.list (λ p h. (others_than_0 fits) s new p (member_place o.list p o.in_places h))
            o.chain) o.in_places
            (λ p is ok.
            let pos = is.0 in
            let same = (others_than_0 fits) s new p is in
            place_kept s.views id m.0 w s.words ws o.list o.list p me
            (sym (one_at-other p 0 (λ e. omega arith))) refl refl
            (λ e. sym same ∙ e) (λ ne e. ne (same ∙ e)) ((marks_than_0 fits) s new p) ok)
            (inr (inl refl))
            (λ j u ne at. seat_kept s.words ws o.list o.list u (λ p is _ _. others_than_0 fits s new p is)
            (λ _ _ t. t))
            ((o.list, sym (append-nil o.list)), tt, omega arith),
        ((λ _. (home.0, refl, home.2)), λ miss. absurd (miss hit)),
      ))
      (λ miss. (m.0, keeps, tt, (unmoved fits) s o 0 id m.0 me, ((λ hit. absurd (miss hit)), λ _. refl)))

  -- the rule after a caller that tries took or gave back the place p, or asked for it, as its mark says
  marks : (s : St T) (o : Orderly fits s) (id : ℕ) (woken : Bool) (p a x b y mark wanted : ℕ) → IsPlace p
      → get_elem? s.views id ≡ some (Trying woken a x)
      → total (has_place p) (set s.views id (Trying woken b y)) + wanted ≡ mark
      → wanted ≤ total (has_place p) (set s.views id (Trying woken b y))
      → total (has_place p) (set s.views id (Trying woken b y)) ≤ 1
      → ((q : ℕ) → IsPlace q → q ≢ p → one_at q b ≡ one_at q a) → (0 < b → IsPlace b × (get_or s.words b 0 ≡ y))
      → Orderly fits (board (set s.words (p + 4) mark) s.homes (set s.views id (Trying woken b y)))
  marks s o id woken p a x b y mark wanted is me marked asked once others mine =
      let low = is.0 in
      let high = is.1 in
      let long = o.long in
      let v : View = Trying woken a x in
      let w : View = Trying woken b y in
      let ws : List ℕ = set s.words (p + 4) mark in
      let here : get_or ws (p + 4) 0 ≡ mark = get_or-set_same s.words (p + 4) mark 0 (omega arith) in
      let elsewhere : (j : ℕ) → j ≢ p + 4 → get_or ws j 0 ≡ get_or s.words j 0 =
      λ j ne. get_or-set_other s.words (p + 4) j mark 0 ne in
      let links : (q : ℕ) → IsPlace q → get_or ws q 0 ≡ get_or s.words q 0 = λ q is-q. let high-q = is-q.1 in
      elsewhere q (λ e. omega arith) in
      let ok = o.each_place p is in
      let at-p : PlaceOk ws o.list (set s.views id w) p =
      let t = total-set (waits_with p) s.views id v w me in
      let d = total-set (owes_place p) s.views id v w me in
      record {
        wanted = wanted;
        marked = omega arith;
        asked = asked;
        once = once;
        removed = λ e. let r = ok.removed (sym (links p is) ∙ e) in omega arith;
        waiting = λ ne. let r = ok.waiting (λ e. ne (links p is ∙ e)) in omega arith;
      } in
      (rebuilt fits) s o id v w ws s.homes o.list (total holds_lock s.views) me (length-set s.words (p + 4) mark ∙ long)
      (omega arith) o.single
      (elsewhere 0 (λ e. omega arith) ∙ o.word) o.home o.away
      (chain_kept s.words ws o.list (λ q h. links q (member_place o.list q o.in_places h)) o.chain) o.in_places
      (λ q is-q ok-q. dite (ℕ_discrete q p) (λ e. subst (λ (z : ℕ). PlaceOk ws o.list (set s.views id w) z)
      (sym e) at-p)
      (λ ne. place_kept s.views id v w s.words ws o.list o.list q me (others q is-q ne) refl refl
      (λ e. sym (links q is-q) ∙ e) (λ some-link e. some-link (links q is-q ∙ e))
      (elsewhere (q + 4) (λ e. ne (omega arith))) ok-q))
      (charged_kept o.list s.words ws s.views id v w (total holds_lock s.views) me (λ c. c)
      (λ j u ne at. charge_same s.words ws o.list u (o.each_seat j u at) (λ q is-q _ e. links q is-q ∙ e))
      o.charged)
      (λ j u ne at. seat_kept s.words ws o.list o.list u (λ q is-q _ _. links q is-q) (λ _ _ t. t))
      (λ pos. let has = mine pos in (has.0, links b has.0 ∙ has.1))

  -- at a place other than p it is all one whether a caller has p or none
  other_places : (p q : ℕ) → IsPlace q → q ≢ p → one_at q p ≡ one_at q 0
  other_places p q is ne =
      let pos = is.0 in
      one_at-other q p (λ e. ne (sym e)) ∙ sym (one_at-other q 0 (λ e. omega arith))

  -- a caller takes a place, with a mark that may say that others ask for it
  pub takes_place : (n id : ℕ) (woken : Bool) (p mark : ℕ) (said : maybe.Option (Option T)) → IsPlace p
      → 0 < mark → mark ≤ 2
      → Allows (Orderly fits) n id (Trying woken 0 0, []) (p + 4) (λ y. either (eqb y 0) mark y)
      (TakePlaceTells (step n (p + 4) 0 mark said) (Trying woken 0 0, []))
  takes_place n id woken p mark said is some-mark known s o wide me _ =
      let m : Me (Option T) View = (Trying woken 0 0, []) in
      let i : ℕ = p + 4 in
      exchanged (get_or s.words i 0) 0 mark ((Goes fits) s i id m (TakePlaceTells (step n i 0 mark said) m))
      (λ hit.
      let low = is.0 in
      let link : ℕ = get_or s.words p 0 in
      let ok = o.each_place p is in
      let marked = ok.marked in
      let same = one_at-same p in
      let none = one_at-other p 0 (λ e. omega arith) in
      let h = total-set (has_place p) s.views id (Trying woken 0 0) (Trying woken p link) me in (
        Trying woken p link,
        keeps,
        tt,
        marks s o id woken p 0 0 p link mark (mark - 1) is me (omega arith) (omega arith) (omega arith)
            (other_places p) (λ _. (is, refl)),
        (
          (λ _ q e. let same : p ≡ q = omega arith in (
            link,
            ap
                (λ (x : ℕ). let r : Me (Option T) View = (Trying woken x link, []) in r) same,
          )),
          λ miss. absurd (miss hit),
        ),
      ))
      (λ miss. (m.0, keeps, tt, (unmoved fits) s o i id m.0 me, ((λ hit. absurd (miss hit)), λ _. refl)))

  -- a caller gives its place back
  pub gives_back : (n id : ℕ) (woken : Bool) (p link : ℕ) → IsPlace p
      → Allows (Orderly fits) n id (Trying woken p link, []) (p + 4) (λ _. 0)
      (GiveBackTells (step n (p + 4) 0 0 none) (Trying woken p link, []))
  gives_back n id woken p link is s o wide me _ =
      let low = is.0 in
      let ok = o.each_place p is in
      let once = ok.once in
      let same = one_at-same p in
      let none = one_at-other p 0 (λ e. omega arith) in
      let h = total-set (has_place p) s.views id (Trying woken p link) (Trying woken 0 0) me in (
        Trying woken 0 0,
        keeps,
        tt,
        marks s o id woken p p link 0 0 0 0 is me (omega arith) (omega arith) (omega arith)
            (λ q is-q ne. sym (other_places p q is-q ne)) (λ pos. absurd (omega arith)),
        refl,
      )

  -- a caller asks to be woken when a place is given back
  pub asks : (n id : ℕ) (woken : Bool) (p : ℕ) (said : maybe.Option (Option T)) → IsPlace p
      → Allows (Orderly fits) n id (Trying woken 0 0, []) (p + 4) (λ y. either (eqb y 1) 2 y)
      (AskTells (step n (p + 4) 1 2 said) (Trying woken 0 0, []))
  asks n id woken p said is s o wide me _ =
      let m : Me (Option T) View = (Trying woken 0 0, []) in
      let i : ℕ = p + 4 in
      exchanged (get_or s.words i 0) 1 2 ((Goes fits) s i id m (AskTells (step n i 1 2 said) m))
      (λ hit.
      let low = is.0 in
      let ok = o.each_place p is in
      let marked = ok.marked in
      let asked = ok.asked in
      let once = ok.once in
      let h = total-set (has_place p) s.views id (Trying woken 0 0) (Trying woken 0 0) me in (
        Trying woken 0 0,
        keeps,
        tt,
        marks s o id woken p 0 0 0 0 2 1 is me (omega arith) (omega arith) (omega arith)
            (λ q is-q ne. refl) (λ pos. absurd (omega arith)),
        refl,
      ))
      (λ miss. (m.0, keeps, tt, (unmoved fits) s o i id m.0 me, refl))
