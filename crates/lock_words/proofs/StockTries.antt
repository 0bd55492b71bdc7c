-- The steps of a thread that comes, takes or frees a permit, or waits no longer keep the rule of a stock.
use Rattle.std.proofs.Common.{◌≡◌, ℕ, suc, ◌+◌, ◌-◌, ◌*◌, ◌%◌, ◌<◌, ◌≤◌, ◌⊎◌, Bool, true, List, [], ◌∷◌, ◌++◌, eqb, get_or, set}
use Rattle.std.proofs.Common.{sym, refl, ap, ◌∙◌, subst, ⊎_elim, arith, length-set, get_or-set_same, Option, None, Some}
use mathlib.Core.Option.{some, none}
use lib.ListN.{get_elem?}
use prog.Atomic.{either}
use Rattle.atomic_table.specs.Table.{Me, step, keeps, Allows, Enters, opening, homes_after, carried_after}
use Rattle.atomic_table.proofs.Lists.{at_snoc, exchanged}
use Rattle.lot_word_lock.specs.WordPlaces.{total}
use Rattle.lot_word_lock.proofs.WordCounts.{total-append}
use Rattle.lock_words.specs.StockRule.{holds_it, carries_it, WaitsAs, SomeSeat, Placed, Kept, Counted}
use Rattle.lock_words.specs.StockView.{having, resting}
use Rattle.lock_words.specs.StockSteps.{ArriveTells, AcquireTells, ReleaseTells, DropWaitTells}
use Rattle.lock_words.specs.declared.stock.Content.{Content}
use Rattle.lock_words.specs.declared.stock.Content.TheVariants.{Title}
use Rattle.lock_words.specs.declared.stock.view.View.{View}
use Rattle.lock_words.proofs.NumberLists.{nothing_in}
use Rattle.lock_words.proofs.SeatCounts.{None_not_Some, carrier_none, waiting_kept, waiting_longer}
use Rattle.lock_words.proofs.StockBoard.{Knows, rebuilt, unmoved, Goes, is_home, nobody_waits}
use Rattle.lock_words.proofs.StockSlots.{takes_value, gives_value}

-- a thread that waits still does, if it is not the one that steps
pub still : (vs : List View) (id : ℕ) (v w : View) (n : ℕ) → get_elem? vs id ≡ some v
    → (v.waits ≡ Some n → w.waits ≡ Some n) → SomeSeat vs (WaitsAs n) → SomeSeat (set vs id w) (WaitsAs n)
still = waiting_kept (λ (seat : View). seat.waits)

module _ {T M : Type 0} (told : M → List ℕ) (fits : M → Type 0) (permits : ℕ) (guards : Bool) where
  -- a new stock
  pub opens : (content : Content T M) (title : M) → fits title → told title ≡ [] → permits < 4294967296
      → (guards ≡ true → permits ≡ 1) → Placed guards permits (some content ∷ some (Title title) ∷ [])
      → Counted told fits permits guards (opening (permits * 4 ∷ 0 ∷ []) (content ∷ Title title ∷ []) resting)
  opens content title fit nobody few single placed = record {
    numbers = [];
    free = permits;
    mark = 0;
    long = omega arith;
    word = omega arith;
    bit = omega arith;
    carrier = omega arith;
    away = λ e. absurd (omega arith);
    few = few;
    conserved = omega arith;
    single = single;
    placed = placed;
    title_home = λ _. record { title = title; home = refl; fit = fit; tells = nobody };
    title_out = λ e. absurd (omega arith);
    known = carrier_none (λ (seat : View). seat.carries) (Knows [] permits) (resting ∷ []) refl;
    once = tt;
    marked = λ some_wait. absurd (some_wait refl);
    waits = λ n c. absurd (nothing_in [] n refl c);
    charged = λ some_wait. absurd (some_wait refl);
  }

  -- a new hand
  pub arrives : (n i : ℕ) (m : Me (Content T M) View) → Enters (Counted {T = T} told fits permits guards) n i
      (λ r w. ArriveTells (step n i 0 0 none) m r (w, []))
  arrives n i m s o wide _ =
      let held : total holds_it (s.views ++ resting ∷ []) ≡ total holds_it s.views =
      omega (arith, total-append holds_it s.views (resting ∷ [])) in
      let out : total carries_it (s.views ++ resting ∷ []) ≡ total carries_it s.views =
      omega (arith, total-append carries_it s.views (resting ∷ [])) in
      let word = o.word in
      let conserved = o.conserved in
      let carrier = o.carrier in (
        resting,
        record {
          numbers = o.numbers;
          free = o.free;
          mark = o.mark;
          long = o.long;
          word = omega arith;
          bit = o.bit;
          carrier = omega arith;
          away = λ e. o.away (sym out ∙ e);
          few = o.few;
          conserved = omega arith;
          single = o.single;
          placed = o.placed;
          title_home = λ e. o.title_home (sym out ∙ e);
          title_out = λ e. o.title_out (sym out ∙ e);
          known = λ j u ns at has. ⊎_elim (λ t. o.known j u ns t has)
              (λ t. absurd (None_not_Some ns (ap (λ (x : View). x.carries) t ∙ has))) (at_snoc s.views resting u j at);
          once = o.once;
          marked = λ some_wait e. o.marked some_wait (sym out ∙ e);
          waits = λ n c. waiting_longer (λ (seat : View). seat.waits) s.views (resting ∷ []) n (o.waits n c);
          charged = λ some_wait e. let t = o.charged some_wait e in
              (t.0, t.1, waiting_longer (λ (seat : View). seat.waits) s.views (resting ∷ []) t.0 t.2);
        },
        refl,
      )

  -- a thread takes a permit that is free
  pub acquires : (id : ℕ) (waits : Option ℕ) (old new : ℕ) → 4 ≤ old → old % 4 ≤ 1 → new + 4 ≡ old
      → let m : Me (Content T M) View = (having 0 waits, []) in
      Allows (Counted told fits permits guards) 2 id m 0 (λ y. either (eqb y old) new y) (AcquireTells guards (step 2 0 old new none) m)
  acquires id waits old new is_free home_word is_new s o wide me _ =
      let v : View = having 0 waits in
      let m : Me (Content T M) View = (v, []) in
      exchanged (get_or s.words 0 0) old new
      (Goes told fits permits guards s id m (AcquireTells guards (step 2 0 old new none) m))
      (λ hit.
      let w : View = having 1 waits in
      let word = o.word in
      let bit = o.bit in
      let long = o.long in
      let conserved = o.conserved in
      let home : total carries_it s.views ≡ 0 = is_home told fits permits guards s o old hit home_word in
      let some_free : o.free ≡ suc (o.free - 1) = omega arith in
      let taken = takes_value told fits guards (o.free - 1) s.homes wide (λ e. let one = o.single e in omega arith)
      (subst (λ (n : ℕ). Placed guards n s.homes) some_free o.placed) in
      let ws : List ℕ = set s.words 0 new in
      let here : get_or ws 0 0 ≡ new = get_or-set_same s.words 0 new 0 (omega arith) in (
        w,
        taken.act,
        taken.valid,
        rebuilt told fits permits guards s o id v w ws (homes_after s.homes [] taken.act) o.numbers (o.free - 1) o.mark 0 me
            (length-set s.words 0 new) (omega arith) (omega arith) (omega arith) (omega arith) bit
            (λ e. absurd (omega arith)) taken.placed (λ _. taken.titled o.numbers (o.title_home home))
            (λ e. absurd (omega arith)) (λ e. absurd (omega arith)) o.once (λ some_wait _. o.marked some_wait home)
            (λ n c. still s.views id v w n me (λ e. e) (o.waits n c))
            (λ some_wait _. let t = o.charged some_wait (omega arith) in
            (t.0, t.1, still s.views id v w t.0 me (λ e. e) t.2)),
        ((λ _. (carried_after [] taken.act, taken.kept, refl)), λ miss. absurd (miss hit)),
      ))
      (λ miss. (v, keeps, tt, unmoved told fits permits guards s o id v me, ((λ hit. absurd (miss hit)), λ _. refl)))

  -- a thread frees its permit where nobody waits, or where another permit is free
  pub releases : (id : ℕ) (slots : List (ℕ × Content T M)) (old new : ℕ) → Kept guards slots
      → (old % 4 ≡ 0) ⊎ ((old % 4 ≡ 1) × (4 ≤ old)) → new ≡ (old + 4) % 18446744073709551616
      → let m : Me (Content T M) View = (having 1 None, slots) in
      Allows (Counted told fits permits guards) 2 id m 0 (λ y. either (eqb y old) new y) (ReleaseTells (step 2 0 old new none) m)
  releases id slots old new kept nobody_to_wake is_new s o wide me _ =
      let v : View = having 1 None in
      let m : Me (Content T M) View = (v, slots) in
      exchanged (get_or s.words 0 0) old new (Goes told fits permits guards s id m (ReleaseTells (step 2 0 old new none) m))
      (λ hit.
      let word = o.word in
      let bit = o.bit in
      let long = o.long in
      let few = o.few in
      let conserved = o.conserved in
      let home : total carries_it s.views ≡ 0 = is_home told fits permits guards s o old hit
      (⊎_elim (λ (h : old % 4 ≡ 0). omega arith) (λ (h : (old % 4 ≡ 1) × (4 ≤ old)). let one = h.0 in omega arith)
      nobody_to_wake) in
      let given = gives_value told fits guards slots o.free kept in
      let ws : List ℕ = set s.words 0 new in
      let here : get_or ws 0 0 ≡ new = get_or-set_same s.words 0 new 0 (omega arith) in (
        resting,
        given.act,
        given.valid s.homes,
        rebuilt told fits permits guards s o id v resting ws (homes_after s.homes slots given.act) o.numbers (suc o.free)
            o.mark 0 me (length-set s.words 0 new) (omega arith) (omega arith) (omega arith) (omega arith) bit
            (λ e. absurd (omega arith)) (given.placed s.homes wide o.placed)
            (λ _. given.titled s.homes o.numbers (o.title_home home)) (λ e. absurd (omega arith))
            (λ e. absurd (omega arith)) o.once (λ some_wait _. o.marked some_wait home)
            (λ n c. still s.views id v resting n me (λ e. absurd (None_not_Some n e)) (o.waits n c))
            (λ some_wait _.
            let told_it = o.marked some_wait home in
            let t = o.charged some_wait (⊎_elim (λ (h : old % 4 ≡ 0). omega arith)
            (λ (h : (old % 4 ≡ 1) × (4 ≤ old)). let most = h.1 in omega arith) nobody_to_wake) in
            (t.0, t.1, still s.views id v resting t.0 me (λ e. absurd (None_not_Some t.0 e)) t.2)),
        ((λ _. ap (λ (left : List (ℕ × Content T M)). (resting, left)) given.has), λ miss. absurd (miss hit)),
      ))
      (λ miss. (v, keeps, tt, unmoved told fits permits guards s o id v me, ((λ hit. absurd (miss hit)), λ _. refl)))

  -- a thread waits no longer where the word tells that nobody does
  pub drops_wait : (n id holds : ℕ) (waits : Option ℕ) (slots : List (ℕ × Content T M)) (old : ℕ) → old % 4 ≡ 0
      → let m : Me (Content T M) View = (having holds waits, slots) in
      Allows (Counted told fits permits guards) n id m 0 (λ y. either (eqb y old) old y) (DropWaitTells (step n 0 old old none) m)
  drops_wait n id holds waits slots old untold s o wide me _ =
      let v : View = having holds waits in
      let w : View = having holds None in
      let m : Me (Content T M) View = (v, slots) in
      exchanged (get_or s.words 0 0) old old (Goes told fits permits guards s id m (DropWaitTells (step n 0 old old none) m))
      (λ hit.
      let word = o.word in
      let bit = o.bit in
      let long = o.long in
      let home : total carries_it s.views ≡ 0 = is_home told fits permits guards s o old hit (omega arith) in
      let nobody = nobody_waits told fits permits guards s o home (omega arith) in
      let ws : List ℕ = set s.words 0 old in
      let here : get_or ws 0 0 ≡ old = get_or-set_same s.words 0 old 0 (omega arith) in (
        w,
        keeps,
        tt,
        rebuilt told fits permits guards s o id v w ws s.homes o.numbers o.free o.mark 0 me
            (length-set s.words 0 old) (omega arith) (omega arith) (omega arith) (omega arith) bit
            (λ e. absurd (omega arith)) o.placed (λ _. o.title_home home) (λ e. absurd (omega arith))
            (λ e. absurd (omega arith)) o.once
            (λ some_wait. absurd (some_wait nobody)) (λ k c. absurd (nothing_in o.numbers k nobody c))
            (λ some_wait. absurd (some_wait nobody)),
        ((λ _. refl), λ miss. absurd (miss hit)),
      ))
      (λ miss. (v, keeps, tt, unmoved told fits permits guards s o id v me, ((λ hit. absurd (miss hit)), λ _. refl)))
