-- The steps of a thread that takes the title out of its slot or puts it back keep the rule of a stock.
use Rattle.std.proofs.Common.{◌≡◌, ℕ, ◌+◌, ◌*◌, ◌/◌, ◌%◌, ◌<◌, ◌≤◌, ◌≢◌, ◌==◌, ◌⊎◌, Bool, List, [], ◌∷◌, ◌++◌, eqb, length, get_or, set}
use Rattle.std.proofs.Common.{sym, refl, ap, ◌∙◌, subst, inl, inr, ⊎_elim, arith, length-set, get_or-set_same, Contains}
use Rattle.std.proofs.Common.{Option, None, Some}
use mathlib.Core.Logic.{dite}
use mathlib.Core.Option.{some, none}
use native.Mathlib.Decide.{ℕ_discrete}
use prog.Atomic.{either}
use Rattle.std.proofs.lemmas.List.Elements.{Contains-push_cases}
use Rattle.std.proofs.lemmas.Option.{same_Some}
use Rattle.atomic_table.specs.Table.{Me, step, keeps, takes, gives, chain, rest, Allows, homes_after}
use Rattle.atomic_table.proofs.Lists.{set_here, exchanged}
use Rattle.lot_base.specs.Waiting.{without_first}
use Rattle.lot_word_lock.specs.WordPlaces.{total}
use Rattle.lock_words.specs.StockRule.{carries_it, WaitsAs, SomeSeat, NoRepeats, Homes, Placed, Kept, HasTitle, Counted}
use Rattle.lock_words.specs.StockView.{view, having}
use Rattle.lock_words.specs.StockSteps.{newest, behind, told_in, CarryTells, ReleasedTells}
use Rattle.lock_words.specs.declared.stock.Content.{Content}
use Rattle.lock_words.specs.declared.stock.Content.TheVariants.{Title}
use Rattle.lock_words.specs.declared.stock.view.View.{View}
use Rattle.lock_words.proofs.NumberLists.{Contains-first, NoRepeats-push, newest_is}
use Rattle.lock_words.proofs.SeatCounts.{None_not_Some, carrier_kept, carrier_none, waiting_here}
use Rattle.lock_words.proofs.StockBoard.{Knows, rebuilt, unmoved, Goes, is_home, carried_by}
use Rattle.lock_words.proofs.StockSlots.{Gives, gives_nothing, gives_value, placed_else}
use Rattle.lock_words.proofs.StockTries.{still}
use Rattle.lock_words.proofs.Removals.{behind_once, behind_among, without_among, without_gone, without_once}

one_of : (mark : ℕ) → mark ≤ 1 → (mark ≡ 0 → ⊥) → mark ≡ 1
one_of mark bit some_mark = dite (ℕ_discrete mark 0) (λ e. absurd (some_mark e)) (λ ne. omega arith)

-- a thread that has put the title back waits as the last number that it tells
pub entered_tells : {T M : Type 0} (told : M → List ℕ) (me after : Me (Content T M) View) (v : View) (title : M)
    (numbers : List ℕ) (number holds : ℕ) → after ≡ (having me.0.holds (Some (newest (told_in told me.1))), rest me.1)
    → me ≡ (v, (1, Title title) ∷ []) → v.holds ≡ holds → told title ≡ numbers ++ number ∷ []
    → after ≡ (having holds (Some number), [])
entered_tells {T} {M} told me after v title numbers number holds is back held tells =
    is ∙ (ap (λ (m : Me (Content T M) View). (having m.0.holds (Some (newest (told_in told m.1))), rest m.1)) back
    ∙ ap (λ (n : ℕ). (having v.holds (Some n), [])) (ap newest tells ∙ newest_is numbers number)
    ∙ ap (λ (h : ℕ). (having h (Some number), [])) held)

-- the first number, if others stand behind it
first_of : (ns : List ℕ) → NoRepeats ns → behind ns ≢ [] → (n : ℕ) × ¬ Contains (behind ns) n × Contains ns n
first_of [] once some_wait = absurd (some_wait refl)
first_of (n ∷ ns) once some_wait = (n, once.0, Contains-first n ns)

-- what a thread does with the numbers of a title: it waited as `was` and waits as `waits` then
module _ (was waits : Option ℕ) (old new : List ℕ) where
  -- nobody is new but the thread itself, and the thread waits on if it stands there
  abbrev pub KeepsNumbers : Type 0
  KeepsNumbers = (n : ℕ) → Contains new n → (Contains old n × (was ≡ Some n → waits ≡ Some n)) ⊎ (waits ≡ Some n)

  -- somebody who waits and does not stand there: the thread, or one that was taken out, or the one that there was
  abbrev pub KeepsCharge : ℕ → Type 0
  KeepsCharge aside =
      ((n : ℕ) × ¬ Contains new n × ((waits ≡ Some n) ⊎ (Contains old n × (was ≡ Some n → waits ≡ Some n))))
      ⊎ ((0 < aside) × (was ≡ waits) × (new ≡ old))

module _ {T M : Type 0} (told : M → List ℕ) (fits : M → Type 0) (permits : ℕ) (guards : Bool) where
  -- the title lies in slot 1 once it is put back
  title_back : (hs : Homes T M) (title : M) → length hs ≡ 2 → fits title
      → HasTitle told fits (told title) (set hs 1 (some (Title title)))
  title_back hs title long fit = record {
    title = title;
    home = set_here hs 1 (some (Title title)) (omega arith);
    fit = fit;
    tells = refl;
  }

  -- a thread takes the title
  pub carries : (id holds : ℕ) (waits : Option ℕ) (slots : List (ℕ × Content T M)) (old new : ℕ) → old % 4 ≤ 1
      → new ≡ old / 4 * 4 + 2
      → let m : Me (Content T M) View = (having holds waits, slots) in
      Allows (Counted told fits permits guards) 2 id m 0 (λ y. either (eqb y old) new y)
      (CarryTells told fits (step 2 0 old new none) m)
  carries id holds waits slots old new home_word is_new s o wide me _ =
      let v : View = having holds waits in
      let m : Me (Content T M) View = (v, slots) in
      exchanged (get_or s.words 0 0) old new
      (Goes told fits permits guards s id m (CarryTells told fits (step 2 0 old new none) m))
      (λ hit.
      let word = o.word in
      let bit = o.bit in
      let long = o.long in
      let at_home : total carries_it s.views ≡ 0 = is_home told fits permits guards s o old hit home_word in
      let all : old / 4 ≡ o.free = omega arith in
      let home = o.title_home at_home in
      let w : View = view holds waits (Some (told home.title)) (old / 4) in
      let ws : List ℕ = set s.words 0 new in
      let here : get_or ws 0 0 ≡ new = get_or-set_same s.words 0 new 0 (omega arith) in (
        w,
        takes 1 (Title home.title),
        home.home,
        rebuilt told fits permits guards s o id v w ws (set s.homes 1 none) o.numbers o.free 0 1 me
            (length-set s.words 0 new) (omega arith) (omega arith) (omega arith) (omega arith) (omega arith)
            (λ _. refl) (placed_else guards o.free s.homes none o.placed) (λ e. absurd (omega arith))
            (λ _. set_here s.homes 1 none (omega arith))
            (λ _. carrier_kept (λ (seat : View). seat.carries) (Knows o.numbers o.free) s.views id w
            (carrier_none (λ (seat : View). seat.carries) (Knows o.numbers o.free) s.views at_home)
            (λ ns e. (sym (same_Some _ _ e) ∙ home.tells, all)))
            o.once (λ _ e. absurd (omega arith)) (λ n c. still s.views id v w n me (λ e. e) (o.waits n c))
            (λ some_wait some_free. let t = o.charged some_wait some_free in
            (t.0, t.1, still s.views id v w t.0 me (λ e. e) t.2)),
        (
          (λ _. record {
            title = home.title;
            is = refl;
            fit = home.fit;
            once = subst NoRepeats (sym home.tells) o.once;
          }),
          λ miss. absurd (miss hit),
        ),
      ))
      (λ miss. (v, keeps, tt, unmoved told fits permits guards s o id v me, ((λ hit. absurd (miss hit)), λ _. refl)))

  -- a thread puts the title back, and so many permits are free then
  pub puts_back : (id : ℕ) (holds after : ℕ) (was waits : Option ℕ) (numbers : List ℕ) (aside : ℕ) (title : M)
      (slots left : List (ℕ × Content T M)) (free mark new : ℕ) (then : Me (Content T M) View → Type 0)
      → Gives told fits guards slots aside free left
      → new ≡ 4 * free + mark → mark ≤ 1 → (mark ≡ 0 → told title ≡ []) → free + after ≡ aside + holds → fits title
      → (NoRepeats numbers → NoRepeats (told title)) → (NoRepeats numbers → KeepsNumbers was waits numbers (told title))
      → (NoRepeats numbers → told title ≢ [] → 0 < free → KeepsCharge was waits numbers (told title) aside)
      → then (having after waits, left)
      → Allows (Counted told fits permits guards) 2 id (view holds was (Some numbers) aside, (1, Title title) ∷ slots) 0
      (λ _. new) (λ _ n. then n)
  puts_back id holds after was waits numbers aside title slots left free mark new then given is_new bit last sum fit once
      among charge so s o wide me _ =
      let v : View = view holds was (Some numbers) aside in
      let w : View = having after waits in
      let out = carried_by told fits permits guards s o id v me refl in
      let long = o.long in
      let known = o.known id v numbers me refl in
      let same : numbers ≡ o.numbers = known.0 in
      let found : aside ≡ o.free = known.1 in
      let single : NoRepeats numbers = subst NoRepeats (sym same) o.once in
      let ws : List ℕ = set s.words 0 new in
      let here : get_or ws 0 0 ≡ new = get_or-set_same s.words 0 new 0 (omega arith) in
      let hs : Homes T M = set s.homes 1 (some (Title title)) in
      let wide_hs : length hs ≡ 2 = length-set s.homes 1 (some (Title title)) ∙ wide in
      let there = placed_else guards o.free s.homes (some (Title title)) o.placed in
      let stands : (n : ℕ) → Contains numbers n → SomeSeat s.views (WaitsAs n) =
      λ n c. o.waits n (subst (λ (ns : List ℕ). Contains ns n) same c) in (
        w,
        chain gives given.act,
        (tt, given.valid hs),
        rebuilt told fits permits guards s o id v w ws (homes_after hs slots given.act) (told title) free mark 0 me
            (length-set s.words 0 new) (omega arith) (omega arith) (omega arith) (omega arith) bit
            (λ e. absurd (omega arith))
            (given.placed hs wide_hs (subst (λ (n : ℕ). Placed guards n hs) (sym found) there))
            (λ _. given.titled hs (told title) (title_back s.homes title wide fit)) (λ e. absurd (omega arith))
            (λ e. absurd (omega arith)) (once single)
            (λ some_wait _. one_of mark bit (λ unmarked. some_wait (last unmarked)))
            (λ n c. ⊎_elim (λ t. still s.views id v w n me t.1 (stands n t.0))
            (λ own. waiting_here (λ (seat : View). seat.waits) s.views id v w n me own) (among single n c))
            (λ some_wait some_free. ⊎_elim
            (λ t. (
              t.0,
              t.1,
              ⊎_elim (λ own. waiting_here (λ (seat : View). seat.waits) s.views id v w t.0 me own)
                  (λ other. still s.views id v w t.0 me other.1 (stands t.0 other.0)) t.2,
            ))
            (λ t.
            let kept : told title ≡ o.numbers = t.2 ∙ same in
            let c = o.charged (λ nobody. some_wait (kept ∙ nobody)) (let some_aside = t.0 in omega arith) in (
              c.0,
              subst (λ (ns : List ℕ). ¬ Contains ns c.0) (sym kept) c.1,
              still s.views id v w c.0 me (λ e. sym t.1 ∙ e) c.2,
            ))
            (charge single some_wait (omega arith))),
        subst (λ (has : List (ℕ × Content T M)). then (w, has)) (sym given.has) so,
      )

  -- after it has entered the queue, where no permit was free
  pub enters : (id holds : ℕ) (was : Option ℕ) (numbers : List ℕ) (number : ℕ) (title : M)
      (slots : List (ℕ × Content T M)) (then : Me (Content T M) View → Type 0) → (was ≡ None) ⊎ (was ≡ Some number)
      → ¬ Contains numbers number → fits title → told title ≡ numbers ++ number ∷ []
      → then (having holds (Some (newest (told title))), slots)
      → Allows (Counted told fits permits guards) 2 id (view holds was (Some numbers) 0, (1, Title title) ∷ slots) 0
      (λ _. 1) (λ _ n. then n)
  enters id holds was numbers number title slots then may new_one fit tells so =
      let last : newest (told title) ≡ number = ap newest tells ∙ newest_is numbers number in
      puts_back id holds holds was (Some (newest (told title))) numbers 0 title slots slots 0 1 1 then
      (gives_nothing told fits guards slots 0) (omega arith) (omega arith)
      (λ e. absurd (omega arith)) (omega arith) fit
      (λ once. subst NoRepeats (sym tells) (NoRepeats-push numbers number once new_one))
      (λ _ n c. ⊎_elim
      (λ stood. inl (
        stood,
        λ e. ⊎_elim (λ unset. absurd (None_not_Some n (sym unset ∙ e)))
            (λ mine. absurd (new_one (subst (Contains numbers) (same_Some _ _ (sym e ∙ mine)) stood))) may,
      ))
      (λ e. inr (ap (λ (k : ℕ). Some k) (last ∙ e)))
      (Contains-push_cases numbers number n (subst (λ (ns : List ℕ). Contains ns n) tells c)))
      (λ _ _ some_free. absurd (omega arith)) so

  -- as it took the title, or after it has left the queue; it waits as before
  pub returns : (id holds : ℕ) (waits : Option ℕ) (numbers : List ℕ) (aside : ℕ) (title : M)
      (slots : List (ℕ × Content T M)) (mark new : ℕ)
      (then : Me (Content T M) View → Type 0) → new ≡ 4 * aside + mark → mark ≤ 1 → (mark ≡ 0 → told title ≡ []) → fits title
      → (told title ≡ numbers)
      ⊎ ((number : ℕ) × (waits ≡ Some number) × (told title ≡ without_first (λ each. each == number) numbers))
      → then (having holds waits, slots)
      → Allows (Counted told fits permits guards) 2 id (view holds waits (Some numbers) aside, (1, Title title) ∷ slots) 0
      (λ _. new) (λ _ n. then n)
  returns id holds waits numbers aside title slots mark new then is_new bit last fit others so =
      puts_back id holds holds waits waits numbers aside title slots slots aside mark new then
      (gives_nothing told fits guards slots aside) is_new bit last (omega arith) fit
      (λ once. ⊎_elim (λ same. subst NoRepeats (sym same) once)
      (λ t. subst NoRepeats (sym t.2) (without_once t.0 numbers once)) others)
      (λ _ n c. inl (
        ⊎_elim (λ same. subst (λ (ns : List ℕ). Contains ns n) same c)
            (λ t. without_among t.0 numbers n (subst (λ (ns : List ℕ). Contains ns n) t.2 c)) others,
        λ e. e,
      ))
      (λ once _ some_free. ⊎_elim (λ same. inr (some_free, refl, same))
      (λ t. inl (t.0, subst (λ (ns : List ℕ). ¬ Contains ns t.0) (sym t.2) (without_gone t.0 numbers once), inl t.1))
      others)
      so

  -- after the first who waited was taken from the queue, or as it took the title where no permit is free; it waits no longer
  leaves_with : (id holds after : ℕ) (was : Option ℕ) (numbers : List ℕ) (aside : ℕ) (title : M)
      (slots left : List (ℕ × Content T M)) (free mark new : ℕ)
      (then : Me (Content T M) View → Type 0) → Gives told fits guards slots aside free left
      → new ≡ 4 * free + mark → mark ≤ 1 → (mark ≡ 0 → told title ≡ [])
      → free + after ≡ aside + holds → fits title
      → (told title ≡ behind numbers) ⊎ ((told title ≡ numbers) × (free ≡ 0))
      → ((n : ℕ) → was ≡ Some n → ¬ Contains numbers n) → then (having after None, left)
      → Allows (Counted told fits permits guards) 2 id (view holds was (Some numbers) aside, (1, Title title) ∷ slots) 0
      (λ _. new) (λ _ n. then n)
  leaves_with id holds after was numbers aside title slots left free mark new then given is_new bit last sum fit others gone
      so =
      let stands : (n : ℕ) → Contains (told title) n → Contains numbers n =
      λ n c. ⊎_elim (λ first. behind_among numbers n (subst (λ (ns : List ℕ). Contains ns n) first c))
      (λ t. subst (λ (ns : List ℕ). Contains ns n) t.0 c) others in
      puts_back id holds after was None numbers aside title slots left free mark new then given is_new bit last sum fit
      (λ once. ⊎_elim (λ first. subst NoRepeats (sym first) (behind_once numbers once))
      (λ t. subst NoRepeats (sym t.0) once) others)
      (λ _ n c. let stood = stands n c in inl (stood, λ e. absurd (gone n e stood)))
      (λ once some_wait some_free. ⊎_elim
      (λ first.
      let t = first_of numbers once (λ nobody. some_wait (first ∙ nobody)) in
      inl (t.0, subst (λ (ns : List ℕ). ¬ Contains ns t.0) (sym first) t.1, inr (t.2, λ e. absurd (gone t.0 e t.2))))
      (λ t. let no_free = t.1 in absurd (omega arith)) others)
      so

  pub leaves : (id holds : ℕ) (was : Option ℕ) (numbers : List ℕ) (aside : ℕ) (title : M)
      (slots : List (ℕ × Content T M)) (mark new : ℕ) (then : Me (Content T M) View → Type 0) → new ≡ 4 * aside + mark
      → mark ≤ 1 → (mark ≡ 0 → told title ≡ []) → fits title
      → (told title ≡ behind numbers) ⊎ ((told title ≡ numbers) × (aside ≡ 0))
      → ((n : ℕ) → was ≡ Some n → ¬ Contains numbers n) → then (having holds None, slots)
      → Allows (Counted told fits permits guards) 2 id (view holds was (Some numbers) aside, (1, Title title) ∷ slots) 0
      (λ _. new) (λ _ n. then n)
  leaves id holds was numbers aside title slots mark new then is_new bit last fit others gone so =
      leaves_with id holds holds was numbers aside title slots slots aside mark new then
      (gives_nothing told fits guards slots aside) is_new bit last refl fit others gone so

  -- a thread puts the title back and frees its permit, where no other was free
  pub releases_all : (id : ℕ) (numbers : List ℕ) (title : M) (slots : List (ℕ × Content T M)) (mark new : ℕ)
      → Kept guards slots → new ≡ 4 + mark → mark ≤ 1 → (mark ≡ 0 → told title ≡ []) → fits title
      → told title ≡ behind numbers
      → let m : Me (Content T M) View = (view 1 None (Some numbers) 0, (1, Title title) ∷ slots) in
      Allows (Counted told fits permits guards) 2 id m 0 (λ _. new) (λ _ n. ReleasedTells (step 2 0 new 0 none) m new n)
  releases_all id numbers title slots mark new kept is_new bit last fit others =
      leaves_with id 1 0 None numbers 0 title slots [] 1 mark new
      (ReleasedTells (step 2 0 new 0 none) (view 1 None (Some numbers) 0, (1, Title title) ∷ slots) new)
      (gives_value told fits guards slots 0 kept) (omega arith) bit last refl fit (inl others)
      (λ n e. absurd (None_not_Some n e)) refl
