-- The steps of a thread at a word with phases keep its rule.
use Rattle.std.proofs.Common.{◌≡◌, ℕ, ◌+◌, ◌*◌, ◌/◌, ◌%◌, ◌≤◌, ◌⊎◌, ◌==◌, List, [], ◌∷◌, ◌++◌, eqb, length, get_or, set}
use Rattle.std.proofs.Common.{sym, refl, ap, ◌∙◌, subst, ⊎_elim, arith, length-set, get_or-set_same, Contains, Option, None, Some}
use mathlib.Core.Logic.{dite}
use mathlib.Core.Option.{some, none}
use native.Mathlib.Decide.{ℕ_discrete}
use lib.ListN.{get_elem?}
use lib.Seq.{set-get_or}
use prog.Atomic.{either}
use Rattle.std.proofs.lemmas.List.Elements.{Contains-push_cases}
use Rattle.std.proofs.lemmas.Option.{same_Some}
use Rattle.atomic_table.specs.Table.{Me, step, keeps, takes, gives, rest, Allows}
use Rattle.atomic_table.proofs.Lists.{set_here, exchanged}
use Rattle.lot_base.specs.Waiting.{without_first}
use Rattle.lot_word_lock.specs.WordPlaces.{total}
use Rattle.lock_words.specs.StockRule.{SomeSeat, NoRepeats}
use Rattle.lock_words.specs.StockSteps.{newest, behind}
use Rattle.lock_words.specs.PhaseRule.{view, being, leading, carries_it, WaitsIn, Homes, HasTitle, Phased}
use Rattle.lock_words.specs.PhaseSteps.{told_in, LookTells, CarryTells, DropWaitTells, LeadTells, EndTells}
use Rattle.lock_words.specs.declared.phases.view.View.{View}
use Rattle.lock_words.proofs.NumberLists.{NoRepeats-push, newest_is, nothing_in}
use Rattle.lock_words.proofs.SeatCounts.{None_not_Some, carrier_kept, carrier_none, seat_here, seat_kept}
use Rattle.lock_words.proofs.PhaseBoard.{St, Knows, rebuilt, unmoved, Goes, is_home, leads_at_most, nobody_waits, carried_by}
use Rattle.lock_words.proofs.Removals.{behind_once, behind_among, without_among, without_gone, without_once}

-- a thread that has put the title back waits as the last number that it tells
pub entered_tells : {M : Type 0} (told : M → List ℕ) (me after : Me (Option M) View) (v : View) (title : M)
    (numbers : List ℕ) (number phase : ℕ) → after ≡ (being (Some (newest (told_in told me.1))) me.0.phase, rest me.1)
    → me ≡ (v, (0, Some title) ∷ []) → v.phase ≡ phase → told title ≡ numbers ++ number ∷ []
    → after ≡ (being (Some number) phase, [])
entered_tells {M} told me after v title numbers number phase is back same tells =
    is ∙ (ap (λ (m : Me (Option M) View). (being (Some (newest (told_in told m.1))) m.0.phase, rest m.1)) back
    ∙ ap (λ (n : ℕ). (being (Some n) v.phase, [])) (ap newest tells ∙ newest_is numbers number)
    ∙ ap (λ (p : ℕ). (being (Some number) p, [])) same)

module _ {M : Type 0} (told : M → List ℕ) (fits : M → Type 0) where
  -- the title lies in the slot once it is put back
  title_back : (hs : Homes M) (title : M) → length hs ≡ 1 → fits title
      → HasTitle told fits (told title) (set hs 0 (some (Some title)))
  title_back hs title long fit = record {
    title = title;
    home = set_here hs 0 (some (Some title)) (omega arith);
    fit = fit;
    tells = refl;
  }

  -- a thread looks at the word
  pub looks : (n id phase : ℕ) (waits : Option ℕ) (slots : List (ℕ × Option M))
      → let m : Me (Option M) View = (being waits phase, slots) in
      Allows (Phased told fits) n id m 0 (λ y. y) (LookTells (step n 0 0 0 none) m)
  looks n id phase waits slots s o wide me _ =
      let v : View = being waits phase in
      let read : ℕ = get_or s.words 0 0 in
      let word = o.word in
      let bit = o.bit in
      let led = o.led in
      let carrier = o.carrier in
      let away : total carries_it s.views ≡ 1 → o.mark ≡ 0 = o.away in
      let now : read / 4 ≡ o.phase =
      dite (ℕ_discrete (total carries_it s.views) 0) (λ e. omega arith)
      (λ ne. let unmarked = away (omega arith) in omega arith) in
      dite (ℕ_discrete (read / 4) phase)
      (λ same. (v, keeps, tt, unmoved told fits s o id v me, ((λ over. absurd (over same)), λ _. refl)))
      (λ over.
      let w : View = being None (read / 4) in
      let ws : List ℕ = set s.words 0 read in
      let as_before : ws ≡ s.words = set-get_or s.words 0 0 in
      let there : get_or ws 0 0 ≡ read = ap (λ (words : List ℕ). get_or words 0 0) as_before in
      let other : ¬ (phase ≡ o.phase) = λ e. over (now ∙ sym e) in (
        w,
        keeps,
        tt,
        rebuilt told fits s o id v w ws s.homes o.numbers o.phase o.mark (total carries_it s.views) me
            (length-set s.words 0 read) (omega arith) (omega arith) carrier (there ∙ word) bit away
            (λ e. o.title_home e) (λ e. o.title_out e)
            (λ _. carrier_kept (λ (seat : View). seat.carries) (Knows o.numbers o.phase) s.views id w o.known
            (λ ns e. absurd (None_not_Some ns e)))
            o.once (λ some_wait e. o.marked some_wait e)
            (λ k c. seat_kept (WaitsIn o.phase k) s.views id v w me (λ mine. absurd (other mine.until_end)) (o.waits k c)),
        ((λ _. refl), λ same. absurd (over same)),
      ))

  -- a thread takes the title
  pub carries : (id phase leads : ℕ) (waits : Option ℕ) (old new : ℕ) → old % 4 ≤ 1 → new ≡ old / 4 * 4 + 2
      → let m : Me (Option M) View = (view waits phase leads None, []) in
      Allows (Phased told fits) 1 id m 0 (λ y. either (eqb y old) new y) (CarryTells told fits (step 1 0 old new none) m)
  carries id phase leads waits old new home_word is_new s o wide me _ =
      let v : View = view waits phase leads None in
      let m : Me (Option M) View = (v, []) in
      exchanged (get_or s.words 0 0) old new
      (Goes told fits s id m (CarryTells told fits (step 1 0 old new none) m))
      (λ hit.
      let word = o.word in
      let bit = o.bit in
      let long = o.long in
      let led = o.led in
      let at_home : total carries_it s.views ≡ 0 = is_home told fits s o old hit home_word in
      let now : old / 4 ≡ o.phase = omega arith in
      let home = o.title_home at_home in
      let w : View = view waits (old / 4) leads (Some (told home.title)) in
      let ws : List ℕ = set s.words 0 new in
      let here : get_or ws 0 0 ≡ new = get_or-set_same s.words 0 new 0 (omega arith) in (
        w,
        takes 0 (Some home.title),
        home.home,
        rebuilt told fits s o id v w ws (set s.homes 0 none) o.numbers o.phase 0 1 me
            (length-set s.words 0 new) (omega arith) (omega arith) (omega arith) (omega arith) (omega arith) (λ _. refl)
            (λ e. absurd (omega arith)) (λ _. set_here s.homes 0 none (omega arith))
            (λ _. carrier_kept (λ (seat : View). seat.carries) (Knows o.numbers o.phase) s.views id w
            (carrier_none (λ (seat : View). seat.carries) (Knows o.numbers o.phase) s.views at_home)
            (λ ns e. (sym (same_Some _ _ e) ∙ home.tells, now)))
            o.once (λ _ e. absurd (omega arith))
            (λ k c. seat_kept (WaitsIn o.phase k) s.views id v w me
            (λ mine. record { waits = mine.waits; until_end = now }) (o.waits k c)),
        (
          (λ _. record { title = home.title; is = refl; fit = home.fit }),
          λ miss. absurd (miss hit),
        ),
      ))
      (λ miss. (v, keeps, tt, unmoved told fits s o id v me, ((λ hit. absurd (miss hit)), λ _. refl)))

  -- a thread puts the title back, in whatever phase then, and does not lead it
  pub puts_back : (id phase knows leads : ℕ) (was waits : Option ℕ) (numbers : List ℕ) (title : M) (next mark new : ℕ)
      (then : Me (Option M) View → Type 0) → (leads ≤ phase % 2 → phase % 2 ≡ next % 2 + leads)
      → new ≡ 4 * next + mark → mark ≤ 1 → (mark ≡ 0 → told title ≡ [])
      → fits title → (NoRepeats numbers → NoRepeats (told title))
      → ((s : St M) → Phased told fits s → get_elem? s.views id ≡ some (view was phase leads (Some numbers)) → (n : ℕ)
      → Contains (told title) n → SomeSeat (set s.views id (being waits knows)) (WaitsIn next n))
      → then (being waits knows, [])
      → Allows (Phased told fits) 1 id (view was phase leads (Some numbers), (0, Some title) ∷ []) 0 (λ _. new) (λ _ n. then n)
  puts_back id phase knows leads was waits numbers title next mark new then follows is_new bit last fit once stand so s o
      wide me _ =
      let v : View = view was phase leads (Some numbers) in
      let w : View = being waits knows in
      let out = carried_by told fits s o id v me refl in
      let long = o.long in
      let known = o.known id v numbers me refl in
      let led = o.led in
      let same_phase = known.1 in
      let most = leads_at_most told fits s o id v me in
      let next_led = follows (omega arith) in
      let single : NoRepeats numbers = subst NoRepeats (sym known.0) o.once in
      let ws : List ℕ = set s.words 0 new in
      let here : get_or ws 0 0 ≡ new = get_or-set_same s.words 0 new 0 (omega arith) in (
        w,
        gives,
        tt,
        rebuilt told fits s o id v w ws (set s.homes 0 (some (Some title))) (told title) next mark 0 me
            (length-set s.words 0 new) (omega arith) (omega arith) (omega arith) (omega arith) bit (λ e. absurd (omega arith))
            (λ _. title_back s.homes title wide fit) (λ e. absurd (omega arith)) (λ e. absurd (omega arith))
            (once single)
            (λ some_wait _. dite (ℕ_discrete mark 0) (λ e. absurd (some_wait (last e))) (λ ne. omega arith))
            (stand s o me),
        so,
      )

  -- after it has entered the queue
  pub enters : (id phase : ℕ) (was : Option ℕ) (numbers : List ℕ) (number : ℕ) (title : M) (new : ℕ)
      (then : Me (Option M) View → Type 0) → new ≡ 4 * phase + 1 → ¬ Contains numbers number → fits title
      → (was ≡ None) ⊎ (was ≡ Some number)
      → told title ≡ numbers ++ number ∷ [] → then (being (Some (newest (told title))) phase, [])
      → Allows (Phased told fits) 1 id (view was phase 0 (Some numbers), (0, Some title) ∷ []) 0 (λ _. new) (λ _ n. then n)
  enters id phase was numbers number title new then is_new new_one fit may tells so =
      let last : newest (told title) ≡ number = ap newest tells ∙ newest_is numbers number in
      puts_back id phase phase 0 was (Some (newest (told title))) numbers title phase 1 new then (λ _. omega arith) is_new
      (omega arith) (λ e. absurd (omega arith)) fit
      (λ once. subst NoRepeats (sym tells) (NoRepeats-push numbers number once new_one))
      (λ s o me n c.
      let v : View = view was phase 0 (Some numbers) in
      let w : View = being (Some (newest (told title))) phase in
      let known = o.known id v numbers me refl in
      ⊎_elim
      (λ stood. seat_kept (WaitsIn phase n) s.views id v w me
      (λ mine. record {
        waits = ⊎_elim (λ unset. absurd (None_not_Some n (sym unset ∙ mine.waits)))
            (λ own. absurd (new_one (subst (Contains numbers) (same_Some _ _ (sym mine.waits ∙ own)) stood))) may;
        until_end = refl;
      })
      (subst (λ (p : ℕ). SomeSeat s.views (WaitsIn p n)) (sym known.1)
      (o.waits n (subst (λ (ns : List ℕ). Contains ns n) known.0 stood))))
      (λ e. seat_here (WaitsIn phase n) s.views id v w me
      (record { waits = ap (λ (k : ℕ). Some k) (last ∙ e); until_end = refl }))
      (Contains-push_cases numbers number n (subst (λ (ns : List ℕ). Contains ns n) tells c)))
      so

  -- after all threads were taken from the queue: it ends the phase
  pub ends_all : (id phase leads : ℕ) (was : Option ℕ) (numbers : List ℕ) (title : M) (next new : ℕ)
      (then : Me (Option M) View → Type 0) → (leads ≡ 0 → phase % 2 ≡ 0) → next % 2 ≡ 0 → new ≡ 4 * next → fits title
      → told title ≡ [] → then (being None (new / 4), [])
      → Allows (Phased told fits) 1 id (view was phase leads (Some numbers), (0, Some title) ∷ []) 0 (λ _. new) (λ _ n. then n)
  ends_all id phase leads was numbers title next new then unled even is_new fit nobody so =
      puts_back id phase (new / 4) leads was None numbers title next 0 new then
      (λ most. dite (ℕ_discrete leads 0) (λ e. let open_one = unled e in omega arith) (λ ne. omega arith))
      (omega arith) (omega arith) (λ _. nobody) fit
      (λ _. subst NoRepeats (sym nobody) tt) (λ s o me n c. absurd (nothing_in (told title) n nobody c)) so

  -- a thread ends the phase where nobody waits
  pub ends : (n id phase leads : ℕ) (waits : Option ℕ) (slots : List (ℕ × Option M)) (old next new : ℕ) → old % 4 ≡ 0
      → (leads ≡ 0 → old / 4 % 2 ≡ 0) → next % 2 ≡ 0 → new ≡ 4 * next
      → let m : Me (Option M) View = (view waits phase leads None, slots) in
      Allows (Phased told fits) n id m 0 (λ y. either (eqb y old) new y) (EndTells (step n 0 old new none) m)
  ends n id phase leads waits slots old next new unmarked unled even is_new s o wide me _ =
      let v : View = view waits phase leads None in
      let m : Me (Option M) View = (v, slots) in
      exchanged (get_or s.words 0 0) old new (Goes told fits s id m (EndTells (step n 0 old new none) m))
      (λ hit.
      let word = o.word in
      let bit = o.bit in
      let long = o.long in
      let led = o.led in
      let at_home : total carries_it s.views ≡ 0 = is_home told fits s o old hit (omega arith) in
      let nobody = nobody_waits told fits s o at_home (omega arith) in
      let now : old / 4 ≡ o.phase = omega arith in
      let most = leads_at_most told fits s o id v me in
      let all : leads ≡ o.phase % 2 =
      dite (ℕ_discrete leads 0) (λ e. let open_one = unled e in omega arith) (λ ne. omega arith) in
      let w : View = being None (new / 4) in
      let ws : List ℕ = set s.words 0 new in
      let here : get_or ws 0 0 ≡ new = get_or-set_same s.words 0 new 0 (omega arith) in (
        w,
        keeps,
        tt,
        rebuilt told fits s o id v w ws s.homes o.numbers next 0 0 me
            (length-set s.words 0 new) (omega arith) (omega arith) (omega arith) (omega arith) (omega arith) (λ _. refl)
            (λ _. o.title_home at_home) (λ e. absurd (omega arith)) (λ e. absurd (omega arith)) o.once
            (λ some_wait _. absurd (some_wait nobody)) (λ k c. absurd (nothing_in o.numbers k nobody c)),
        ((λ _. refl), λ miss. absurd (miss hit)),
      ))
      (λ miss. (v, keeps, tt, unmoved told fits s o id v me, ((λ hit. absurd (miss hit)), λ _. refl)))

  -- a thread begins to lead a phase that is open, where nobody waits
  pub begins_to_lead : (n id phase : ℕ) (slots : List (ℕ × Option M)) (old new : ℕ) → old % 8 ≡ 0 → new ≡ old + 4
      → let m : Me (Option M) View = (being None phase, slots) in
      Allows (Phased told fits) n id m 0 (λ y. either (eqb y old) new y) (LeadTells (step n 0 old new none) m)
  begins_to_lead n id phase slots old new unmarked is_new s o wide me _ =
      let v : View = being None phase in
      let m : Me (Option M) View = (v, slots) in
      exchanged (get_or s.words 0 0) old new (Goes told fits s id m (LeadTells (step n 0 old new none) m))
      (λ hit.
      let word = o.word in
      let bit = o.bit in
      let long = o.long in
      let led = o.led in
      let at_home : total carries_it s.views ≡ 0 = is_home told fits s o old hit (omega arith) in
      let nobody = nobody_waits told fits s o at_home (omega arith) in
      let now : old / 4 ≡ o.phase = omega arith in
      let w : View = leading (new / 4) in
      let ws : List ℕ = set s.words 0 new in
      let here : get_or ws 0 0 ≡ new = get_or-set_same s.words 0 new 0 (omega arith) in (
        w,
        keeps,
        tt,
        rebuilt told fits s o id v w ws s.homes o.numbers (new / 4) 0 0 me
            (length-set s.words 0 new) (omega arith) (omega arith) (omega arith) (omega arith) (omega arith) (λ _. refl)
            (λ _. o.title_home at_home) (λ e. absurd (omega arith)) (λ e. absurd (omega arith)) o.once
            (λ some_wait _. absurd (some_wait nobody)) (λ k c. absurd (nothing_in o.numbers k nobody c)),
        ((λ _. refl), λ miss. absurd (miss hit)),
      ))
      (λ miss. (v, keeps, tt, unmoved told fits s o id v me, ((λ hit. absurd (miss hit)), λ _. refl)))

  -- a thread puts the title back as it took it, or once the first was taken from the queue, and waits as before
  pub returns : (id phase : ℕ) (waits : Option ℕ) (numbers : List ℕ) (title : M) (mark new : ℕ)
      (then : Me (Option M) View → Type 0) → new ≡ 4 * phase + mark → mark ≤ 1 → (mark ≡ 0 → told title ≡ []) → fits title
      → (told title ≡ numbers) ⊎ (told title ≡ behind numbers) → then (being waits phase, [])
      → Allows (Phased told fits) 1 id (view waits phase 0 (Some numbers), (0, Some title) ∷ []) 0 (λ _. new) (λ _ n. then n)
  returns id phase waits numbers title mark new then is_new bit last fit others so =
      puts_back id phase phase 0 waits waits numbers title phase mark new then (λ _. omega arith) is_new bit last fit
      (λ once. ⊎_elim (λ same. subst NoRepeats (sym same) once) (λ next. subst NoRepeats (sym next) (behind_once numbers once))
      others)
      (λ s o me n c.
      let v : View = view waits phase 0 (Some numbers) in
      let known = o.known id v numbers me refl in
      let stood : Contains numbers n =
      ⊎_elim (λ same. subst (λ (ns : List ℕ). Contains ns n) same c)
      (λ next. behind_among numbers n (subst (λ (ns : List ℕ). Contains ns n) next c)) others in
      seat_kept (WaitsIn phase n) s.views id v (being waits phase) me
      (λ mine. record { waits = mine.waits; until_end = mine.until_end })
      (subst (λ (p : ℕ). SomeSeat s.views (WaitsIn p n)) (sym known.1)
      (o.waits n (subst (λ (ns : List ℕ). Contains ns n) known.0 stood))))
      so

  -- a thread that is not in the queue any more puts the title back, and waits no longer
  pub leaves : (id phase : ℕ) (was : Option ℕ) (numbers : List ℕ) (title : M) (mark new : ℕ)
      (then : Me (Option M) View → Type 0) → new ≡ 4 * phase + mark → mark ≤ 1 → (mark ≡ 0 → told title ≡ []) → fits title
      → ((number : ℕ) × (was ≡ Some number) × (told title ≡ without_first (λ each. each == number) numbers))
      ⊎ ((told title ≡ numbers) × ((n : ℕ) → was ≡ Some n → ¬ Contains numbers n)) → then (being None phase, [])
      → Allows (Phased told fits) 1 id (view was phase 0 (Some numbers), (0, Some title) ∷ []) 0 (λ _. new) (λ _ n. then n)
  leaves id phase was numbers title mark new then is_new bit last fit others so =
      puts_back id phase phase 0 was None numbers title phase mark new then (λ _. omega arith) is_new bit last fit
      (λ once. ⊎_elim (λ out. subst NoRepeats (sym out.2) (without_once out.0 numbers once))
      (λ gone. subst NoRepeats (sym gone.0) once) others)
      (λ s o me n c.
      let v : View = view was phase 0 (Some numbers) in
      let known = o.known id v numbers me refl in
      let once : NoRepeats numbers = subst NoRepeats (sym known.0) o.once in
      let stood : Contains numbers n × (was ≡ Some n → ⊥) =
      ⊎_elim
      (λ out. let among = subst (λ (ns : List ℕ). Contains ns n) out.2 c in (
        without_among out.0 numbers n among,
        λ mine. without_gone out.0 numbers once
            (subst (Contains (without_first (λ each. each == out.0) numbers)) (same_Some _ _ (sym mine ∙ out.1)) among),
      ))
      (λ gone. let among = subst (λ (ns : List ℕ). Contains ns n) gone.0 c in (among, λ mine. gone.1 n mine among)) others in
      seat_kept (WaitsIn phase n) s.views id v (being None phase) me
      (λ mine. absurd (stood.1 mine.waits))
      (subst (λ (p : ℕ). SomeSeat s.views (WaitsIn p n)) (sym known.1)
      (o.waits n (subst (λ (ns : List ℕ). Contains ns n) known.0 stood.0))))
      so

  -- a thread waits no longer, where nobody waits in the queue
  pub drops_wait : (n id phase : ℕ) (waits : Option ℕ) (slots : List (ℕ × Option M)) (word : ℕ) → word % 4 ≡ 0
      → let m : Me (Option M) View = (being waits phase, slots) in
      Allows (Phased told fits) n id m 0 (λ y. either (eqb y word) word y) (DropWaitTells (step n 0 word word none) m)
  drops_wait n id phase waits slots word unmarked s o wide me _ =
      let v : View = being waits phase in
      let m : Me (Option M) View = (v, slots) in
      exchanged (get_or s.words 0 0) word word (Goes told fits s id m (DropWaitTells (step n 0 word word none) m))
      (λ hit.
      let sum = o.word in
      let bit = o.bit in
      let long = o.long in
      let led = o.led in
      let at_home : total carries_it s.views ≡ 0 = is_home told fits s o word hit (omega arith) in
      let nobody = nobody_waits told fits s o at_home (omega arith) in
      let w : View = being None phase in
      let ws : List ℕ = set s.words 0 word in
      let here : get_or ws 0 0 ≡ word = get_or-set_same s.words 0 word 0 (omega arith) in (
        w,
        keeps,
        tt,
        rebuilt told fits s o id v w ws s.homes o.numbers o.phase 0 0 me
            (length-set s.words 0 word) (omega arith) (omega arith) (omega arith) (omega arith) (omega arith) (λ _. refl)
            (λ _. o.title_home at_home) (λ e. absurd (omega arith)) (λ e. absurd (omega arith)) o.once
            (λ some_wait _. absurd (some_wait nobody)) (λ k c. absurd (nothing_in o.numbers k nobody c)),
        ((λ _. refl), λ miss. absurd (miss hit)),
      ))
      (λ miss. (v, keeps, tt, unmoved told fits s o id v me, ((λ hit. absurd (miss hit)), λ _. refl)))
