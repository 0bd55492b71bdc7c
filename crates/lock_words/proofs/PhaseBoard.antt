-- The rule of a word with phases after a step of one thread, part by part.
use Rattle.std.proofs.Common.{◌≡◌, ℕ, ◌+◌, ◌*◌, ◌/◌, ◌%◌, ◌≤◌, ◌≢◌, List, [], ◌∷◌, ◌++◌, length, get_or, set, sym, refl, ap, ◌∙◌, subst, ⊎_elim, arith}
use Rattle.std.proofs.Common.{Contains, Option, None, Some}
use mathlib.Core.Logic.{dite}
use mathlib.Core.Option.{some, none}
use native.Mathlib.Decide.{ℕ_discrete}
use lib.ListN.{get_elem?}
use lib.Seq.{set-get_or}
use Rattle.atomic_table.specs.Table.{State, Me, Act, Valid, Enters, carried_after, opening, step, stepped}
use Rattle.atomic_table.proofs.Lists.{at_snoc, set_again}
use Rattle.lot_word_lock.specs.WordPlaces.{total}
use Rattle.lot_word_lock.proofs.WordCounts.{total-append, total-set, one_term}
use Rattle.lock_words.specs.StockRule.{SomeSeat, NoRepeats}
use Rattle.lock_words.specs.PhaseRule.{being, resting, carries_it, leads_it, WaitsIn, Homes, IsOut, HasTitle, Phased}
use Rattle.lock_words.specs.PhaseSteps.{ArriveTells}
use Rattle.lock_words.specs.declared.phases.view.View.{View}
use Rattle.lock_words.proofs.NumberLists.{empty_unless, nothing_in}
use Rattle.lock_words.proofs.SeatCounts.{EachCarrier, None_not_Some, carrier_none, seat_longer}

abbrev pub St : Type 0 → Type 0
St M = State (Option M) View

abbrev pub board : {M : Type 0} → List ℕ → Homes M → List View → St M
board ws hs vs = record { words = ws; homes = hs; views = vs }

-- what a thread that carries the title knows
abbrev pub Knows : List ℕ → ℕ → View → List ℕ → Type 0
Knows numbers phase seat ns = (ns ≡ numbers) × (seat.phase ≡ phase)

abbrev pub Known : List ℕ → ℕ → List View → Type 0
Known numbers phase = EachCarrier (λ (seat : View). seat.carries) (Knows numbers phase)

module _ {M : Type 0} (told : M → List ℕ) (fits : M → Type 0) where
  -- the rule after a step of the seat id, part by part: c threads carry the title then
  pub rebuilt : (s : St M) (o : Phased told fits s) (id : ℕ) (v w : View) (ws : List ℕ) (hs : Homes M)
      (numbers : List ℕ) (phase mark c : ℕ) → get_elem? s.views id ≡ some v → length ws ≡ length s.words
      → total leads_it s.views + leads_it w ≡ phase % 2 + leads_it v
      → c + carries_it v ≡ total carries_it s.views + carries_it w → c ≤ 1
      → get_or ws 0 0 ≡ 4 * phase + mark + 2 * c → mark ≤ 1 → (c ≡ 1 → mark ≡ 0)
      → (c ≡ 0 → HasTitle told fits numbers hs) → (c ≡ 1 → IsOut hs)
      → (c ≡ 1 → Known numbers phase (set s.views id w)) → NoRepeats numbers → (numbers ≢ [] → c ≡ 0 → mark ≡ 1)
      → ((n : ℕ) → Contains numbers n → SomeSeat (set s.views id w) (WaitsIn phase n))
      → Phased told fits (board ws hs (set s.views id w))
  rebuilt s o id v w ws hs numbers phase mark c me long led carriers alone word bit away title_home title_out known once
      marked waits =
      let out = total-set carries_it s.views id v w me in
      let leaders = total-set leads_it s.views id v w me in
      let same_c : total carries_it (set s.views id w) ≡ c = omega arith in
      let was_long = o.long in
      record {
        numbers = numbers;
        phase = phase;
        mark = mark;
        long = omega arith;
        word = omega arith;
        bit = bit;
        led = omega arith;
        carrier = omega arith;
        away = λ e. away (sym same_c ∙ e);
        title_home = λ e. title_home (sym same_c ∙ e);
        title_out = λ e. title_out (sym same_c ∙ e);
        known = dite (ℕ_discrete c 0)
            (λ none. carrier_none (λ (seat : View). seat.carries) (Knows numbers phase) (set s.views id w) (same_c ∙ none))
            (λ ne. known (omega arith));
        once = once;
        marked = λ some_wait e. marked some_wait (sym same_c ∙ e);
        waits = waits;
      }

  -- a step after which the word is as before, and the seat knows what it knew
  pub unmoved : (s : St M) (o : Phased told fits s) (id : ℕ) (v : View) → get_elem? s.views id ≡ some v
      → Phased told fits (board (set s.words 0 (get_or s.words 0 0)) s.homes (set s.views id v))
  unmoved s o id v me =
      subst (λ (words : List ℕ). Phased told fits (board words s.homes (set s.views id v)))
      (sym (set-get_or s.words 0 0))
      (subst (λ (vs : List View). Phased told fits (board s.words s.homes vs)) (sym (set_again s.views id v me)) o)

  abbrev pub Goes : St M → ℕ → Me (Option M) View → (ℕ → Me (Option M) View → Type 0) → ℕ → Type 0
  Goes s id m then k = (w : View) × (a : Act (Option M)) × Valid s.homes m.1 a
      × Phased told fits (stepped s 0 k id m.1 w a) × then (get_or s.words 0 0) (w, carried_after m.1 a)

  pub carried_by : (s : St M) (o : Phased told fits s) (id : ℕ) (v : View) → get_elem? s.views id ≡ some v
      → carries_it v ≡ 1 → total carries_it s.views ≡ 1
  carried_by s o id v me carries =
      let one = one_term carries_it s.views id v me in
      let most = o.carrier in
      omega arith

  pub leads_at_most : (s : St M) (o : Phased told fits s) (id : ℕ) (v : View) → get_elem? s.views id ≡ some v
      → leads_it v ≤ o.phase % 2
  leads_at_most s o id v me =
      let mine = one_term leads_it s.views id v me in
      let all = o.led in
      omega arith

  -- where the word does not say that the title is out, it is at home
  pub is_home : (s : St M) (o : Phased told fits s) (word : ℕ) → get_or s.words 0 0 ≡ word → word % 4 ≤ 1
      → total carries_it s.views ≡ 0
  is_home s o word is other = dite (ℕ_discrete (total carries_it s.views) 0) (λ e. e) (λ ne.
      let carrier = o.carrier in
      let one : total carries_it s.views ≡ 1 = omega arith in
      let away = o.away one in
      let sum = o.word in
      absurd (omega arith))

  -- where the title is at home and the word does not say that somebody may wait, nobody does
  pub nobody_waits : (s : St M) (o : Phased told fits s) → total carries_it s.views ≡ 0 → o.mark ≡ 0 → o.numbers ≡ []
  nobody_waits s o at_home unmarked =
      empty_unless o.numbers (λ some_wait. let one = o.marked some_wait at_home in absurd (omega arith))

  -- a new word
  pub opens : (title : M) → fits title → told title ≡ [] → Phased told fits (opening (0 ∷ []) (Some title ∷ []) resting)
  opens title fit nobody = record {
    numbers = [];
    phase = 0;
    mark = 0;
    long = omega arith;
    word = refl;
    bit = omega arith;
    led = refl;
    carrier = omega arith;
    away = λ e. refl;
    title_home = λ _. record { title = title; home = refl; fit = fit; tells = nobody };
    title_out = λ e. absurd (omega arith);
    known = carrier_none (λ (seat : View). seat.carries) (Knows [] 0) (resting ∷ []) refl;
    once = tt;
    marked = λ some_wait. absurd (some_wait refl);
    waits = λ n c. absurd (nothing_in [] n refl c);
  }

  -- a new hand
  pub arrives : (n i : ℕ) (m : Me (Option M) View)
      → Enters (Phased told fits) n i (λ r w. ArriveTells (step n i 0 0 none) m r (w, []))
  arrives n i m s o wide _ =
      let new_one : View = being None (get_or s.words i 0 / 4) in
      let out : total carries_it (s.views ++ new_one ∷ []) ≡ total carries_it s.views =
      omega (arith, total-append carries_it s.views (new_one ∷ [])) in
      let followers : total leads_it (s.views ++ new_one ∷ []) ≡ total leads_it s.views =
      omega (arith, total-append leads_it s.views (new_one ∷ [])) in
      let word = o.word in
      let led = o.led in
      let carrier = o.carrier in (
        new_one,
        record {
          numbers = o.numbers;
          phase = o.phase;
          mark = o.mark;
          long = o.long;
          word = omega arith;
          bit = o.bit;
          led = omega arith;
          carrier = omega arith;
          away = λ e. o.away (sym out ∙ e);
          title_home = λ e. o.title_home (sym out ∙ e);
          title_out = λ e. o.title_out (sym out ∙ e);
          known = λ j u ns at has. ⊎_elim (λ t. o.known j u ns t has)
              (λ t. absurd (None_not_Some ns (ap (λ (x : View). x.carries) t ∙ has))) (at_snoc s.views new_one u j at);
          once = o.once;
          marked = λ some_wait e. o.marked some_wait (sym out ∙ e);
          waits = λ n c. seat_longer (WaitsIn o.phase n) s.views (new_one ∷ []) (o.waits n c);
        },
        refl,
      )
