-- The rule of a stock after a step of one thread, part by part.
use Rattle.std.proofs.Common.{◌≡◌, ℕ, ◌+◌, ◌*◌, ◌%◌, ◌<◌, ◌≤◌, ◌≢◌, Bool, List, [], length, get_or, set, sym, ◌∙◌, subst, arith, Contains}
use mathlib.Core.Logic.{dite}
use mathlib.Core.Option.{some}
use native.Mathlib.Decide.{ℕ_discrete}
use lib.ListN.{get_elem?}
use lib.Seq.{set-get_or}
use Rattle.atomic_table.specs.Table.{State, Me, Act, Valid, carried_after, stepped}
use Rattle.atomic_table.proofs.Lists.{set_again}
use Rattle.lot_word_lock.specs.WordPlaces.{total}
use Rattle.lot_word_lock.proofs.WordCounts.{total-set, one_term}
use Rattle.lock_words.specs.StockRule.{holds_it, carries_it, WaitsAs, SomeSeat, NoRepeats, Homes, IsOut, Placed, HasTitle, Counted}
use Rattle.lock_words.specs.declared.stock.Content.{Content}
use Rattle.lock_words.specs.declared.stock.view.View.{View}
use Rattle.lock_words.proofs.NumberLists.{empty_unless}
use Rattle.lock_words.proofs.SeatCounts.{EachCarrier, carrier_none}

abbrev pub St : Type 0 → Type 0 → Type 0
St T M = State (Content T M) View

abbrev pub board : {T M : Type 0} → List ℕ → Homes T M → List View → St T M
board ws hs vs = record { words = ws; homes = hs; views = vs }

-- what a thread that carries the title knows
abbrev pub Knows : List ℕ → ℕ → View → List ℕ → Type 0
Knows numbers free seat ns = (ns ≡ numbers) × (seat.aside ≡ free)

abbrev pub Known : List ℕ → ℕ → List View → Type 0
Known numbers free = EachCarrier (λ (seat : View). seat.carries) (Knows numbers free)

module _ {T M : Type 0} (told : M → List ℕ) (fits : M → Type 0) (permits : ℕ) (guards : Bool) where
  -- the rule after a step of the seat id, part by part: c threads carry the title then
  pub rebuilt : (s : St T M) (o : Counted told fits permits guards s) (id : ℕ) (v w : View) (ws : List ℕ) (hs : Homes T M)
      (numbers : List ℕ) (free mark c : ℕ) → get_elem? s.views id ≡ some v → length ws ≡ length s.words
      → free + holds_it w ≡ o.free + holds_it v
      → c + carries_it v ≡ total carries_it s.views + carries_it w → c ≤ 1
      → get_or ws 0 0 ≡ 4 * free + mark + 2 * c → mark ≤ 1 → (c ≡ 1 → mark ≡ 0)
      → Placed guards free hs → (c ≡ 0 → HasTitle told fits numbers hs) → (c ≡ 1 → IsOut 1 hs)
      → (c ≡ 1 → Known numbers free (set s.views id w)) → NoRepeats numbers → (numbers ≢ [] → c ≡ 0 → mark ≡ 1)
      → ((n : ℕ) → Contains numbers n → SomeSeat (set s.views id w) (WaitsAs n))
      → (numbers ≢ [] → 0 < free → (n : ℕ) × ¬ Contains numbers n × SomeSeat (set s.views id w) (WaitsAs n))
      → Counted told fits permits guards (board ws hs (set s.views id w))
  rebuilt s o id v w ws hs numbers free mark c me long sum carriers alone word bit away placed title_home title_out known
      once marked waits charged =
      let held = total-set holds_it s.views id v w me in
      let out = total-set carries_it s.views id v w me in
      let was = o.conserved in
      let same_c : total carries_it (set s.views id w) ≡ c = omega arith in
      let was_long = o.long in
      record {
        numbers = numbers;
        free = free;
        mark = mark;
        long = omega arith;
        word = omega arith;
        bit = bit;
        carrier = omega arith;
        away = λ e. away (sym same_c ∙ e);
        few = o.few;
        conserved = omega arith;
        single = o.single;
        placed = placed;
        title_home = λ e. title_home (sym same_c ∙ e);
        title_out = λ e. title_out (sym same_c ∙ e);
        known = dite (ℕ_discrete c 0)
            (λ none. carrier_none (λ (seat : View). seat.carries) (Knows numbers free) (set s.views id w) (same_c ∙ none))
            (λ ne. known (omega arith));
        once = once;
        marked = λ some_wait e. marked some_wait (sym same_c ∙ e);
        waits = waits;
        charged = charged;
      }

  -- a step after which the word is as before, and the seat knows what it knew
  pub unmoved : (s : St T M) (o : Counted told fits permits guards s) (id : ℕ) (v : View) → get_elem? s.views id ≡ some v
      → Counted told fits permits guards (board (set s.words 0 (get_or s.words 0 0)) s.homes (set s.views id v))
  unmoved s o id v me =
      subst (λ (words : List ℕ). Counted told fits permits guards (board words s.homes (set s.views id v)))
      (sym (set-get_or s.words 0 0))
      (subst (λ (vs : List View). Counted told fits permits guards (board s.words s.homes vs)) (sym (set_again s.views id v me)) o)

  abbrev pub Goes : St T M → ℕ → Me (Content T M) View → (ℕ → Me (Content T M) View → Type 0) → ℕ → Type 0
  Goes s id m then k = (w : View) × (a : Act (Content T M)) × Valid s.homes m.1 a
      × Counted told fits permits guards (stepped s 0 k id m.1 w a) × then (get_or s.words 0 0) (w, carried_after m.1 a)

  pub carried_by : (s : St T M) (o : Counted told fits permits guards s) (id : ℕ) (v : View) → get_elem? s.views id ≡ some v
      → carries_it v ≡ 1 → total carries_it s.views ≡ 1
  carried_by s o id v me carries =
      let one = one_term carries_it s.views id v me in
      let most = o.carrier in
      omega arith

  -- where the word does not say that the title is out, it is at home
  pub is_home : (s : St T M) (o : Counted told fits permits guards s) (word : ℕ) → get_or s.words 0 0 ≡ word → word % 4 ≤ 1
      → total carries_it s.views ≡ 0
  is_home s o word is other = dite (ℕ_discrete (total carries_it s.views) 0) (λ e. e) (λ ne.
      let carrier = o.carrier in
      let one : total carries_it s.views ≡ 1 = omega arith in
      let away = o.away one in
      let sum = o.word in
      absurd (omega arith))

  -- where the title is at home and the word does not say that somebody may wait, nobody does
  pub nobody_waits : (s : St T M) (o : Counted told fits permits guards s) → total carries_it s.views ≡ 0 → o.mark ≡ 0
      → o.numbers ≡ []
  nobody_waits s o at_home unmarked =
      empty_unless o.numbers (λ some_wait. let one = o.marked some_wait at_home in absurd (omega arith))
