-- The words of a lock and what its callers know, and the rule after a step of one of them, part by part.
use Rattle.std.proofs.Common.{◌≡◌, ℕ, ◌+◌, ◌*◌, ◌≤◌, ◌≢◌}
use Rattle.std.proofs.Common.{List, length, get_or, set, sym, ◌∙◌, subst, inl, inr}
use Rattle.std.proofs.Common.{⊎_elim, arith, get_or-set_other}
use Rattle.std.proofs.Common.{Option}
use mathlib.Core.Option.{some, none, some-injective, some-ne-none}
use mathlib.Core.Option as maybe
use lib.ListN.{get_elem?}
use lib.Seq.{set-get_or}
use Rattle.atomic_table.specs.Table.{State, Me, Act, Valid, carried_after, stepped}
use Rattle.atomic_table.proofs.Lists.{at_set, set_again}
use Rattle.lot_word_lock.specs.declared.word_lock.view.View.{View}
use Rattle.lot_word_lock.specs.WordPlaces.{IsPlace, AllPlaces, total, head, FollowsLinks}
use Rattle.lot_word_lock.specs.WordLockInvariant.{HasValue}
use Rattle.lot_word_lock.specs.WordRule.{holds_lock, SeatOk, PlaceOk}
use Rattle.lot_word_lock.specs.WordRule.{Orderly}
use Rattle.lot_word_lock.proofs.WordCounts.{total-set}
use Rattle.lot_word_lock.proofs.WordSeats.{Charged}

abbrev pub St : Type 0 → Type 0
St T = State (Option T) View

abbrev Slots : Type 0 → Type 0
Slots T = List (maybe.Option (Option T))

abbrev pub board : {T : Type 0} → List ℕ → Slots T → List View → St T
board ws hs vs = record { words = ws; homes = hs; views = vs }

module _ {T : Type 0} (fits : T → Type 0) where
  -- the rule after a step of the seat id, part by part
  pub rebuilt : (s : St T) (o : Orderly fits s) (id : ℕ) (v w : View) (ws : List ℕ) (hs : Slots T)
      (list : List ℕ) (n : ℕ)
      → get_elem? s.views id ≡ some v
      → length ws ≡ 24 → n + holds_lock v ≡ total holds_lock s.views + holds_lock w → n ≤ 1
      → get_or ws 0 0 ≡ n + 2 * head list
      → (n ≡ 0 → HasValue fits hs) → (n ≡ 1 → get_elem? hs 0 ≡ some none) → FollowsLinks ws list → AllPlaces list
      → ((p : ℕ) → IsPlace p → PlaceOk s.words o.list s.views p → PlaceOk ws list (set s.views id w) p)
      → Charged list ws (set s.views id w) n
      → ((j : ℕ) (u : View) → j ≢ id → get_elem? s.views j ≡ some u → SeatOk s.words o.list u → SeatOk ws list u)
      → SeatOk ws list w
      → Orderly fits (board ws hs (set s.views id w))
  rebuilt s o id v w ws hs list n me long holders few word home away chain in-places places charged others mine =
      let moved = total-set holds_lock s.views id v w me in
      let same : total holds_lock (set s.views id w) ≡ n = omega arith in
      record {
        list = list;
        long = long;
        word = omega arith;
        single = omega arith;
        home = λ e. home (sym same ∙ e);
        away = λ e. away (sym same ∙ e);
        chain = chain;
        in_places = in-places;
        each_place = λ p is. places p is (o.each_place p is);
        charged = ⊎_elim inl (λ r. inr (⊎_elim (λ e. inl (same ∙ e)) inr r)) charged;
        each_seat = λ j u e. ⊎_elim (λ t. subst (SeatOk ws list) t.1 mine)
            (λ t. others j u t.0 t.1 (o.each_seat j u t.1)) (at_set s.views id j w u e);
      }

  pub loaded : (ws : List ℕ) (hs : Slots T) (vs : List View) (i : ℕ) → Orderly fits (board ws hs vs)
      → Orderly fits (board (set ws i (get_or ws i 0)) hs vs)
  loaded ws hs vs i o = subst (λ (words : List ℕ). Orderly fits (board words hs vs)) (sym (set-get_or ws i 0)) o

  -- a load after which the seat knows what it knew
  pub unmoved : (s : St T) (o : Orderly fits s) (i id : ℕ) (v : View) → get_elem? s.views id ≡ some v
      → Orderly fits (board (set s.words i (get_or s.words i 0)) s.homes (set s.views id v))
  unmoved s o i id v me = loaded s.words s.homes (set s.views id v) i
      (subst (λ (vs : List View). Orderly fits (board s.words s.homes vs)) (sym (set_again s.views id v me)) o)

  abbrev pub Goes : St T → ℕ → ℕ → Me (Option T) View → (ℕ → Me (Option T) View → Type 0) → ℕ → Type 0
  Goes s i id m then k = (w : View) × (a : Act (Option T)) × Valid s.homes m.1 a × Orderly fits
      (stepped s i k id m.1 w a) × then (get_or s.words i 0) (w, carried_after m.1 a)

  -- no place's words have the index of the lock's word
  pub others_than_0 : (s : St T) (new : ℕ) (p : ℕ) → IsPlace p → get_or (set s.words 0 new) p 0 ≡ get_or s.words p 0
  others_than_0 s new p is = let pos = is.0 in get_or-set_other s.words 0 p new 0 (λ e. omega arith)

  pub marks_than_0 : (s : St T) (new : ℕ) (p : ℕ) → get_or (set s.words 0 new) (p + 4) 0 ≡ get_or s.words (p + 4) 0
  marks_than_0 s new p = get_or-set_other s.words 0 (p + 4) new 0 (λ e. omega arith)
