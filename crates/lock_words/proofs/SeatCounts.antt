-- Seats that wait as a number, and seats that carry a title, in the table of any lock with a title.
use Rattle.std.proofs.Common.{◌≡◌, ℕ, zero, suc, ◌<◌, List, [], ◌∷◌, ◌++◌, length, set, sym, ap, ◌∙◌, subst, ⊎_elim, arith, Option, None, Some}
use mathlib.Core.Logic.{dite}
use mathlib.Core.Option.{some, some-injective, some-ne-none}
use native.Mathlib.Decide.{ℕ_discrete}
use lib.ListN.{get_elem?}
use Rattle.atomic_table.proofs.Lists.{at_set, at_longer, set_here, set_else}
use Rattle.lot_word_lock.specs.WordPlaces.{total}
use Rattle.lot_word_lock.proofs.WordCounts.{one_term}
use Rattle.lock_words.specs.StockRule.{one_if_some, SomeSeat}

in_range : {A : Type 0} (l : List A) (i : ℕ) (a : A) → get_elem? l i ≡ some a → i < length l
in_range [] i a e = absurd (some-ne-none a (sym e))
in_range (x ∷ xs) zero a e = omega arith
in_range (x ∷ xs) (suc i) a e = omega (arith, in_range xs i a e)

pub None_not_Some : {A : Type 0} (a : A) → None ≡ Some a → ⊥
None_not_Some a e = cc

-- a seat of which this holds
module _ {V : Type 0} (P : V → Type 0) where
  pub seat_here : (vs : List V) (id : ℕ) (v w : V) → get_elem? vs id ≡ some v → P w → SomeSeat (set vs id w) P
  seat_here vs id v w me is = (id, w, set_here vs id w (in_range vs id v me), is)

  -- it is one still, if it is not the one that steps
  pub seat_kept : (vs : List V) (id : ℕ) (v w : V) → get_elem? vs id ≡ some v → (P v → P w) → SomeSeat vs P
      → SomeSeat (set vs id w) P
  seat_kept vs id v w me mine c = dite (ℕ_discrete c.0 id)
      (λ e.
      let same : c.1 ≡ v = some-injective c.1 v (sym c.2 ∙ (ap (get_elem? vs) e ∙ me)) in
      seat_here vs id v w me (mine (subst P same c.3)))
      (λ ne. (c.0, c.1, set_else vs id c.0 w ne ∙ c.2, c.3))

  pub seat_longer : (vs more : List V) → SomeSeat vs P → SomeSeat (vs ++ more) P
  seat_longer vs more c = (c.0, c.1, at_longer vs more c.0 c.1 c.2, c.3)

-- where `waits` says of a seat as which number it waits
module _ {V : Type 0} (waits : V → Option ℕ) where
  abbrev pub Waiting : ℕ → V → Type 0
  Waiting n seat = waits seat ≡ Some n

  pub waiting_here : (vs : List V) (id : ℕ) (v w : V) (n : ℕ) → get_elem? vs id ≡ some v → waits w ≡ Some n
      → SomeSeat (set vs id w) (Waiting n)
  waiting_here vs id v w n me is = seat_here (Waiting n) vs id v w me is

  -- a thread that waits still does, if it is not the one that steps
  pub waiting_kept : (vs : List V) (id : ℕ) (v w : V) (n : ℕ) → get_elem? vs id ≡ some v
      → (waits v ≡ Some n → waits w ≡ Some n) → SomeSeat vs (Waiting n) → SomeSeat (set vs id w) (Waiting n)
  waiting_kept vs id v w n me mine c = seat_kept (Waiting n) vs id v w me mine c

  pub waiting_longer : (vs more : List V) (n : ℕ) → SomeSeat vs (Waiting n) → SomeSeat (vs ++ more) (Waiting n)
  waiting_longer vs more n c = seat_longer (Waiting n) vs more c

-- where `carries` says of a seat which numbers its title told
module _ {V : Type 0} (carries : V → Option (List ℕ)) (Knows : V → List ℕ → Type 0) where
  -- each thread that carries the title knows this
  abbrev pub EachCarrier : List V → Type 0
  EachCarrier views = (id : ℕ) (seat : V) (ns : List ℕ) → get_elem? views id ≡ some seat → carries seat ≡ Some ns
      → Knows seat ns

  pub carrier_kept : (vs : List V) (id : ℕ) (w : V) → EachCarrier vs
      → ((ns : List ℕ) → carries w ≡ Some ns → Knows w ns) → EachCarrier (set vs id w)
  carrier_kept vs id w known mine j u ns at has = ⊎_elim
      (λ t. subst (λ (x : V). Knows x ns) t.1 (mine ns (ap carries t.1 ∙ has)))
      (λ t. known j u ns t.1 has) (at_set vs id j w u at)

  -- where nobody carries the title
  pub carrier_none : (vs : List V) → total (λ seat. one_if_some (carries seat)) vs ≡ 0 → EachCarrier vs
  carrier_none vs none j u ns at has =
      let one : one_if_some (carries u) ≡ 1 = ap one_if_some has in
      let term = one_term (λ (seat : V). one_if_some (carries seat)) vs j u at in
      absurd (omega arith)
