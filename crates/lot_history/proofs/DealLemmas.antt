-- Keys get titles, and a title is dealt, once and for good.
use Rattle.std.proofs.Common.{◌≡◌, ◌≢◌, ℕ, ◌+◌, ◌<◌, ◌≤◌, ◌==◌, Bool, true, cond, List, [], ◌∷◌, set}
use Rattle.std.proofs.Common.{Option, Some, None, refl, sym, ap, ◌∙◌, subst, ⊎_elim, arith}
use Rattle.std.specs.Prelude.{nat_lt}
use Rattle.std.proofs.lemmas.Bool.{cases_eq, cases_lt, eq-eqb, ne_eqb, lt-ltb, le-ltb}
use Rattle.std.proofs.lemmas.List.Elements.{All-cons, All-weaker}
use Rattle.std.proofs.lemmas.Option.{none-some}
use Rattle.std.proofs.Math.ListN.{length-set}
use mathlib.Core.Option.{some}
use lib.ListN.{get_elem?}
use Rattle.atomic_table.specs.Seated.{TableId}
use Rattle.atomic_table.proofs.Lists.{at_set}
use Rattle.lot_base.specs.Place.{place_of}
use Rattle.lot_base.specs.Waiting.{with_value}
use Rattle.lot_base.proofs.ValueLemmas.{with_value-same, with_value-other}
use Rattle.lot_history.specs.declared.deal.Deal.{Deal}
use Rattle.lot_history.specs.declared.view.Piece.TheVariants.{Title, Undealt}
use Rattle.lot_history.specs.declared.view.View.{View}
use Rattle.lot_history.specs.Pieces.{Name, list, title, dealing, thread, records, timing, numbers, at_or_above, covers, cover}
use Rattle.lot_history.specs.Pieces.{numbers_of, AllSo}
use Rattle.lot_history.specs.Rule.{IsDealt, Knows, Kept}
use Rattle.lot_history.specs.Moves.{Regroups}
use Rattle.lot_history.specs.Titles.{deal, titled_pieces, with_deal}
use Rattle.lot_history.specs.Views.{all_pieces, rest_of}
use Rattle.lot_history.proofs.RuleLemmas.{at_place, with_seats}

-- the first of the keys from this one on is this one, and the others are those from the next on
pub first-above : (key k : ℕ) (b : Bool) → b ≡ true → k ≡ key → at_or_above key k b ≡ 1
first-above key k b holds same = rw (le-ltb k key (omega (arith, same)), holds) refl

pub none-above : (key k : ℕ) (b : Bool) → k ≡ key → at_or_above (key + 1) k b ≡ 0
none-above key k b same = rw (lt-ltb k (key + 1) (omega (arith, same))) refl

pub other-above : (key k : ℕ) (b : Bool) → k ≢ key → at_or_above (key + 1) k b ≡ at_or_above key k b
other-above key k b other =
    ⊎_elim
    (λ (under : k < key). rw (lt-ltb k (key + 1) (omega arith), lt-ltb k key under) refl)
    (λ (over : key ≤ k). rw (le-ltb k (key + 1) (omega (arith, over, other)), le-ltb k key over) refl)
    (cases_lt k key)

-- a title that is dealt covers what it covered
dealt_title : (key limit k : ℕ) → key < limit
    → covers (title k) (Title key []) + covers (title k) (Undealt (key + 1) limit)
    ≡ covers (title k) (Undealt key limit)
dealt_title key limit k more =
    ⊎_elim
    (λ (same : k ≡ key). let own = eq-eqb key k (sym same) in
    let one = first-above key k (nat_lt k limit) (lt-ltb k limit (omega (arith, same, more))) same in
    let none = none-above key k (nat_lt k limit) same in rw own (omega (arith, one, none)))
    (λ (other : k ≢ key). rw (ne_eqb key k (λ same. other (sym same)))
    (omega (arith, other-above key k (nat_lt k limit) other)))
    (cases_eq k key)

dealt_dealing : (key limit k : ℕ)
    → covers (dealing k) (Undealt (key + 1) limit) ≤ covers (dealing k) (Undealt key limit)
dealt_dealing key limit k =
    ⊎_elim
    (λ (same : k ≡ key). omega (arith, none-above key k (nat_lt k limit) same))
    (λ (other : k ≢ key). omega (arith, other-above key k (nat_lt k limit) other))
    (cases_eq k key)

module _ (max_threads : ℕ) (views : List View) (kept : Kept max_threads views) (id : ℕ) (v : View)
    (at : get_elem? views id ≡ some v) (key limit : ℕ) (home : TableId)
    (undealt : v.pieces ≡ Undealt key limit ∷ rest_of v.pieces) (more : key < limit) where
  abbrev own : Knows kept.events kept.machine kept.owner kept.homes id v
  own = kept.each id v at

  abbrev new : View
  new = with_deal key limit home v

  abbrev homes : ℕ → Option TableId
  homes = with_value kept.homes key (Some home)

  covered : (name : Name) → cover name v.pieces ≡ covers name (Undealt key limit) + cover name (rest_of v.pieces)
  covered name = ap (λ ps. cover name ps) undealt

  fewer : (name : Name) → cover name new.pieces ≤ cover name v.pieces
  fewer (list k) = omega (arith, covered (list k))
  fewer (title k) = omega (arith, covered (title k), dealt_title key limit k more)
  fewer (dealing k) = omega (arith, covered (dealing k), dealt_dealing key limit k)
  fewer (thread number) = omega (arith, covered (thread number))
  fewer (records number) = omega (arith, covered (records number))
  fewer (timing number) = omega (arith, covered (timing number))
  fewer numbers = omega (arith, covered numbers)

  -- the seat alone could deal the title, and it was not dealt
  first : covers (dealing key) (Undealt key limit) ≡ 1
  first = first-above key key (nat_lt key limit) (lt-ltb key limit more) refl

  fresh : kept.homes key ≡ None
  fresh = own.undealt key (omega (arith, covered (dealing key), first))

  still : (known : Deal) → IsDealt kept.homes known → IsDealt homes known
  still known was = with_value-other kept.homes key (Some home) known.key
      (λ same. none-some known.home (sym (ap kept.homes same ∙ fresh) ∙ was)) ∙ was

  still_undealt : (k : ℕ) → k ≢ key → kept.homes k ≡ None → homes k ≡ None
  still_undealt k other none = with_value-other kept.homes key (Some home) k other ∙ none

  so : AllSo kept.machine new.pieces
  so = let found = subst (AllSo kept.machine) undealt own.pieces in (
    ap numbers_of (found.0 key (omega arith) more),
    (λ k from below. found.0 k (omega (arith, from)) below, found.1),
  )

  own_knows : Knows kept.events kept.machine kept.owner homes id new
  own_knows = record {
    seen = own.seen;
    heard = own.heard;
    mine = own.mine;
    owns = λ name any. own.owns name (omega (arith, fewer name, any));
    once = λ name. omega (arith, fewer name, own.once name);
    pieces = so;
    deals = All-cons (IsDealt homes) (deal key home) v.deals
        (with_value-same kept.homes key (Some home) key refl)
        (All-weaker (IsDealt kept.homes) (IsDealt homes) still v.deals own.deals);
    undealt = λ k any. still_undealt k
        (λ same. let own_one = subst (λ q. 0 < cover (dealing q) new.pieces) same any in
        absurd (omega (
          arith,
          own_one,
          none-above key key (nat_lt key limit) refl,
          first,
          covered (dealing key),
          own.once (dealing key),
        )))
        (own.undealt k (omega (arith, fewer (dealing k), any)));
  }

  other_knows : (j : ℕ) (u : View) → j ≢ id → Knows kept.events kept.machine kept.owner kept.homes j u
      → Knows kept.events kept.machine kept.owner homes j u
  other_knows j u other knows = record {
    seen = knows.seen;
    heard = knows.heard;
    mine = knows.mine;
    owns = knows.owns;
    once = knows.once;
    pieces = knows.pieces;
    deals = All-weaker (IsDealt kept.homes) (IsDealt homes) still u.deals knows.deals;
    undealt = λ k any. still_undealt k
        (λ same. other (sym (knows.owns (dealing k) any)
        ∙ (ap (λ q. kept.owner (dealing q)) same
        ∙ own.owns (dealing key) (omega (arith, covered (dealing key), first)))))
        (knows.undealt k any);
  }

  -- a seat deals the first of the titles that it has to deal
  pub dealt : Kept max_threads (set views id (with_deal key limit home v))
  dealt = with_seats max_threads views kept (set views id new) kept.owner homes (omega (arith, length-set views id new))
      (λ j u there. ⊎_elim
      (λ t. at_place (Knows kept.events kept.machine kept.owner homes) id j new u t.0 t.1 own_knows)
      (λ t. other_knows j u t.0 (kept.each j u t.1)) (at_set views id j new u there))

-- the keys below a limit get titles, before anything was done

place_of-one : (key : ℕ) → place_of key 1 ≡ 0
place_of-one key = omega arith

titles_below : (limit key : ℕ)
    → at_or_above limit key (place_of key 1 == 0) + (at_or_above 0 key (nat_lt key limit) + 0)
    ≡ cond (place_of key 1 == 0) 1 0 + 0
titles_below limit key =
    ⊎_elim
    (λ (below : key < limit). rw (
      eq-eqb (place_of key 1) 0 (place_of-one key),
      lt-ltb key limit below,
      le-ltb key 0 (omega arith),
    ) refl)
    (λ (above : limit ≤ key). rw (
      eq-eqb (place_of key 1) 0 (place_of-one key),
      le-ltb key limit above,
      le-ltb key 0 (omega arith),
    ) refl)
    (cases_lt key limit)

pub entitles : (max_threads limit : ℕ) → Regroups max_threads all_pieces (titled_pieces limit)
entitles max_threads limit = record {
  cover = same;
  so = λ m finds. (
    finds.so.0,
    (λ key from below. (finds.so.0 key (place_of-one key)).waiters, finds.so.1),
  );
}
  where
    same : (name : Name) → cover name (titled_pieces limit) ≡ cover name all_pieces
    same (list key) = refl
    same (title key) = omega (arith, titles_below limit key)
    same (dealing key) = omega (arith, titles_below limit key)
    same (thread number) = refl
    same (records number) = refl
    same (timing number) = refl
    same numbers = refl
