-- The rule allows what a seat does at the history's word.
use Rattle.std.proofs.Common.{◌≡◌, ℕ, zero, suc, ◌-◌, ◌<◌, ◌≤◌, ◌^◌, ◌==◌, Bool, true, false, cond, List, [], ◌∷◌, ◌++◌, ◌+◌}
use Rattle.std.proofs.Common.{◌∙◌, refl, sym, subst, arith, None}
use Rattle.std.proofs.lemmas.List.Elements.{All-nil}
use mathlib.Core.List.{IsPrefix}
use mathlib.Core.Option.{some, some-injective, some-ne-none}
use lib.ListN.{get_elem?}
use Rattle.atomic_table.specs.Seated.{TableId}
use Rattle.atomic_table.specs.Table.{State, Me, keeps, Allows, Enters, Splits, Joins}
use Rattle.atomic_table.proofs.Lists.{set_else}
use Rattle.lot_machine.specs.declared.step.Answer.{Answer}
use Rattle.lot_machine.specs.declared.step.Step.{Step}
use Rattle.lot_history.specs.declared.view.Piece.{Piece}
use Rattle.lot_history.specs.declared.view.Piece.TheVariants.{Undealt}
use Rattle.lot_history.specs.declared.view.View.{View}
use Rattle.lot_history.specs.Moves.{Moves, Regroups}
use Rattle.lot_base.specs.Place.{place_of}
use Rattle.lot_machine.specs.Machine.{Machine, new_machine}
use Rattle.lot_machine.proofs.StepLemmas.{IsConsistent-new}
use Rattle.lot_history.specs.Pieces.{Name, list, title, dealing, thread, records, timing, numbers, cover, AllSo}
use Rattle.lot_history.specs.Rule.{IsDealt, Knows, Kept}
use Rattle.lot_history.specs.Views.{all_pieces, first_view, told_view, spent_view, first_of, rest_of, part_view}
use Rattle.lot_history.proofs.EventLemmas.{prefix_nil}
use Rattle.lot_history.specs.Tells.{Adds, Found, Looks}
use Rattle.lot_history.specs.Titles.{Agree, with_deal}
use Rattle.lot_history.proofs.DealLemmas.{dealt}
use Rattle.lot_history.proofs.RuleLemmas.{arrives, adds, looks, regroups, splits, joins}

-- the rule, as the table of a history has it
abbrev pub Holds : ℕ → State (Unit {0}) View → Type 0
Holds max_threads s = Kept max_threads s.views

pub arrives_allowed : (max_threads slots : ℕ)
    → Enters (Holds max_threads) slots 0 (λ r w. ◌≡◌ {A = Me (Unit {0}) View} (w, []) (told_view [], []))
arrives_allowed max_threads slots s kept sized wide = (told_view [], arrives max_threads s.views kept, refl)

module _ (max_threads slots id : ℕ) (me : Me (Unit {0}) View) where
  pub adds_allowed : (said : Step → Answer → Type 0) (after : List Piece) → Moves max_threads said me.0.pieces after
      → Allows (Holds max_threads) slots id me 0 (λ n. n)
      (λ r n. Adds max_threads id said me.0 n.0 × (n.0.pieces ≡ after) × (n.1 ≡ me.1) × Found max_threads id me.0 n.0
      × (n.0.deals ≡ me.0.deals))
  adds_allowed said after moves s kept sized at wide =
      let next = adds max_threads s.views kept id me.0 at said after moves in
      (next.0, keeps, tt, next.1, (next.2, next.3, refl, next.4, next.5))

  pub looks_allowed : Allows (Holds max_threads) slots id me 0 (λ n. n)
      (λ r n. Looks max_threads id me.0 n.0 × IsPrefix me.0.heard n.0.seen × (n.1 ≡ me.1)
      × (n.0.deals ≡ me.0.deals) × Agree me.0.deals)
  looks_allowed s kept sized at wide =
      let next = looks max_threads s.views kept id me.0 at in
      (next.0, keeps, tt, next.1, (next.2, next.3, refl, next.4, next.5))

  pub regroups_allowed : (after : List Piece) → Regroups max_threads me.0.pieces after
      → Allows (Holds max_threads) slots id me 0 (λ n. n) (λ r n. n ≡ (record me.0 { pieces = after }, me.1))
  regroups_allowed after same s kept sized at wide =
      (record me.0 { pieces = after }, keeps, tt, regroups max_threads s.views kept id me.0 at after same, refl)

  pub deals_allowed : (key limit : ℕ) (home : TableId) → me.0.pieces ≡ Undealt key limit ∷ rest_of me.0.pieces
      → key < limit
      → Allows (Holds max_threads) slots id me 0 (λ n. n) (λ r n. n ≡ (with_deal key limit home me.0, me.1))
  deals_allowed key limit home undealt more s kept sized at wide =
      let next = dealt max_threads s.views kept id me.0 at key limit home undealt more in
      (with_deal key limit home me.0, keeps, tt, next, refl)

module _ (max_threads id : ℕ) (v : View) where
  pub tells_allowed : Splits (Holds max_threads) id v v (told_view v.seen)
  tells_allowed s kept at =
      let own = kept.each id v at in
      splits max_threads s.views kept id v at v.seen own.seen v.pieces [] [] (λ name. omega arith) own.pieces tt
      (All-nil (IsDealt kept.homes))

  pub gives_allowed : Splits (Holds max_threads) id v (record v { pieces = rest_of v.pieces })
      (part_view (first_of v.pieces) v.deals)
  gives_allowed s kept at =
      let own = kept.each id v at in
      splits max_threads s.views kept id v at [] (prefix_nil kept.events) (rest_of v.pieces) (first_of v.pieces)
      v.deals (parts v.pieces) (AllSo-rest kept.machine v.pieces own.pieces)
      (AllSo-first kept.machine v.pieces own.pieces) own.deals
    where
      parts : (pieces : List Piece) (name : Name) → cover name (rest_of pieces) + cover name (first_of pieces) ≡ cover name pieces
      parts [] name = omega arith
      parts (piece ∷ pieces) name = omega arith

      AllSo-rest : (m : Machine) (pieces : List Piece) → AllSo m pieces → AllSo m (rest_of pieces)
      AllSo-rest m [] so = so
      AllSo-rest m (piece ∷ pieces) so = so.1

      AllSo-first : (m : Machine) (pieces : List Piece) → AllSo m pieces → AllSo m (first_of pieces)
      AllSo-first m [] so = so
      AllSo-first m (piece ∷ pieces) so = (so.0, tt)

  pub takes_allowed : (other : ℕ) (w : View) → w.mine ≡ []
      → Joins (Holds max_threads) id v other w
      (record v { heard = w.seen; pieces = v.pieces ++ w.pieces; deals = v.deals ++ w.deals }) spent_view
  takes_allowed other w quiet s kept at apart there =
      let both : View = record v { heard = w.seen; pieces = v.pieces ++ w.pieces; deals = v.deals ++ w.deals } in
      joins max_threads s.views kept id v at other w apart (sym (set_else s.views id other both apart) ∙ there) quiet

-- a new history

at_most_one : (b : Bool) → cond b 1 0 + 0 ≤ 1
at_most_one true = omega arith
at_most_one false = omega arith

first_once : (name : Name) → cover name all_pieces ≤ 1
first_once (list key) = at_most_one (place_of key 1 == 0)
first_once (title key) = at_most_one (place_of key 1 == 0)
first_once (dealing key) = at_most_one (place_of key 1 == 0)
first_once (thread number) = omega arith
first_once (records number) = omega arith
first_once (timing number) = omega arith
first_once numbers = omega arith

pub opens : (max_threads : ℕ) → max_threads ≤ 2 ^ 64 - 1 → Kept max_threads (first_view ∷ [])
opens max_threads few = record {
  events = [];
  machine = new_machine max_threads;
  owner = λ _. 0;
  homes = λ _. None;
  run = refl;
  few = few;
  threads = refl;
  consistent = IsConsistent-new max_threads;
  each = each;
  others = λ id high. refl;
}
  where
    knows : Knows [] (new_machine max_threads) (λ _. 0) (λ _. None) 0 first_view
    knows = record {
      seen = prefix_nil [];
      heard = prefix_nil [];
      mine = refl;
      owns = λ name covered. refl;
      once = first_once;
      pieces = (λ key here. record { waiters = refl; wait = tt }, ((λ number. refl, λ number free. refl), tt));
      deals = All-nil (IsDealt (λ _. None));
      undealt = λ key covered. refl;
    }

    each : (id : ℕ) (view : View) → get_elem? (first_view ∷ []) id ≡ some view
        → Knows [] (new_machine max_threads) (λ _. 0) (λ _. None) id view
    each zero view at = subst (Knows [] (new_machine max_threads) (λ _. 0) (λ _. None) 0)
        (some-injective first_view view at) knows
    each (suc id) view at = absurd (some-ne-none view (sym at))
