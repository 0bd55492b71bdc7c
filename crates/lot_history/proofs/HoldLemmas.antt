-- Titles hold in every state of a history.
use Rattle.std.proofs.Common.{◌≡◌, ℕ, ◌<◌, List, ◌∷◌, ◌++◌, refl, sym, ap, ◌∙◌, subst, arith}
use Rattle.std.proofs.lemmas.Bool.{eq-eqb}
use Rattle.std.proofs.lemmas.List.Elements.{All-append}
use Rattle.lot_machine.specs.Machine.{Machine}
use Rattle.lot_history.specs.declared.view.Piece.{Piece}
use Rattle.lot_history.specs.declared.view.Piece.TheVariants.{Title}
use Rattle.lot_history.specs.declared.view.View.{View}
use Rattle.lot_history.specs.Pieces.{title, cover, covers, numbers_of, AllSo}
use Rattle.lot_history.specs.Rule.{IsDealt, Kept}
use Rattle.lot_history.specs.Titles.{HasTitle, TitlesHold}
use Rattle.lot_history.proofs.PieceLemmas.{cover-append, AllSo-parts}
use Rattle.lot_history.proofs.RuleLemmas.{agree}

tells : (m : Machine) (pieces : List Piece) (key : ℕ) (stand : List ℕ) → HasTitle pieces key stand → AllSo m pieces
    → numbers_of (m.lists key) ≡ stand
tells m pieces key stand has so =
    (AllSo-parts m has.before (Title key stand ∷ has.behind) (subst (AllSo m) has.stands so)).1.0

own_title : (pieces : List Piece) (key : ℕ) (stand : List ℕ) → HasTitle pieces key stand
    → 0 < cover (title key) pieces
own_title pieces key stand has =
    let all = ap (λ ps. cover (title key) ps) has.stands in
    let parts = cover-append (title key) has.before (Title key stand ∷ has.behind) in
    let own : covers (title key) (Title key stand) ≡ 1 = rw (eq-eqb key key refl) refl in omega (arith, all, parts, own)

pub titles_hold_lem : (max_threads : ℕ) (views : List View) → Kept max_threads views → TitlesHold max_threads views
titles_hold_lem max_threads views kept = record {
  events = kept.events;
  machine = kept.machine;
  leads = kept.run;
  seen = λ id view at. (kept.each id view at).seen;
  tell = λ id view key stand at has.
      tells kept.machine view.pieces key stand has (kept.each id view at).pieces;
  once = λ id view key at. (kept.each id view at).once (title key);
  one = λ id other view theirs key own their at there has holds.
      sym ((kept.each id view at).owns (title key) (own_title view.pieces key own has))
      ∙ (kept.each other theirs there).owns (title key) (own_title theirs.pieces key their holds);
  home = λ id other view theirs at there. agree kept.homes (view.deals ++ theirs.deals)
      (All-append (IsDealt kept.homes) view.deals theirs.deals (kept.each id view at).deals
      (kept.each other theirs there).deals);
}
