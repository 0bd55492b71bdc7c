use Rattle.std.proofs.Common.{◌∷◌, sym, ap, ◌∙◌}
use Rattle.std.proofs.lemmas.Slice.Eq.{bytes_eq-Decides}
use Rattle.lot_script.specs.Private.Parsing.{texts_left}
use Rattle.lot_script.proofs.WordLemmas.{begins_with_neither}
use Rattle.lot_script.proofs.script.words.next_choice.Goals as goal

pub returns-then-eq-clause-found : goal.returns-then-eq-clause-found
returns-then-eq-clause-found c =
    c.in_ok-word.ensures
    ∙ ap (λ word. word ∷ texts_left c.in_ok-word.left) ((bytes_eq-Decides _ _).0 (sym c.if-eq.ensures))

pub returns-then-eq-2-clause-found : goal.returns-then-eq-2-clause-found
returns-then-eq-2-clause-found c =
    c.in_ok-word.ensures
    ∙ ap (λ word. word ∷ texts_left c.in_ok-word.left) ((bytes_eq-Decides _ _).0 (sym c.if-eq-2.ensures))

pub returns-clause-none : goal.returns-clause-none
returns-clause-none c b texts same =
    begins_with_neither c.in_ok-word.word.now c.args.yes.now c.args.no.now (texts_left c.in_ok-word.left)
    (sym c.if-eq.ensures) (sym c.if-eq-2.ensures) b texts (sym c.in_ok-word.ensures ∙ same)
