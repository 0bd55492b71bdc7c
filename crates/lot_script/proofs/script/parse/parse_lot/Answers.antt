use Rattle.std.proofs.Common.{◌≡◌, sym, ◌∙◌}
use Rattle.std.specs.Prelude.{codes}
use Rattle.std.proofs.lemmas.Option.{IfSome_then}
use Rattle.std.proofs.lemmas.Slice.Eq.{bytes_eq-Decides}
use Rattle.lot_script.specs.Private.Parsing.{texts_left}
use Rattle.lot_script.proofs.ParseLemmas.{IsLine-lot, lot-IsLine, IfNone_then}
use Rattle.lot_script.proofs.script.parse.parse_lot.Goals as goal

pub returns-then-eq-clause-found : goal.returns-then-eq-clause-found
returns-then-eq-clause-found c =
    let (word, left) = c.split_word.result in
    let first : word.now ≡ codes "lot" =
    (bytes_eq-Decides word.now c.as_slice.result.now).0 (sym c.if-eq.ensures) ∙ c.as_slice.ensures in
    IfSome_then c.last_number.result c.last_number.ensures.found
    (λ m words. IsLine-lot c.args.line.now word.now (texts_left left) m c.requires c.split_word.ensures first words)

pub returns-then-eq-clause-none : goal.returns-then-eq-clause-none
returns-then-eq-clause-none c =
    let (word, left) = c.split_word.result in
    IfNone_then c.last_number.result c.last_number.ensures.none
    (λ none m is_line. none m (lot-IsLine c.args.line.now word.now (texts_left left) m c.split_word.ensures is_line).1)
