use Rattle.std.proofs.Common.{sym, ◌∙◌, arith}
use Rattle.std.proofs.lemmas.Slice.Eq.{bytes_eq-Decides}
use Rattle.lot_script.proofs.ParseLemmas.{no_letter}
use Rattle.lot_script.proofs.script.parse.parse_decisions.Goals as goal

pub returns-in_default-clause-bad : goal.returns-in_default-clause-bad
returns-in_default-clause-bad c bad decisions =
    no_letter c.args.word.now c.loop-letter.letter-index decisions (omega arith) c.in_default.ensures.none
    (λ dash. cc (c.if-eq.ensures
    ∙ (bytes_eq-Decides c.args.word.now c.as_slice.result.now).1 (dash ∙ sym c.as_slice.ensures)))
