use Rattle.std.proofs.Common.{sym, ap, ◌∙◌}
use Rattle.lot_script.specs.Private.Parsing.{texts_left}
use Rattle.lot_script.proofs.WordLemmas.{texts_in-nonempty}
use Rattle.lot_script.proofs.script.parse.alone.Goals as goal

pub returns-in-Some-clause-none : goal.returns-in-Some-clause-none
returns-in-Some-clause-none c none = texts_in-nonempty c.in-Some.field-0.now (sym (ap texts_left c.in-Some.is) ∙ none)
