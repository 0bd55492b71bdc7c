use Rattle.std.proofs.Common.{sym}
use Rattle.lot_script.proofs.WordLemmas.{texts_in-at, texts_in-none}
use Rattle.lot_script.proofs.script.words.split_word.Goals as goal

pub returns-in-Some : goal.returns-in-Some
returns-in-Some c = texts_in-at c.args.line.now c.in-Some.end (sym c.in-Some.ensures)

pub returns-in-None : goal.returns-in-None
returns-in-None c = texts_in-none c.args.line.now (sym c.in-None.ensures)
