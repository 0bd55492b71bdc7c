use Rattle.std.proofs.Common.{[], arith}
use Rattle.std.specs.Prelude.{option_map}
use Rattle.std.proofs.KnownBytes.{Appends-nil}
use Rattle.lot_script.specs.Reply.{state_of}
use Rattle.lot_script.proofs.ScriptLemmas.{refused_line}
use Rattle.lot_script.proofs.script.scripted_lot.ScriptedLot.answer.Goals as goal

pub returns-then-line-gt-MAX_LINE-clause-answered : goal.returns-then-line-gt-MAX_LINE-clause-answered
returns-then-line-gt-MAX_LINE-clause-answered g c = (
  [],
  Appends-nil _,
  refused_line (option_map state_of c.args.self.now) c.args.line.now []
      (omega (arith, c.if-line-gt-MAX_LINE.true)),
)
