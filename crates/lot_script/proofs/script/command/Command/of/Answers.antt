use Rattle.std.proofs.Common.{arith}
use Rattle.lot_script.proofs.script.command.Command.of.Goals as goal

pub returns-then-line-gt-MAX_LINE-clause-bad : goal.returns-then-line-gt-MAX_LINE-clause-bad
returns-then-line-gt-MAX_LINE-clause-bad c bad command form =
    omega (arith, c.if-line-gt-MAX_LINE.true, form.short)
