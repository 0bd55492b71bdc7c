use Rattle.std.proofs.Common.{arith, None, ap}
use Rattle.std.specs.Prelude.{option_map}
use Rattle.lot_script.specs.Reply.{state_of}
use Rattle.lot_script.proofs.ScriptLemmas.{script-start, script-line, script-stop, script-end, script-limit}
use Rattle.lot_script.proofs.script.script.Goals as goal

pub loop-number-init : goal.loop-number-init
loop-number-init g c =
    let new = c.before.new-scripted in
    script-start _ _ (option_map state_of new.result) (ap (option_map state_of) new.ensures)

pub loop-number-preserved : goal.loop-number-preserved
loop-number-preserved g c =
    script-line _ _ _ _ _ _ (option_map state_of c.loop-number.scripted)
    (option_map state_of c.turn.new.scripted) c.loop-number.number
    c.loop-number.invariant (rw c.in-Ok-Line.field-0-is at c.in-Ok-Line.ensures)

pub returns-in-Ok-End : goal.returns-in-Ok-End
returns-in-Ok-End g c =
    script-end _ _ (g.R.Read.remaining c.turn.new.input) _ _ _ (option_map state_of c.loop-number.scripted)
    (option_map state_of c.turn.new.scripted) c.loop-number.number
    c.loop-number.invariant _ c.flush.result (rw c.in-Ok-End.field-0-is at c.in-Ok-End.ensures) c.flush.ensures.kept
    c.flush.ensures.failed

pub returns-in-Err : goal.returns-in-Err
returns-in-Err g c =
    script-stop _ _ None _ _ _ (option_map state_of c.loop-number.scripted)
    (option_map state_of c.turn.new.scripted) c.loop-number.number
    c.loop-number.invariant c.in-Err.cause c.in-Err.ensures

pub returns : goal.returns
returns g c =
    script-limit _ _ _ _ (option_map state_of c.loop-number.scripted) c.loop-number.number c.loop-number.invariant
    (omega arith)
