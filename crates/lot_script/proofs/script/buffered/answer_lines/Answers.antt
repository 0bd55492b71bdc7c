use Rattle.std.proofs.Common.{arith, None, ap}
use Rattle.std.specs.Prelude.{option_map}
use Rattle.std.specs.Io.Buffered.{reader_remaining}
use Rattle.lot_script.specs.Reply.{state_of}
use Rattle.lot_script.proofs.ScriptLemmas.{script-start, script-line, script-stop, script-end, script-limit}
use Rattle.lot_script.proofs.BufferedLemmas.{script-kept, written-ended, written-stopped}
use Rattle.lot_script.proofs.script.buffered.answer_lines.Goals as goal

pub loop-number-init : goal.loop-number-init
loop-number-init g c =
    let new = c.before.new-scripted in
    script-start _ _ (option_map state_of new.result) (ap (option_map state_of) new.ensures)

pub loop-number-preserved : goal.loop-number-preserved
loop-number-preserved g c =
    script-line _ _ _ _ _ _ (option_map state_of c.loop-number.scripted)
    (option_map state_of c.turn.new.scripted) c.loop-number.number
    (script-kept _ _ _ _ _ (option_map state_of c.loop-number.scripted) c.loop-number.number c.loop-number.invariant
    c.in_ok-write_before_read.ensures.kept)
    (rw c.in-Ok-Line.field-0-is at c.in-Ok-Line.ensures)

pub returns-in-Ok-End-clause-ended : goal.returns-in-Ok-End-clause-ended
returns-in-Ok-End-clause-ended g c =
    written-ended _ _ _ c.flush.result
    (script-end _ _ (reader_remaining g.R.Read.remaining c.turn.new.input) _ _ _
    (option_map state_of c.loop-number.scripted) (option_map state_of c.turn.new.scripted) c.loop-number.number
    (script-kept _ _ _ _ _ (option_map state_of c.loop-number.scripted) c.loop-number.number c.loop-number.invariant
    c.in_ok-write_before_read.ensures.kept)
    _ c.flush.result (rw c.in-Ok-End.field-0-is at c.in-Ok-End.ensures) c.flush.ensures.kept c.flush.ensures.failed)

pub returns-in-Err-clause-ended : goal.returns-in-Err-clause-ended
returns-in-Err-clause-ended g c =
    written-stopped _ _ _ _ c.loop-number.number c.in-Err.cause c.stop.result _
    (script-stop _ _ None _ _ _ (option_map state_of c.loop-number.scripted)
    (option_map state_of c.turn.new.scripted) c.loop-number.number
    (script-kept _ _ _ _ _ (option_map state_of c.loop-number.scripted) c.loop-number.number c.loop-number.invariant
    c.in_ok-write_before_read.ensures.kept)
    c.in-Err.cause c.in-Err.ensures)
    c.stop.ensures.kept c.stop.ensures.fault

pub returns-clause-ended : goal.returns-clause-ended
returns-clause-ended g c =
    written-stopped _ _ _ _ 18446744073709551615 _ c.stop-2.result _
    (script-limit _ _ _ _ (option_map state_of c.loop-number.scripted) c.loop-number.number c.loop-number.invariant
    (omega arith))
    c.stop-2.ensures.kept c.stop-2.ensures.fault
