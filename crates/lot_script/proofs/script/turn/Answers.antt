use Rattle.std.proofs.Common.{ℕ, List, subst}
use Rattle.std.specs.Prelude.{option_map, Err}
use Rattle.std.specs.Io.KnownBytes.{Appends}
use Rattle.lot_script.specs.Reply.{state_of}
use Rattle.lot_script.specs.Script.{Answers}
use Rattle.lot_script.proofs.ScriptLemmas.{IsTurn-line, IsTurn-refused, IsTurn-unread}
use Rattle.lot_script.proofs.script.turn.Goals as goal

pub returns-in_err-read_line : goal.returns-in_err-read_line
returns-in_err-read_line g c =
    IsTurn-unread _ _ _ c.read_line.new.line.items (option_map state_of c.args.scripted.now)
    (option_map state_of c.args.scripted.now)
    c.in_err-read_line.field-0.0 c.from_residual.result c.in_err-read_line.ensures.read c.from_residual.ensures.1

pub returns-in_err-answer-in-Line : goal.returns-in_err-answer-in-Line
returns-in_err-answer-in-Line g c =
    let r = c.from_residual-in_err-answer-in-Line in
    let read = rw c.in-Line.is at c.in_ok-read_line.ensures.read in
    let answered = subst (λ (line : List ℕ). (written : List ℕ)
    × Appends (g.W.Write.contents c.args.output.now) (g.W.Write.contents c.answer.new.output) written
    × Answers (option_map state_of c.args.scripted.now) line (Err c.in_err-answer-in-Line.field-0.0) written
    (option_map state_of c.answer.new.self)) c.as_slice.ensures.value c.in_err-answer-in-Line.ensures.answered in
    IsTurn-refused _ _ _ _ c.read_line.new.line.items (option_map state_of c.args.scripted.now)
    (option_map state_of c.answer.new.self) c.in_err-answer-in-Line.field-0.0 r.result read answered r.ensures.1

pub returns-in_ok-answer-in-Line : goal.returns-in_ok-answer-in-Line
returns-in_ok-answer-in-Line g c =
    let read = rw c.in-Line.is at c.in_ok-read_line.ensures.read in
    let answered = rw c.as_slice.ensures.value at c.in_ok-answer-in-Line.ensures.answered in
    IsTurn-line _ _ _ _ c.read_line.new.line.items (option_map state_of c.args.scripted.now)
    (option_map state_of c.answer.new.self) read answered
