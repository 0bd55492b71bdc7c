use Rattle.std.specs.Prelude.{IfSome, option_map}
use Rattle.std.specs.Io.Buffered.{reader_remaining, writer_contents}
use Rattle.lot_script.specs.Reply.{state_of}
use Rattle.lot_script.proofs.ScriptLemmas.{Progress}
use Rattle.lot_script.proofs.script.buffered.answer_lines.Given as goal

-- the lines so far are answered
abbrev pub invariant-loop-number : goal.invariant-loop-number
invariant-loop-number g l =
    IfSome (reader_remaining g.R.Read.remaining l.fn.input) (λ bytes. Progress bytes
    (reader_remaining g.R.Read.remaining l.input) (writer_contents g.W.Write.contents l.fn.output)
    (writer_contents g.W.Write.contents l.output) (option_map state_of l.scripted) l.number)
