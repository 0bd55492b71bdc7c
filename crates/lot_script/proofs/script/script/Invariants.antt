use Rattle.std.specs.Prelude.{IfSome, option_map}
use Rattle.lot_script.specs.Reply.{state_of}
use Rattle.lot_script.proofs.ScriptLemmas.{Progress}
use Rattle.lot_script.proofs.script.script.Given as goal

-- the lines so far are answered
abbrev pub invariant-loop-number : goal.invariant-loop-number
invariant-loop-number g l =
    IfSome (g.R.Read.remaining l.fn.input) (λ bytes. Progress bytes (g.R.Read.remaining l.input)
    (g.W.Write.contents l.fn.output) (g.W.Write.contents l.output) (option_map state_of l.scripted) l.number)
