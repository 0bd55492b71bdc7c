use Rattle.std.proofs.Common.{◌≡◌, map, take}
use Rattle.lot_script.specs.Command.{letter_of}
use Rattle.lot_script.proofs.script.parse.parse_decisions.Given as goal

-- the letters so far are those of the decisions
abbrev pub invariant-loop-letter : goal.invariant-loop-letter
invariant-loop-letter l = map letter_of l.decisions.items ≡ take l.letter-index l.word
