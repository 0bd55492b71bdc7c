use Rattle.std.proofs.Common.{◌≤◌, length}
use Rattle.std.specs.Io.KnownBytes.{Consumes}
use Rattle.lot_script.specs.declared.script.input.TheConstants.{MAX_LINE}
use Rattle.lot_script.specs.Private.Turns.{HasNoFeed}
use Rattle.lot_script.proofs.script.input.read_line.Given as goal

-- what was read is the line so far
abbrev pub invariant-loop : goal.invariant-loop
invariant-loop g l =
    HasNoFeed l.line.items × (length l.line.items ≤ MAX_LINE)
    × Consumes (g.R.Read.remaining l.fn.input) (g.R.Read.remaining l.input) l.line.items
