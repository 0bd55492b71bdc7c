use Rattle.std.proofs.Common.{◌≡◌, take}
use Rattle.lot_litmus.proofs.same.are_same_standings.Given as goal

abbrev pub invariant-loop-index : goal.invariant-loop-index
invariant-loop-index l = take l.index l.standings ≡ take l.index l.others
