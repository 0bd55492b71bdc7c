use Rattle.std.proofs.Common.{◌≡◌, IsTrue, take}
use Rattle.lot_litmus.proofs.same.are_same_flags.Given as goal

abbrev pub invariant-loop-index : goal.invariant-loop-index
invariant-loop-index l = IsTrue l.are_same → take l.index l.flags ≡ take l.index l.others
