use Rattle.std.proofs.Common.{◌≡◌, IsTrue, take}
use Rattle.lot_litmus.proofs.same.are_same_bytes.Given as goal

abbrev pub invariant-loop-index : goal.invariant-loop-index
invariant-loop-index g l = IsTrue l.are_same → take l.index l.bytes ≡ take l.index l.others
