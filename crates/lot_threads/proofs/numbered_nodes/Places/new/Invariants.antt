use Rattle.std.proofs.Common.{◌≡◌, map, replicate, true}
use Rattle.std.specs.Option.{is_some}
use Rattle.lot_threads.proofs.numbered_nodes.Places.new.Given as goal

abbrev pub invariant-loop-number : goal.invariant-loop-number
invariant-loop-number l = map is_some l.nodes.items ≡ replicate l.number true
