use Rattle.lot_simulator.proofs.InterleavingLemmas.{node-in_one_place, node-in_no_other_list}
use Rattle.lot_simulator.proofs.interleaved.laws.each_node_is_in_one_place.Goals as goal

pub returns : goal.returns
returns c = record { one = node-in_one_place; no_other = node-in_no_other_list }
