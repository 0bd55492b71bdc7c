use Rattle.lot_simulator.specs.FineLot.{fine_state}
use Rattle.lot_simulator.proofs.FineLotLemmas.{fine_lot_of}
use Rattle.lot_simulator.proofs.InterleavingLemmas.{node-in_one_place, node-in_no_other_list}
use Rattle.lot_simulator.proofs.interleaved.FineLot.consistency.Goals as goal

pub returns : goal.returns
returns c =
    let state = fine_state (fine_lot_of c.self.inside) in
    let consistent = c.self.invariant.0.consistent in
    rw (← c.self.view_is)
    (record {
      consistent = consistent;
      one_place = λ number. node-in_one_place state number consistent;
      no_other_list = λ number key. node-in_no_other_list state number key consistent;
    })
