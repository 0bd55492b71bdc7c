use Rattle.std.proofs.Common.{subst}
use Rattle.std.specs.Option.{option_to_list}
use Rattle.lot_simulator.specs.Copies.{AreCopies}
use Rattle.lot_simulator.specs.FineLot.{fine_state}
use Rattle.lot_simulator.specs.InterleavedView.{steps_of}
use Rattle.lot_simulator.proofs.ToldLemmas.{sequential_step-after}
use Rattle.lot_simulator.proofs.interleaved.FineLot.step.Goals as goal

pub returns-clause-tells : goal.returns-clause-tells
returns-clause-tells c =
    subst (λ sequential. AreCopies (steps_of sequential) (option_to_list c.sequential_step-told.result))
    (sequential_step-after (fine_state c.args.self.now) (fine_state c.apply-given.new.self) c.args.step.now
    c.apply-given.result c.apply-given.ensures) c.sequential_step-told.ensures
