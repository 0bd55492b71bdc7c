use Rattle.std.proofs.Common.{◌∙◌, ap}
use Rattle.std.specs.Prelude.{Some}
use Rattle.lot_litmus.specs.View.{machine_of, status_by}
use Rattle.lot_litmus.proofs.PartLemmas.{length-enter}
use Rattle.lot_litmus.proofs.state.State.come_to_park.Goals as goal

pub park-requires-clause-room : goal.park-requires-clause-room
park-requires-clause-room c =
    length-enter (machine_of c.args.self.now.queues c.args.self.now.standings) c.args.thread.number
    c.args.park.key.number c.requires.consistent
    (ap status_by (c.standing.ensures ∙ ap Some c.in-Running.is))
