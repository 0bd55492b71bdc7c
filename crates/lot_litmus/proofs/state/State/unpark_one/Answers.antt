use Rattle.std.proofs.Common.{◌∙◌, ap}
use Rattle.std.specs.Prelude.{slice_get}
use Rattle.lot_litmus.specs.Steps.{unparked}
use Rattle.lot_litmus.specs.View.{configuration_of, waiters_by}
use Rattle.lot_litmus.proofs.PartLemmas.{parted-first}
use Rattle.lot_litmus.proofs.state.State.unpark_one.Goals as goal

pub returns : goal.returns
returns c =
    c.unpark.ensures
    ∙ ap (λ split. unparked (configuration_of c.args.self.now) c.args.progress c.args.key split c.args.token)
    (parted-first (waiters_by (slice_get c.args.self.now.queues c.args.key.number)))
