use Rattle.std.proofs.Common.{◌∙◌, ap}
use Rattle.std.specs.Prelude.{slice_get}
use Rattle.lot_litmus.specs.Steps.{unparked}
use Rattle.lot_litmus.specs.View.{configuration_of, waiters_by}
use Rattle.lot_base.specs.Waiting.{split_filter}
use Rattle.lot_litmus.proofs.BoundLemmas.{decisions_on-is}
use Rattle.lot_litmus.proofs.PartLemmas.{parted-filter}
use Rattle.lot_litmus.proofs.ViewLemmas.{length-waiters_8}
use Rattle.lot_litmus.proofs.state.State.unpark_filter.Goals as goal

pub returns : goal.returns
returns c =
    c.unpark.ensures
    ∙ ap (λ split. unparked (configuration_of c.args.self.now) c.args.progress c.args.key split c.args.token)
    (parted-filter 8 c.args.chosen (waiters_by (slice_get c.args.self.now.queues c.args.key.number))
    (length-waiters_8 c.args.self.now.queues c.args.key.number)
    ∙ ap (λ decisions. split_filter decisions (waiters_by (slice_get c.args.self.now.queues c.args.key.number)))
    (decisions_on-is c.args.chosen))
