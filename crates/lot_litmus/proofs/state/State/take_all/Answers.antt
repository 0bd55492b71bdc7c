use Rattle.std.proofs.Common.{◌∙◌, slice_get}
use Rattle.lot_litmus.specs.Queues.{entries_of}
use Rattle.lot_litmus.specs.View.{status_by}
use Rattle.lot_litmus.proofs.ViewLemmas.{taken-turn}
use Rattle.lot_litmus.proofs.state.State.take_all.Goals as goal

pub loop-index-preserved : goal.loop-index-preserved
loop-index-preserved c = (
  taken-turn (record { 0 = c.args.token }) (λ j. status_by (slice_get c.args.self.now.standings j))
      (λ j. status_by (slice_get c.loop-index.self.standings j)) (λ j. status_by (slice_get c.take.new.self.standings j))
      (entries_of c.args.taken.now) c.loop-index.index c.entry.result c.entry.ensures c.loop-index.invariant.0
      c.take.ensures.statuses,
  c.take.ensures.queues ∙ c.loop-index.invariant.1,
  c.take.ensures.words ∙ c.loop-index.invariant.2,
  c.take.ensures.threads ∙ c.loop-index.invariant.3,
)
