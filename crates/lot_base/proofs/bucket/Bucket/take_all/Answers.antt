use Rattle.std.proofs.Common.{[]}
use Rattle.std.proofs.lemmas.List.Elements.{All-nil}
use Rattle.lot_base.specs.contracts.bucket.Bucket.{the_view}
use Rattle.lot_base.proofs.WaitingLemmas.{IsInPlace-left}
use Rattle.lot_base.proofs.bucket.Bucket.take_all.Goals as goal

pub invariant_of-self : goal.invariant_of-self
invariant_of-self c =
    let bucket = the_view c.self.inside in
    IsInPlace-left bucket c.args.key c.take_every.new.queue []
    (λ P all. All-nil P) c.take_every.ensures.lists c.self.invariant
