use Rattle.std.proofs.Common.{ℕ, subst}
use Rattle.examples.specs.Heard.{HasHeard}
use Rattle.examples.proofs.HeardLemmas.{hears_more}
use Rattle.examples.proofs.heard.receive.Goals as goal

pub hear_witness-requires-after_bounds : goal.hear_witness-requires-after_bounds
hear_witness-requires-after_bounds g c κs within =
    (c.in_ok-message.ensures c.args.visitor.now.history c.requires.of_history c.requires.for_threads).of_history

pub returns-clause-heard : goal.returns-clause-heard
returns-clause-heard g c =
    let history = c.args.visitor.now.history in
    let message = c.in_ok-message.message in
    let told = c.in_ok-message.ensures history c.requires.of_history c.requires.for_threads in
    hears_more history c.args.key message.thread message.witness c.hear_witness.new.self.witness
    (subst (λ (key : ℕ). HasHeard history key message.thread message.witness) c.requires.of_key told.hears)
    c.hear_witness.ensures.heard
