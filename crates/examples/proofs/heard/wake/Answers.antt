use Rattle.examples.proofs.HeardLemmas.{took}
use Rattle.examples.proofs.heard.wake.Goals as goal

pub returns-clause-took : goal.returns-clause-took
returns-clause-took g c = λ thread hears. took c.args.visitor.now.history c.args.key thread c.args.visitor.now.witness
    c.unpark_one.new.self.witness hears c.args.token c.unpark_one.result
