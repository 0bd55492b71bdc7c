use Rattle.std.proofs.Common.{rules, false}
use Rattle.lot_base.specs.declared.token.TheConstants.{DEFAULT_PARK_TOKEN}
use Rattle.examples.proofs.TokenLemmas.{comes_back_still, sees_after}
use Rattle.examples.proofs.token.pass_token.Goals as goal

pub returns-clause-parked : goal.returns-clause-parked
returns-clause-parked g c = comes_back_still c.args.sleeper c.join-sleeper.result.0.1 c.hear.new.other c.args.key
    DEFAULT_PARK_TOKEN false c.join-sleeper.result.0.0 (search rules) c.hear.ensures.unchanged

pub returns-clause-handed : goal.returns-clause-handed
returns-clause-handed g c = c.parks_get_tokens_of_unparks.ensures c.args.sleeper c.hear.new.other c.args.key
    DEFAULT_PARK_TOKEN false c.join-sleeper.result.0.0 (returns-clause-parked g c)

pub returns-clause-unparked : goal.returns-clause-unparked
returns-clause-unparked g c = sees_after c.args.waker c.join-sleeper.result.1 c.hear.new.self c.args.key c.args.token
    (search rules) (search rules) c.hear.ensures.looks
