use Rattle.std.proofs.Common.{Bool, refl, subst}
use denote.Param.Members.{Called}
use Rattle.std.specs.Iterator.Runs.{CallKeepsClosure}
use Rattle.std.specs.Sync.Condvar.{AnsweredAt}
use Rattle.parking_lot.specs.Guards.{titled_value_of}
use Rattle.parking_lot.proofs.titled_condvar.TitledCondvar.wait_while.Goals as goal

pub returns-clause-answered : goal.returns-clause-answered
returns-clause-answered g c =
    let ended = c.wait_while_at_most
    in subst
    (λ (answer : Bool). AnsweredAt (λ f x said y next. Called g.C.FnMut f (x, tt) (said, (y, tt)) next)
    (CallKeepsClosure g.C.FnMut c.args.condition) c.args.condition answer (titled_value_of ended.result.0))
    (ended.ensures.endless refl)
    ended.ensures.answered
