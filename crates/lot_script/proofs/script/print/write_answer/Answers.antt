use Rattle.std.proofs.lemmas.Result.{MatchResult-from_err}
use Rattle.lot_script.proofs.script.print.write_answer.Goals as goal

pub returns-in_err-put_answer-clause-begun : goal.returns-in_err-put_answer-clause-begun
returns-in_err-put_answer-clause-begun g c =
    let wrote = c.in_err-put_answer.ensures in
    MatchResult-from_err c.from_residual.result _ _ c.from_residual.ensures.0
    (λ _. (wrote.front, wrote.rest, wrote.cut, wrote.appended))
