use Rattle.std.proofs.Common.{◌∙◌, IsOk, sym, ap}
use Rattle.std.proofs.lemmas.Result.{on_err_weaker}
use Rattle.lot_machine.specs.Status.{is_timed, can_resolve}
use Rattle.lot_simulator.specs.Lot.{machine}
use Rattle.examples.proofs.DeadlineLemmas.{LateOrSame, LateOrSame-answer, Late-tried, StandsAt-tried, after_timeout-tried}
use Rattle.examples.proofs.DeadlineLemmas.{can_resolve-tried, OnErr-both}
use Rattle.examples.proofs.timeout.let_time_out.Goals as goal

tried : (c : goal.After-resolve) → LateOrSame (machine c.args.lot.now) (machine c.deadline.new.self) c.args.thread
tried c =
    LateOrSame-answer (machine c.args.lot.now)
    (machine c.deadline.new.self) c.args.thread c.deadline.result c.deadline.ensures.fits c.deadline.ensures.ok
    (on_err_weaker c.deadline.result (ap machine) c.deadline.ensures.err)

pub returns-clause-fits : goal.returns-clause-fits
returns-clause-fits c =
    let same = can_resolve-tried (machine c.args.lot.now) (machine c.deadline.new.self) c.args.thread (tried c) in
    (λ ok. sym same ∙ c.resolve.ensures.fits.0 ok, λ may. c.resolve.ensures.fits.1 (same ∙ may))

pub returns-clause-timed_out : goal.returns-clause-timed_out
returns-clause-timed_out c timed =
    let m = machine c.args.lot.now in
    let new = machine c.deadline.new.self in
    let (answered, key, stands, _, left) = c.resolve.ensures.late (Late-tried m new c.args.thread (tried c) timed) in (
      answered,
      key,
      StandsAt-tried m new c.args.thread (tried c) key stands,
      left ∙ after_timeout-tried m new c.args.thread (tried c) key,
    )

pub returns-clause-err : goal.returns-clause-err
returns-clause-err c =
    let late : IsOk c.deadline.result → IsOk c.resolve.result = λ ok.
    let timed = ap is_timed (c.deadline.ensures.fits.0 ok) in
    c.resolve.ensures.fits.1
    (ap can_resolve (Late-tried (machine c.args.lot.now) (machine c.deadline.new.self) c.args.thread
    (tried c) timed)) in
    OnErr-both c.args.lot.now c.deadline.new.self c.resolve.new.self c.deadline.result c.resolve.result late
    c.deadline.ensures.err c.resolve.ensures.err
