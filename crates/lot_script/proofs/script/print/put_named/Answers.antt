use Rattle.std.specs.Prelude.{decimal}
use Rattle.lot_script.proofs.KnownLemmas.{Writes-stop, Writes-then}
use Rattle.lot_script.proofs.script.print.put_named.Goals as goal

pub returns-in_err-put : goal.returns-in_err-put
returns-in_err-put g c =
    Writes-stop c.from_residual.result _ _ c.args.name.now (decimal c.args.number) c.from_residual.ensures.0
    c.in_err-put.ensures

pub returns : goal.returns
returns g c =
    Writes-then c.put_number.result _ _ _ c.args.name.now (decimal c.args.number) c.in_ok-put.ensures
    c.put_number.ensures
