use Rattle.std.proofs.Common.{◌∷◌, ◌++◌, if◌then◌else◌}
use Rattle.std.specs.Prelude.{codes, decimal}
use Rattle.lot_script.proofs.KnownLemmas.{Writes-stop, Writes-then}
use Rattle.lot_script.proofs.script.print.put_answer.Goals as goal

pub returns-in_err-put_named-in-TimedOut : goal.returns-in_err-put_named-in-TimedOut
returns-in_err-put_named-in-TimedOut g c =
    rw c.in-TimedOut.is (Writes-stop c.from_residual.result _ _ (codes "timed out " ++ decimal c.in-TimedOut.key)
    (32 ∷ (if c.in-TimedOut.last then codes "true" else codes "false")) c.from_residual.ensures.0
    c.in_err-put_named-in-TimedOut.ensures)

pub returns-in_ok-put_named-in-TimedOut : goal.returns-in_ok-put_named-in-TimedOut
returns-in_ok-put_named-in-TimedOut g c =
    rw c.in-TimedOut.is (Writes-then c.put_flag.result _ _ _ (codes "timed out " ++ decimal c.in-TimedOut.key)
    (32 ∷ (if c.in-TimedOut.last then codes "true" else codes "false")) c.in_ok-put_named-in-TimedOut.ensures
    c.put_flag.ensures)
