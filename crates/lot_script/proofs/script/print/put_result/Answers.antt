use Rattle.std.proofs.Common.{ℕ, List, ◌∷◌, ◌++◌, if◌then◌else◌}
use Rattle.std.specs.Prelude.{codes, decimal}
use Rattle.lot_base.specs.declared.token.UnparkResult.{UnparkResult}
use Rattle.lot_script.proofs.KnownLemmas.{Writes-stop, Writes-then}
use Rattle.lot_script.proofs.script.print.put_result.Goals as goal

abbrev unparked : UnparkResult → List ℕ
unparked result = codes "unparked " ++ decimal result.unparked_threads

abbrev requeued : UnparkResult → List ℕ
requeued result = codes " requeued " ++ decimal result.requeued_threads

abbrev flag : UnparkResult → List ℕ
flag result = 32 ∷ (if result.have_more_threads then codes "true" else codes "false")

pub returns-in_err-put_named : goal.returns-in_err-put_named
returns-in_err-put_named g c =
    let o = c.args.outcome in
    Writes-stop c.from_residual.result _ _ (unparked o) (requeued o ++ (codes " more" ++ flag o))
    c.from_residual.ensures.0 c.in_err-put_named.ensures

pub returns-in_err-put_named-2 : goal.returns-in_err-put_named-2
returns-in_err-put_named-2 g c =
    let o = c.args.outcome in
    let r = c.from_residual-in_err-put_named-2 in
    Writes-then r.result _ _ _ (unparked o) (requeued o ++ (codes " more" ++ flag o)) c.in_ok-put_named.ensures
    (Writes-stop r.result _ _ (requeued o) (codes " more" ++ flag o) r.ensures.0 c.in_err-put_named-2.ensures)

pub returns-in_err-put : goal.returns-in_err-put
returns-in_err-put g c =
    let o = c.args.outcome in
    let r = c.from_residual-in_err-put in
    Writes-then r.result _ _ _ (unparked o) (requeued o ++ (codes " more" ++ flag o)) c.in_ok-put_named.ensures
    (Writes-then r.result _ _ _ (requeued o) (codes " more" ++ flag o) c.in_ok-put_named-2.ensures
    (Writes-stop r.result _ _ (codes " more") (flag o) r.ensures.0 c.in_err-put.ensures))

pub returns : goal.returns
returns g c =
    let o = c.args.outcome in
    let r = c.put_flag.result in
    Writes-then r _ _ _ (unparked o) (requeued o ++ (codes " more" ++ flag o)) c.in_ok-put_named.ensures
    (Writes-then r _ _ _ (requeued o) (codes " more" ++ flag o) c.in_ok-put_named-2.ensures
    (Writes-then r _ _ _ (codes " more") (flag o) c.in_ok-put.ensures c.put_flag.ensures))
