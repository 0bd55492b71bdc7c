use Rattle.std.proofs.Common.{◌∷◌, []}
use Rattle.lot_script.specs.Words.{line_of}
use Rattle.lot_script.specs.Reply.{reply_words}
use Rattle.lot_script.proofs.KnownLemmas.{Writes-stop, Writes-then}
use Rattle.lot_script.proofs.script.print.print_reply.Goals as goal

pub returns-in_err-put_reply : goal.returns-in_err-put_reply
returns-in_err-put_reply g c =
    Writes-stop c.from_residual.result _ _ (line_of (reply_words c.args.reply.now)) (10 ∷ []) c.from_residual.ensures.0
    c.in_err-put_reply.ensures

pub returns : goal.returns
returns g c =
    Writes-then c.put.result _ _ _ (line_of (reply_words c.args.reply.now))
    (10 ∷ []) c.in_ok-put_reply.ensures c.put.ensures
