use Rattle.std.proofs.Common.{Some, refl}
use Rattle.lot_script.specs.Words.{line_of}
use Rattle.lot_script.specs.Reply.{state_of, reply_words}
use Rattle.lot_script.proofs.ScriptLemmas.{Answers-stop, only_lost}
use Rattle.lot_script.proofs.script.scripted_lot.answer_command.Goals as goal

pub returns-in_err-print_reply-clause-answered : goal.returns-in_err-print_reply-clause-answered
returns-in_err-print_reply-clause-answered g c =
    let wrote = c.in_err-print_reply.ensures in
    let r = c.from_residual-in_err-print_reply in
    let reply = c.reply_to-reply in
    let new = Some (state_of reply.new.lot) in (
      wrote.front,
      wrote.appended,
      Answers-stop (Some (state_of c.args.lot.now)) c.args.line.now (line_of (reply_words reply.result)) new r.result
          wrote.front wrote.rest r.ensures.1 (
            c.in_ok-command.command,
            c.in_ok-command.ensures.found,
            reply.result,
            refl,
            state_of reply.new.lot,
            reply.ensures,
            refl,
          )
          wrote.cut,
    )

pub returns-in_err-print_reply-clause-refused : goal.returns-in_err-print_reply-clause-refused
returns-in_err-print_reply-clause-refused g c =
    only_lost _ c.from_residual-in_err-print_reply.result c.from_residual-in_err-print_reply.ensures.1
