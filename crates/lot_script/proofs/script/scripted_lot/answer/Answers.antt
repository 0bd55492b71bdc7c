use Rattle.std.proofs.Common.{[], Some, None, refl, sym, ap, subst}
use Rattle.std.specs.Prelude.{codes, option_map, Ok}
use Rattle.std.proofs.KnownBytes.{Appends-nil}
use Rattle.lot_script.specs.Reply.{state_of}
use Rattle.lot_script.specs.Script.{Answers}
use Rattle.lot_script.proofs.ScriptLemmas.{Answers-stop, Answers-refused, only_lost}
use Rattle.lot_script.proofs.script.scripted_lot.answer.Goals as goal

pub returns-in_err-make_lot-in-None-clause-answered : goal.returns-in_err-make_lot-in-None-clause-answered
returns-in_err-make_lot-in-None-clause-answered g c =
    let r = c.from_residual in (
      [],
      Appends-nil _,
      subst (λ lot. Answers (option_map state_of lot) c.args.line.now r.result [] (option_map state_of lot))
          (sym c.in-None.is)
          (Answers-refused None None c.args.line.now r.result _ r.ensures.1 c.in_err-make_lot-in-None.ensures.refused),
    )

pub returns-in_err-put-in-None-clause-answered : goal.returns-in_err-put-in-None-clause-answered
returns-in_err-put-in-None-clause-answered g c =
    let wrote = c.in_err-put-in-None.ensures in
    let r = c.from_residual-in_err-put-in-None in
    let made = c.in_ok-make_lot-in-None.ensures.made in
    let new = Some (state_of c.in_ok-make_lot-in-None.field-0) in (
      wrote.front,
      wrote.appended,
      subst (λ lot. Answers (option_map state_of lot) c.args.line.now r.result wrote.front new) (sym c.in-None.is)
          (Answers-stop None c.args.line.now (codes "ok") new r.result wrote.front wrote.rest
          r.ensures.1 (made.0, made.1, made.2, refl, ap Some made.3) wrote.cut),
    )

pub returns-in_err-put-in-None-clause-refused : goal.returns-in_err-put-in-None-clause-refused
returns-in_err-put-in-None-clause-refused g c =
    only_lost _ c.from_residual-in_err-put-in-None.result c.from_residual-in_err-put-in-None.ensures.1

pub returns-in_ok-put-in-None-clause-answered : goal.returns-in_ok-put-in-None-clause-answered
returns-in_ok-put-in-None-clause-answered g c =
    let made = c.in_ok-make_lot-in-None.ensures.made in
    let new = Some (state_of c.in_ok-make_lot-in-None.field-0) in (
      codes "ok\n",
      c.in_ok-put-in-None.ensures,
      subst (λ lot. Answers (option_map state_of lot) c.args.line.now (Ok tt) (codes "ok\n") new) (sym c.in-None.is)
          (codes "ok", (made.0, made.1, made.2, refl, ap Some made.3), refl),
    )
