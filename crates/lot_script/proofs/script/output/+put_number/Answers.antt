use Rattle.std.proofs.Common.{◌∷◌, [], ◌++◌, ◌+◌, ◌/◌, ◌%◌, sym, ap, subst, ◌∙◌, decimal, arith}
use Rattle.std.proofs.lemmas.Fmt.{decimal_digit, decimal_step}
use Rattle.lot_script.specs.Private.Turns.{Writes}
use Rattle.lot_script.proofs.KnownLemmas.{Writes-stop, Writes-then}
use Rattle.lot_script.proofs.script.output.+put_number.Goals as goal

pub returns-then-number-lt10 : goal.returns-then-number-lt10
returns-then-number-lt10 g t c =
    let n = c.args.number in
    subst (λ bytes. Writes (g.W.Write.contents c.args.output.now) (g.W.Write.contents c.put.new.output)
    c.put.result bytes)
    (ap (λ d. d ∷ []) c.digit_of.ensures ∙ sym (decimal_digit n (omega arith))) c.put.ensures

pub returns-in_err-put_number : goal.returns-in_err-put_number
returns-in_err-put_number g t c =
    let n = c.args.number in
    subst (λ bytes. Writes (g.W.Write.contents c.args.output.now) (g.W.Write.contents c.put_number.new.output)
    c.from_residual.result bytes)
    (sym (decimal_step n (omega arith) (omega arith)))
    (Writes-stop c.from_residual.result _ _ (decimal (n / 10)) ((48 + n % 10) ∷ []) c.from_residual.ensures.0
    c.in_err-put_number.ensures)

pub returns : goal.returns
returns g t c =
    let n = c.args.number in
    subst (λ bytes. Writes (g.W.Write.contents c.args.output.now) (g.W.Write.contents c.put-2.new.output)
    c.put-2.result bytes)
    (ap (λ d. decimal (n / 10) ++ d ∷ []) c.digit_of-2.ensures ∙ sym (decimal_step n (omega arith) (omega arith)))
    (Writes-then c.put-2.result _ _ _ (decimal (n / 10)) (c.digit_of-2.result ∷ []) c.in_ok-put_number.ensures
    c.put-2.ensures)
