use Rattle.std.proofs.Common.{◌≡◌, ◌∷◌, [], length, sym, ap, ◌∙◌, arith}
use Rattle.std.proofs.lemmas.Bool.{eq-eqb, eqb-true}
use Rattle.std.proofs.lemmas.List.{nil_from_length}
use Rattle.std.proofs.lemmas.Fmt.{decimal_digit, decimal_nonempty}
use Rattle.lot_script.proofs.NumberLemmas.{digit_at, front-le, zero_alone, decimal_of}
use Rattle.lot_script.proofs.script.words.number_of.Goals as goal

pub returns-in_err-first-clause-each : goal.returns-in_err-first-clause-each
returns-in_err-first-clause-each c n fits is =
    absurd (omega (arith, c.in_err-first.ensures.cases, ap length is, decimal_nonempty n fits))

pub returns-then-is_empty-clause-found : goal.returns-then-is_empty-clause-found
returns-then-is_empty-clause-found c =
    let rest = c.in_ok-first.rest.now in
    let none : rest ≡ [] = nil_from_length rest (eqb-true _ _ (sym c.if-is_empty.ensures)) in
    c.in_ok-first.ensures.cases.0 ∙ ap (λ first. first ∷ rest) c.if-first-eq48.true ∙ ap (λ l. 48 ∷ l) none
    ∙ sym (decimal_digit 0 (omega arith))

pub returns-else-is_empty-clause-each : goal.returns-else-is_empty-clause-each
returns-else-is_empty-clause-each c n fits is =
    let rest = c.in_ok-first.rest.now in
    let cut = c.in_ok-first.ensures.cases.0 ∙ ap (λ first. first ∷ rest) c.if-first-eq48.true in
    c.if-is_empty.ensures ∙ eq-eqb _ _ (ap length (zero_alone n rest fits (sym cut ∙ is)))

pub returns-in_err-digit-clause-each : goal.returns-in_err-digit-clause-each
returns-in_err-digit-clause-each c n fits is =
    let digit = digit_at n c.args.word.now c.loop-byte.byte-index fits is c.loop-byte-test.true in
    absurd (omega (arith, c.in_err-digit.ensures, digit.0, digit.1))

pub returns-in_err-checked_mul-clause-each : goal.returns-in_err-checked_mul-clause-each
returns-in_err-checked_mul-clause-each c n fits is =
    let most = front-le n c.args.word.now c.loop-byte.byte-index c.loop-byte.number c.in_ok-digit.digit fits is
    c.loop-byte-test.true c.in_ok-digit.ensures.0 c.loop-byte.invariant.0 in
    absurd (c.in_err-checked_mul.ensures (omega arith))

pub returns-in_err-number-clause-each : goal.returns-in_err-number-clause-each
returns-in_err-number-clause-each c n fits is =
    let most = front-le n c.args.word.now c.loop-byte.byte-index c.loop-byte.number c.in_ok-digit.digit fits is
    c.loop-byte-test.true c.in_ok-digit.ensures.0 c.loop-byte.invariant.0 in
    absurd (c.in_err-number.ensures (omega (arith, c.in_ok-checked_mul.ensures.1)))

pub returns-clause-found : goal.returns-clause-found
returns-clause-found c =
    decimal_of c.args.word.now c.in_ok-first.rest.now c.in_ok-first.first.now c.loop-byte.byte-index c.loop-byte.number
    c.in_ok-first.ensures.cases.0 c.if-first-eq48.false c.loop-byte-test.false c.loop-byte.invariant.0
    c.loop-byte.invariant.1 (omega arith)
