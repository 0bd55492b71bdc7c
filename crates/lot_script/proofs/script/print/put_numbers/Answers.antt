use Rattle.std.proofs.Common.{◌++◌, ◌+◌, take, drop, get_or, sym, subst, arith}
use Rattle.std.specs.List.{flat_map}
use Rattle.lot_script.specs.Private.Turns.{Writes}
use Rattle.lot_script.proofs.KnownLemmas.{Writes-stop, Writes-then}
use Rattle.lot_script.proofs.ReplyLemmas.{blank_before, flat_map-cut}
use Rattle.lot_script.proofs.script.print.put_numbers.Goals as goal

pub returns-in_err-put_named : goal.returns-in_err-put_named
returns-in_err-put_named g c =
    let numbers = c.args.numbers.now in
    let i = c.loop-number.number-index in
    let r = c.from_residual.result in
    let done = flat_map blank_before (take i numbers) in
    let now = blank_before (get_or numbers i 0) in
    let later = flat_map blank_before (drop (i + 1) numbers) in
    subst (Writes _ _ r) (sym (flat_map-cut numbers i (omega arith)))
    (Writes-then r _ _ _ done (now ++ later) c.loop-number.invariant
    (Writes-stop r _ _ now later c.from_residual.ensures.0 c.in_err-put_named.ensures))
