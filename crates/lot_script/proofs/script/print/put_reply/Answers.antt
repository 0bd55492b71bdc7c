use Rattle.std.proofs.Common.{◌++◌, sym, subst}
use Rattle.std.specs.Prelude.{codes, decimal}
use Rattle.std.specs.List.{flat_map}
use Rattle.lot_script.specs.Private.Turns.{Writes}
use Rattle.lot_script.proofs.KnownLemmas.{Writes-stop, Writes-then}
use Rattle.lot_script.proofs.ReplyLemmas.{blank_before, line_of-numbers}
use Rattle.lot_script.proofs.script.print.put_reply.Goals as goal

pub returns-in_err-put-in-Waiters : goal.returns-in_err-put-in-Waiters
returns-in_err-put-in-Waiters g c =
    let numbers = c.in-Waiters.numbers.items in
    let r = c.from_residual.result in
    rw c.in-Waiters.is (subst (Writes _ _ r) (sym (line_of-numbers (codes "waiters") numbers))
    (Writes-stop r _ _ (codes "waiters") (flat_map blank_before numbers) c.from_residual.ensures.0
    c.in_err-put-in-Waiters.ensures))

pub returns-in_ok-put-in-Waiters : goal.returns-in_ok-put-in-Waiters
returns-in_ok-put-in-Waiters g c =
    let numbers = c.in-Waiters.numbers.items in
    let r = c.put_numbers.result in
    let written = rw c.as_slice.ensures.value at c.put_numbers.ensures in
    rw c.in-Waiters.is (subst (Writes _ _ r) (sym (line_of-numbers (codes "waiters") numbers))
    (Writes-then r _ _ _ (codes "waiters") (flat_map blank_before numbers) c.in_ok-put-in-Waiters.ensures written))

pub returns-in_err-put_named-in-Size : goal.returns-in_err-put_named-in-Size
returns-in_err-put_named-in-Size g c =
    let r = c.from_residual-in_err-put_named-in-Size in
    rw c.in-Size.is (Writes-stop r.result _ _ (codes "buckets " ++ decimal c.in-Size.buckets)
    (codes " threads " ++ decimal c.in-Size.threads) r.ensures.0 c.in_err-put_named-in-Size.ensures)

pub returns-in_ok-put_named-in-Size : goal.returns-in_ok-put_named-in-Size
returns-in_ok-put_named-in-Size g c =
    rw c.in-Size.is (Writes-then c.put_named-in-Size-2.result _ _ _ (codes "buckets " ++ decimal c.in-Size.buckets)
    (codes " threads " ++ decimal c.in-Size.threads) c.in_ok-put_named-in-Size.ensures c.put_named-in-Size-2.ensures)
