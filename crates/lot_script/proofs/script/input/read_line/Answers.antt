use Rattle.std.proofs.Common.{◌<◌, length, arith}
use Rattle.lot_script.proofs.LineLemmas.{read_to_feed, read_to_end, read_too_much, some_unless_empty}
use Rattle.lot_script.proofs.script.input.read_line.Goals as goal

pub returns-then-len-gt-MAX_LINE-clause-read : goal.returns-then-len-gt-MAX_LINE-clause-read
returns-then-len-gt-MAX_LINE-clause-read g c =
    let (none, short, front) = c.loop.invariant in
    read_too_much _ _ _ c.loop.line.items c.read_part.new.line.items c.in_ok-behind.behind none short front
    c.in_ok-behind.ensures (omega (arith, c.len.ensures, c.if-len-gt-MAX_LINE.true))

pub returns-in-Feed-clause-read : goal.returns-in-Feed-clause-read
returns-in-Feed-clause-read g c =
    let (none, short, front) = c.loop.invariant in
    read_to_feed _ _ _ c.loop.line.items c.read_part.new.line.items none front
    (rw c.in-Feed.is at c.in_ok-behind.ensures)

pub returns-in-End-2-clause-read : goal.returns-in-End-2-clause-read
returns-in-End-2-clause-read g c =
    let (none, short, front) = c.loop.invariant in
    let some : 0 < length c.read_part.new.line.items =
    omega (arith, some_unless_empty _ c.if-is_empty.ensures, c.read_part.new.line.ok.0) in
    read_to_end (g.R.Read.remaining c.args.input.now) (g.R.Read.remaining c.loop.input)
    (g.R.Read.remaining c.read_part.new.input) c.loop.line.items c.read_part.new.line.items none front
    (rw c.in-End-2.is at c.in_ok-behind.ensures) some
