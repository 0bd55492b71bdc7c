use Rattle.std.proofs.Common.{rules, sym, subst}
use Rattle.lot_history.specs.declared.history.History.{History}
use Rattle.lot_threads.specs.Cells.{IsCellFor}
use Rattle.lot_threads.specs.Within.{MayCallBack, UnparksOne}
use Rattle.lot_threads.proofs.CommitLemmas.{may_call_back, unparks_one}
use Rattle.lot_threads.proofs.section.Section.take_one.Goals as goal

pub take_one_of-requires-clause-callable : goal.take_one_of-requires-clause-callable
take_one_of-requires-clause-callable g c =
    let history = c.history-history.result.now in
    let key = c.args.self.now.key in
    let cell = c.unwrap-cell.result.now in
    let own : IsCellFor history key cell = search rules in
    may_call_back g.C.FnOnce c.args.callback history cell.bucket key own.here
    (subst (λ (h : History). MayCallBack g.C.FnOnce c.args.callback h key) (sym c.history-history.ensures.history)
    c.requires.callable)

pub returns-clause-unparked : goal.returns-clause-unparked
returns-clause-unparked g c =
    let history = c.history-history.result.now in
    let key = c.args.self.now.key in
    let cell = c.unwrap-cell.result.now in
    let own : IsCellFor history key cell = search rules in
    let result = c.take_one_of.result.0 in
    let told = c.take_one_of.ensures in
    let new = c.take_one_of.new.me in
    subst (λ (h : History). UnparksOne g.C.FnOnce c.args.callback key h c.args.me.now result new)
    c.history-history.ensures.history
    (unparks_one g.C.FnOnce c.args.callback history cell.bucket key own.here c.args.me.now new result told.adds told.found)
