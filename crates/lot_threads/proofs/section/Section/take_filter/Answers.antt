use Rattle.std.proofs.Common.{rules}
use Rattle.lot_machine.specs.declared.step.Answer.TheVariants as answer
use Rattle.lot_machine.specs.declared.step.Op.TheVariants.{Filter}
use Rattle.lot_machine.specs.declared.step.Step.TheVariants.{Unpark}
use Rattle.lot_threads.specs.Within.{UnparksWithin}
use Rattle.lot_threads.proofs.CommitLemmas.{extends_still, found_still}
use Rattle.lot_threads.proofs.section.Section.take_filter.Goals as goal

-- the commits add nothing
pub returns-clause-unparked : goal.returns-clause-unparked
returns-clause-unparked g c =
    let history = c.args.self.now.lot.now in
    let key = c.args.self.now.key in
    let result = c.take_filter_of-taken.result.0 in
    let taken = c.take_filter_of-taken.new.me in
    let told : UnparksWithin g.F.FnMut g.C.FnOnce c.args.filter c.args.callback key history c.args.me.now result taken =
    search rules in
    let committed = c.commit.ensures in
    let new = c.commit.new.me in
    record {
      decisions = told.decisions;
      token = told.token;
      extends = extends_still history c.args.me.now taken new committed.seen
          (Unpark (Filter key told.decisions told.token)) (answer.Unpark result) committed.nothing_added told.extends;
      found = found_still history c.args.me.now taken new committed.seen told.found;
      calls = told.calls;
    }
