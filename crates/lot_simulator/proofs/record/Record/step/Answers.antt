use Rattle.std.proofs.Common.{◌∷◌, [], ◌∙◌, sym, ap, subst, arith}
use Rattle.std.proofs.lemmas.List.{length-append}
use Rattle.std.specs.Prelude.{Ok}
use Rattle.std.specs.Result.{is_ok}
use Rattle.lot_machine.specs.declared.step.Answer.TheVariants.{Misfit}
use Rattle.lot_simulator.specs.Lot.{machine}
use Rattle.lot_simulator.specs.Journal.{asides_of, set_aside_by, with_aside}
use Rattle.lot_simulator.specs.Record.{IsRecord, IsRecorded}
use Rattle.lot_simulator.proofs.JournalRecordLemmas.{record_of, has_room, journal-pushed, pushed}
use Rattle.lot_simulator.proofs.JournalRecordLemmas.{IsRecord-pushed, IsRecord-grown, IsRecorded-grown, asides_of-pushed}
use Rattle.lot_simulator.proofs.JournalRecordLemmas.{IsRecord-misfit, asides_of-misfit, IsRecorded-misfit}
use Rattle.lot_simulator.proofs.record.Record.step.Goals as goal

pub invariant_of-self : goal.invariant_of-self
invariant_of-self c =
    let old = record_of c.self.inside.lot c.self.inside.journal.items c.self.inside.capacity in (
      IsRecord-misfit old c.self.invariant.0 c.args.step c.apply-answer.result c.apply-answer.new.self
          c.apply-answer.ensures.step c.in-Misfit.is,
      c.self.invariant.1
          ∙ asides_of-misfit old c.self.invariant.0 c.args.step c.apply-answer.result c.apply-answer.new.self
          c.apply-answer.ensures.step c.in-Misfit.is,
      c.self.invariant.2,
    )

pub returns-in-Misfit : goal.returns-in-Misfit
returns-in-Misfit c =
    let old = record_of c.self.inside.lot c.self.inside.journal.items c.self.inside.capacity in
    let roomy = has_room old _ c.args.step c.self.view_is c.if-lacks_room.ensures.1 in
    let now = record_of c.apply-answer.new.self c.self.inside.journal.items c.self.inside.capacity in
    subst (λ state. IsRecorded state c.args.step (Ok Misfit) now) c.self.view_is
    (IsRecorded-misfit old c.self.invariant.0 c.args.step c.apply-answer.result c.apply-answer.new.self
    c.apply-answer.ensures.step roomy c.in-Misfit.is c.apply-answer.ensures.size)

pub unwrap-requires : goal.unwrap-requires
unwrap-requires c =
    let old = record_of c.self.inside.lot c.self.inside.journal.items c.self.inside.capacity in
    let roomy = has_room old _ c.args.step c.self.view_is c.if-lacks_room.ensures.1 in
    let is : IsRecord (pushed old c.self.invariant.0 c.args.step c.apply-answer.result c.apply-answer.new.self
    c.apply-answer.ensures.step) =
    IsRecord-pushed old c.self.invariant.0 c.args.step c.apply-answer.result c.apply-answer.new.self
    c.apply-answer.ensures.step roomy c.in_default.not-Misfit in
    let longer = length-append c.self.inside.journal.items ((c.args.step, c.apply-answer.result) ∷ []) in
    c.push.ensures.succeeds (omega (arith, is.room, longer, c.self.invariant.2))

pub invariant_of-self-2 : goal.invariant_of-self-2
invariant_of-self-2 c =
    let old = record_of c.self.inside.lot c.self.inside.journal.items c.self.inside.capacity in
    let roomy = has_room old _ c.args.step c.self.view_is c.if-lacks_room.ensures.1 in
    let grown = journal-pushed old.journal c.push.new.self.items (c.args.step, c.apply-answer.result) _
    c.push.ensures.items (ap is_ok c.unwrap.ensures) in (
      IsRecord-grown old c.self.invariant.0 c.args.step c.apply-answer.result c.apply-answer.new.self
          c.apply-answer.ensures.step roomy c.in_default.not-Misfit c.push.new.self.items grown,
      c.change.ensures
          ∙ ap (with_aside c.self.inside.aside.of_each.items) c.entries_aside.ensures
          ∙ ap (λ asides. with_aside asides (set_aside_by c.args.step c.apply-answer.result)) c.self.invariant.1
          ∙ sym (asides_of-pushed old c.self.invariant.0 c.args.step c.apply-answer.result c.apply-answer.new.self
          c.apply-answer.ensures.step)
          ∙ ap (asides_of (machine c.apply-answer.new.self).max_threads) (sym grown),
      omega (arith, c.self.invariant.2, c.push.ensures.capacity),
    )

pub returns : goal.returns
returns c =
    let old = record_of c.self.inside.lot c.self.inside.journal.items c.self.inside.capacity in
    let roomy = has_room old _ c.args.step c.self.view_is c.if-lacks_room.ensures.1 in
    let grown = journal-pushed old.journal c.push.new.self.items (c.args.step, c.apply-answer.result) _
    c.push.ensures.items (ap is_ok c.unwrap.ensures) in
    let now = record_of c.apply-answer.new.self c.push.new.self.items c.self.inside.capacity in
    subst (λ state. IsRecorded state c.args.step c.answer_told.result now) c.self.view_is
    (subst (λ result. IsRecorded old c.args.step result now) (sym c.answer_told.ensures)
    (IsRecorded-grown old c.self.invariant.0 c.args.step c.apply-answer.result c.apply-answer.new.self
    c.apply-answer.ensures.step roomy c.in_default.not-Misfit c.push.new.self.items grown
    c.apply-answer.ensures.size))
