use Rattle.std.proofs.Common.{◌≡◌, ◌∙◌, ap, sym, subst, true, false, length, List, OnOk, OnErr}
use Rattle.std.proofs.lemmas.Bool.{false≢true}
use Rattle.lot_simulator.specs.declared.interleaved.FineAnswer.TheVariants as fine
use Rattle.lot_simulator.specs.declared.interleaved.FineStep.TheVariants.{Trim}
use Rattle.lot_simulator.specs.FineLot.{fine_state}
use Rattle.lot_simulator.specs.FineLotState.{FineLotState}
use Rattle.lot_simulator.specs.InterleavedSteps.{IsFineStep, is_any_open}
use Rattle.lot_base.specs.BucketState.{BucketState}
use Rattle.lot_machine.specs.declared.step.Answer.TheVariants.{NoMemory}
use Rattle.lot_machine.specs.Size.{IsTooLarge, IsTrimmedSize}
use Rattle.lot_machine.specs.Numbers.{count_registered}
use Rattle.lot_simulator.specs.TableState.{TableState}
use Rattle.lot_simulator.proofs.FineLotLemmas.{fine_lot_of}
use Rattle.lot_simulator.proofs.FineTrimLemmas.{DoneStep-trimmed, Trim-blocked, Trim-no_memory}
use Rattle.lot_simulator.proofs.FineStateLemmas.{DoneStep, step_of}
use Rattle.lot_simulator.proofs.interleaved.FineLot.trim.Goals as goal
use Rattle.lot_simulator.proofs.interleaved.FineLot.trim.Goals.{Joined-trim, in-Ok, in-Err}
use Rattle.lot_simulator.proofs.interleaved.FineLot.trim.Goals.{else-is_too_large-via-then-is_too_large+else-is_any_open}
use Rattle.lot_simulator.proofs.interleaved.FineLot.trim.Goals.{else-is_too_large-via-else-is_too_large}

pub returns-then-is_any_open : goal.returns-then-is_any_open
returns-then-is_any_open c =
    let lot = fine_lot_of c.self.inside in
    let opened : is_any_open (fine_state lot) ≡ true =
    subst (λ (l : FineLotState). is_any_open (fine_state l) ≡ true) (sym c.self.view_is)
    (sym c.is_any_open.ensures ∙ c.if-is_any_open.true) in
    let large : IsTooLarge (count_registered c.self.inside.table.numbers) (length c.self.inside.table.cells) =
    c.is_too_large.ensures.0 c.if-is_too_large.true in
    subst (λ (l : FineLotState). IsFineStep (fine_state l) Trim fine.Blocked (fine_state l)) c.self.view_is
    (Trim-blocked lot c.self.inside.table.numbers c.self.invariant.1 large opened)

free : (c : Joined-trim) → IsTooLarge (count_registered c.self.inside.table.numbers) (length c.self.inside.table.cells)
    → is_any_open (fine_state (fine_lot_of c.self.inside)) ≡ false
free c large =
    elim c.else-is_too_large.branch [
      | else-is_too_large-via-then-is_too_large+else-is_any_open w ↦
          subst (λ (l : FineLotState). is_any_open (fine_state l) ≡ false) (sym c.self.view_is)
          (sym w.is_any_open.ensures ∙ w.if-is_any_open.false)
      | else-is_too_large-via-else-is_too_large w ↦
          absurd (false≢true (sym w.if-is_too_large.false ∙ c.is_too_large.ensures.1 large))
    ]

step : (c : Joined-trim) → DoneStep (fine_lot_of c.self.inside)
    (record (fine_lot_of c.self.inside) { buckets = c.trim.new.self.cells }) Trim c.match-trim.result
step c =
    let lot = fine_lot_of c.self.inside in
    let numbers = c.self.inside.table.numbers in
    elim c.match-trim.branch [
      | in-Ok w ↦ subst (DoneStep lot (record lot { buckets = c.trim.new.self.cells }) Trim) (sym w.result-is)
          (DoneStep-trimmed lot numbers c.self.invariant.1 (free c) c.self.invariant.0 c.trim.new.self.cells
          c.trim.ensures.lists
          (subst (λ r. OnOk r (IsTrimmedSize (count_registered numbers) (length lot.buckets)
          (length c.trim.new.self.cells))) w.in-Ok.is c.trim.ensures.size))
      | in-Err w ↦ subst (DoneStep lot (record lot { buckets = c.trim.new.self.cells }) Trim) (sym w.result-is)
          (subst (λ (row : List BucketState). DoneStep lot (record lot { buckets = row }) Trim (fine.Answer NoMemory))
          (ap (λ (t : TableState). t.cells)
          (sym (subst (λ r. OnErr r (c.trim.new.self ≡ c.self.inside.table)) w.in-Err.is c.trim.ensures.err)))
          (record {
            is_lot = c.self.invariant.0;
            does = Trim-no_memory lot numbers c.self.invariant.1 (free c)
                (subst (λ r. OnErr r (IsTooLarge (count_registered numbers) (length lot.buckets))) w.in-Err.is
                c.trim.ensures.refused);
          }))
    ]

pub invariant_of-self : goal.invariant_of-self
invariant_of-self c = ((step c).is_lot, c.trim.ensures.numbers ∙ c.self.invariant.1)

pub returns : goal.returns
returns c = step_of c.self.view_is (step c)
