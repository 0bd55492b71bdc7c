use Rattle.std.proofs.Common.{◌≡◌, ◌∙◌, ap, sym, true, false, Some, List, ℕ, map, slice_set, subst}
use Rattle.std.specs.List.{list_any}
use Rattle.lot_base.specs.NodeFields.{NodeFields}
use Rattle.lot_base.specs.Place.{place_of}
use Rattle.lot_simulator.specs.declared.interleaved.FineAnswer.TheVariants as fine
use Rattle.lot_simulator.specs.declared.interleaved.FineStep.TheVariants.{Begin}
use Rattle.lot_simulator.specs.FineLot.{fine_state, plain_threads}
use Rattle.lot_simulator.specs.FineLotState.{FineLotState}
use Rattle.lot_simulator.specs.InterleavedState.{Caller}
use Rattle.lot_simulator.specs.InterleavedSteps.{can_begin, is_held, keys_of}
use Rattle.lot_simulator.specs.Lot.{uses}
use Rattle.lot_simulator.specs.Private.FineCaller.{taken_threads}
use Rattle.lot_simulator.proofs.FineLotLemmas.{fine_lot_of}
use Rattle.lot_simulator.proofs.FineSectionLemmas.{DoneStep-begin, few-taken, uses-begin}
use Rattle.lot_simulator.proofs.FineStateLemmas.{DoneStep, step_of}
use Rattle.lot_simulator.proofs.interleaved.FineLot.open_section.Goals as goal
use Rattle.lot_simulator.proofs.interleaved.FineLot.open_section.Goals.{After-in_section}

pub in_section-requires : goal.in_section-requires
in_section-requires c =
    few-taken (fine_lot_of c.self.inside) c.self.invariant.0 c.args.op.now c.unpark-answer.new.table.cells
    c.unpark-answer.result.0 c.unpark-answer.result.1 c.unpark-answer.ensures.taken

-- a caller with an open section
abbrev opened : List NodeFields → List ℕ → Caller
opened taken held = record { section = Some (record { held = held; taken = taken_threads taken }); wakes = 0 }

step : (c : After-in_section) → DoneStep (fine_lot_of c.self.inside)
    (record {
      buckets = c.unpark-answer.new.table.cells;
      threads = c.unpark-answer.new.threads.items;
      callers = slice_set c.self.inside.callers.items c.args.caller c.in_section.result;
    }) (Begin c.args.caller c.args.op.now) (fine.Answer c.unpark-answer.result.0)
step c =
    let can : can_begin (fine_state (fine_lot_of c.self.inside)) c.args.caller ≡ true =
    subst (λ (lot : FineLotState). can_begin (fine_state lot) c.args.caller ≡ true) (sym c.self.view_is)
    c.requires.can in
    let free : list_any (is_held (fine_state (fine_lot_of c.self.inside))) (keys_of c.args.op.now) ≡ false =
    subst (λ (lot : FineLotState). list_any (is_held (fine_state lot)) (keys_of c.args.op.now) ≡ false)
    (sym c.self.view_is) c.requires.free in
    rw c.unpark-answer.ensures.threads
    (DoneStep-begin (fine_lot_of c.self.inside) c.self.invariant.0 c.args.caller c.unpark-answer.new.table.cells
    c.unpark-answer.result.0 c.unpark-answer.result.1 c.in_section.result can c.args.op.now
    c.unpark-answer.ensures.taken free
    (c.in_section.ensures ∙ ap (opened c.unpark-answer.result.1)
    (c.of-held.ensures ∙ ap (λ size. map (λ key. place_of key size) (keys_of c.args.op.now)) c.size.ensures.value)))

pub invariant_of-self : goal.invariant_of-self
invariant_of-self c =
    let at = (goal.at.invariant_of-self c).After-in_section in (
      (step at).is_lot,
      c.unpark-answer.ensures.numbers ∙ c.self.invariant.1
          ∙ sym (uses-begin (fine_lot_of c.self.inside) c.args.op.now)
          ∙ ap (λ threads. uses (plain_threads threads)) (sym c.unpark-answer.ensures.threads),
    )

pub returns : goal.returns
returns c = step_of c.self.view_is (step (goal.at.returns c).After-in_section)
