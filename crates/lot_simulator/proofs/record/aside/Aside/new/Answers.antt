use Rattle.std.proofs.Common.{sym, ap, ◌∙◌, arith}
use Rattle.std.proofs.lemmas.List.Folds.{sum_by-replicate}
use Rattle.std.specs.List.{sum}
use Rattle.lot_simulator.proofs.record.aside.Aside.new.Goals as goal

pub invariant_of-result : goal.invariant_of-result
invariant_of-result c = record {
  adds_up =
      let none = sum_by-replicate (λ x. x) c.loop.counter 0 in
      sym (ap sum c.loop.invariant ∙ none ∙ omega arith);
}
