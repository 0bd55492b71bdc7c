use Rattle.std.proofs.Common.{◌∙◌, sym, ap}
use Rattle.std.specs.Prelude.{slice_get}
use Rattle.lot_litmus.specs.Search.{is_hopeful}
use Rattle.lot_litmus.proofs.SearchLemmas.{mark-hopeful}
use Rattle.lot_litmus.proofs.search.Search.mark.Goals as goal

pub returns-clause-hopeful : goal.returns-clause-hopeful
returns-clause-hopeful c =
    λ is before. mark-hopeful c.args.test.now c.args.self.now c.args.marks.now.items c.args.index is before
    (ap (λ marks. is_hopeful c.args.test.now marks (slice_get c.args.self.now.states.items c.args.index)
    (slice_get c.args.self.now.leads.items c.args.index)) (sym c.as_slice-2.ensures.value)
    ∙ sym c.is_hopeful.ensures ∙ c.if-not-is_hopeful.false)
