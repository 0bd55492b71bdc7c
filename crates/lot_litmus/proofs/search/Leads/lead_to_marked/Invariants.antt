use Rattle.std.proofs.Common.{◌≡◌, drop}
use Rattle.lot_litmus.specs.Search.{lead_to_marked}
use Rattle.lot_litmus.proofs.search.Leads.lead_to_marked.Given as goal

abbrev pub invariant-loop-to : goal.invariant-loop-to
invariant-loop-to l = lead_to_marked l.marks (drop l.to-index l.to-items) ≡ lead_to_marked l.marks l.to-items
