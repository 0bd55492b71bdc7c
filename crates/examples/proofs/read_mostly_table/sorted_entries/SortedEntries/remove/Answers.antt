use Rattle.std.proofs.Common.{Some, sym, ◌∙◌, ap}
use Rattle.examples.proofs.TableLemmas.{value_at, no_value, removed, nothing_removed}
use Rattle.examples.proofs.read_mostly_table.sorted_entries.SortedEntries.remove.Goals as goal

-- the key had a value, whose entry leaves
pub returns-in-Ok-clause-previous : goal.returns-in-Ok-clause-previous
returns-in-Ok-clause-previous g c =
    ap (λ x. Some x.1) c.remove.ensures.value ∙ sym (value_at _ c.args.self.now.rising _ _ c.in-Ok.ensures.found _)

pub returns-in-Ok-clause-removed : goal.returns-in-Ok-clause-removed
returns-in-Ok-clause-removed g c = rw c.remove.ensures.items (removed _ c.args.self.now.rising _ _ c.in-Ok.ensures.found)

-- the key had none
pub returns-in-Err-clause-previous : goal.returns-in-Err-clause-previous
returns-in-Err-clause-previous g c = sym (no_value _ _ _ c.in-Err.ensures.missing)

pub returns-in-Err-clause-removed : goal.returns-in-Err-clause-removed
returns-in-Err-clause-removed g c = nothing_removed _ _ _ c.in-Err.ensures.missing
