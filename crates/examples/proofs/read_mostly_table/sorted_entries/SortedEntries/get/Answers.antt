use Rattle.std.proofs.Common.{Some, sym, ◌∙◌, ap}
use Rattle.examples.proofs.TableLemmas.{value_at, no_value}
use Rattle.examples.proofs.read_mostly_table.sorted_entries.SortedEntries.get.Goals as goal

pub returns-in-Ok : goal.returns-in-Ok
returns-in-Ok g c =
    ap (λ x. Some x.1) c.index.ensures ∙ sym (value_at _ c.args.self.now.rising _ _ c.in-Ok.ensures.found _)

pub returns-in-Err : goal.returns-in-Err
returns-in-Err g c = sym (no_value _ _ _ c.in-Err.ensures.missing)
