use Rattle.std.proofs.Common.{rules}
use Rattle.std.proofs.lemmas.List.Sorted.{answers_always}
use Rattle.examples.proofs.TableLemmas.{search_ends}
use Rattle.examples.proofs.read_mostly_table.sorted_entries.SortedEntries.find.Goals as goal

-- the closure gives an entry's key, and the slice is the table's entries
pub returns : goal.returns
returns g c =
    let by_key = c.binary_search_by_key.ensures.position (λ entry. entry.0) (answers_always _ _ _ (λ f a r h called. search rules)) in
    let ends = search_ends _ (rw c.deref.ensures.value c.args.self.now.rising) c.args.key _ c.binary_search_by_key.ensures.bound by_key in
    rw (← c.deref.ensures.value) (record { found = ends.0; missing = ends.1 })
