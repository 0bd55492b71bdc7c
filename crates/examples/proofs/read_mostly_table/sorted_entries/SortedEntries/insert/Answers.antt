use Rattle.std.proofs.Common.{Some, sym, ◌∙◌, ap, arith}
use Rattle.examples.proofs.TableLemmas.{value_at, no_value, replaced, added, rising_after}
use Rattle.examples.proofs.read_mostly_table.sorted_entries.SortedEntries.insert.Goals as goal

-- the key had a value, which is written over
pub returns-in-Ok-clause-previous : goal.returns-in-Ok-clause-previous
returns-in-Ok-clause-previous g c =
    ap (λ x. Some x.1) c.index.ensures ∙ sym (value_at _ c.args.self.now.rising _ _ c.in-Ok.ensures.found _)

pub returns-in-Ok-clause-ok : goal.returns-in-Ok-clause-ok
returns-in-Ok-clause-ok g c = replaced _ c.args.self.now.rising _ _ c.in-Ok.ensures.found _

-- the key had none, and gets an entry
pub invariant_of-self-in-Err : goal.invariant_of-self-in-Err
invariant_of-self-in-Err g c =
    let rising = rising_after _ _ _ c.in-Err.ensures.missing c.args.value _ c.args.self.now.rising in
    record { rising = rw c.insert.ensures.items rising }

pub returns-in_ok-insert-in-Err-clause-previous : goal.returns-in_ok-insert-in-Err-clause-previous
returns-in_ok-insert-in-Err-clause-previous g c = sym (no_value _ _ _ c.in-Err.ensures.missing)

pub returns-in_ok-insert-in-Err-clause-ok : goal.returns-in_ok-insert-in-Err-clause-ok
returns-in_ok-insert-in-Err-clause-ok g c = rw c.in_ok-insert-in-Err.ensures.items (added _ _ _ c.in-Err.ensures.missing _)

-- memory is wanted for a key alone that had no value
pub returns-in_err-insert-in-Err-clause-replaces : goal.returns-in_err-insert-in-Err-clause-replaces
returns-in_err-insert-in-Err-clause-replaces g c had = grind (arith, no_value _ _ _ c.in-Err.ensures.missing)
