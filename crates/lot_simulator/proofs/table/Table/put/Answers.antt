use Rattle.std.proofs.Common.{◌≡◌, ◌<◌, ◌∙◌, ap, sym, arith, rules, List, length, length-set, slice_set}
use Rattle.lot_base.specs.BucketState.{BucketState}
use Rattle.lot_simulator.specs.Table.{IsTable}
use Rattle.lot_machine.specs.declared.numbers.Use.{Use}
use Rattle.lot_simulator.proofs.TableLemmas.{IsRowOf-set}
use Rattle.lot_simulator.proofs.table.Table.put.Goals as goal
use Rattle.lot_simulator.proofs.table.Table.put.Goals.{in-Some, in_default}

-- a bucket of the table's size in its own place
IsTable-put : (cells : List BucketState) (numbers : List Use) (place : _) (bucket : BucketState)
    → place < length cells → bucket.place ≡ place → bucket.size ≡ length cells
    → IsTable (record { cells = cells; numbers = numbers })
    → IsTable (record { cells = slice_set cells place bucket; numbers = numbers })
IsTable-put cells numbers place bucket below at sized table = record {
  size = rw (length-set cells place bucket) table.size;
  room = rw (length-set cells place bucket) table.room;
  row = rw (length-set cells place bucket) (IsRowOf-set (length cells) cells place bucket below at sized table.row);
}

pub invariant_of-self : goal.invariant_of-self
invariant_of-self c =
    let sized : c.args.bucket.size ≡ length c.self.inside.cells.items =
    c.requires ∙ ap (λ table. length table.cells) (sym c.self.view_is) in
    elim c.match-get_mut.branch [
      | in-Some w ↦ rw w.self-inside-is
          (IsTable-put c.self.inside.cells.items c.self.inside.numbers c.place.result c.args.bucket (omega arith)
          (sym c.place.ensures.value) sized c.self.invariant)
      | in_default w ↦ search rules
    ]
