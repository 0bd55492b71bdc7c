use Rattle.std.proofs.Common.{◌∙◌, ap, arith}
use Rattle.lot_base.specs.Place.{place_of}
use Rattle.lot_simulator.proofs.TableLemmas.{read_in_place}
use Rattle.lot_simulator.proofs.table.Table.bucket.Goals as goal

pub returns-clause-place : goal.returns-clause-place
returns-clause-place c =
    rw (← c.self.view_is)
    ((read_in_place c.self.inside.cells.items c.place.result c.index.result.now (omega arith) c.index.ensures
    c.self.invariant.row).0 ∙ c.place.ensures.value ∙ ap (place_of c.args.key) (omega arith))

pub returns-clause-size : goal.returns-clause-size
returns-clause-size c =
    rw (← c.self.view_is)
    (read_in_place c.self.inside.cells.items c.place.result c.index.result.now (omega arith) c.index.ensures
    c.self.invariant.row).1
