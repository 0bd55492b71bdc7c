use Rattle.std.proofs.Common.{◌≡◌, ◌∙◌, ap, arith, refl, length}
use Rattle.lot_base.specs.Place.{place_of}
use Rattle.lot_simulator.proofs.TableLemmas.{read_in_place}
use Rattle.lot_simulator.proofs.table.Table.take.Goals as goal
use Rattle.lot_simulator.proofs.table.Table.take.Goals.{After-self-1}

own : (c : After-self-1) → (c.replace.result.place ≡ c.place-place.result)
    × (c.replace.result.size ≡ length c.self.inside.cells.items)
own c =
    rw c.replace.ensures.value
    (read_in_place c.self.inside.cells.items c.place-place.result c.index_mut.result.now
    (omega arith) c.index_mut.ensures.value c.self.invariant.row)

pub returns-clause-place : goal.returns-clause-place
returns-clause-place c =
    rw (← c.self.view_is) ((own c).0 ∙ c.place-place.ensures.value ∙ ap (place_of c.args.key) (omega arith))

pub returns-clause-size : goal.returns-clause-size
returns-clause-size c = rw (← c.self.view_is) (own c).1

pub returns-clause-left : goal.returns-clause-left
returns-clause-left c =
    let own_place = (own c).0 in
    let own_size : c.replace.result.size ≡ c.len-size.result = (own c).1 ∙ omega arith in
    rw (← c.self.view_is, c.replace.ensures.after, c.new.ensures, own_place, own_size) refl
