use Rattle.std.proofs.Common.{rules}
use Rattle.std.specs.Option.{is_some}
use Rattle.std.proofs.lemmas.List.{map-set}
use Rattle.lot_threads.proofs.numbered_nodes.Places.put.Goals as goal

pub returns : goal.returns
returns c =
    rw (← c.self.view_is) (search (rules, map-set is_some c.self.inside.nodes.items))
