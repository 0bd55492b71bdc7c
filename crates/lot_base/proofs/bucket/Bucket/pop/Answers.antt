use Rattle.std.proofs.Common.{◌≡◌}
use Rattle.lot_base.specs.Place.{place_of}
use Rattle.lot_base.proofs.RemoveLemmas.{All-behind_option, All-in_option}
use Rattle.lot_base.proofs.bucket.Bucket.pop.Goals as goal

pub invariant_of-self : goal.invariant_of-self
invariant_of-self c =
    record {
      table = c.self.invariant.table;
      below = c.self.invariant.below;
      in_place = All-behind_option (λ node. place_of node.key c.self.inside.size ≡ c.self.inside.place)
          c.pop_front.result c.self.inside.queue c.pop_front.new.self c.pop_front.ensures.nodes
          c.self.invariant.in_place;
    }

pub returns-clause-in_place : goal.returns-clause-in_place
returns-clause-in_place c =
    rw (← c.self.view_is)
    (All-in_option (λ node. place_of node.key c.self.inside.size ≡ c.self.inside.place) c.pop_front.result
    c.self.inside.queue c.pop_front.new.self c.pop_front.ensures.nodes c.self.invariant.in_place)
