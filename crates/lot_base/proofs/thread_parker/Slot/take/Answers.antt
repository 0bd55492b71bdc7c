use Rattle.std.proofs.Common.{◌≡◌}
use Rattle.lot_base.specs.Node.{option_nodes}
use Rattle.lot_base.proofs.RemoveLemmas.{All-in_option}
use Rattle.lot_base.proofs.WaitingLemmas.{All-append_right}
use Rattle.lot_base.proofs.thread_parker.Slot.take.Goals as goal

pub invariant_of-self : goal.invariant_of-self
invariant_of-self c =
    All-append_right (λ node. node.number ≡ c.self.inside.owner)
    (option_nodes c.pop_front.result) c.pop_front.new.self (rw (← c.pop_front.ensures.nodes) c.self.invariant)

pub returns-clause-number : goal.returns-clause-number
returns-clause-number c =
    rw (← c.self.view_is) (All-in_option
    (λ node. node.number ≡ c.self.inside.owner) c.pop_front.result c.self.inside.nodes c.pop_front.new.self
    c.pop_front.ensures.nodes c.self.invariant)
