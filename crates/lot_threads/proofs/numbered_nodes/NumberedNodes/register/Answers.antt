use Rattle.std.proofs.Common.{ap, sym, map, slice_set, false, ◌∙◌}
use Rattle.std.proofs.lemmas.List.{map-set}
use Rattle.lot_machine.specs.declared.numbers.Use.TheVariants.{Registered}
use Rattle.lot_machine.specs.Numbers.{is_free}
use Rattle.lot_threads.proofs.numbered_nodes.NumberedNodes.register.Goals as goal

pub invariant_of-self : goal.invariant_of-self
invariant_of-self c =
    c.take.ensures.nodes ∙ ap (λ nodes. slice_set nodes c.args.number false) c.self.invariant
    ∙ sym (map-set is_free c.self.inside.numbers c.args.number Registered)
    ∙ sym (ap (map is_free) c.register.ensures.registered)
