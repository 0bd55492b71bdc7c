use Rattle.std.proofs.Common.{◌≡◌, rules, ap, sym, map, slice_set, true, ◌∙◌}
use Rattle.std.proofs.lemmas.List.{map-set}
use Rattle.lot_base.specs.Node.{fields}
use Rattle.lot_machine.specs.declared.numbers.Use.TheVariants.{Free}
use Rattle.lot_machine.specs.Numbers.{is_free}
use Rattle.lot_threads.proofs.numbered_nodes.NumberedNodes.release.Goals as goal

pub invariant_of-self : goal.invariant_of-self
invariant_of-self c =
    let number = (fields c.args.node.value).number in
    let freed : c.release.new.self ≡ slice_set c.self.inside.numbers number Free = search rules in
    c.put.ensures ∙ ap (λ nodes. slice_set nodes number true) c.self.invariant
    ∙ sym (map-set is_free c.self.inside.numbers number Free) ∙ sym (ap (map is_free) freed)
