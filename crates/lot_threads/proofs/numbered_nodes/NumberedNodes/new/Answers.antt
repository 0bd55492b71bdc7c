use Rattle.std.proofs.Common.{◌≡◌, ◌∷◌, ◌∙◌, ℕ, zero, suc, ap, map, refl, replicate, sym, true}
use Rattle.lot_machine.specs.declared.numbers.Use.TheVariants.{Free}
use Rattle.lot_machine.specs.Numbers.{is_free}
use Rattle.lot_threads.proofs.numbered_nodes.NumberedNodes.new.Goals as goal

-- each of so many free numbers is free
all_free : (n : ℕ) → map is_free (replicate n Free) ≡ replicate n true
all_free zero = refl
all_free (suc n) = ap (λ rest. true ∷ rest) (all_free n)

pub invariant_of-result : goal.invariant_of-result
invariant_of-result c =
    c.in_ok-new-2.ensures ∙ sym (all_free c.args.max) ∙ ap (map is_free) (sym c.in_ok-new.ensures.free)
