use Rattle.std.proofs.Common.{◌≡◌, ◌∙◌, ap, cond, refl, sym, subst, arith}
use Rattle.std.proofs.lemmas.List.Folds.{sum_by-replicate}
use Rattle.lot_base.specs.Place.{IsTableSize}
use Rattle.lot_machine.specs.Numbers.{is_in_use, count_registered}
use Rattle.lot_machine.specs.declared.numbers.Use.TheVariants.{Free}
use Rattle.lot_machine.proofs.NumberLemmas.{IsTableSize-power}
use Rattle.lot_simulator.proofs.table.Table.new.Goals as goal

pub invariant_of-result : goal.invariant_of-result
invariant_of-result c =
    let made = c.in_ok-cells.ensures in
    let none : count_registered c.in_ok-numbers.numbers ≡ 0 =
    ap count_registered c.in_ok-numbers.ensures.free
    ∙ sum_by-replicate (λ number. cond (is_in_use number) 1 0) c.args.max Free ∙ omega arith in
    record {
      size = subst IsTableSize (sym made.count) (IsTableSize-power 16 (4, refl) (omega arith) (omega arith));
      room = omega (arith, none);
      row = record {
        count = refl;
        places = λ i low. ap (λ b. b.place) (made.empty i low);
        sizes = λ i low. ap (λ b. b.size) (made.empty i low) ∙ sym made.count;
      };
    }
