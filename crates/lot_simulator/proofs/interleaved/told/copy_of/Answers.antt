use Rattle.std.proofs.Common.{rules, refl}
use Rattle.std.proofs.lemmas.List.Elements.{same_from_all_zip}
use Rattle.lot_simulator.proofs.interleaved.told.copy_of.Goals as goal

pub returns-in_ok-clone-in-Filter : goal.returns-in_ok-clone-in-Filter
returns-in_ok-clone-in-Filter c =
    let cloned = c.in_ok-clone-in-Filter.ensures.cases.0 in
    rw c.in-Filter.is
    (c.in_ok-clone-in-Filter.field-0, same_from_all_zip _ _ _ cloned (λ decision copy same. search rules), refl)
