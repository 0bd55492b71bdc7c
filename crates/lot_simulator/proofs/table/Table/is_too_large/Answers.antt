use Rattle.std.proofs.Common.{◌≡◌, arith, subst, length, nat_lt, IsTrue, ◌↔◌}
use Rattle.std.proofs.lemmas.Bool.{lt-ltb, ltb-true}
use Rattle.lot_machine.specs.Size.{IsTrimmedSize, IsTooLarge}
use Rattle.lot_machine.specs.Numbers.{count_registered}
use Rattle.lot_simulator.specs.TableState.{TableState}
use Rattle.lot_machine.proofs.NumberLemmas.{IsTooLarge-smaller, smaller-IsTooLarge}
use Rattle.lot_simulator.proofs.table.Table.is_too_large.Goals as goal

pub returns : goal.returns
returns c =
    let numbers = c.self.inside.numbers in
    let cells = c.self.inside.cells.items in
    let size : c.len.result ≡ length cells = omega arith in
    let size_2 : c.len-2.result ≡ length cells = omega arith in
    let sized : IsTrimmedSize (count_registered numbers) (length cells) c.trimmed_size.result =
    subst (λ n. IsTrimmedSize n (length cells) c.trimmed_size.result) c.registered.ensures
    (subst (λ n. IsTrimmedSize c.registered.result n c.trimmed_size.result) size c.trimmed_size.ensures.size) in
    subst (λ (t : TableState). IsTrue (nat_lt c.trimmed_size.result c.len-2.result)
    ↔ IsTooLarge (count_registered t.numbers) (length t.cells)) c.self.view_is (
      λ yes. IsTooLarge-smaller (count_registered numbers) (length cells) c.trimmed_size.result sized
          (let below = ltb-true c.trimmed_size.result c.len-2.result yes in omega (arith, below, size_2)),
      λ large. let smaller = smaller-IsTooLarge (count_registered numbers) (length cells) c.trimmed_size.result sized large in
          lt-ltb c.trimmed_size.result c.len-2.result (omega (arith, smaller, size_2)),
    )
