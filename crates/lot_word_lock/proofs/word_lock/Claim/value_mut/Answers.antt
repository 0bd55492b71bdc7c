use Rattle.std.proofs.Common.{◌∷◌, Some, ap, sym, ◌∙◌}
use Rattle.atomic_table.specs.Table.{rest}
use Rattle.lot_word_lock.proofs.word_lock.Claim.value_mut.Goals as goal

-- who holds the lock has its slot with the value in it
pub slot_mut-requires : goal.slot_mut-requires
slot_mut-requires g c =
    let claim = c.requires.claim in
    let home = claim.home in (
      claim.of_lock.table,
      (Some home.0, home.1 ∙ ap (λ slots. (0, Some home.0) ∷ rest slots) (sym home.1)),
    )
