use Rattle.std.proofs.Common.{rules, Some, ap, sym, ◌∙◌, ◌∷◌}
use Rattle.atomic_table.specs.Table.{rest}
use Rattle.lot_word_lock.proofs.word_lock.WordLock.take_value.Goals as goal

pub exchange-requires : goal.exchange-requires
exchange-requires g c = let t = c.requires.home in (
  search rules,
  (Some t.0, t.1 ∙ ap (λ l. (0, Some t.0) ∷ rest l) (sym t.1)),
)
