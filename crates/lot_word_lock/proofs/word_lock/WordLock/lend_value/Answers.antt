use Rattle.std.proofs.Common.{◌∷◌, Some, ap, refl, sym, ◌∙◌}
use Rattle.std.specs.Fn.{FnOnceReturnsAtMut}
use Rattle.atomic_table.specs.Table.{rest}
use Rattle.lot_word_lock.proofs.WordKeeps.{lent-value}
use Rattle.lot_word_lock.proofs.word_lock.WordLock.lend_value.Goals as goal

pub slot_mut-requires : goal.slot_mut-requires
slot_mut-requires g c = let t = c.requires.home in (
  c.requires.lock.table,
  (Some t.0, t.1 ∙ ap (λ l. (0, Some t.0) ∷ rest l) (sym t.1)),
)

pub returns-clause-home : goal.returns-clause-home
returns-clause-home g c =
    let t = c.requires.home in
    let shows = lent-value _ _ _ c.unwrap.ensures c.as_mut-lent.ensures.value (sym t.1 ∙ c.slot_mut.ensures.value) in
    let gave : FnOnceReturnsAtMut g.F.FnOnce c.args.visitor t.0 c.visitor.result c.visitor.new.arg2 =
    record { shown = _; shows = shows; left = _; met = c.visitor.ensures; leaves = refl } in
    (c.visitor.new.arg2, ap (λ l. (0, Some c.visitor.new.arg2) ∷ rest l) t.1, c.requires.keeps _ _ _ t.2 gave)

pub returns-clause-lent : goal.returns-clause-lent
returns-clause-lent g c =
    let t = c.requires.home in
    let shows = lent-value _ _ _ c.unwrap.ensures c.as_mut-lent.ensures.value (sym t.1 ∙ c.slot_mut.ensures.value) in
    (t.0, _, t.2, record { shown = _; shows = shows; left = _; met = c.visitor.ensures; leaves = refl })
