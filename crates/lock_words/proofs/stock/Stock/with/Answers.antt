use Rattle.std.proofs.Common.{List, ℕ, ◌*◌, [], ◌∷◌, ◌++◌, ap, ◌∙◌, subst, sym, arith}
use Rattle.atomic_table.specs.Table.{opening}
use Rattle.lock_words.specs.declared.stock.Content.{Content}
use Rattle.lock_words.specs.declared.stock.Content.TheVariants.{Title}
use Rattle.lock_words.specs.StockView.{resting}
use Rattle.lock_words.proofs.StockKeys.{Keyed, opens_keyed}
use Rattle.lock_words.proofs.stock.Stock.with.Goals as goal

pub new-requires : goal.new-requires
new-requires g c =
    let told = g.M.Tells.told in
    let fits = g.M.Tells.fits in
    let key = c.args.supply.now in
    let one = c.push_reserved.ensures.items ∙ ap (λ xs. xs ++ c.args.content ∷ []) c.in_ok-slots.ensures.items in
    let made = c.push_reserved-2.ensures.items ∙ ap (λ xs. xs ++ Title c.args.title ∷ []) one in
    subst (λ (n : ℕ). Keyed told fits key (opening (n * 4 ∷ 0 ∷ []) c.push_reserved-2.new.self.items (key, resting)))
    (sym c.from-word.ensures)
    (subst (λ (xs : List (Content g.row.T.Denot g.row.M.Denot)). Keyed told fits key (opening (key.permits * 4 ∷ 0 ∷ []) xs (key, resting)))
    (sym made) (opens_keyed told fits key c.args.content c.args.title c.requires.fits c.requires.nobody (omega arith) c.requires.content))
