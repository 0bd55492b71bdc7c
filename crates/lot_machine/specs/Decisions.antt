-- What a filter answers that has a list of decisions.
use Rattle.std.specs.Prelude.{◌≡◌, List, ◌∷◌, []}
use Rattle.lot_base.specs.declared.token.FilterOp.{FilterOp}
use Rattle.lot_base.specs.declared.token.FilterOp.TheVariants.{Skip}

-- the first of the decisions, and `Skip` once they are used up; the others are left
abbrev pub AnswersNext : List FilterOp → FilterOp → List FilterOp → Type 0
AnswersNext [] given after = (given ≡ Skip) × (after ≡ [])
AnswersNext (decision ∷ decisions) given after = (given ≡ decision) × (after ≡ decisions)
