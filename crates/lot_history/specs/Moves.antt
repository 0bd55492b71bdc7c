-- What a step of a seat is that has pieces.
use Rattle.std.specs.Prelude.{◌≡◌, ℕ, ◌-◌, ◌≤◌, ◌^◌, List, Vec}
use Rattle.std.specs.declared.alloc.Global.{Global}
use Rattle.lot_base.specs.declared.token.FilterOp.{FilterOp}
use Rattle.lot_base.specs.declared.token.UnparkResult.{UnparkResult}
use Rattle.lot_base.specs.declared.token.UnparkToken.{UnparkToken}
use Rattle.lot_machine.specs.declared.step.Answer.{Answer}
use Rattle.lot_machine.specs.declared.step.Answer.TheVariants as answer
use Rattle.lot_machine.specs.declared.step.Op.TheVariants.{Filter}
use Rattle.lot_machine.specs.declared.step.Step.{Step}
use Rattle.lot_machine.specs.declared.step.Step.TheVariants.{Unpark}
use Rattle.lot_machine.specs.Machine.{Machine, IsConsistent}
use Rattle.lot_machine.specs.Steps.{IsStep}
use Rattle.lot_history.specs.declared.view.Piece.{Piece}
use Rattle.lot_history.specs.Pieces.{Name, cover, Alike, AllSo}

-- two lists of pieces cover the same
abbrev pub SameCover : List Piece → List Piece → Type 0
SameCover pieces others = (name : Name) → cover name others ≡ cover name pieces

-- the machine is one, for so many threads, that a seat with these pieces may find; a `usize` has room for as many
pub record Finds (max_threads : ℕ) (pieces : List Piece) (m : Machine) : Type 0 where
  pub few : max_threads ≤ 2 ^ 64 - 1
  pub threads : m.max_threads ≡ max_threads
  pub consistent : IsConsistent m
  pub once : (name : Name) → cover name pieces ≤ 1
  pub so : AllSo m pieces

-- a step of which this is said leads from the machine to one that is as these pieces say, and like it in all that they
-- do not cover
pub record Reaches (m : Machine) (said : Step → Answer → Type 0) (pieces : List Piece) : Type 0 where
  pub step : Step
  pub answer : Answer
  pub is_said : said step answer
  pub next : Machine
  pub does : IsStep m step answer next
  pub so : AllSo next pieces
  pub others : (name : Name) → cover name pieces ≡ 0 → Alike m next name

-- a seat with the pieces `before` may make a step of which this is said, and has the pieces `after` then
pub record Moves (max_threads : ℕ) (said : Step → Answer → Type 0) (before after : List Piece) : Type 0 where
  pub cover : SameCover before after
  pub step : (m : Machine) → Finds max_threads before m → Reaches m said after

-- the same parts of the machine in other pieces
pub record Regroups (max_threads : ℕ) (before after : List Piece) : Type 0 where
  pub cover : SameCover before after
  pub so : (m : Machine) → Finds max_threads before m → AllSo m after

-- an unpark by a filter that decides so, with this result
abbrev pub IsFilter : ℕ → List FilterOp → UnparkToken → UnparkResult → Step → Answer → Type 0
IsFilter key decisions token result step given = (others : Vec FilterOp Global) × (others.items ≡ decisions)
    × (step ≡ Unpark (Filter key others token)) × (given ≡ answer.Unpark result)
