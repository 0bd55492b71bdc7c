-- Visitors of a lot, and what their calls add to its history.
use Rattle.std.specs.Prelude.{◌≡◌}
use Rattle.lot_machine.specs.declared.step.Answer.{Answer}
use Rattle.lot_machine.specs.declared.step.Step.{Step}
use Rattle.lot_history.specs.declared.history.History.{History}
use Rattle.lot_history.specs.declared.history.Witness.{Witness}
use Rattle.lot_history.specs.Witness.{Extends, IsStill}

-- a visitor: the history of its lot, and its witness, whose events its calls added
pub record VisitorState : Type 0 where
  pub history : History
  pub witness : Witness

-- the same visitor
pub record Visits (old new : VisitorState) : Type 0 where
  pub history : new.history ≡ old.history
  pub witness : IsStill old.history old.witness new.witness

-- a call of the visitor made this step
abbrev pub Does : VisitorState → Step → Answer → VisitorState → Type 0
Does old step answer new = Extends old.history old.witness step answer new.witness
