-- Witnesses that have no piece of the machine, as between two calls.
use Rattle.std.specs.Prelude.{◌≡◌, []}
use Rattle.lot_history.specs.Witness.{IsStill, IsWitnessOf, pieces_of}
use Rattle.lot_history.specs.declared.history.History.{History}
use Rattle.lot_history.specs.declared.history.Witness.{Witness}

-- a witness of this history, without a piece
pub record IsIdle (history : History) (witness : Witness) : Type 0 where
  pub of_history : IsWitnessOf history witness
  pub no_pieces : pieces_of witness ≡ []

-- it is still the one that it was, and has none
pub record StaysIdle (history : History) (old new : Witness) : Type 0 where
  pub still : IsStill history old new
  pub no_pieces : pieces_of new ≡ []
