-- What stays of a member while its calls add to the history.
use Rattle.std.specs.Prelude.{◌≡◌}
use Rattle.lot_threads.specs.Members.{MemberState}

-- of the same lot, with the same number and records
pub record IsSameMember (old new : MemberState) : Type 0 where
  pub history : new.history ≡ old.history
  pub number : new.number ≡ old.number
  pub records : new.records ≡ old.records
