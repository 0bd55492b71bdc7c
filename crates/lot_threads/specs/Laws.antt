-- What follows of the calls of members by the laws of every history.
use Rattle.std.specs.Prelude.{◌≡◌, ℕ, Bool, List, [], ◌∷◌, ◌++◌}
use Rattle.lot_base.specs.declared.token.ParkToken.{ParkToken}
use Rattle.lot_base.specs.declared.token.UnparkToken.{UnparkToken}
use Rattle.lot_history.specs.declared.event.Event.{Event}
use Rattle.lot_history.specs.Laws.{WasHanded}
use Rattle.lot_history.specs.Witness.{max_threads_of, seen_by}
use Rattle.lot_threads.specs.Members.{ComesBack, MemberState}

-- before the last event that the member has seen an unpark handed its thread this token, and no outcome came between
pub record WasHandedOver (old : MemberState) (token : UnparkToken) (new : MemberState) : Type 0 where
  pub events : List Event
  pub last : Event
  pub seen : seen_by new.witness ≡ events ++ last ∷ []
  pub handed : WasHanded (max_threads_of old.history) events old.number token

-- the token of each park that ends unparked was handed over so
abbrev pub ParksGetTokensOfUnparks : Type 0
ParksGetTokensOfUnparks = (old new : MemberState) (key : ℕ) (park_token : ParkToken) (timed : Bool)
    (token : UnparkToken) → ComesBack old key park_token timed token new → WasHandedOver old token new
