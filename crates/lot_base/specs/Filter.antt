-- The calls of a filter at the park tokens of the waiters of a key.
use Rattle.std.specs.Prelude.{◌≡◌, ◌≢◌, List, ◌∷◌, map, ⊤, []}
use Rattle.std.specs.Fn.{Mut, Called}
use Rattle.lot_base.specs.declared.token.ParkToken.{ParkToken}
use Rattle.lot_base.specs.declared.token.FilterOp.{FilterOp}
use Rattle.lot_base.specs.declared.token.FilterOp.TheVariants.{Stop}
use Rattle.lot_base.specs.NodeFields.{NodeFields}

-- the park tokens of nodes, in order
abbrev pub park_tokens : List NodeFields → List ParkToken
park_tokens nodes = map (λ node. node.park_token) nodes

module _ {F : Type 0} (calls : Mut F (ParkToken × Unit {0}) FilterOp) where
  -- the filter may be called with these park tokens in order, until it answers `Stop`
  abbrev pub IsFilterCallable : F → List ParkToken → Type 0
  IsFilterCallable filter [] = ⊤
  IsFilterCallable filter (token ∷ tokens) =
      calls.pre filter (token, tt)
      × ((decision : FilterOp) (next : F) → Called calls filter (token, tt) decision next → decision ≢ Stop
      → IsFilterCallable next tokens)

  -- it was called so, and these are its answers, up to and with its first `Stop` or else one for each token
  abbrev pub IsFiltered : F → List ParkToken → List FilterOp → Type 0
  IsFiltered filter [] decisions = decisions ≡ []
  IsFiltered filter (_ ∷ _) [] = ⊥
  IsFiltered filter (token ∷ tokens) (decision ∷ decisions) =
      (next : F)
      × Called calls filter (token, tt) decision next
      × (decision ≡ Stop → decisions ≡ [])
      × (decision ≢ Stop → IsFiltered next tokens decisions)
