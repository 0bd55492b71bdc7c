-- The list of a key in the machine, where a bucket's piece has it.
use Rattle.std.proofs.Common.{◌≡◌, ℕ, List, [], ◌∷◌, map, refl, sym, ap, ◌∙◌}
use Rattle.lot_base.specs.Filter.{park_tokens}
use Rattle.lot_base.specs.NodeFields.{NodeFields}
use Rattle.lot_base.specs.NodeLists.{lists_of}
use Rattle.lot_base.specs.Place.{place_of}
use Rattle.lot_base.specs.Waiting.{has_any}
use Rattle.lot_base.specs.declared.token.ParkToken.{ParkToken}
use Rattle.lot_machine.specs.Machine.{Machine, Waiter}
use Rattle.lot_history.specs.declared.view.Piece.TheVariants.{TitledLists}
use Rattle.lot_history.specs.declared.view.Standing.{Standing}
use Rattle.lot_history.specs.Pieces.{AllSo, standing_in, waiter_of}
use Rattle.lot_history.proofs.NodeLemmas.{at_key-nodes}
use Rattle.lot_threads.specs.Filters.{tokens_in}

module _ (m : Machine) (limit size place key : ℕ) (nodes : List NodeFields) (here : place_of key size ≡ place)
    (so : AllSo m (TitledLists limit size place (standing_in nodes) ∷ [])) where
  waiters : m.lists key ≡ map waiter_of (standing_in (lists_of nodes key))
  waiters = (so.0 key here).waiters ∙ ap (λ (standing : List Standing). map waiter_of standing) (at_key-nodes nodes key)

  numbers_stand : (those : List NodeFields)
      → map (λ (waiter : Waiter). waiter.number) (map waiter_of (standing_in those))
      ≡ map (λ (node : NodeFields). node.number) those
  numbers_stand [] = refl
  numbers_stand (node ∷ those) = ap (λ (numbers : List ℕ). node.number ∷ numbers) (numbers_stand those)

  pub numbers_at : map (λ (node : NodeFields). node.number) (lists_of nodes key)
      ≡ map (λ (waiter : Waiter). waiter.number) (m.lists key)
  numbers_at = sym (ap (λ (those : List Waiter). map (λ (waiter : Waiter). waiter.number) those) waiters
      ∙ numbers_stand (lists_of nodes key))

  tokens_stand : (those : List NodeFields) → map (λ (waiter : Waiter). waiter.park_token) (map waiter_of (standing_in those))
      ≡ park_tokens those
  tokens_stand [] = refl
  tokens_stand (node ∷ those) = ap (λ (tokens : List ParkToken). node.park_token ∷ tokens) (tokens_stand those)

  pub tokens_at : park_tokens (lists_of nodes key) ≡ tokens_in m key
  tokens_at = sym (ap (λ (those : List Waiter). map (λ (waiter : Waiter). waiter.park_token) those) waiters
      ∙ tokens_stand (lists_of nodes key))

  any_stands : (those : List NodeFields) → has_any (map waiter_of (standing_in those)) ≡ has_any those
  any_stands [] = refl
  any_stands (node ∷ those) = refl

  pub any_at : has_any (lists_of nodes key) ≡ has_any (m.lists key)
  any_at = sym (ap (λ (those : List Waiter). has_any those) waiters ∙ any_stands (lists_of nodes key))
