-- Waiters of one key are taken, or moved to a key of the same place.
use Rattle.std.proofs.Common.{◌≡◌, ℕ, ◌+◌, ◌<◌, List, [], ◌∷◌, ◌++◌, map, All, refl, sym, ap}
use Rattle.std.proofs.Common.{◌∙◌, arith}
use Rattle.std.proofs.lemmas.List.{map-append}
use Rattle.std.proofs.lemmas.List.Elements.{All-append, All-map}
use Rattle.lot_base.specs.declared.token.UnparkToken.{UnparkToken}
use Rattle.lot_base.specs.Place.{place_of}
use Rattle.lot_base.specs.Waiting.{Split, with_value, lists_after_requeue}
use Rattle.lot_machine.specs.declared.step.Answer.{Answer}
use Rattle.lot_machine.specs.declared.step.Step.{Step}
use Rattle.lot_machine.specs.Machine.{Machine, Waiter, after_requeue}
use Rattle.lot_history.specs.declared.view.Standing.{Standing}
use Rattle.lot_history.specs.declared.view.Piece.TheVariants.{Lists}
use Rattle.lot_history.specs.Moves.{Finds, Moves}
use Rattle.lot_history.specs.Pieces.{thread, times_standing, cover, at_key, waiter_of, AllStand, IsSo}
use Rattle.lot_history.specs.Pieces.{AllSo, threads_taken}
use Rattle.lot_history.proofs.ListsLemmas.{changes_so, lists_cover, with_key, moved_to, moved_times, moved_waiters}
use Rattle.lot_history.proofs.ListsLemmas.{moved_stand}
use Rattle.lot_history.proofs.PieceLemmas.{StandsIn, stand_all, all_stand, own_list, times-append, AllStand-append}
use Rattle.lot_history.proofs.PieceLemmas.{stands-alike}
use Rattle.lot_history.proofs.SplitLemmas.{IsParted, parted_times, waiter_split}
use Rattle.lot_history.proofs.TimesLemmas.{ChangesKey, HasKey, all_at_key, changed, changed_lists, changed_times}
use Rattle.lot_history.proofs.UnparkLemmas.{Unparks, passes}

-- who moves stands at the new key, and those that were there before
pub all_to_key : (key : ℕ) (standing moved : List Standing)
    → All (HasKey key) (at_key key standing ++ map (with_key key) moved)
all_to_key key standing moved =
    All-append (HasKey key) (at_key key standing) (map (with_key key) moved) (all_at_key key standing)
    (All-map (HasKey key) (with_key key) moved (λ k d h. refl))

-- and in the machine they are the waiters of both
pub waiters_to_key : (key : ℕ) (standing moved : List Standing)
    → map waiter_of (at_key key standing ++ map (with_key key) moved)
    ≡ map waiter_of (at_key key standing) ++ map waiter_of moved
waiters_to_key key standing moved = map-append waiter_of (at_key key standing) (map (with_key key) moved)
    ∙ ap (λ (ws : List Waiter). map waiter_of (at_key key standing) ++ ws) (moved_waiters key moved)

-- those that a split leaves or moves are as they were
pub left_stand : (m : Machine) (split : Split Standing) (waiting : List Standing) → IsParted split waiting
    → AllStand m waiting → AllStand m split.left × AllStand m split.moved
left_stand m split waiting parts wait = (
  all_stand m split.left (parts.left (StandsIn m) (stand_all m waiting wait)),
  all_stand m split.moved (parts.moved (StandsIn m) (stand_all m waiting wait)),
)

module _ (max_threads size place from to : ℕ) (standing after : List Standing) (split : Split Standing)
    (token : UnparkToken) (from_here : place_of from size ≡ place) (to_here : place_of to size ≡ place)
    (parts : IsParted split (at_key from standing))
    (lists : (k : ℕ)
    → at_key k after ≡ lists_after_requeue (λ q. at_key q standing) from to (moved_to to split) k) where
  left_of_key : All (HasKey from) split.left
  left_of_key = parts.left (HasKey from) (all_at_key from standing)

  -- the place, where those that are left stand alone at the first key
  abbrev kept : List Standing
  kept = changed standing from split.left left_of_key

  abbrev behind : List Standing
  behind = at_key to kept ++ map (with_key to) split.moved

  kept_lists : ChangesKey standing kept from split.left
  kept_lists = changed_lists standing from split.left left_of_key

  after_lists : ChangesKey kept after to behind
  after_lists k =
      let same : (λ q. at_key q kept) ≡ with_value (λ q. at_key q standing) from split.left = λ i q. kept_lists q i in
      lists k ∙ ap (λ (f : ℕ → List Standing). with_value f to (f to ++ map (with_key to) split.moved) k) (sym same)

  fewer : (number : ℕ) → times_standing number after + times_standing number split.taken
      ≡ times_standing number standing
  fewer number = omega (
    arith,
    changed_times standing from split.left left_of_key kept kept_lists number,
    changed_times kept to behind (all_to_key to kept split.moved) after after_lists number,
    times-append number (at_key to kept) (map (with_key to) split.moved),
    moved_times to number split.moved,
    parted_times split (at_key from standing) parts number,
  )

  module _ (m : Machine) (so : AllSo m (Lists size place standing ∷ [])) where
    abbrev next : Machine
    next = after_requeue m from to (waiter_split split) token

    abbrev between : Machine
    between = record m { lists = with_value m.lists from (map waiter_of split.left) }

    stand : AllStand m split.left × AllStand m split.moved
    stand = left_stand m split (at_key from standing) parts (so.0 from from_here).wait

    kept_so : IsSo between (Lists size place kept)
    kept_so = changes_so size place from standing kept split.left kept_lists m between so.0 (λ k here. refl) stand.0
        (λ number more. refl)

    now : (k : ℕ) → next.lists k ≡ with_value between.lists to (map waiter_of behind) k
    now k = ap (λ (ws : List Waiter). with_value between.lists to ws k)
        (ap (λ (ws : List Waiter). ws ++ map waiter_of split.moved) (kept_so to to_here).waiters
        ∙ sym (waiters_to_key to kept split.moved))

    behind_stand : AllStand between behind
    behind_stand = AllStand-append between (at_key to kept) (map (with_key to) split.moved) (kept_so to to_here).wait
        (moved_stand between to split.moved (stands-alike m between split.moved (λ number more. refl) stand.1))

    pub place_so : ((number : ℕ) → 0 < cover (thread number) (Lists size place after ∷ [])
        → m.status number ≡ next.status number) → AllSo next (Lists size place after ∷ [])
    place_so alike = (
      changes_so size place to kept after behind after_lists between next kept_so (λ k here. now k) behind_stand
          (λ number more. alike number (omega (arith, more))),
      tt,
    )

  pub passes_within : (said : Step → Answer → Type 0)
      → ((m : Machine) → Finds max_threads (Lists size place standing ∷ []) m
      → m.lists from ≡ map waiter_of (at_key from standing)
      → Unparks said m (after_requeue m from to (waiter_split split) token))
      → Moves max_threads said (Lists size place standing ∷ [])
      (Lists size place after ∷ threads_taken token split.taken)
  passes_within =
      passes max_threads from to (Lists size place standing ∷ []) (Lists size place after ∷ []) (at_key from standing)
      split token parts (λ name other. omega (arith, lists_cover size place standing after name other))
      (λ number. omega (arith, fewer number)) (λ key. refl)
      (omega (arith, own_list from size place standing from_here))
      (omega (arith, own_list to size place standing to_here)) (λ m so. so.0 from from_here) place_so
