-- A word with phases and its hands as contracts see them.
use Rattle.std.specs.Prelude.{◌≡◌, ◌≢◌, ◌⊎◌, ℕ, List, [], ◌∷◌, Option, None, Some}
use Rattle.atomic_table.specs.Table.{Me}
use Rattle.lot_word_lock.specs.WordKey.{without_key}
use Rattle.lock_words.specs.PhaseRule.{view, being, leading}
use Rattle.lock_words.specs.Stock.{numbers_in}
use Rattle.lock_words.specs.declared.phases.Hand.{Hand}
use Rattle.lock_words.specs.declared.phases.Phases.{Phases}
use Rattle.lock_words.specs.declared.phases.view.View.{View}

module _ {M : Type 0} where
  -- what a thread has that took the title, which told these numbers, out of the slot in this phase
  abbrev pub carrying : Option ℕ → ℕ → List ℕ → ℕ → Me (Option M) View
  carrying waits leads numbers phase = (view waits phase leads (Some numbers), (0, None) ∷ [])

  module _ {K : Type 0} where
    -- which queue it was made with
    abbrev pub queue_of : Phases M K → K
    queue_of phases = phases.table.shared.key

    -- the hand is one of this word, and carries its key
    pub record IsHandOf (phases : Phases M K) (hand : Hand M K) : Type 0 where
      pub table : hand.seat.table_id ≡ phases.table.shared.table_id
      pub carried : hand.seat.me.0.0 ≡ queue_of phases

    -- what the thread knows, and the slot if it is out with the thread
    abbrev pub seat_of : Hand M K → Me (Option M) View
    seat_of hand = without_key hand.seat.me

    abbrev pub waits_of : Hand M K → Option ℕ
    waits_of hand = (seat_of hand).0.waits

    abbrev pub phase_of : Hand M K → ℕ
    phase_of hand = (seat_of hand).0.phase

    abbrev pub leads_of : Hand M K → ℕ
    leads_of hand = (seat_of hand).0.leads

    -- the numbers that the title told when the thread took it
    abbrev pub numbers_of : Hand M K → List ℕ
    numbers_of hand = numbers_in (seat_of hand).0.carries

    -- the thread does not carry the title
    abbrev pub IsWithout : Hand M K → Type 0
    IsWithout hand = seat_of hand ≡ (view (waits_of hand) (phase_of hand) (leads_of hand) None, [])

    -- and does not lead the phase either
    abbrev pub IsFollowing : Hand M K → Type 0
    IsFollowing hand = seat_of hand ≡ (being (waits_of hand) (phase_of hand), [])

    -- nor does it wait
    abbrev pub IsResting : Hand M K → Type 0
    IsResting hand = seat_of hand ≡ (being None (phase_of hand), [])

    -- the thread leads the phase, and does not carry the title
    abbrev pub IsLeading : Hand M K → Type 0
    IsLeading hand = seat_of hand ≡ (leading (phase_of hand), [])

    -- the thread carries the title
    abbrev pub IsCarrying : Hand M K → Type 0
    IsCarrying hand = seat_of hand ≡ carrying (waits_of hand) (leads_of hand) (numbers_of hand) (phase_of hand)

    -- the thread does not wait, or waits for the end of this phase
    abbrev pub MayWaitFor : ℕ → Hand M K → Type 0
    MayWaitFor phase hand = (waits_of hand ≡ None) ⊎ (phase_of hand ≡ phase)

    -- the thread has read or begun another phase than this one, and it neither waits for one nor leads one
    pub record HasSeenOther (phases : Phases M K) (phase : ℕ) (hand : Hand M K) : Type 0 where
      pub own : IsHandOf phases hand
      pub rests : IsResting hand
      pub other : phase_of hand ≢ phase
