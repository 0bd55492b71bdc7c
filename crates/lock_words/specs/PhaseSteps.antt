-- What each step on a word with phases tells its thread: of the step, the seat before, the number found and the seat
-- after. A step that compares does so with `first`, and writes `second`. Any other writes `first`.
use Rattle.std.specs.Prelude.{◌≡◌, ◌≢◌, ℕ, ◌/◌, List, [], ◌∷◌, Option, None, Some}
use Rattle.atomic_table.specs.Table.{Me, Step, rest}
use Rattle.lock_words.specs.declared.phases.view.View.{View}
use Rattle.lock_words.specs.StockSteps.{newest}
use Rattle.lock_words.specs.PhaseRule.{view, being, leading}

abbrev pub Play : Type 0 → Type 1
Play M = Step (Option M) → Me (Option M) View → ℕ → Me (Option M) View → Type 0

module _ {M : Type 0} (told : M → List ℕ) where
  -- what the title tells that lies in the slot that was taken last
  abbrev pub told_in : List (ℕ × Option M) → List ℕ
  told_in ((slot, Some title) ∷ others) = told title
  told_in slots = []

  module _ (fits : M → Type 0) where
    -- a thread has taken the slot with the title of the queue in this phase
    pub record TookTitle (phase : ℕ) (old new : Me (Option M) View) : Type 0 where
      pub title : M
      pub is : new ≡ (view old.0.waits phase old.0.leads (Some (told title)), (0, Some title) ∷ old.1)
      pub fit : fits title

    abbrev pub CarryTells : Play M
    CarryTells st m r n = (r ≡ st.first → TookTitle (st.first / 4) m n) × (r ≢ st.first → n ≡ m)

  abbrev pub EnteredTells : Play M
  EnteredTells st m r n = n ≡ (being (Some (newest (told_in m.1))) m.0.phase, rest m.1)

module _ {M : Type 0} where
  -- a thread knows the phase of the word that it has read or written last; a failed exchange changes nothing
  abbrev pub ArriveTells : Play M
  ArriveTells st m r n = n.0 ≡ being None (r / 4)

  -- if the phase that it knows is over, it waits no longer
  abbrev pub LookTells : Play M
  LookTells st m r n = (r / 4 ≢ m.0.phase → n ≡ (being None (r / 4), m.1)) × (r / 4 ≡ m.0.phase → n ≡ m)

  abbrev pub ReturnedTells : Play M
  ReturnedTells st m r n = n ≡ (being m.0.waits m.0.phase, rest m.1)

  abbrev pub LeftTells : Play M
  LeftTells st m r n = n ≡ (being None m.0.phase, rest m.1)

  abbrev pub DropWaitTells : Play M
  DropWaitTells st m r n = (r ≡ st.first → n ≡ (being None m.0.phase, m.1)) × (r ≢ st.first → n ≡ m)

  abbrev pub LeadTells : Play M
  LeadTells st m r n = (r ≡ st.first → n ≡ (leading (st.second / 4), m.1)) × (r ≢ st.first → n ≡ m)

  abbrev pub EndedTells : Play M
  EndedTells st m r n = n ≡ (being None (st.first / 4), rest m.1)

  abbrev pub EndTells : Play M
  EndTells st m r n = (r ≡ st.first → n ≡ (being None (st.second / 4), m.1)) × (r ≢ st.first → n ≡ m)
