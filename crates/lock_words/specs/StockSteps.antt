-- What each step on the word of a stock tells its thread: of the step, the seat before, the number found and the seat after.
-- `first` of a step is the number with which it compares, or else the one that it writes.
use Rattle.std.specs.Prelude.{◌≡◌, ◌≢◌, ℕ, ◌/◌, Bool, List, [], ◌∷◌, None, Some}
use Rattle.atomic_table.specs.Table.{Me, Step, rest}
use Rattle.lock_words.specs.declared.stock.Content.{Content}
use Rattle.lock_words.specs.declared.stock.Content.TheVariants.{Out, Value, Title}
use Rattle.lock_words.specs.declared.stock.view.View.{View}
use Rattle.lock_words.specs.StockRule.{NoRepeats, Kept}
use Rattle.lock_words.specs.StockView.{view, having, resting}

abbrev pub Play : Type 0 → Type 0 → Type 1
Play T M = Step (Content T M) → Me (Content T M) View → ℕ → Me (Content T M) View → Type 0

-- the last of these numbers
abbrev pub newest : List ℕ → ℕ
newest [] = 0
newest (n ∷ []) = n
newest (n ∷ m ∷ ns) = newest (m ∷ ns)

-- the numbers without the first
abbrev pub behind : List ℕ → List ℕ
behind [] = []
behind (n ∷ ns) = ns

module _ {T M : Type 0} (told : M → List ℕ) where
  -- what the title tells that lies in the slot that was taken last
  abbrev pub told_in : List (ℕ × Content T M) → List ℕ
  told_in [] = []
  told_in ((slot, Out) ∷ others) = []
  told_in ((slot, Value value) ∷ others) = []
  told_in ((slot, Title title) ∷ others) = told title

  module _ (fits : M → Type 0) where
    -- a thread has taken slot 1 with the title of the stock's queue while so many permits were free
    pub record TookTitle (aside : ℕ) (old new : Me (Content T M) View) : Type 0 where
      pub title : M
      pub is : new ≡ (view old.0.holds old.0.waits (Some (told title)) aside, (1, Title title) ∷ old.1)
      pub fit : fits title
      pub once : NoRepeats (told title)

    abbrev pub CarryTells : Play T M
    CarryTells st m r n = (r ≡ st.first → TookTitle (st.first / 4) m n) × (r ≢ st.first → n ≡ m)

  abbrev pub EnteredTells : Play T M
  EnteredTells st m r n = n ≡ (having m.0.holds (Some (newest (told_in m.1))), rest m.1)

module _ {T M : Type 0} where
  abbrev pub ArriveTells : Play T M
  ArriveTells st m r n = n.0 ≡ resting

  -- whether the permit guards a value
  abbrev pub AcquireTells : Bool → Play T M
  AcquireTells guards st m r n =
      (r ≡ st.first → (slots : List (ℕ × Content T M)) × Kept guards slots × (n ≡ (having 1 m.0.waits, slots)))
      × (r ≢ st.first → n ≡ m)

  abbrev pub ReleaseTells : Play T M
  ReleaseTells st m r n = (r ≡ st.first → n ≡ (resting, [])) × (r ≢ st.first → n ≡ m)

  abbrev pub ReturnedTells : Play T M
  ReturnedTells st m r n = n ≡ (having m.0.holds m.0.waits, rest m.1)

  abbrev pub LeftTells : Play T M
  LeftTells st m r n = n ≡ (having m.0.holds None, rest m.1)

  abbrev pub ReleasedTells : Play T M
  ReleasedTells st m r n = n ≡ (resting, [])

  abbrev pub DropWaitTells : Play T M
  DropWaitTells st m r n = (r ≡ st.first → n ≡ (having m.0.holds None, m.1)) × (r ≢ st.first → n ≡ m)
