-- What each step on the words of a lock tells: of the step, the seat before, the number found and the seat after. Of a
-- step `word` is the index of its word, and `first` the number with which it compares, or else the one that it writes.
use Rattle.std.specs.Prelude.{◌≡◌, ◌≢◌, ℕ, ◌+◌, ◌*◌, ◌≤◌, List, [], ◌∷◌, length, true, Option, Some}
use Rattle.atomic_table.specs.Table.{Me, Step, rest}
use Rattle.lot_word_lock.specs.declared.word_lock.view.View.{View}
use Rattle.lot_word_lock.specs.declared.word_lock.view.View.TheVariants.{Trying, Enqueued, Holding}
use Rattle.lot_word_lock.specs.WordPlaces.{IsPlace, behind, LinkLeadsTo}
use Rattle.lot_word_lock.specs.WordView.{resting, leaving, place_of_caller, seen_by, owed_by, with_place}

abbrev pub Play : Type 0 → Type 1
Play T = Step (Option T) → Me (Option T) View → ℕ → Me (Option T) View → Type 0

module _ {T : Type 0} where
  abbrev pub ArriveTells : Play T
  ArriveTells st m r n = n.0 ≡ resting

  abbrev pub AcquireTells : (T → Type 0) → Play T
  AcquireTells fits st m r n =
      (r ≡ st.first → (value : T) × (n ≡ (Holding [] [], (0, Some value) ∷ m.1)) × fits value)
      × (r ≢ st.first → n ≡ m)

  abbrev pub TakePlaceTells : Play T
  TakePlaceTells st m r n =
      (r ≡ st.first → (p : ℕ) → st.word ≡ p + 4 → (link : ℕ) × (n ≡ (with_place m.0 p link, m.1)))
      × (r ≢ st.first → n ≡ m)

  abbrev pub GiveBackTells : Play T
  GiveBackTells st m r n = n ≡ (with_place m.0 0 0, m.1)

  abbrev pub AskTells : Play T
  AskTells st m r n = n ≡ m

  abbrev pub LinkTells : Play T
  LinkTells st m r n = n ≡ (with_place m.0 (place_of_caller m.0) st.first, m.1)

  abbrev pub EnqueueTells : Play T
  EnqueueTells st m r n = (r ≡ st.first → n ≡ (Enqueued (place_of_caller m.0), m.1)) × (r ≢ st.first → n ≡ m)

  abbrev pub LookTells : Play T
  LookTells st m r n = (r ≡ 0 → n ≡ (Trying true (place_of_caller m.0) 0, m.1)) × (r ≢ 0 → n ≡ m)

  -- where it fails, the list is longer than what was seen of it, and now it is seen whole
  abbrev pub ReleaseToZeroTells : Play T
  ReleaseToZeroTells st m r n =
      (r ≡ st.first → n ≡ (leaving (seen_by m.0), rest m.1))
      × (r ≢ st.first → (newest : ℕ) × (older : List ℕ) × (n ≡ (Holding (newest ∷ older) [], m.1))
      × (r ≡ 1 + 2 * newest) × IsPlace newest × (length (seen_by m.0) ≤ length older))

  -- the link of the first place that was seen
  abbrev pub ReadFirstTells : Play T
  ReadFirstTells st m r n = (n ≡ m) × LinkLeadsTo r (behind (seen_by m.0))

  -- the link of the second; where a third follows, the first is let out of sight
  abbrev pub ReadNextTells : Play T
  ReadNextTells st m r n = LinkLeadsTo r (behind (behind (seen_by m.0))) × (r ≡ 1 → n ≡ m)
      × (r ≢ 1 → n ≡ (Holding (behind (seen_by m.0)) [], m.1))

  abbrev pub CutTells : Play T
  CutTells st m r n = n ≡ (Holding [] (behind (seen_by m.0)), m.1)

  abbrev pub ReleaseAfterCutTells : Play T
  ReleaseAfterCutTells st m r n = n ≡ (leaving (owed_by m.0), rest m.1)

  abbrev pub TellTells : Play T
  TellTells st m r n = n ≡ (resting, m.1)
