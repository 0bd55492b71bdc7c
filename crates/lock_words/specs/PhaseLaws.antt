-- What the rule of a word with phases means, in plain words: two laws that hold in every state that meets it.
use Rattle.std.specs.Prelude.{◌≡◌, ◌≢◌, ◌⊎◌, ◌↔◌, ℕ, ◌/◌, ◌%◌, ◌≤◌, List, [], Contains, Option, None, Some, slice_index}
use mathlib.Core.Option.{some}
use lib.ListN.{get_elem?}
use Rattle.atomic_table.specs.Table.{State}
use Rattle.lock_words.specs.StockRule.{SomeSeat, NoRepeats}
use Rattle.lock_words.specs.PhaseRule.{WaitsIn, IsOut}
use Rattle.lock_words.specs.declared.phases.view.View.{View}

module _ {M : Type 0} (s : State (Option M) View) where
  abbrev pub word_of : ℕ
  word_of = slice_index s.words 0

  abbrev pub phase_of : ℕ
  phase_of = word_of / 4

  -- the slot is at home with this title
  abbrev pub HasHome : M → Type 0
  HasHome title = get_elem? s.homes 0 ≡ some (some (Some title))

  pub record HasOneLeader : Type 0 where
    -- no two threads lead the phase
    pub one : (i j : ℕ) (v u : View) → get_elem? s.views i ≡ some v → get_elem? s.views j ≡ some u → 1 ≤ v.leads
        → 1 ≤ u.leads → i ≡ j
    -- some thread does exactly if its number is odd
    pub odd : (phase_of % 2 ≡ 1) ↔ SomeSeat s.views (λ seat. 1 ≤ seat.leads)

  module _ (told : M → List ℕ) where
    -- the title is at home and tells these numbers, or told them to the thread that has taken it
    abbrev pub TitleTells : List ℕ → Type 0
    TitleTells numbers = ((title : M) × HasHome title × (told title ≡ numbers))
        ⊎ SomeSeat s.views (λ seat. seat.carries ≡ Some numbers)

    pub record LeavesNobody (fits : M → Type 0) : Type 0 where
      -- the title of the queue is at home, or a thread carries it, and the word says that it is out
      pub title : ((title : M) × HasHome title × fits title)
          ⊎ (IsOut s.homes × (word_of % 4 ≡ 2) × SomeSeat s.views (λ seat. seat.carries ≢ None))
      -- each number that it tells is told once, and some thread waits as it for the end of the phase of the word: nobody
      -- stands in the queue for the end of a phase that is over
      pub once : (numbers : List ℕ) → TitleTells numbers → NoRepeats numbers
      pub waits : (numbers : List ℕ) → TitleTells numbers → (n : ℕ) → Contains numbers n
          → SomeSeat s.views (WaitsIn phase_of n)
      -- if it tells any at home, the word says that somebody may wait
      pub marked : (title : M) → HasHome title → told title ≢ [] → word_of % 4 ≡ 1
