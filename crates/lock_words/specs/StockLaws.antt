-- What the rule of a stock means, in plain words: three laws that hold in every state that meets it.
use Rattle.std.specs.Prelude.{◌≡◌, ◌≢◌, ◌⊎◌, ◌↔◌, ℕ, ◌+◌, ◌/◌, ◌%◌, ◌<◌, ◌≤◌, List, [], Contains, None, Some, slice_index}
use mathlib.Core.Option.{some}
use lib.ListN.{get_elem?}
use Rattle.atomic_table.specs.Table.{State}
use Rattle.lot_word_lock.specs.WordPlaces.{total}
use Rattle.lock_words.specs.StockRule.{holds_it, WaitsAs, SomeSeat, NoRepeats, IsOut, HasValue}
use Rattle.lock_words.specs.declared.stock.Content.{Content}
use Rattle.lock_words.specs.declared.stock.Content.TheVariants.{Title}
use Rattle.lock_words.specs.declared.stock.view.View.{View}

module _ {T M : Type 0} (s : State (Content T M) View) where
  abbrev pub word_of : ℕ
  word_of = slice_index s.words 0

  abbrev pub SomeHolder : Type 0
  SomeHolder = SomeSeat s.views (λ seat. 1 ≤ seat.holds)

  -- slot 1 is at home with this title
  abbrev pub HasHome : M → Type 0
  HasHome title = get_elem? s.homes 1 ≡ some (some (Title title))

  -- the free permits and those that threads hold are as many as the stock was made with
  abbrev pub ConservesPermits : ℕ → Type 0
  ConservesPermits permits = word_of / 4 + total holds_it s.views ≡ permits

  -- where the permit guards a value
  pub record IsExclusive : Type 0 where
    -- no two threads hold it
    pub one : (i j : ℕ) (v u : View) → get_elem? s.views i ≡ some v → get_elem? s.views j ≡ some u → 1 ≤ v.holds
        → 1 ≤ u.holds → i ≡ j
    -- the value is at home exactly if nobody holds it
    pub free : ¬ SomeHolder → HasValue s.homes
    pub held : SomeHolder → IsOut 0 s.homes
    -- the word says whether somebody does
    pub told : (word_of < 4) ↔ SomeHolder

  module _ (told : M → List ℕ) where
    -- the title is at home and tells these numbers, or told them to the thread that has taken it
    abbrev pub TitleTells : List ℕ → Type 0
    TitleTells numbers = ((title : M) × HasHome title × (told title ≡ numbers)) ⊎ SomeSeat s.views (λ seat. seat.carries ≡ Some numbers)

    pub record ForgetsNobody (fits : M → Type 0) : Type 0 where
      -- the title of the queue is at home, or a thread carries it, and the word says that it is out
      pub title : ((title : M) × HasHome title × fits title)
          ⊎ (IsOut 1 s.homes × (word_of % 4 ≡ 2) × SomeSeat s.views (λ seat. seat.carries ≢ None))
      -- each number that it tells is told once, and some thread waits as it
      pub once : (numbers : List ℕ) → TitleTells numbers → NoRepeats numbers
      pub waits : (numbers : List ℕ) → TitleTells numbers → (n : ℕ) → Contains numbers n → SomeSeat s.views (WaitsAs n)
      -- if it tells any at home, the word says that somebody may wait
      pub marked : (title : M) → HasHome title → told title ≢ [] → word_of % 4 ≡ 1
      -- and if a permit is free while it tells any, some thread is on the way: it waits as a number that the title does not tell
      pub awake : (numbers : List ℕ) → TitleTells numbers → numbers ≢ [] → 4 ≤ word_of
          → (n : ℕ) × ¬ Contains numbers n × SomeSeat s.views (WaitsAs n)
