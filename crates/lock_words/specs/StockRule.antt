-- The rule of a stock, as its table keeps it: what holds between any two steps of all threads.
-- The word is four times the permits that are free, and 1 more if somebody may wait, and 2 more while the title is out.
use Rattle.std.specs.Prelude.{◌≡◌, ◌≢◌, ℕ, zero, suc, ◌+◌, ◌*◌, ◌<◌, ◌≤◌, ⊤, Bool, true, false, List, [], ◌∷◌, length, slice_index, Contains}
use Rattle.std.specs.Prelude.{Option, None, Some, Box}
use Rattle.std.specs.declared.alloc.Global.{Global}
use mathlib.Core.Option.{some, none}
use mathlib.Core.Option as maybe
use lib.ListN.{get_elem?}
use Rattle.atomic_table.specs.Table.{State}
use Rattle.lot_word_lock.specs.WordPlaces.{total}
use Rattle.lock_words.specs.declared.stock.Content.{Content}
use Rattle.lock_words.specs.declared.stock.Content.TheVariants.{Value, Title}
use Rattle.lock_words.specs.declared.stock.view.View.{View}

abbrev pub one_if_some : Option (List ℕ) → ℕ
one_if_some None = 0
one_if_some (Some numbers) = 1

-- the permits that a thread holds
abbrev pub holds_it : View → ℕ
holds_it seat = seat.holds

-- 1 for a thread that carries the title, else 0
abbrev pub carries_it : View → ℕ
carries_it seat = one_if_some seat.carries

abbrev pub WaitsAs : ℕ → View → Type 0
WaitsAs number seat = seat.waits ≡ Some number

module _ {V : Type 0} where
  abbrev pub SomeSeat : List V → (V → Type 0) → Type 0
  SomeSeat views P = (id : ℕ) × (seat : V) × (get_elem? views id ≡ some seat) × P seat

-- no number stands twice in the list
abbrev pub NoRepeats : List ℕ → Type 0
NoRepeats [] = ⊤
NoRepeats (n ∷ ns) = ¬ Contains ns n × NoRepeats ns

-- what lies in each slot, or `none` while the slot is out with a thread
abbrev pub Homes : Type 0 → Type 0 → Type 0
Homes T M = List (maybe.Option (Content T M))

module _ {T M : Type 0} where
  abbrev pub IsOut : ℕ → Homes T M → Type 0
  IsOut slot homes = get_elem? homes slot ≡ some none

  -- slot 0 is at home with the value
  abbrev pub HasValue : Homes T M → Type 0
  HasValue homes = (value : Box T Global) × (get_elem? homes 0 ≡ some (some (Value value)))

  -- if the permit guards a value, the value is at home exactly while the permit is free
  abbrev pub Placed : Bool → ℕ → Homes T M → Type 0
  Placed false free homes = ⊤
  Placed true zero homes = IsOut 0 homes
  Placed true (suc free) homes = HasValue homes

  -- the slots that a thread has with its permit: that with the value, if the permit guards one
  abbrev pub Kept : Bool → List (ℕ × Content T M) → Type 0
  Kept false slots = slots ≡ []
  Kept true slots = (value : Box T Global) × (slots ≡ (0, Value value) ∷ [])

-- slot 1 is at home with a title of the stock's queue, which tells these numbers
pub record HasTitle {T M : Type 0} (told : M → List ℕ) (fits : M → Type 0) (numbers : List ℕ) (homes : Homes T M) : Type 0 where
  pub title : M
  pub home : get_elem? homes 1 ≡ some (some (Title title))
  pub fit : fits title
  pub tells : told title ≡ numbers

pub record Counted {T M : Type 0} (told : M → List ℕ) (fits : M → Type 0) (permits : ℕ) (guards : Bool)
    (s : State (Content T M) View) : Type 0 where
  -- who waits in the queue, as the title tells it or told it when it was taken
  pub numbers : List ℕ
  -- the permits that are free, and 1 if the word says that somebody may wait
  pub free : ℕ
  pub mark : ℕ
  -- the word
  pub long : 1 ≤ length s.words
  pub word : slice_index s.words 0 ≡ 4 * free + mark + 2 * total carries_it s.views
  pub bit : mark ≤ 1
  -- at most one thread carries the title, and the word does not say then that somebody may wait
  pub carrier : total carries_it s.views ≤ 1
  pub away : total carries_it s.views ≡ 1 → mark ≡ 0
  -- no permit is lost, and none comes from nowhere
  pub few : permits < 4294967296
  pub conserved : free + total holds_it s.views ≡ permits
  -- a permit that guards a value is the only one, and comes with the value
  pub single : guards ≡ true → permits ≡ 1
  pub placed : Placed guards free s.homes
  -- the title is at home exactly if nobody carries it
  pub title_home : total carries_it s.views ≡ 0 → HasTitle told fits numbers s.homes
  pub title_out : total carries_it s.views ≡ 1 → IsOut 1 s.homes
  -- whoever carries it knows what it told, and how many permits are free
  pub known : (id : ℕ) (seat : View) (ns : List ℕ) → get_elem? s.views id ≡ some seat → seat.carries ≡ Some ns
      → (ns ≡ numbers) × (seat.aside ≡ free)
  -- whoever waits in the queue is told by the word, stands there once, and is a thread that waits as its number
  pub once : NoRepeats numbers
  pub marked : numbers ≢ [] → total carries_it s.views ≡ 0 → mark ≡ 1
  pub waits : (n : ℕ) → Contains numbers n → SomeSeat s.views (WaitsAs n)
  -- if somebody waits there and a permit is free, another thread is on the way, which waits and does not stand there
  pub charged : numbers ≢ [] → 0 < free → (n : ℕ) × ¬ Contains numbers n × SomeSeat s.views (WaitsAs n)
