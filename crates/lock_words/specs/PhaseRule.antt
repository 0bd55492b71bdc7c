-- The rule of a word with phases, as its table keeps it: what holds between any two steps of all threads.
-- The word is four times the phase, and 1 more if somebody may wait for its end, and 2 more while the title is out.
use Rattle.std.specs.Prelude.{◌≡◌, ◌≢◌, ℕ, ◌+◌, ◌*◌, ◌/◌, ◌%◌, ◌≤◌, List, [], length, slice_index, Contains, Option, None, Some}
use mathlib.Core.Option.{some, none}
use mathlib.Core.Option as maybe
use lib.ListN.{get_elem?}
use Rattle.atomic_table.specs.Table.{State}
use Rattle.lot_word_lock.specs.WordPlaces.{total}
use Rattle.lock_words.specs.StockRule.{one_if_some, SomeSeat, NoRepeats}
use Rattle.lock_words.specs.declared.phases.view.View.{View}

abbrev pub view : Option ℕ → ℕ → ℕ → Option (List ℕ) → View
view waits phase leads carries = record { waits = waits; phase = phase; leads = leads; carries = carries }

-- the phase after this one: the next of an even number
abbrev pub next_phase : ℕ → ℕ
next_phase phase = (phase / 2 * 2 + 2) % 4611686018427387904

-- it neither leads the phase nor carries the title
abbrev pub being : Option ℕ → ℕ → View
being waits phase = view waits phase 0 None

-- it does not wait either
abbrev pub resting : View
resting = being None 0

-- it leads the phase, and does not carry the title
abbrev pub leading : ℕ → View
leading phase = view None phase 1 None

-- 1 for a thread that carries the title, else 0
abbrev pub carries_it : View → ℕ
carries_it seat = one_if_some seat.carries

-- 1 for a thread that leads the phase, else 0
abbrev pub leads_it : View → ℕ
leads_it seat = seat.leads

-- it waits as this number for the end of this phase
pub record WaitsIn (phase number : ℕ) (seat : View) : Type 0 where
  pub waits : seat.waits ≡ Some number
  pub until_end : seat.phase ≡ phase

-- what lies in the slot, or `none` while the slot is out with a thread
abbrev pub Homes : Type 0 → Type 0
Homes M = List (maybe.Option (Option M))

abbrev pub IsOut : {M : Type 0} → Homes M → Type 0
IsOut homes = get_elem? homes 0 ≡ some none

module _ {M : Type 0} (told : M → List ℕ) (fits : M → Type 0) where
  -- the slot is at home with a title of the queue, which tells these numbers
  pub record HasTitle (numbers : List ℕ) (homes : Homes M) : Type 0 where
    pub title : M
    pub home : get_elem? homes 0 ≡ some (some (Some title))
    pub fit : fits title
    pub tells : told title ≡ numbers

  pub record Phased (s : State (Option M) View) : Type 0 where
    -- who waits in the queue, as the title tells it or told it when it was taken
    pub numbers : List ℕ
    -- the phase, and 1 if the word says that somebody may wait
    pub phase : ℕ
    pub mark : ℕ
    -- the word
    pub long : 1 ≤ length s.words
    pub word : slice_index s.words 0 ≡ 4 * phase + mark + 2 * total carries_it s.views
    pub bit : mark ≤ 1
    -- a phase with an odd number is led by one thread, and any other by none
    pub led : total leads_it s.views ≡ phase % 2
    -- at most one thread carries the title, and the word does not say then that somebody may wait
    pub carrier : total carries_it s.views ≤ 1
    pub away : total carries_it s.views ≡ 1 → mark ≡ 0
    -- the title is at home exactly if nobody carries it
    pub title_home : total carries_it s.views ≡ 0 → HasTitle numbers s.homes
    pub title_out : total carries_it s.views ≡ 1 → IsOut s.homes
    -- whoever carries it knows what it told, and the phase
    pub known : (id : ℕ) (seat : View) (ns : List ℕ) → get_elem? s.views id ≡ some seat → seat.carries ≡ Some ns
        → (ns ≡ numbers) × (seat.phase ≡ phase)
    -- whoever stands in the queue stands there once, is told by the word, and is a thread that waits as its number for
    -- the end of this phase
    pub once : NoRepeats numbers
    pub marked : numbers ≢ [] → total carries_it s.views ≡ 0 → mark ≡ 1
    pub waits : (n : ℕ) → Contains numbers n → SomeSeat s.views (WaitsIn phase n)
