-- The parts of the machine that one seat alone may change, its pieces.
use Rattle.std.specs.Prelude.{◌≡◌, ℕ, zero, suc, ◌+◌, ◌==◌, ◌≤◌, ◌<◌, nat_lt, Bool, true, false, if◌then◌else◌, cond, ⊤}
use Rattle.std.specs.Prelude.{List, [], ◌∷◌, map, filter, slice_index_or}
use Rattle.lot_base.specs.NodeFields.{NodeFields}
use Rattle.lot_base.specs.Place.{place_of}
use Rattle.lot_base.specs.Waiting.{with_value}
use Rattle.lot_base.specs.declared.token.UnparkToken.{UnparkToken}
use Rattle.lot_machine.specs.declared.status.Status.{Status}
use Rattle.lot_machine.specs.declared.status.Status.TheVariants as status
use Rattle.lot_machine.specs.Machine.{Machine, Waiter}
use Rattle.lot_machine.specs.Records.{times_recorded}
use Rattle.lot_machine.specs.Status.{is_registered}
use Rattle.lot_history.specs.declared.view.Standing.{Standing}
use Rattle.lot_history.specs.declared.view.Piece.{Piece}
use Rattle.lot_history.specs.declared.view.Piece.TheVariants.{Lists, Thread, Records, Numbers, TitledLists, Title, Undealt, Timing}

-- what a piece may be about: the list of a key, the key's title and whether it was dealt, the status of a thread, its
-- records, whether it waits with a timeout, and which numbers are registered. To change a list takes both the list and
-- the title, and to let a thread enter one also its status and its timing
pub data Name : Type 0 where
  list : ℕ → Name
  title : ℕ → Name
  dealing : ℕ → Name
  thread : ℕ → Name
  records : ℕ → Name
  timing : ℕ → Name
  numbers : Name

-- whether a number is registered
abbrev pub has_number : List Bool → ℕ → Bool
has_number uses number = slice_index_or uses number false

-- the numbers `more` are those of `uses`, and this one, which is not among them
pub record IsOneMore (uses : List Bool) (number : ℕ) (more : List Bool) : Type 0 where
  pub free : has_number uses number ≡ false
  pub numbers : (k : ℕ) → has_number more k ≡ with_value (has_number uses) number true k

-- how often a thread stands there
abbrev pub times_standing : ℕ → List Standing → ℕ
times_standing number [] = 0
times_standing number (each ∷ standing) = cond (each.number == number) 1 0 + times_standing number standing

-- 1 if this holds of a key that is not below the limit
abbrev pub at_or_above : ℕ → ℕ → Bool → ℕ
at_or_above limit key holds = if nat_lt key limit then 0 else cond holds 1 0

-- how often a piece covers a name; who has the list of a key that has no title has all that is about the key
abbrev pub covers : Name → Piece → ℕ
covers (list key) (Lists size place standing) = cond (place_of key size == place) 1 0
covers (title key) (Lists size place standing) = cond (place_of key size == place) 1 0
covers (dealing key) (Lists size place standing) = cond (place_of key size == place) 1 0
covers (thread number) (Lists size place standing) = times_standing number standing
covers (thread number) (Thread other status) = cond (other == number) 1 0
covers (records number) (Records other keys) = cond (other == number) 1 0
covers (thread number) (Numbers uses) = cond (has_number uses number) 0 1
covers (records number) (Numbers uses) = cond (has_number uses number) 0 1
covers (timing number) (Numbers uses) = cond (has_number uses number) 0 1
covers numbers (Numbers uses) = 1
covers (list key) (TitledLists limit size place standing) = cond (place_of key size == place) 1 0
covers (title key) (TitledLists limit size place standing) = at_or_above limit key (place_of key size == place)
covers (dealing key) (TitledLists limit size place standing) = at_or_above limit key (place_of key size == place)
covers (thread number) (TitledLists limit size place standing) = times_standing number standing
covers (title key) (Title other who) = cond (other == key) 1 0
covers (title key) (Undealt from below) = at_or_above from key (nat_lt key below)
covers (dealing key) (Undealt from below) = at_or_above from key (nat_lt key below)
covers (timing number) (Timing other timed) = cond (other == number) 1 0
covers _ _ = 0

-- and how often several do
abbrev pub cover : Name → List Piece → ℕ
cover name [] = 0
cover name (piece ∷ pieces) = covers name piece + cover name pieces

-- two machines are alike in what a name is about; in the timing of a thread where the thread waits in the second as it
-- waits in the first, if it waits there
abbrev pub Alike : Machine → Machine → Name → Type 0
Alike m other (list key) = m.lists key ≡ other.lists key
Alike m other (title key) = m.lists key ≡ other.lists key
Alike m other (dealing key) = ⊤
Alike m other (thread number) = m.status number ≡ other.status number
Alike m other (records number) = m.records number ≡ other.records number
Alike m other (timing number) =
    (timed : Bool) → other.status number ≡ status.Waiting timed → m.status number ≡ status.Waiting timed
Alike m other numbers = (number : ℕ) → is_registered (m.status number) ≡ is_registered (other.status number)

-- a thread in a list as the machine has it, and its status
abbrev pub waiter_of : Standing → Waiter
waiter_of each = record { number = each.number; park_token = each.park_token; timed = each.timed }

abbrev pub status_of : Standing → Status
status_of each = if each.late then status.Late else status.Waiting each.timed

-- those of one key, in order
abbrev pub at_key : ℕ → List Standing → List Standing
at_key key standing = filter (λ each. each.key == key) standing

-- each of these threads has the status that it has there
abbrev pub AllStand : Machine → List Standing → Type 0
AllStand m [] = ⊤
AllStand m (each ∷ standing) = (m.status each.number ≡ status_of each) × AllStand m standing

-- the list of the key has these waiters, and they wait
pub record IsList (m : Machine) (key : ℕ) (standing : List Standing) : Type 0 where
  pub waiters : m.lists key ≡ map waiter_of standing
  pub wait : AllStand m standing

-- the numbers of those who wait, in order
abbrev pub numbers_of : List Waiter → List ℕ
numbers_of waiters = map (λ waiter. waiter.number) waiters

-- the lists of all keys of a place have these threads
abbrev pub AreLists : Machine → ℕ → ℕ → List Standing → Type 0
AreLists m size place standing = (key : ℕ) → place_of key size ≡ place → IsList m key (at_key key standing)

-- the machine is as the piece says; of a thread that `Lists` has with a key of another place that says nothing, though
-- the piece covers the thread
abbrev pub IsSo : Machine → Piece → Type 0
IsSo m (Lists size place standing) = AreLists m size place standing
IsSo m (Thread number status) = m.status number ≡ status
IsSo m (Records number keys) = m.records number ≡ times_recorded keys
IsSo m (Numbers uses) =
    ((number : ℕ) → is_registered (m.status number) ≡ has_number uses number)
    × ((number : ℕ) → has_number uses number ≡ false → m.records number ≡ times_recorded [])
IsSo m (TitledLists limit size place standing) = AreLists m size place standing
IsSo m (Title key who) = numbers_of (m.lists key) ≡ who
IsSo m (Undealt from below) = (key : ℕ) → from ≤ key → key < below → m.lists key ≡ []
IsSo m (Timing number timed) = (other : Bool) → m.status number ≡ status.Waiting other → other ≡ timed

-- and as all of these say
abbrev pub AllSo : Machine → List Piece → Type 0
AllSo m [] = ⊤
AllSo m (piece ∷ pieces) = IsSo m piece × AllSo m pieces

-- threads that were taken out of their list, each a piece of its own
abbrev pub threads_taken : UnparkToken → List Standing → List Piece
threads_taken token [] = []
threads_taken token (each ∷ taken) = Thread each.number (status.Taken token) ∷ threads_taken token taken

-- a thread as its node has it that waits in a bucket, its deadline not passed
abbrev pub standing_of : NodeFields → Standing
standing_of node = record {
  key = node.key;
  number = node.number;
  park_token = node.park_token;
  timed = node.timed;
  late = false;
}

abbrev pub standing_in : List NodeFields → List Standing
standing_in nodes = map standing_of nodes

-- so many places of a table, from this one on, where each has these threads
abbrev pub row_pieces : ℕ → ℕ → ℕ → (ℕ → List Standing) → List Piece
row_pieces size first zero row = []
row_pieces size first (suc count) row = Lists size first (row first) ∷ row_pieces size (first + 1) count row
