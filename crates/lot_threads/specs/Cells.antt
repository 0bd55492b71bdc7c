-- The invariants of what lies behind the locks of a lot, buckets and the registry of numbers, each with its part of
-- the lot's history, and what goes beside the node of a thread that was unparked.
use Rattle.std.specs.Prelude.{◌≡◌, ◌≢◌, ℕ, ◌+◌, ◌*◌, ◌<◌, ◌≤◌, ◌^◌, All, ⊤, Bool, List, [], ◌∷◌, map, length, Option, Some, None}
use Rattle.atomic_table.specs.Seated.{TableId}
use Rattle.boxcar.specs.Slot.{Named}
use Rattle.lot_base.specs.BucketState.{BucketState, IsBucketAt, KeepsPlace}
use Rattle.lot_base.specs.NodeFields.{NodeFields}
use Rattle.lot_base.specs.Place.{IsTableSize, place_of}
use Rattle.lot_word_lock.specs.WordLock.{key_of}
use Rattle.lot_word_lock.specs.declared.word_lock.WordLock.{WordLock}
use Rattle.lot_machine.specs.declared.status.Status.TheVariants.{Taken}
use Rattle.lot_machine.specs.declared.numbers.TheConstants.{MAX_THREADS}
use Rattle.lot_machine.specs.declared.numbers.Use.{Use}
use Rattle.lot_machine.specs.Numbers.{count_registered, is_in_use}
use Rattle.lot_history.specs.declared.history.History.{History}
use Rattle.lot_history.specs.declared.history.Part.{Part}
use Rattle.lot_history.specs.declared.history.Witness.{Witness}
use Rattle.lot_history.specs.declared.view.Piece.{Piece}
use Rattle.lot_history.specs.declared.view.Piece.TheVariants.{TitledLists, Thread, Records, Numbers, Timing}
use Rattle.lot_history.specs.Pieces.{standing_in}
use Rattle.lot_history.specs.Witness.{IsPartOf, events_of, id_of, limit_of, max_threads_of, pieces_in, pieces_of}
use Rattle.lot_threads.specs.declared.cell.Cell.{Cell}
use Rattle.lot_threads.specs.declared.cell.CellKey.{CellKey}
use Rattle.lot_threads.specs.declared.cell.Slot.{Slot}
use Rattle.lot_threads.specs.declared.parker.Letter.{Letter}
use Rattle.lot_threads.specs.declared.registry.Registry.{Registry}
use Rattle.lot_threads.specs.declared.registry.RegistryKey.{RegistryKey}
use Rattle.lot_threads.specs.Rows.{EachAt}

-- the history that a part is of
abbrev pub home_of : Part → TableId
home_of part = part.badge.table_id

-- the part is of this history, and has these pieces
pub record Has (home : TableId) (all : List Piece) (part : Part) : Type 0 where
  pub of_history : IsPartOf home part
  pub pieces : pieces_in part ≡ all

-- the part has the records of a thread, whatever they are
pub record HasRecords (home : TableId) (number : ℕ) (part : Part) : Type 0 where
  pub keys : List ℕ
  pub has : Has home (Records number keys ∷ []) part

-- the part says how a thread waits, with a timeout or without, where it waits
pub record HasTiming (home : TableId) (number : ℕ) (part : Part) : Type 0 where
  pub timed : Bool
  pub has : Has home (Timing number timed ∷ []) part

-- the lists of a bucket, where keys below the limit have titles
abbrev pub lists_in : ℕ → BucketState → Piece
lists_in limit bucket = TitledLists limit bucket.size bucket.place (standing_in bucket.nodes)

-- the node is one of a thread of this lot
abbrev pub IsBelow : ℕ → NodeFields → Type 0
IsBelow max_threads node = node.number < max_threads

-- the bucket's part has its lists, and its nodes are those of threads of the lot
pub record IsCell (home : TableId) (max_threads limit : ℕ) (cell : Cell) : Type 0 where
  pub part : Has home (lists_in limit cell.bucket ∷ []) cell.part
  pub below : All (IsBelow max_threads) cell.bucket.nodes

-- a bucket with its part, of this place of a row
pub record FitsCell (key : CellKey) (cell : Cell) : Type 0 where
  pub bucket : IsBucketAt key.place key.size cell.bucket
  pub own : IsCell (home_of key.home) key.max_threads key.limit cell

-- behind the lock of a place: its bucket, if the row is in use there
abbrev pub HoldsCell : CellKey → Option Cell → Type 0
HoldsCell key None = ⊤
HoldsCell key (Some cell) = FitsCell key cell

abbrev pub FitsSlot : CellKey → Slot → Type 0
FitsSlot key slot = HoldsCell key slot.cell

-- the lock is that of the bucket of this place in a row of the lot
pub record IsCellLock (home : TableId) (max_threads limit size place : ℕ) (lock : WordLock Slot CellKey) : Type 0 where
  pub at_place : (key_of lock).place ≡ place
  pub of_size : (key_of lock).size ≡ size
  pub for_threads : (key_of lock).max_threads ≡ max_threads
  pub for_limit : (key_of lock).limit ≡ limit
  pub of_lot : home_of (key_of lock).home ≡ home

-- a row of so many places of the lot, in order
pub record IsRow (home : TableId) (max_threads limit size : ℕ) (row : List (WordLock Slot CellKey)) : Type 0 where
  pub table : IsTableSize size
  pub count : length row ≡ size
  pub locks : EachAt (IsCellLock home max_threads limit size) 0 row

-- the lock is that of this place, in whatever row
abbrev pub IsLockAt : ℕ → List (WordLock Slot CellKey) → WordLock Slot CellKey → Type 0
IsLockAt place row lock = (home : TableId) (max_threads limit size : ℕ)
    → IsRow home max_threads limit size row → IsCellLock home max_threads limit size place lock

-- the tag of the slot of a row: which lot it is of, for how many threads, below which key keys have titles, and how
-- many places it has
abbrev pub row_tag : TableId → ℕ → ℕ → ℕ → List ℕ
row_tag home max_threads limit size = max_threads ∷ limit ∷ size ∷ home.words ∷ home.slots ∷ home.views_name ∷ home.atom ∷ home.block
    ∷ home.offset ∷ home.slot_names

-- the row in a slot is as its tag says
abbrev pub FitsTag : List ℕ → List (WordLock Slot CellKey) → Type 0
FitsTag (max_threads ∷ limit ∷ size ∷ words ∷ slots ∷ views_name ∷ atom ∷ block ∷ offset ∷ slot_names) row =
    IsRow (record {
      words = words;
      slots = slots;
      views_name = views_name;
      atom = atom;
      block = block;
      offset = offset;
      slot_names = slot_names;
    }) max_threads limit size row
FitsTag _ row = ⊥

-- the slots of the rows of a lot, by their sizes: of 16 places, of 32, and so on
abbrev pub IsSlotAt : TableId → ℕ → ℕ → ℕ → Named → Type 0
IsSlotAt home max_threads limit index slot = slot.tag ≡ row_tag home max_threads limit (2 ^ (index + 4))

pub record AreRows (home : TableId) (max_threads limit : ℕ) (rows : List Named) : Type 0 where
  pub count : length rows ≡ 13
  pub each : EachAt (IsSlotAt home max_threads limit) 0 rows

-- the slot of the first row is the one of which this number tells
abbrev pub IsFirst : ℕ → List Named → Type 0
IsFirst told [] = ⊥
IsFirst told (slot ∷ _) = told ≡ slot.id

-- threads that were taken, each with the token that its node has
abbrev pub thread_taken : NodeFields → Piece
thread_taken node = Thread node.number (Taken node.unpark_token)

abbrev pub threads_in : List NodeFields → List Piece
threads_in taken = map thread_taken taken

-- a bucket of the lot, of whose place the key is
pub record IsCellFor (history : History) (key : ℕ) (cell : Cell) : Type 0 where
  pub own : IsCell (id_of history) (max_threads_of history) (limit_of history) cell
  pub here : place_of key cell.bucket.size ≡ cell.bucket.place

-- what taking threads out of a bucket leaves: the bucket in its place, and the pieces of those threads with the witness
pub record TakesFrom (history : History) (old new : Cell) (taken : List NodeFields) (me : Witness) : Type 0 where
  pub pieces : pieces_of me ≡ threads_in taken
  pub cell : IsCell (id_of history) (max_threads_of history) (limit_of history) new
  pub place : KeepsPlace old.bucket new.bucket
  pub below : All (IsBelow (max_threads_of history)) taken

-- the letter beside the node of a thread that was taken has the thread's piece
abbrev pub FitsLetter : Part → NodeFields → Letter → Type 0
FitsLetter home node letter = Has (home_of home) (thread_taken node ∷ []) letter.part

-- a witness that has added nothing and has no piece
pub record IsFresh (home : TableId) (witness : Witness) : Type 0 where
  pub table : witness.seat.table_id ≡ home
  pub slots : witness.seat.me.1 ≡ []
  pub nothing_added : events_of witness ≡ []
  pub no_pieces : pieces_of witness ≡ []

-- which numbers are registered
abbrev pub numbers_in : List Use → Piece
numbers_in numbers = Numbers (map is_in_use numbers)

-- how many buckets the row in use has
abbrev pub size_in : Registry → ℕ
size_in registry = 2 ^ (registry.row + 4)

-- the registry of a lot for so many threads: the row in use has three buckets for each that is registered
pub record IsRegistry (home : TableId) (max_threads : ℕ) (registry : Registry) : Type 0 where
  pub few : max_threads ≤ MAX_THREADS
  pub count : length registry.numbers ≡ max_threads
  pub part : Has home (numbers_in registry.numbers ∷ []) registry.part
  pub witness : IsFresh home registry.witness
  pub row : registry.row < 13
  pub room : 3 * count_registered registry.numbers ≤ size_in registry

-- behind the lock of the registry
abbrev pub FitsRegistry : RegistryKey → Registry → Type 0
FitsRegistry key registry = IsRegistry (home_of key.home) key.max_threads registry

-- the lock is that of the lot's registry
pub record IsRegistryLock (home : TableId) (max_threads : ℕ) (lock : WordLock Registry RegistryKey) : Type 0 where
  pub for_threads : (key_of lock).max_threads ≡ max_threads
  pub of_lot : home_of (key_of lock).home ≡ home

-- two locks are those of different buckets of one row
pub record AreApart (lock other : WordLock Slot CellKey) : Type 0 where
  pub size : (key_of other).size ≡ (key_of lock).size
  pub places : (key_of other).place ≢ (key_of lock).place

-- the lock is that of the key's bucket in a lot
pub record IsLockFor (history : History) (key : ℕ) (lock : WordLock Slot CellKey) : Type 0 where
  pub for_key : place_of key (key_of lock).size ≡ (key_of lock).place
  pub for_threads : (key_of lock).max_threads ≡ max_threads_of history
  pub for_limit : (key_of lock).limit ≡ limit_of history
  pub of_lot : home_of (key_of lock).home ≡ id_of history
