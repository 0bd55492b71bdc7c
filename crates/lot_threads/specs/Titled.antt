-- Titles of keys as contracts see them, and threads in the lists of such keys.
use Rattle.std.specs.Prelude.{◌≡◌, ◌==◌, ℕ, ◌<◌, List, [], ◌∷◌, Contains}
use Rattle.atomic_table.specs.Seated.{TableId}
use Rattle.lot_base.specs.BucketState.{BucketState}
use Rattle.lot_base.specs.Waiting.{split_first, without_first}
use Rattle.lot_history.specs.Pieces.{standing_in}
use Rattle.lot_history.specs.Titles.{deal, title_of}
use Rattle.lot_history.specs.Witness.{IsStill, IsWitnessOf, deals_in, events_of, id_of, max_threads_of, pieces_in, pieces_of, seen_by}
use Rattle.lot_history.specs.declared.history.History.{History}
use Rattle.lot_history.specs.declared.history.Part.{Part}
use Rattle.lot_history.specs.declared.history.Witness.{Witness}
use Rattle.lot_history.specs.declared.view.Piece.{Piece}
use Rattle.lot_history.specs.declared.view.Piece.TheVariants as piece
use Rattle.lot_history.specs.declared.view.Piece.TheVariants.{Records}
use Rattle.lot_threads.specs.Cells.{Has, HasTiming}
use Rattle.lot_threads.specs.Members.{ThreadDataState}
use Rattle.lot_threads.specs.declared.title.Title.{Title}

-- the numbers of the threads of which a title among these pieces tells, in order
abbrev pub told_in : List Piece → List ℕ
told_in (piece.Title key numbers ∷ pieces) = numbers
told_in _ = []

abbrev pub told_by : Title → List ℕ
told_by title = told_in (pieces_in title.part)

-- it is the title of the key in this history, and tells of threads of which it was told
pub record IsTitle (history : History) (key : ℕ) (title : Title) : Type 0 where
  pub has : Has (id_of history) (piece.Title key (told_by title) ∷ []) title.part

-- it was dealt for the table of this lock
abbrev pub WasDealtFor : ℕ → TableId → Title → Type 0
WasDealtFor key home title = Contains (deals_in title.part) (deal key home)

-- the title of a key of a bucket
abbrev pub title_in : ℕ → BucketState → Piece
title_in key bucket = title_of key (standing_in bucket.nodes)

-- it is the same title after a step of its key, and tells of these threads now
pub record Retells (history : History) (key : ℕ) (old : Title) (numbers : List ℕ) (new : Title) : Type 0 where
  pub title : IsTitle history key new
  pub tells : told_by new ≡ numbers
  pub dealt : (home : TableId) → WasDealtFor key home old → WasDealtFor key home new

-- what the title tells once an unpark has taken the first, and once a thread has left
abbrev pub without_next : List ℕ → List ℕ
without_next numbers = (split_first numbers).left

abbrev pub without_one : ℕ → List ℕ → List ℕ
without_one number numbers = without_first (λ each. each == number) numbers

-- a critical section of a key as its owner has it: the history of its lot, and the key
pub record SectionState : Type 0 where
  pub history : History
  pub key : ℕ

-- a thread in the list of a key: its number, the key, the keys that it has recorded, and its witness
pub record EnteredState : Type 0 where
  pub number : ℕ
  pub key : ℕ
  pub records : List ℕ
  pub witness : Witness

-- its node and its piece are with the bucket, and it has the pieces of its records and of its timing
pub record IsEntered (own : ℕ) (keys : List ℕ) (records timing : Part) (witness : Witness) : Type 0 where
  pub has_recorded : Has witness.seat.table_id (Records own keys ∷ []) records
  pub has_timing : HasTiming witness.seat.table_id own timing
  pub no_pieces : pieces_of witness ≡ []

-- it is a thread of the lot that has this history
pub record IsEnteredIn (history : History) (entered : EnteredState) : Type 0 where
  pub of_history : IsWitnessOf history entered.witness
  pub below : entered.number < max_threads_of history

-- the data is that of the thread in the list of this key
pub record IsSameThread (thread : ThreadDataState) (key : ℕ) (entered : EnteredState) : Type 0 where
  pub number : thread.number ≡ entered.number
  pub records : thread.records ≡ entered.records
  pub on_key : entered.key ≡ key

-- the thread is the one that it was, and has neither seen nor added anything since
pub record IsStillEntered (history : History) (old new : EnteredState) : Type 0 where
  pub own : IsEnteredIn history new
  pub number : new.number ≡ old.number
  pub key : new.key ≡ old.key
  pub records : new.records ≡ old.records
  pub still : IsStill history old.witness new.witness
  pub seen : seen_by new.witness ≡ seen_by old.witness
  pub nothing_added : events_of new.witness ≡ events_of old.witness
