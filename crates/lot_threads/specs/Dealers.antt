-- The titles of a lot that are still to be dealt.
use Rattle.std.specs.Prelude.{◌≡◌, ℕ, ◌<◌, [], ◌∷◌}
use Rattle.atomic_table.specs.Seated.{TableId}
use Rattle.lot_history.specs.Witness.{limit_of}
use Rattle.lot_history.specs.declared.history.History.{History}
use Rattle.lot_history.specs.declared.view.Piece.TheVariants.{Undealt}
use Rattle.lot_word_lock.specs.WordLock.{key_of}
use Rattle.lot_word_lock.specs.declared.word_lock.WordLock.{WordLock}
use Rattle.lot_threads.specs.Cells.{Has, IsFresh, home_of}
use Rattle.lot_threads.specs.Titled.{IsTitle, WasDealtFor, told_by}
use Rattle.lot_threads.specs.declared.dealer.Dealer.{Dealer}
use Rattle.lot_threads.specs.declared.dealer.DealerKey.{DealerKey}
use Rattle.lot_threads.specs.declared.title.Title.{Title}

-- the titles of the keys from the next on, up to the limit, with a witness that deals them
pub record IsDealer (home : TableId) (limit : ℕ) (dealer : Dealer) : Type 0 where
  pub part : Has home (Undealt dealer.next limit ∷ []) dealer.part
  pub witness : IsFresh home dealer.witness

-- behind the lock of a lot's dealer
abbrev pub FitsDealer : DealerKey → Dealer → Type 0
FitsDealer key dealer = IsDealer (home_of key.home) key.limit dealer

-- the lock is that of the lot's dealer
pub record IsDealerLock (home : TableId) (limit : ℕ) (lock : WordLock Dealer DealerKey) : Type 0 where
  pub for_limit : (key_of lock).limit ≡ limit
  pub of_lot : home_of (key_of lock).home ≡ home

-- the title of a key below the limit was dealt for the table of this lock, and nobody stands in its list
pub record IsDealt (history : History) (home : TableId) (key : ℕ) (title : Title) : Type 0 where
  pub below : key < limit_of history
  pub is_title : IsTitle history key title
  pub nobody : told_by title ≡ []
  pub dealt : WasDealtFor key home title
