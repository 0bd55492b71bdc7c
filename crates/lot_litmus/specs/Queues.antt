-- The queue that a search keeps, as a list, and its parts.
use Rattle.std.specs.Prelude.{◌≡◌, ℕ, ◌/◌, ◌%◌, ◌==◌, ◌||◌, Bool, true, false, List, [], ◌∷◌, take}
use Rattle.lot_base.specs.Waiting.{Split, without_first}
use Rattle.lot_litmus.specs.declared.queue.Entry.{Entry}
use Rattle.lot_litmus.specs.declared.queue.Queue.{Queue}
use Rattle.lot_litmus.specs.declared.queue.Parts.{Parts}

abbrev pub entries_of : Queue → List Entry
entries_of queue = take queue.length queue.entries

-- whether a thread is there, and those there without it
abbrev pub has_thread : ℕ → List Entry → Bool
has_thread thread [] = false
has_thread thread (entry ∷ entries) = entry.thread.number == thread || has_thread thread entries

abbrev pub without_thread : ℕ → List Entry → List Entry
without_thread thread entries = without_first (λ entry. entry.thread.number == thread) entries

-- those whose bits are in the first number are taken, of the others those whose bits are in the second are moved
abbrev pub placed : {A : Type 0} → Bool → Bool → A → Split A → Split A
placed true _ x rest = record rest { taken = x ∷ rest.taken }
placed false true x rest = record rest { moved = x ∷ rest.moved }
placed false false x rest = record rest { left = x ∷ rest.left }

abbrev pub with_part : {A : Type 0} → ℕ → ℕ → A → Split A → Split A
with_part taken moved x rest = placed (taken % 2 == 1) (moved % 2 == 1) x rest

abbrev pub no_parts : {A : Type 0} → Split A
no_parts = record { taken = []; moved = []; left = [] }

abbrev pub parted : {A : Type 0} → ℕ → ℕ → List A → Split A
parted taken moved [] = no_parts
parted taken moved (x ∷ xs) = with_part taken moved x (parted (taken / 2) (moved / 2) xs)

-- the parts are these
pub record Parted (parts : Parts) (split : Split Entry) : Type 0 where
  pub taken : entries_of parts.taken ≡ split.taken
  pub moved : entries_of parts.moved ≡ split.moved
  pub left : entries_of parts.left ≡ split.left
