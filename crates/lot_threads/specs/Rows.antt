-- Lists of which each item has its number, and the pieces of a new machine, cut up for a row of buckets.
use Rattle.std.specs.Prelude.{ℕ, zero, suc, ◌+◌, false, replicate, List, [], ◌∷◌, ⊤}
use Rattle.lot_history.specs.declared.view.Piece.{Piece}
use Rattle.lot_history.specs.declared.view.Piece.TheVariants.{TitledLists, Numbers, Undealt}

-- of each item, with its number, where the first has this number
abbrev pub EachAt : {A : Type 0} → (ℕ → A → Type 0) → ℕ → List A → Type 0
EachAt P number [] = ⊤
EachAt P number (item ∷ items) = P number item × EachAt P (number + 1) items

-- the empty lists of so many places of a table, from this one on, before other pieces
abbrev pub empty_lists : ℕ → ℕ → ℕ → ℕ → List Piece → List Piece
empty_lists limit size place zero others = others
empty_lists limit size place (suc count) others =
    TitledLists limit size place [] ∷ empty_lists limit size (place + 1) count others

-- so many numbers, none of them registered
abbrev pub free_numbers : ℕ → Piece
free_numbers max_threads = Numbers (replicate max_threads false)

-- the other pieces of a new machine, where the keys below the limit have titles: those are still to be dealt
abbrev pub other_pieces : ℕ → ℕ → List Piece
other_pieces max_threads limit = Undealt 0 limit ∷ free_numbers max_threads ∷ []
