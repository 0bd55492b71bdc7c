-- Which numbers are registered, as the history's piece has it.
use Rattle.std.proofs.Common.{◌≡◌, ℕ, zero, suc, ◌<◌, Bool, true, false, List, [], ◌∷◌, Some, cond, length, map, get_or, replicate}
use Rattle.std.proofs.Common.{slice_get, slice_set, refl, sym, ap, ◌∙◌, subst, arith}
use Rattle.std.proofs.lemmas.List.{get_or-map, length-map, map-set}
use Rattle.std.proofs.lemmas.List.Folds.{sum_by-replicate}
use Rattle.std.proofs.lemmas.Option.{get_or_from_slice_get, slice_get-get_or, slice_get_within}
use Rattle.lot_machine.specs.declared.numbers.Use.{Use}
use Rattle.lot_machine.specs.declared.numbers.Use.TheVariants.{Free, Registered}
use Rattle.lot_machine.specs.Numbers.{IsLeastUnregistered, count_registered, is_in_use}
use Rattle.lot_machine.proofs.NumberLemmas.{count_registered-free}
use Rattle.lot_history.specs.declared.view.Piece.{Piece}
use Rattle.lot_history.specs.declared.view.Piece.TheVariants.{Numbers}
use Rattle.lot_history.specs.Pieces.{IsOneMore, has_number}
use Rattle.lot_history.proofs.NumberLemmas.{one_more_set}
use Rattle.lot_threads.specs.Cells.{numbers_in}
use Rattle.lot_threads.specs.Rows.{free_numbers}

-- whether a number is registered, by its use
pub use_at : (numbers : List Use) (k : ℕ) (found : Use) → slice_get numbers k ≡ Some found
    → has_number (map is_in_use numbers) k ≡ is_in_use found
use_at numbers k found is =
    get_or-map is_in_use numbers k found false (slice_get_within numbers k found is)
    ∙ ap is_in_use (get_or_from_slice_get numbers k found found is)

-- of so many free numbers none is registered
none_in_use : (count : ℕ) → map is_in_use (replicate count Free) ≡ replicate count false
none_in_use zero = refl
none_in_use (suc count) = ap (λ (rest : List Bool). false ∷ rest) (none_in_use count)

pub free_so : (count : ℕ) (numbers : List Use) → numbers ≡ replicate count Free
    → ◌≡◌ {A = List Piece} (free_numbers count ∷ []) (numbers_in numbers ∷ [])
free_so count numbers free =
    ap (λ (uses : List Bool). Numbers uses ∷ [])
    (sym (ap (λ (those : List Use). map is_in_use those) free ∙ none_in_use count))

pub none_registered : (count : ℕ) (numbers : List Use) → numbers ≡ replicate count Free
    → count_registered numbers ≡ 0
none_registered count numbers free =
    ap count_registered free ∙ (sum_by-replicate (λ number. cond (is_in_use number) 1 0) count Free ∙ omega arith)

-- the least free number is registered
pub one_more_registered : (numbers : List Use) (number : ℕ) → IsLeastUnregistered numbers number
    → IsOneMore (map is_in_use numbers) number (map is_in_use (slice_set numbers number Registered))
one_more_registered numbers number least =
    let low = slice_get_within numbers number Free least.free in
    subst (λ (uses : List Bool). IsOneMore (map is_in_use numbers) number uses)
    (sym (map-set is_in_use numbers number Registered))
    (one_more_set (map is_in_use numbers) number (omega (arith, low, length-map numbers is_in_use))
    (use_at numbers number Free least.free))

-- where as many are registered as there are, each is
either_use : (numbers : List Use) (k : ℕ) (found : Use) → slice_get numbers k ≡ Some found
    → count_registered numbers ≡ length numbers → has_number (map is_in_use numbers) k ≡ true
either_use numbers k Registered is all = use_at numbers k Registered is
either_use numbers k Free is all = absurd (let fewer = count_registered-free numbers k is in omega (arith, all))

pub all_in_use : (numbers : List Use) (k : ℕ) → k < length numbers → count_registered numbers ≡ length numbers
    → has_number (map is_in_use numbers) k ≡ true
all_in_use numbers k low all =
    either_use numbers k (get_or numbers k Free) (slice_get-get_or numbers k Free low) all
