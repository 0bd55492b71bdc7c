-- Handles of threads that are still to be woken.
use Rattle.std.specs.Prelude.{ℕ, ◌+◌, List, [], ◌∷◌, Option, Some, None}
use Rattle.lot_threads.specs.declared.shared_lot.handles.Pair.{Pair}

-- the number of the thread that a handle is for, if there is one
abbrev pub handle_numbers : {H : Type 0} → (H → ℕ) → Option H → List ℕ
handle_numbers number None = []
handle_numbers number (Some handle) = number handle ∷ []

-- how many handles are kept: in an option, in a pair of rooms, and in the room of an unpark, for eight
abbrev pub kept_in_option : {H : Type 0} → Option H → ℕ
kept_in_option None = 0
kept_in_option (Some _) = 1

abbrev pub kept_in_pair : {R : Type 0} → (R → ℕ) → Pair R → ℕ
kept_in_pair kept pair = kept pair.first + kept pair.second

abbrev pub kept_handles : {H : Type 0} → Pair (Pair (Pair (Option H))) → ℕ
kept_handles handles = kept_in_pair (kept_in_pair (kept_in_pair kept_in_option)) handles
