use Rattle.std.proofs.Common.{◌≡◌, ℕ, ◌<◌, ◌^◌, drop, get_or}
use Rattle.std.specs.Int.{IsInRange}
use Rattle.lot_script.proofs.NumberLemmas.{value_behind}
use Rattle.lot_script.proofs.script.words.number_of.Given as goal

-- the digits so far give the number, and the others are behind it
abbrev pub invariant-loop-byte : goal.invariant-loop-byte
invariant-loop-byte l =
    (value_behind l.number (drop l.byte-index l.word) ≡ value_behind 0 l.word)
    × ((i : ℕ) → i < l.byte-index → IsInRange 48 57 (get_or l.word i 0)) × (l.number < 2 ^ 64)
