-- Numbers in a line.
use Rattle.std.proofs.Common.{◌≡◌, ℕ, ◌<◌, ◌+◌, List, [], ◌∷◌, ◌++◌, length, map, take, drop, get_or, sym, ap, ◌∙◌}
use Rattle.std.proofs.Common.{take-append-drop, append-nil}
use Rattle.std.specs.Prelude.{decimal}
use Rattle.std.specs.List.{flat_map, join_with_byte}
use Rattle.std.proofs.lemmas.List.{drop_more}
use Rattle.std.proofs.lemmas.List.Concat.{flat_map-append}
use Rattle.lot_script.specs.Words.{name, number, word_text, line_of}

-- a blank, and the number
abbrev pub blank_before : ℕ → List ℕ
blank_before n = 32 ∷ decimal n

join_numbers : (text : List ℕ) (numbers : List ℕ)
    → join_with_byte 32 (text ∷ map word_text (map number numbers)) ≡ text ++ flat_map blank_before numbers
join_numbers text [] = sym (append-nil text)
join_numbers text (n ∷ numbers) = ap (λ (t : List ℕ). text ++ (32 ∷ t)) (join_numbers (decimal n) numbers)

pub line_of-numbers : (text : List ℕ) (numbers : List ℕ)
    → line_of (name text ∷ map number numbers) ≡ text ++ flat_map blank_before numbers
line_of-numbers text numbers = join_numbers text numbers

-- the numbers before a place, the one there, and those behind it
pub flat_map-cut : (numbers : List ℕ) (i : ℕ) → i < length numbers
    → flat_map blank_before numbers ≡ flat_map blank_before (take i numbers)
    ++ (blank_before (get_or numbers i 0) ++ flat_map blank_before (drop (i + 1) numbers))
flat_map-cut numbers i within =
    ap (flat_map blank_before) (sym (take-append-drop i numbers))
    ∙ flat_map-append blank_before (take i numbers) (drop i numbers)
    ∙ ap (λ (l : List ℕ). flat_map blank_before (take i numbers) ++ flat_map blank_before l)
    (drop_more numbers i 0 within)
