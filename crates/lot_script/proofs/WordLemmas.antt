-- The words of a line, cut at its blanks.
use Rattle.std.proofs.Common.{◌≡◌, ℕ, ◌==◌, ◌≤◌, ◌<◌, ◌^◌, ◌+◌, ◌-◌, Bool, true, false, cond, List, [], ◌∷◌}
use Rattle.std.proofs.Common.{length, map, take, drop, get_or, if◌then◌else◌, not, Some, None}
use Rattle.std.proofs.Common.{position, refl, sym, ap, ◌∙◌, arith}
use Rattle.std.specs.Prelude.{decimal, All}
use Rattle.std.specs.List.{onto_first, join_with_byte, position_or_len, AllByRecursion}
use Rattle.std.specs.Str.{bytes_eq}
use Rattle.std.proofs.lemmas.Bool.{ne_eqb, false≢true}
use Rattle.std.proofs.lemmas.Slice.Eq.{bytes_eq-Decides}
use Rattle.std.proofs.lemmas.List.Splits.{slice_split_none, slice_split_at, slice_split_first}
use Rattle.std.proofs.lemmas.List.Splits.{join_with_byte-slice_split}
use Rattle.std.proofs.lemmas.Option.{cond_some}
use Rattle.std.proofs.lemmas.List.{take_rest}
use borrow.Author.Tests.{ltb-true, ltb-false}
use Rattle.std.proofs.lemmas.Fmt.{digits_decimal}
use Rattle.std.proofs.lemmas.Str.Parse.{numerals_by_value, tells_by_index}
use Rattle.std.proofs.lemmas.List.Elements.{All-from_get_or, All-from_recursion}
use Rattle.lot_script.specs.declared.script.input.TheConstants.{MAX_LINE}
use Rattle.lot_script.specs.Words.{Word, name, number, word_text, HasUsize, IsLine}
use Rattle.lot_script.specs.Private.Parsing.{texts_in, AreWords}

abbrev pub is_blank : ℕ → Bool
is_blank byte = byte == 32

-- no byte of a text is a blank
abbrev pub HasNoBlank : List ℕ → Type 0
HasNoBlank text = All (λ byte. is_blank byte ≡ false) text

-- texts without blanks, joined by blanks, are cut into those texts
pub texts_in-join : (text : List ℕ) (texts : List (List ℕ)) → AllByRecursion HasNoBlank (text ∷ texts)
    → texts_in (join_with_byte 32 (text ∷ texts)) ≡ text ∷ texts
texts_in-join text [] none = slice_split_none is_blank text none.0
texts_in-join text (next ∷ texts) none =
    slice_split_at is_blank text 32 (join_with_byte 32 (next ∷ texts)) none.0 refl
    ∙ ap (λ (rest : List (List ℕ)). text ∷ rest) (texts_in-join next texts none.1)

-- a text is at least one
onto_first-nonempty : (byte : ℕ) (texts : List (List ℕ)) → onto_first byte texts ≡ [] → ⊥
onto_first-nonempty byte [] e = cc e
onto_first-nonempty byte (text ∷ texts) e = cc e

nonempty_by : (first : Bool) (byte : ℕ) (texts : List (List ℕ)) → cond first ([] ∷ texts)
    (onto_first byte texts) ≡ [] → ⊥
nonempty_by true byte texts e = cc e
nonempty_by false byte texts e = onto_first-nonempty byte texts e

pub texts_in-nonempty : (bytes : List ℕ) → texts_in bytes ≡ [] → ⊥
texts_in-nonempty [] e = cc e
texts_in-nonempty (byte ∷ bytes) e = nonempty_by (is_blank byte) byte (texts_in bytes) e

-- the first text ends at the first blank
pub texts_in-at : (bytes : List ℕ) (end : ℕ) → position is_blank bytes ≡ Some end
    → texts_in bytes ≡ take end bytes ∷ texts_in (take (length bytes - (end + 1)) (drop (end + 1) bytes))
texts_in-at bytes end found =
    let (within, at) = cond_some _ _ _ found in
    slice_split_first is_blank bytes 0 (ltb-true _ _ within)
    ∙ ap (λ i. take i bytes ∷ texts_in (drop (i + 1) bytes)) at
    ∙ ap (λ (rest : List ℕ). take end bytes ∷ texts_in rest) (sym (take_rest bytes (end + 1)))

-- and is all where there is none
uncut_by : (first : Bool) (byte : ℕ) (bytes : List ℕ) (texts : List (List ℕ))
    → length (byte ∷ bytes) ≤ cond first 0 (1 + position_or_len is_blank bytes)
    → (length bytes ≤ position_or_len is_blank bytes → texts ≡ bytes ∷ [])
    → cond first ([] ∷ texts) (onto_first byte texts) ≡ (byte ∷ bytes) ∷ []
uncut_by true byte bytes texts over rest = absurd (omega arith)
uncut_by false byte bytes texts over rest = ap (onto_first byte) (rest (omega arith))

longer : (first : Bool) (n m : ℕ) → m ≤ cond (not first) (1 + n) 0 → m ≤ cond first 0 (1 + n)
longer true n m past = past
longer false n m past = past

uncut : (bytes : List ℕ) → length bytes ≤ position_or_len is_blank bytes → texts_in bytes ≡ bytes ∷ []
uncut [] past = refl
uncut (byte ∷ bytes) past =
    uncut_by (is_blank byte) byte bytes (texts_in bytes)
    (longer (is_blank byte) (position_or_len is_blank bytes) (length (byte ∷ bytes)) past) (uncut bytes)

cond_none : {A : Type 0} (b : Bool) (x : A) → cond b (Some x) None ≡ None → b ≡ false
cond_none true x e = absurd (cc e)
cond_none false x e = refl

pub texts_in-none : (bytes : List ℕ) → position is_blank bytes ≡ None → texts_in bytes ≡ bytes ∷ []
texts_in-none bytes none = uncut bytes (ltb-false _ _ (cond_none _ _ none))

-- a number has no blank
HasNoBlank-decimal : (n : ℕ) → n < 2 ^ 64 → HasNoBlank (decimal n)
HasNoBlank-decimal n fits =
    let digits = digits_decimal (numerals_by_value _ tells_by_index) n fits in
    All-from_get_or (λ byte. is_blank byte ≡ false) (decimal n) 0
    (λ i within. ne_eqb _ 32 (λ blank. absurd (omega (arith, (digits i within).0, blank))))

-- a name has no blank, by a test that computes
abbrev pub has_no_blank : List ℕ → Bool
has_no_blank [] = true
has_no_blank (byte ∷ text) = if is_blank byte then false else has_no_blank text

tests : (first rest : Bool) → (if first then false else rest) ≡ true → (first ≡ false) × (rest ≡ true)
tests true rest e = absurd (cc e)
tests false rest e = (refl, e)

by_test : (text : List ℕ) → has_no_blank text ≡ true → AllByRecursion (λ byte. is_blank byte ≡ false) text
by_test [] e = tt
by_test (byte ∷ text) e =
    let parts = tests (is_blank byte) (has_no_blank text) e in
    (parts.0, by_test text parts.1)

-- a word whose name has no blank
abbrev pub IsUncut : Word → Type 0
IsUncut (name text) = has_no_blank text ≡ true
IsUncut (number n) = Unit {0}

HasNoBlank-word : (word : Word) → HasUsize word → IsUncut word → HasNoBlank (word_text word)
HasNoBlank-word (name text) fits uncut = All-from_recursion (λ byte. is_blank byte ≡ false) text (by_test text uncut)
HasNoBlank-word (number n) fits uncut = HasNoBlank-decimal n fits

HasNoBlank-words : (words : List Word) → AllByRecursion HasUsize words → AllByRecursion IsUncut words
    → AllByRecursion HasNoBlank (map word_text words)
HasNoBlank-words [] fit uncut = tt
HasNoBlank-words (word ∷ words) fit uncut =
    (HasNoBlank-word word fit.0 uncut.0, HasNoBlank-words words fit.1 uncut.1)

-- a line has the words into which it is cut
pub IsLine-from_texts : (words : List Word) (line : List ℕ) → length line ≤ MAX_LINE → AreWords words (texts_in line)
    → IsLine words line
IsLine-from_texts words line short cut = record {
  short = short;
  numbers = cut.numbers;
  text = sym (join_with_byte-slice_split 32 line) ∙ ap (join_with_byte 32) cut.texts;
}

-- and it is cut into the words that it has
pub texts-from_IsLine : (word : Word) (words : List Word) (line : List ℕ) → AllByRecursion IsUncut (word ∷ words)
    → IsLine (word ∷ words) line → AreWords (word ∷ words) (texts_in line)
texts-from_IsLine word words line uncut is_line = record {
  numbers = is_line.numbers;
  texts = ap texts_in is_line.text
      ∙ texts_in-join (word_text word) (map word_text words)
      (HasNoBlank-words (word ∷ words) is_line.numbers uncut);
}

-- texts that begin with neither of two words
pub begins_with_neither : (word one two : List ℕ) (rest : List (List ℕ)) → bytes_eq word one ≡ false
    → bytes_eq word two ≡ false → (b : Bool) (texts : List (List ℕ)) → word ∷ rest ≡ (if b then one else two) ∷ texts
    → ⊥
begins_with_neither word one two rest not_one not_two true texts same =
    false≢true (sym not_one ∙ (bytes_eq-Decides word one).1 (ap (λ l. get_or l 0 []) same))
begins_with_neither word one two rest not_one not_two false texts same =
    false≢true (sym not_two ∙ (bytes_eq-Decides word two).1 (ap (λ l. get_or l 0 []) same))
