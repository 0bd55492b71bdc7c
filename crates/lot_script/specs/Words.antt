-- Words, and lines of words.
use Rattle.std.specs.Prelude.{◌≡◌, ℕ, ◌<◌, ◌≤◌, ◌^◌, Bool, if◌then◌else◌, List, length, map, ⊤, codes, decimal}
use Rattle.std.specs.List.{join_with_byte, AllByRecursion}
use Rattle.lot_script.specs.declared.script.input.TheConstants.{MAX_LINE}

-- a word is a name, or a number. A name may be any bytes: which names there are say the words of each form
pub data Word : Type 0 where
  name : List ℕ → Word
  number : ℕ → Word

-- a number is written in decimal, without leading zeros
abbrev pub word_text : Word → List ℕ
word_text (name text) = text
word_text (number n) = decimal n

-- the words, with one blank between two
abbrev pub line_of : List Word → List ℕ
line_of words = join_with_byte 32 (map word_text words)

-- a number that a word can have
abbrev pub HasUsize : Word → Type 0
HasUsize (name text) = ⊤
HasUsize (number n) = n < 2 ^ 64

-- a line that is read has these words
pub record IsLine (words : List Word) (line : List ℕ) : Type 0 where
  pub short : length line ≤ MAX_LINE
  pub numbers : AllByRecursion HasUsize words
  pub text : line ≡ line_of words

abbrev pub yes_or_no : Bool → Word
yes_or_no b = name (if b then codes "yes" else codes "no")

abbrev pub true_or_false : Bool → Word
true_or_false b = name (if b then codes "true" else codes "false")

abbrev pub timed_or_untimed : Bool → Word
timed_or_untimed b = name (if b then codes "timed" else codes "untimed")
