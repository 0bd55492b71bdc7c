-- The words of a line while it is parsed.
use Rattle.std.specs.Prelude.{◌≡◌, ℕ, ◌==◌, List, [], ◌∷◌, map, codes, Option, Some, None}
use Rattle.std.specs.List.{slice_split, AllByRecursion}
use denote.Ref.{Bor}
use Rattle.lot_machine.specs.declared.step.Op.TheVariants as op
use Rattle.lot_machine.specs.declared.step.Step.TheVariants as step
use Rattle.lot_script.specs.declared.script.command.Command.{Command}
use Rattle.lot_script.specs.declared.script.command.Command.TheVariants as command
use Rattle.lot_script.specs.declared.script.keyword.Keyword.{Keyword}
use Rattle.lot_script.specs.declared.script.keyword.Keyword.TheVariants as keyword
use Rattle.lot_script.specs.Words.{Word, name, number, word_text, HasUsize, yes_or_no, timed_or_untimed}
use Rattle.lot_script.specs.Command.{decisions_text, requeue_text}

-- the texts between the blanks
abbrev pub texts_in : List ℕ → List (List ℕ)
texts_in bytes = slice_split (λ byte. byte == 32) bytes

-- the texts that are left of a line: none, or those of what stands behind a blank
abbrev pub texts_left : Option (Bor (List ℕ)) → List (List ℕ)
texts_left None = []
texts_left (Some rest) = texts_in rest.now

-- the texts are those of these words
pub record AreWords (words : List Word) (pieces : List (List ℕ)) : Type 0 where
  pub numbers : AllByRecursion HasUsize words
  pub texts : pieces ≡ map word_text words

-- the first word of a line
abbrev pub keyword_text : Keyword → List ℕ
keyword_text keyword.Register = codes "register"
keyword_text keyword.Retire = codes "retire"
keyword_text keyword.Enter = codes "enter"
keyword_text keyword.One = codes "one"
keyword_text keyword.All = codes "all"
keyword_text keyword.Filter = codes "filter"
keyword_text keyword.Requeue = codes "requeue"
keyword_text keyword.Deadline = codes "deadline"
keyword_text keyword.Resolve = codes "resolve"
keyword_text keyword.Return = codes "return"
keyword_text keyword.Acquire = codes "acquire"
keyword_text keyword.Release = codes "release"
keyword_text keyword.Trim = codes "trim"
keyword_text keyword.Records = codes "records"
keyword_text keyword.List = codes "list"
keyword_text keyword.Size = codes "size"

abbrev pub keyword_of : Command → Keyword
keyword_of (command.Do step.Register) = keyword.Register
keyword_of (command.Do (step.Retire _)) = keyword.Retire
keyword_of (command.Do (step.Enter _ _ _ _ _)) = keyword.Enter
keyword_of (command.Do (step.Unpark (op.One _ _))) = keyword.One
keyword_of (command.Do (step.Unpark (op.All _ _))) = keyword.All
keyword_of (command.Do (step.Unpark (op.Filter _ _ _))) = keyword.Filter
keyword_of (command.Do (step.Unpark (op.Requeue _ _ _ _))) = keyword.Requeue
keyword_of (command.Do (step.Deadline _)) = keyword.Deadline
keyword_of (command.Do (step.Resolve _)) = keyword.Resolve
keyword_of (command.Do (step.Return _)) = keyword.Return
keyword_of (command.Do (step.Acquire _ _)) = keyword.Acquire
keyword_of (command.Do (step.Release _ _)) = keyword.Release
keyword_of (command.Do step.Trim) = keyword.Trim
keyword_of (command.List _) = keyword.List
keyword_of (command.Records _ _) = keyword.Records
keyword_of command.Size = keyword.Size

-- the words behind it
abbrev pub arguments_of : Command → List Word
arguments_of (command.Do step.Register) = []
arguments_of (command.Do (step.Retire thread)) = number thread ∷ []
arguments_of (command.Do (step.Enter thread key valid park_token timed)) =
    number thread ∷ number key ∷ yes_or_no valid ∷ number park_token.0 ∷ timed_or_untimed timed ∷ []
arguments_of (command.Do (step.Unpark (op.One key token))) = number key ∷ number token.0 ∷ []
arguments_of (command.Do (step.Unpark (op.All key token))) = number key ∷ number token.0 ∷ []
arguments_of (command.Do (step.Unpark (op.Filter key decisions token))) =
    number key ∷ name (decisions_text decisions.items) ∷ number token.0 ∷ []
arguments_of (command.Do (step.Unpark (op.Requeue from to which token))) =
    number from ∷ number to ∷ name (requeue_text which) ∷ number token.0 ∷ []
arguments_of (command.Do (step.Deadline thread)) = number thread ∷ []
arguments_of (command.Do (step.Resolve thread)) = number thread ∷ []
arguments_of (command.Do (step.Return thread)) = number thread ∷ []
arguments_of (command.Do (step.Acquire thread key)) = number thread ∷ number key ∷ []
arguments_of (command.Do (step.Release thread key)) = number thread ∷ number key ∷ []
arguments_of (command.Do step.Trim) = []
arguments_of (command.Records thread key) = number thread ∷ number key ∷ []
arguments_of (command.List key) = number key ∷ []
arguments_of command.Size = []

-- the texts are those of a command that begins with this keyword
pub record HasArguments (first : Keyword) (pieces : List (List ℕ)) (command : Command) : Type 0 where
  pub keyword : keyword_of command ≡ first
  pub words : AreWords (arguments_of command) pieces
