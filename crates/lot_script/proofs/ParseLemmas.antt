-- From the words of a line to its command, and back.
use Rattle.std.proofs.Common.{◌≡◌, ℕ, ◌≤◌, Bool, true, false, List, [], ◌∷◌, length, map, if◌then◌else◌, Option, Some}
use Rattle.std.proofs.Common.{None, refl, sym, ap, ◌∙◌, subst}
use Rattle.std.specs.List.{AllByRecursion, find}
use Rattle.std.specs.Prelude.{codes, decimal}
use Rattle.std.proofs.Common.{get_or, ◌<◌, arith}
use Rattle.std.proofs.lemmas.Option.{same_Some}
use Rattle.std.proofs.lemmas.List.{get_or-map, length-map}
use Rattle.std.specs.Str.{bytes_eq}
use Rattle.std.specs.Prelude.{IfNone}
use Rattle.lot_base.specs.declared.token.FilterOp.{FilterOp}
use Rattle.lot_base.specs.declared.token.FilterOp.TheVariants as filter
use Rattle.lot_base.specs.declared.token.RequeueOp.{RequeueOp}
use Rattle.lot_base.specs.declared.token.RequeueOp.TheVariants as requeue
use Rattle.lot_machine.specs.declared.step.Op.{Op}
use Rattle.lot_machine.specs.declared.step.Op.TheVariants as op
use Rattle.lot_machine.specs.declared.step.Step.TheVariants as step
use Rattle.lot_script.specs.declared.script.command.Command.{Command}
use Rattle.lot_script.specs.declared.script.command.Command.TheVariants as command
use Rattle.lot_script.specs.declared.script.keyword.Keyword.{Keyword}
use Rattle.lot_script.specs.declared.script.keyword.Keyword.TheVariants as keyword
use Rattle.lot_script.specs.declared.script.input.TheConstants.{MAX_LINE}
use Rattle.lot_script.specs.Words.{name, number, word_text, IsLine, yes_or_no, timed_or_untimed}
use Rattle.lot_script.specs.Command.{lot_words, command_words, decisions_text, letter_of, requeue_text}
use Rattle.lot_script.specs.Private.Parsing.{texts_in, AreWords, keyword_text, keyword_of, arguments_of, HasArguments}
use Rattle.lot_script.proofs.WordLemmas.{IsUncut, has_no_blank, IsLine-from_texts, texts-from_IsLine}

-- the words of a command are its keyword and its arguments
command_words-parts : (c : Command) → command_words c ≡ name (keyword_text (keyword_of c)) ∷ arguments_of c
command_words-parts (command.Do step.Register) = refl
command_words-parts (command.Do (step.Retire _)) = refl
command_words-parts (command.Do (step.Enter _ _ _ _ _)) = refl
command_words-parts (command.Do (step.Unpark (op.One _ _))) = refl
command_words-parts (command.Do (step.Unpark (op.All _ _))) = refl
command_words-parts (command.Do (step.Unpark (op.Filter _ _ _))) = refl
command_words-parts (command.Do (step.Unpark (op.Requeue _ _ _ _))) = refl
command_words-parts (command.Do (step.Deadline _)) = refl
command_words-parts (command.Do (step.Resolve _)) = refl
command_words-parts (command.Do (step.Return _)) = refl
command_words-parts (command.Do (step.Acquire _ _)) = refl
command_words-parts (command.Do (step.Release _ _)) = refl
command_words-parts (command.Do step.Trim) = refl
command_words-parts (command.List _) = refl
command_words-parts (command.Records _ _) = refl
command_words-parts command.Size = refl

-- no name in a command has a blank
letters_uncut : (decisions : List FilterOp) → has_no_blank (map letter_of decisions) ≡ true
letters_uncut [] = refl
letters_uncut (filter.Unpark ∷ decisions) = letters_uncut decisions
letters_uncut (filter.Skip ∷ decisions) = letters_uncut decisions
letters_uncut (filter.Stop ∷ decisions) = letters_uncut decisions

decisions_uncut : (decisions : List FilterOp) → has_no_blank (decisions_text decisions) ≡ true
decisions_uncut [] = refl
decisions_uncut (decision ∷ decisions) = letters_uncut (decision ∷ decisions)

requeue_uncut : (which : RequeueOp) → has_no_blank (requeue_text which) ≡ true
requeue_uncut requeue.Abort = refl
requeue_uncut requeue.UnparkOneRequeueRest = refl
requeue_uncut requeue.RequeueAll = refl
requeue_uncut requeue.UnparkOne = refl
requeue_uncut requeue.RequeueOne = refl

choice_uncut : (b : Bool) (first second : List ℕ) → has_no_blank first ≡ true → has_no_blank second ≡ true
    → has_no_blank (if b then first else second) ≡ true
choice_uncut true first second p q = p
choice_uncut false first second p q = q

keyword_uncut : (k : Keyword) → has_no_blank (keyword_text k) ≡ true
keyword_uncut keyword.Register = refl
keyword_uncut keyword.Retire = refl
keyword_uncut keyword.Enter = refl
keyword_uncut keyword.One = refl
keyword_uncut keyword.All = refl
keyword_uncut keyword.Filter = refl
keyword_uncut keyword.Requeue = refl
keyword_uncut keyword.Deadline = refl
keyword_uncut keyword.Resolve = refl
keyword_uncut keyword.Return = refl
keyword_uncut keyword.Acquire = refl
keyword_uncut keyword.Release = refl
keyword_uncut keyword.Trim = refl
keyword_uncut keyword.Records = refl
keyword_uncut keyword.List = refl
keyword_uncut keyword.Size = refl

arguments_uncut : (c : Command) → AllByRecursion IsUncut (arguments_of c)
arguments_uncut (command.Do step.Register) = tt
arguments_uncut (command.Do (step.Retire _)) = (tt, tt)
arguments_uncut (command.Do (step.Enter _ _ valid _ timed)) = (
  tt,
  (
    tt,
    (
      choice_uncut valid (codes "yes") (codes "no") refl refl,
      (tt, (choice_uncut timed (codes "timed") (codes "untimed") refl refl, tt)),
    ),
  ),
)
arguments_uncut (command.Do (step.Unpark (op.One _ _))) = (tt, (tt, tt))
arguments_uncut (command.Do (step.Unpark (op.All _ _))) = (tt, (tt, tt))
arguments_uncut (command.Do (step.Unpark (op.Filter _ decisions _))) = (tt, (decisions_uncut decisions.items, (tt, tt)))
arguments_uncut (command.Do (step.Unpark (op.Requeue _ _ which _))) = (tt, (tt, (requeue_uncut which, (tt, tt))))
arguments_uncut (command.Do (step.Deadline _)) = (tt, tt)
arguments_uncut (command.Do (step.Resolve _)) = (tt, tt)
arguments_uncut (command.Do (step.Return _)) = (tt, tt)
arguments_uncut (command.Do (step.Acquire _ _)) = (tt, (tt, tt))
arguments_uncut (command.Do (step.Release _ _)) = (tt, (tt, tt))
arguments_uncut (command.Do step.Trim) = tt
arguments_uncut (command.Records _ _) = (tt, (tt, tt))
arguments_uncut (command.List _) = (tt, tt)
arguments_uncut command.Size = tt

-- a line that is cut into a keyword and its arguments is the command's
pub IsLine-command : (line word : List ℕ) (left : List (List ℕ)) (k : Keyword) (c : Command) → length line ≤ MAX_LINE
    → texts_in line ≡ word ∷ left → word ≡ keyword_text k → HasArguments k left c → IsLine (command_words c) line
IsLine-command line word left k c short cut first parts =
    IsLine-from_texts (command_words c) line short
    (subst (λ words. AreWords words (texts_in line)) (sym (command_words-parts c))
    (record {
      numbers = (tt, parts.words.numbers);
      texts = cut ∙ ap (λ (text : List ℕ). text ∷ left) (first ∙ ap keyword_text (sym parts.keyword))
          ∙ ap (λ (texts : List (List ℕ)). keyword_text (keyword_of c) ∷ texts) parts.words.texts;
    }))

-- and a command's line is cut so
pub command-IsLine : (line word : List ℕ) (left : List (List ℕ)) (c : Command) → texts_in line ≡ word ∷ left
    → IsLine (command_words c) line → (word ≡ keyword_text (keyword_of c)) × AreWords (arguments_of c) left
command-IsLine line word left c cut is_line =
    let whole = texts-from_IsLine (name (keyword_text (keyword_of c))) (arguments_of c) line
    (keyword_uncut (keyword_of c), arguments_uncut c)
    (subst (λ words. IsLine words line) (command_words-parts c) is_line) in
    let same : word ∷ left ≡ keyword_text (keyword_of c) ∷ map word_text (arguments_of c) = sym cut ∙ whole.texts in
    (cc same, record { numbers = whole.numbers.1; texts = cc same })

abbrev keywords : List Keyword
keywords =
    keyword.Register ∷ keyword.Retire ∷ keyword.Enter ∷ keyword.One ∷ keyword.All ∷ keyword.Filter
    ∷ keyword.Requeue ∷ keyword.Deadline ∷ keyword.Resolve ∷ keyword.Return ∷ keyword.Acquire
    ∷ keyword.Release ∷ keyword.Trim ∷ keyword.Records ∷ keyword.List ∷ keyword.Size ∷ []

-- a lookup by text finds each keyword
pub each_keyword : (k : Keyword) → find (λ other. bytes_eq (keyword_text other) (keyword_text k)) keywords ≡ Some k
each_keyword keyword.Register = refl
each_keyword keyword.Retire = refl
each_keyword keyword.Enter = refl
each_keyword keyword.One = refl
each_keyword keyword.All = refl
each_keyword keyword.Filter = refl
each_keyword keyword.Requeue = refl
each_keyword keyword.Deadline = refl
each_keyword keyword.Resolve = refl
each_keyword keyword.Return = refl
each_keyword keyword.Acquire = refl
each_keyword keyword.Release = refl
each_keyword keyword.Trim = refl
each_keyword keyword.Records = refl
each_keyword keyword.List = refl
each_keyword keyword.Size = refl

-- no two keywords have one text
pub keyword_text-injective : (j k : Keyword) → keyword_text j ≡ keyword_text k → j ≡ k
keyword_text-injective j k same =
    same_Some j k (sym (each_keyword j) ∙ ap (λ text. find (λ other. bytes_eq
    (keyword_text other) text) keywords) same ∙ each_keyword k)

-- whether lines with this keyword are unparks
abbrev is_unpark : Keyword → Bool
is_unpark keyword.One = true
is_unpark keyword.All = true
is_unpark keyword.Filter = true
is_unpark keyword.Requeue = true
is_unpark _ = false

unpark_is : (which : Op) → is_unpark (keyword_of (command.Do (step.Unpark which))) ≡ true
unpark_is (op.One _ _) = refl
unpark_is (op.All _ _) = refl
unpark_is (op.Filter _ _ _) = refl
unpark_is (op.Requeue _ _ _ _) = refl

not_unpark : (which : Op) (k : Keyword) → keyword_of (command.Do (step.Unpark which)) ≡ k → is_unpark k ≡ false → ⊥
not_unpark which k same other = cc (sym (unpark_is which) ∙ ap is_unpark same ∙ other)

-- the arguments that each keyword has
module _ (pieces : List (List ℕ)) where
  pub only_enter : ((thread key token : ℕ) (valid timed : Bool) → AreWords
      (number thread ∷ number key ∷ yes_or_no valid ∷ number token ∷ timed_or_untimed timed ∷ []) pieces → ⊥)
      → (c : Command) → HasArguments keyword.Enter pieces c → ⊥
  only_enter none (command.Do (step.Enter thread key valid token timed)) h = none thread key token.0 valid timed h.words
  only_enter none (command.Do (step.Unpark which)) h = not_unpark which keyword.Enter h.keyword refl
  only_enter none _ h = cc h.keyword

  pub only_requeue : ((from to token : ℕ) (which : RequeueOp) → AreWords (number from ∷ number to ∷ name
      (requeue_text which) ∷ number token ∷ []) pieces → ⊥)
      → (c : Command) → HasArguments keyword.Requeue pieces c → ⊥
  only_requeue none (command.Do (step.Unpark (op.Requeue from to which token))) h = none from to token.0 which h.words
  only_requeue none _ h = cc h.keyword

-- a first line
pub IsLine-lot : (line word : List ℕ) (left : List (List ℕ)) (m : ℕ) → length line ≤ MAX_LINE
    → texts_in line ≡ word ∷ left
    → word ≡ codes "lot" → AreWords (number m ∷ []) left → IsLine (lot_words m) line
IsLine-lot line word left m short cut first words =
    IsLine-from_texts (lot_words m) line short (record {
      numbers = (tt, words.numbers);
      texts = cut ∙ ap (λ (text : List ℕ). text ∷ left) first ∙ ap (λ (texts : List
          (List ℕ)). codes "lot" ∷ texts) words.texts;
    })

pub lot-IsLine : (line word : List ℕ) (left : List (List ℕ)) (m : ℕ) → texts_in line ≡ word ∷ left → IsLine
    (lot_words m) line
    → (word ≡ codes "lot") × AreWords (number m ∷ []) left
lot-IsLine line word left m cut is_line =
    let whole = texts-from_IsLine (name (codes "lot")) (number m ∷ []) line (refl, (tt, tt)) is_line in
    let same : word ∷ left ≡ codes "lot" ∷ decimal m ∷ [] = sym cut ∙ whole.texts in
    (cc same, record { numbers = whole.numbers.1; texts = cc same })

pub IfNone_then : {A : Type 0} {P Q : Type 0} (o : Option A) → IfNone o P → (P → Q) → IfNone o Q
IfNone_then None p f = f p
IfNone_then (Some x) p f = tt

-- a letter that stands for no decision
pub no_letter : (word : List ℕ) (i : ℕ) (decisions : List FilterOp) → i < length word
    → ((decision : FilterOp) → get_or word i 0 ≡ letter_of decision → ⊥) → (word ≡ codes "-" → ⊥)
    → word ≡ decisions_text decisions → ⊥
no_letter word i [] within none dash is = dash is
no_letter word i (first ∷ decisions) within none dash is =
    let all = first ∷ decisions in
    let there : i < length all = omega (arith, ap length is, length-map all letter_of) in
    none (get_or all i first) (ap (λ (l : List ℕ). get_or l i 0) is ∙ get_or-map letter_of all i first 0 there)
