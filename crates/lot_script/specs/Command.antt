-- The words of each line.
use Rattle.std.specs.Prelude.{ℕ, List, [], ◌∷◌, map, codes}
use Rattle.lot_base.specs.declared.token.FilterOp.{FilterOp}
use Rattle.lot_base.specs.declared.token.FilterOp.TheVariants as filter
use Rattle.lot_base.specs.declared.token.RequeueOp.{RequeueOp}
use Rattle.lot_base.specs.declared.token.RequeueOp.TheVariants as requeue
use Rattle.lot_machine.specs.declared.step.Op.{Op}
use Rattle.lot_machine.specs.declared.step.Op.TheVariants as op
use Rattle.lot_machine.specs.declared.step.Step.{Step}
use Rattle.lot_machine.specs.declared.step.Step.TheVariants as step
use Rattle.lot_script.specs.declared.script.command.Command.{Command}
use Rattle.lot_script.specs.declared.script.command.Command.TheVariants as command
use Rattle.lot_script.specs.Words.{Word, name, number, yes_or_no, timed_or_untimed}

-- the first line: for how many threads the lot is
abbrev pub lot_words : ℕ → List Word
lot_words max_threads = name (codes "lot") ∷ number max_threads ∷ []

-- `U` for Unpark, `S` for Skip, `X` for Stop
abbrev pub letter_of : FilterOp → ℕ
letter_of filter.Unpark = 85
letter_of filter.Skip = 83
letter_of filter.Stop = 88

-- a letter for each decision, or a dash where there is none
abbrev pub decisions_text : List FilterOp → List ℕ
decisions_text [] = codes "-"
decisions_text (decision ∷ decisions) = map letter_of (decision ∷ decisions)

abbrev pub requeue_text : RequeueOp → List ℕ
requeue_text requeue.Abort = codes "abort"
requeue_text requeue.UnparkOneRequeueRest = codes "one-rest"
requeue_text requeue.RequeueAll = codes "all"
requeue_text requeue.UnparkOne = codes "one"
requeue_text requeue.RequeueOne = codes "requeue-one"

abbrev pub unpark_words : Op → List Word
unpark_words (op.One key token) = name (codes "one") ∷ number key ∷ number token.0 ∷ []
unpark_words (op.All key token) = name (codes "all") ∷ number key ∷ number token.0 ∷ []
unpark_words (op.Filter key decisions token) =
    name (codes "filter") ∷ number key ∷ name (decisions_text decisions.items) ∷ number token.0 ∷ []
unpark_words (op.Requeue from to which token) =
    name (codes "requeue") ∷ number from ∷ number to ∷ name (requeue_text which) ∷ number token.0 ∷ []

abbrev pub step_words : Step → List Word
step_words step.Register = name (codes "register") ∷ []
step_words (step.Retire thread) = name (codes "retire") ∷ number thread ∷ []
step_words (step.Enter thread key valid park_token timed) =
    name (codes "enter") ∷ number thread ∷ number key ∷ yes_or_no valid ∷ number park_token.0
    ∷ timed_or_untimed timed ∷ []
step_words (step.Unpark which) = unpark_words which
step_words (step.Deadline thread) = name (codes "deadline") ∷ number thread ∷ []
step_words (step.Resolve thread) = name (codes "resolve") ∷ number thread ∷ []
step_words (step.Return thread) = name (codes "return") ∷ number thread ∷ []
step_words (step.Acquire thread key) = name (codes "acquire") ∷ number thread ∷ number key ∷ []
step_words (step.Release thread key) = name (codes "release") ∷ number thread ∷ number key ∷ []
step_words step.Trim = name (codes "trim") ∷ []

-- every line but the first: a step, or a question
abbrev pub command_words : Command → List Word
command_words (command.Do which) = step_words which
command_words (command.List key) = name (codes "list") ∷ number key ∷ []
command_words (command.Records thread key) = name (codes "records") ∷ number thread ∷ number key ∷ []
command_words command.Size = name (codes "size") ∷ []
