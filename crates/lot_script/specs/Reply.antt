-- What a line is answered, and in which words.
use Rattle.std.specs.Prelude.{◌≡◌, ℕ, List, [], ◌∷◌, map, length, codes, IsTrue}
use Rattle.lot_base.specs.declared.token.UnparkResult.{UnparkResult}
use Rattle.lot_base.specs.Waiting.{has_any}
use Rattle.lot_machine.specs.declared.step.Answer.{Answer}
use Rattle.lot_machine.specs.declared.step.Answer.TheVariants as answer
use Rattle.lot_machine.specs.Machine.{Machine, new_machine, threads_of}
use Rattle.lot_simulator.specs.LotState.{LotState}
use Rattle.lot_simulator.specs.Lot.{machine}
use Rattle.lot_machine.specs.Steps.{IsStep}
use Rattle.lot_machine.specs.Size.{IsSizeAfter}
use Rattle.lot_script.specs.declared.script.command.Command.{Command}
use Rattle.lot_script.specs.declared.script.command.Command.TheVariants as command
use Rattle.lot_script.specs.declared.script.reply.Reply.{Reply}
use Rattle.lot_script.specs.declared.script.reply.Reply.TheVariants as reply
use Rattle.lot_script.specs.Words.{Word, name, number, true_or_false}

-- the machine with one list for each key, and how many buckets the table has
pub record State : Type 0 where
  pub machine : Machine
  pub buckets : ℕ

-- a new lot has 16 buckets
abbrev pub new_state : ℕ → State
new_state max_threads = record { machine = new_machine max_threads; buckets = 16 }

-- what a lot means
abbrev pub state_of : LotState → State
state_of lot = record { machine = machine lot; buckets = length lot.buckets }

-- a command is given this reply: a step is one of the machine, after which the table's size is as its rule says, and a
-- question changes nothing
abbrev pub IsReply : State → Command → Reply → State → Type 0
IsReply old (command.Do step) (reply.Did given) new =
    IsStep old.machine step given new.machine × IsSizeAfter step given (threads_of new.machine) old.buckets new.buckets
IsReply old (command.List key) (reply.Waiters numbers) new =
    (numbers.items ≡ map (λ waiter. waiter.number) (old.machine.lists key)) × (new ≡ old)
IsReply old (command.List key) reply.NoMemory new = IsTrue (has_any (old.machine.lists key)) × (new ≡ old)
IsReply old (command.Records thread key) (reply.Records count) new =
    (count ≡ old.machine.records thread key) × (new ≡ old)
IsReply old command.Size (reply.Size buckets threads) new =
    (buckets ≡ old.buckets) × (threads ≡ threads_of old.machine) × (new ≡ old)
IsReply old _ _ new = ⊥

abbrev pub result_words : UnparkResult → List Word
result_words result =
    name (codes "unparked") ∷ number result.unparked_threads ∷ name (codes "requeued") ∷ number result.requeued_threads
    ∷ name (codes "more") ∷ true_or_false result.have_more_threads ∷ []

abbrev pub answer_words : Answer → List Word
answer_words (answer.Registered thread) = name (codes "number") ∷ number thread ∷ []
answer_words answer.Full = name (codes "full") ∷ []
answer_words answer.NoMemory = name (codes "no") ∷ name (codes "memory") ∷ []
answer_words answer.Retired = name (codes "retired") ∷ []
answer_words answer.Entered = name (codes "entered") ∷ []
answer_words answer.Invalid = name (codes "invalid") ∷ []
answer_words (answer.Unpark result) = result_words result
answer_words (answer.Count count) = name (codes "count") ∷ number count ∷ []
answer_words answer.Late = name (codes "late") ∷ []
answer_words (answer.TimedOut key last) =
    name (codes "timed") ∷ name (codes "out") ∷ number key ∷ true_or_false last ∷ []
answer_words (answer.Unparked token) = name (codes "unparked") ∷ number token.0 ∷ []
answer_words answer.Recorded = name (codes "recorded") ∷ []
answer_words answer.Released = name (codes "released") ∷ []
answer_words answer.Trimmed = name (codes "trimmed") ∷ []
answer_words answer.Misfit = name (codes "misfit") ∷ []

abbrev pub reply_words : Reply → List Word
reply_words (reply.Did given) = answer_words given
reply_words (reply.Waiters numbers) = name (codes "waiters") ∷ map number numbers.items
reply_words (reply.Records count) = name (codes "records") ∷ number count ∷ []
reply_words (reply.Size buckets threads) =
    name (codes "buckets") ∷ number buckets ∷ name (codes "threads") ∷ number threads ∷ []
reply_words reply.NoMemory = name (codes "no") ∷ name (codes "memory") ∷ []
