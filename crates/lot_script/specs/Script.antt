-- What a script does of its lines, and what it writes.
use Rattle.std.specs.Prelude.{◌≡◌, ◌≢◌, ℕ, ◌+◌, ◌<◌, ◌≤◌, List, [], ◌∷◌, ◌++◌, length, codes, Option, Some, None}
use Rattle.std.specs.Prelude.{Result, Ok, Err}
use Rattle.lot_machine.specs.declared.numbers.TheConstants.{MAX_THREADS}
use Rattle.lot_machine.specs.Run.{IsRun}
use Rattle.lot_script.specs.declared.script.command.Command.{Command}
use Rattle.lot_script.specs.declared.script.reply.Reply.{Reply}
use Rattle.lot_script.specs.declared.script.fault.Cause.{Cause}
use Rattle.lot_script.specs.declared.script.fault.Cause.TheVariants as cause
use Rattle.lot_script.specs.declared.script.fault.Fault.{Fault}
use Rattle.lot_script.specs.Words.{IsLine, line_of}
use Rattle.lot_script.specs.Lines.{bytes_of}
use Rattle.lot_script.specs.Command.{lot_words, command_words}
use Rattle.lot_script.specs.Reply.{State, new_state, IsReply, reply_words}

-- A line is given this answer. Before the first line there is no lot, and so no state.
abbrev pub IsAnswered : Option State → List ℕ → List ℕ → Option State → Type 0
IsAnswered None line answer new =
    (max_threads : ℕ) × IsLine (lot_words max_threads) line × (max_threads ≤ MAX_THREADS)
    × (answer ≡ codes "ok") × (new ≡ Some (new_state max_threads))
IsAnswered (Some old) line answer new =
    (command : Command) × IsLine (command_words command) line
    × (reply : Reply) × (answer ≡ line_of (reply_words reply))
    × (next : State) × IsReply old command reply next × (new ≡ Some next)

-- For this cause a script may stop in this state at the first of the lines that are left, of whose answer it wrote
-- `front`. A bad line 1 has no lot's form, and a bad line behind it no command's; a script without lines is bad too.
abbrev pub MayStop : Cause → Option State → List (List ℕ) → List ℕ → Type 0
MayStop cause.BadStep None [] front = front ≡ []
MayStop cause.BadStep None (line ∷ _) front =
    (front ≡ []) × ((max_threads : ℕ) → IsLine (lot_words max_threads) line → ⊥)
MayStop cause.BadStep (Some _) [] front = ⊥
MayStop cause.BadStep (Some _) (line ∷ _) front =
    (front ≡ []) × ((command : Command) → IsLine (command_words command) line → ⊥)
MayStop cause.TooManyThreads None (line ∷ _) front =
    (front ≡ []) × (max_threads : ℕ) × (MAX_THREADS < max_threads) × IsLine (lot_words max_threads) line
MayStop cause.TooManyThreads _ _ front = ⊥
MayStop cause.NoMemory state left front = front ≡ []
MayStop cause.ReadFailed state left front = front ≡ []
MayStop cause.WriteFailed state [] front = ⊥
MayStop cause.WriteFailed state (line ∷ _) front =
    (answer : List ℕ) × (next : Option State) × IsAnswered state line answer next
    × (rest : List ℕ) × (answer ++ 10 ∷ [] ≡ front ++ rest)

-- What comes of a line: it was answered, and the answer was written; or for this cause a script may stop at it. Where
-- the answer could not be written it was answered all the same, and of the answer `written` was written.
abbrev pub Answers : Option State → List ℕ → Result (Unit {0}) Cause → List ℕ → Option State → Type 0
Answers old line (Ok _) written new = (answer : List ℕ) × IsAnswered old line answer new × (written ≡ answer ++ 10 ∷ [])
Answers old line (Err cause.WriteFailed) written new =
    (answer : List ℕ) × IsAnswered old line answer new × (rest : List ℕ) × (answer ++ 10 ∷ [] ≡ written ++ rest)
Answers old line (Err cause.ReadFailed) written new = ⊥
Answers old line (Err refusal) written new = MayStop refusal old (line ∷ []) written

-- a script of lines stopped at this fault, and wrote this: the answers of the lines before, and `front`
pub record IsStopped (lines : List (List ℕ)) (fault : Fault) (bytes : List ℕ) : Type 0 where
  pub before : List (List ℕ)
  pub left : List (List ℕ)
  pub cut : lines ≡ before ++ left
  pub line : fault.line ≡ length before + 1
  pub answers : List (List ℕ)
  pub state : Option State
  pub answered : IsRun IsAnswered None before answers state
  pub front : List ℕ
  pub cause : MayStop fault.cause state left front
  pub written : bytes ≡ bytes_of answers ++ front

-- a script did all of its lines, and wrote this: the answers of all, the first of which made the lot
pub record IsDone (lines : List (List ℕ)) (bytes : List ℕ) : Type 0 where
  pub answers : List (List ℕ)
  pub state : State
  pub answered : IsRun IsAnswered None lines answers (Some state)
  pub written : bytes ≡ bytes_of answers

abbrev pub IsScript : List (List ℕ) → Result (Unit {0}) Fault → List ℕ → Type 0
IsScript lines (Ok _) written = IsDone lines written
IsScript lines (Err fault) written = IsStopped lines fault written

-- how a script of lines may end, whatever became of its answers; where a write failed nothing is said
abbrev pub IsScriptEnd : List (List ℕ) → Result (Unit {0}) Fault → Type 0
IsScriptEnd lines (Ok _) = (bytes : List ℕ) × IsDone lines bytes
IsScriptEnd lines (Err fault) = fault.cause ≢ cause.WriteFailed → (bytes : List ℕ) × IsStopped lines fault bytes
