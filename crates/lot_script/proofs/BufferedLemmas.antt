-- A script whose answers are held back for a while.
use Rattle.std.proofs.Common.{◌≡◌, ◌≢◌, ℕ, List, [], Option, Some, None, refl, sym, ◌∙◌, subst}
use Rattle.std.specs.Prelude.{Ok, Err, Result, MatchResult, IfSome, ◌==◌, if◌then◌else◌}
use Rattle.std.specs.Io.KnownBytes.{Appends, Keeps, prepend_known}
use Rattle.std.proofs.KnownBytes.{Appends-kept}
use Rattle.lot_script.specs.declared.script.fault.Cause.{Cause}
use Rattle.lot_script.specs.declared.script.fault.Cause.TheVariants as cause
use Rattle.lot_script.specs.declared.script.fault.Fault.{Fault}
use Rattle.lot_script.specs.Lines.{lines_of, bytes_of}
use Rattle.lot_script.specs.Reply.{State}
use Rattle.lot_script.specs.Script.{MayStop, IsStopped, IsScript, IsScriptEnd}
use Rattle.lot_script.specs.Private.Turns.{IsWrittenScript}
use Rattle.lot_script.proofs.ScriptLemmas.{Progress}

-- a flush changes nothing of what was answered
pub script-kept : (start known old new after : Option (List ℕ)) (state : Option State) (number : ℕ)
    → IfSome start (λ bytes. Progress bytes known old new state number) → Keeps new after
    → IfSome start (λ bytes. Progress bytes known old after state number)
script-kept None known old new after state number progress kept = tt
script-kept (Some bytes) known old new after state number progress kept = record {
  before = progress.before;
  rest = progress.rest;
  left = progress.left;
  cut = progress.cut;
  count = progress.count;
  answers = progress.answers;
  answered = progress.answered;
  written = Appends-kept old new after (bytes_of progress.answers) progress.written kept;
}

pub written-ended : (start old new : Option (List ℕ)) (r : Result (Unit {0}) Fault)
    → IfSome start (λ bytes. (written : List ℕ) × Appends old new written × IsScript (lines_of bytes) r written)
    → IfSome start (λ bytes. IsWrittenScript old new (lines_of bytes) r)
written-ended None old new r ended = tt
written-ended (Some bytes) old new (Ok _) ended = ended
written-ended (Some bytes) old new (Err fault) ended = λ unlike. ended

as_stopped : (lines : List (List ℕ)) (line : ℕ) (refusal : Cause) (fault : Fault) (written : List ℕ)
    → IsStopped lines (record { line = line; cause = refusal }) written → fault.line ≡ line → fault.cause ≡ refusal
    → IsStopped lines fault written
as_stopped lines line refusal fault written stopped same_line same_cause = record {
  before = stopped.before;
  left = stopped.left;
  cut = stopped.cut;
  line = same_line ∙ stopped.line;
  answers = stopped.answers;
  state = stopped.state;
  answered = stopped.answered;
  front = stopped.front;
  cause = subst (λ given. MayStop given stopped.state stopped.left stopped.front) (sym same_cause) stopped.cause;
  written = stopped.written;
}

-- a script stopped at a line, and the answers before it were flushed
pub written-stopped : (start old after flushed : Option (List ℕ)) (line : ℕ) (refusal : Cause) (fault : Fault)
    (X : Type 0)
    → IfSome start (λ bytes. (written : List ℕ) × Appends old after written
    × IsStopped (lines_of bytes) (record { line = line; cause = refusal }) written)
    → Keeps after flushed
    → (fault.cause ≢ cause.WriteFailed → (fault.line ≡ line) × (fault.cause ≡ refusal) × X)
    → IfSome start (λ bytes. IsWrittenScript old flushed (lines_of bytes) (Err fault))
written-stopped None old after flushed line refusal fault X stopped kept same = tt
written-stopped (Some bytes) old after flushed line refusal fault X stopped kept same = λ unlike. (
  stopped.0,
  Appends-kept old after flushed stopped.0 stopped.1 kept,
  as_stopped (lines_of bytes) line refusal fault stopped.0 stopped.2 (same unlike).0 (same unlike).1,
)

-- how a script ends, also where a failed write is told of another line
pub written-end : (start old new : Option (List ℕ)) (ended r : Result (Unit {0}) Fault)
    → IfSome start (λ bytes. IsWrittenScript old new (lines_of bytes) ended)
    → MatchResult r (λ _. ended ≡ Ok tt) (λ fault. fault.cause ≢ cause.WriteFailed → ended ≡ Err fault)
    → IfSome start (λ bytes. IsScriptEnd (lines_of bytes) r)
written-end None old new ended r written same = tt
written-end (Some bytes) old new ended (Ok _) written same =
    let all = subst (IsWrittenScript old new (lines_of bytes)) same written in (all.0, all.2)
written-end (Some bytes) old new ended (Err fault) written same = λ unlike.
    let all = subst (IsWrittenScript old new (lines_of bytes)) (same unlike) written unlike in (all.0, all.2)

-- no line was read
pub unread-end : (start : Option (List ℕ)) (fault : Fault) → (fault.line ≡ 1) × (fault.cause ≡ cause.NoMemory)
    → IfSome start (λ bytes. IsScriptEnd (lines_of bytes) (Err fault))
unread-end None fault is = tt
unread-end (Some bytes) fault is = λ unlike. (
  [],
  as_stopped (lines_of bytes) 1 cause.NoMemory fault [] (record {
    before = [];
    left = lines_of bytes;
    cut = refl;
    line = refl;
    answers = [];
    state = None;
    answered = refl;
    front = [];
    cause = refl;
    written = refl;
  }) is.0 is.1,
)

-- what a new buffered reader has is what its reader has
pub buffered-remaining : (capacity : ℕ) (buffer : List ℕ) (known : Option (List ℕ)) → capacity ≡ 8192 → buffer ≡ []
    → (if capacity == 0 then None else prepend_known buffer known) ≡ known
buffered-remaining capacity buffer known is none =
    subst (λ n. (if n == 0 then None else prepend_known buffer known) ≡ known) (sym is)
    (subst (λ b. prepend_known b known ≡ known) (sym none) (nothing_before known))
  where
    nothing_before : (known : Option (List ℕ)) → prepend_known [] known ≡ known
    nothing_before None = refl
    nothing_before (Some bytes) = refl
