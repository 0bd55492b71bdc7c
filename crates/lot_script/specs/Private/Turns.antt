-- What a script reads and writes at one line.
use Rattle.std.specs.Prelude.{◌≡◌, ◌≢◌, ℕ, ◌<◌, List, [], ◌∷◌, ◌++◌, length, ⊤, Option, Some, IsSome, Result, Ok, Err}
use Rattle.std.specs.Prelude.{MatchResult}
use Rattle.std.specs.List.{AllByRecursion}
use Rattle.std.specs.Io.KnownBytes.{Appends, Consumes, IsAtEnd, Keeps}
use Rattle.lot_script.specs.declared.script.fault.Cause.{Cause}
use Rattle.lot_script.specs.declared.script.fault.Cause.TheVariants as cause
use Rattle.lot_script.specs.declared.script.fault.Fault.{Fault}
use Rattle.lot_script.specs.declared.script.input.Behind.{Behind}
use Rattle.lot_script.specs.declared.script.input.Behind.TheVariants as behind
use Rattle.lot_script.specs.declared.script.input.Next.{Next}
use Rattle.lot_script.specs.declared.script.input.Next.TheVariants as next
use Rattle.lot_script.specs.declared.script.input.TheConstants.{MAX_LINE}
use Rattle.lot_script.specs.Lines.{lines_of}
use Rattle.lot_script.specs.Reply.{State}
use Rattle.lot_script.specs.Script.{IsAnswered, MayStop, IsStopped, IsDone}

-- a beginning of a text was appended
pub record AppendsFront (old new : Option (List ℕ)) (text : List ℕ) : Type 0 where
  pub front : List ℕ
  pub rest : List ℕ
  pub cut : text ≡ front ++ rest
  pub appended : Appends old new front

-- all of a text was appended, or at a refusal a beginning of it
abbrev pub Writes : {E : Type 0} → Option (List ℕ) → Option (List ℕ) → Result (Unit {0}) E → List ℕ → Type 0
Writes old new result text = MatchResult result (λ _. Appends old new text)
    (λ _. AppendsFront old new text)

-- no byte is a line feed
abbrev pub HasNoFeed : List ℕ → Type 0
HasNoFeed bytes = AllByRecursion (λ byte. byte ≢ 10) bytes

-- a line was read on, from known bytes, of which `left` are left
abbrev pub IsPartRead : Option (List ℕ) → Option (List ℕ) → List ℕ → Result Behind Cause → List ℕ → Type 0
IsPartRead known left old (Ok behind.Feed) line =
    (part : List ℕ) × (line ≡ old ++ part) × HasNoFeed part × Consumes known left (part ++ 10 ∷ [])
IsPartRead known left old (Ok behind.Unknown) line =
    (part : List ℕ) × (line ≡ old ++ part) × HasNoFeed part × Consumes known left part
IsPartRead known left old (Ok behind.End) line = (line ≡ old) × IsAtEnd known × Keeps known left
IsPartRead known left old (Err cause.NoMemory) line = ⊤
IsPartRead known left old (Err cause.ReadFailed) line = ⊤
IsPartRead known left old (Err _) line = ⊥

-- of these bytes a line was read, and `left` is left
abbrev pub IsLineRead : List ℕ → Option (List ℕ) → Result Next Cause → List ℕ → Type 0
IsLineRead bytes left (Ok next.Line) line =
    (rest : List ℕ) × (left ≡ Some rest) × (lines_of bytes ≡ line ∷ lines_of rest)
IsLineRead bytes left (Ok next.End) line = lines_of bytes ≡ []
IsLineRead bytes left (Err cause.BadStep) line =
    (long : List ℕ) × (MAX_LINE < length long) × (rest : List (List ℕ)) × (lines_of bytes ≡ long ∷ rest)
IsLineRead bytes left (Err cause.NoMemory) line = ⊤
IsLineRead bytes left (Err cause.ReadFailed) line = ⊤
IsLineRead bytes left (Err _) line = ⊥

-- one line was read and answered, or there was none, or the script may stop so
abbrev pub IsTurn : Option State → List ℕ → Option (List ℕ) → Result Next Cause → List ℕ → Option State → Type 0
IsTurn old bytes left (Ok next.Line) written new =
    (line : List ℕ) × (rest : List ℕ) × (left ≡ Some rest) × (lines_of bytes ≡ line ∷ lines_of rest)
    × (answer : List ℕ) × IsAnswered old line answer new × (written ≡ answer ++ 10 ∷ [])
IsTurn old bytes left (Ok next.End) written new =
    (lines_of bytes ≡ []) × (written ≡ []) × (new ≡ old) × IsSome old
IsTurn old bytes left (Err refusal) written new = MayStop refusal old (lines_of bytes) written

-- a script appended its answers to known bytes, unless a write failed
abbrev pub IsWrittenScript : Option (List ℕ) → Option (List ℕ) → List (List ℕ) → Result (Unit {0}) Fault → Type 0
IsWrittenScript old new lines (Ok _) = (written : List ℕ) × Appends old new written × IsDone lines written
IsWrittenScript old new lines (Err fault) =
    fault.cause ≢ cause.WriteFailed → (written : List ℕ) × Appends old new written × IsStopped lines fault written
