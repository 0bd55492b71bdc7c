-- A script, one line after another.
use Rattle.std.proofs.Common.{◌≡◌, ℕ, ◌+◌, ◌-◌, ◌<◌, List, [], ◌∷◌, ◌++◌, length, Option, Some, None, refl, sym, ap}
use Rattle.std.proofs.Common.{◌∙◌, subst, append_assoc, append-nil, arith}
use Rattle.std.specs.Prelude.{IsSome, Ok, Err, Result, IsErrAnd, IfErr, IfSome}
use Rattle.std.specs.Io.KnownBytes.{Appends, Keeps}
use Rattle.std.proofs.lemmas.List.{length-append}
use Rattle.std.proofs.lemmas.List.Concat.{flat_map-append}
use Rattle.lot_script.specs.declared.script.fault.Cause.{Cause}
use Rattle.lot_script.specs.declared.script.fault.Cause.TheVariants as cause
use Rattle.lot_script.specs.declared.script.fault.Fault.{Fault}
use Rattle.lot_script.specs.declared.script.input.Next.{Next}
use Rattle.lot_script.specs.declared.script.input.Next.TheVariants as next
use Rattle.lot_script.specs.declared.script.input.TheConstants.{MAX_LINE}
use Rattle.lot_machine.specs.Run.{IsRun}
use Rattle.lot_machine.proofs.RunLemmas.{IsRun-push}
use Rattle.lot_script.specs.Lines.{lines_of, bytes_of}
use Rattle.lot_script.specs.Reply.{State}
use Rattle.lot_script.specs.Script.{IsAnswered, MayStop, Answers, IsStopped, IsDone, IsScript}
use Rattle.lot_script.specs.Private.Turns.{IsTurn, IsLineRead}
use Rattle.std.proofs.KnownBytes.{Appends-trans, Appends-nil, Appends-kept}

bytes_of-push : (answers : List (List ℕ)) (answer : List ℕ)
    → bytes_of (answers ++ answer ∷ []) ≡ bytes_of answers ++ (answer ++ 10 ∷ [])
bytes_of-push answers answer =
    flat_map-append (λ line. line ++ 10 ∷ []) answers (answer ∷ [])
    ∙ ap (λ (t : List ℕ). bytes_of answers ++ t) (append-nil (answer ++ 10 ∷ []))

pub some_of : {A : Type 0} (o : Option A) → IsSome o → (a : A) × (o ≡ Some a)
some_of None some = absurd (cc some)
some_of (Some a) some = (a, refl)

-- the last of lines that were answered
pub record HasLast (old : Option State) (lines answers : List (List ℕ)) (new : Option State) : Type 0 where
  pub before : List (List ℕ)
  pub line : List ℕ
  pub cut : lines ≡ before ++ line ∷ []
  pub first_answers : List (List ℕ)
  pub answer : List ℕ
  pub answers_cut : answers ≡ first_answers ++ answer ∷ []
  pub state : Option State
  pub answered : IsRun IsAnswered old before first_answers state
  pub last : IsAnswered state line answer new

pub IsAnswered-last : (old : Option State) (line : List ℕ) (lines answers : List (List ℕ)) (new : Option State)
    → IsRun IsAnswered old (line ∷ lines) answers new → HasLast old (line ∷ lines) answers new
IsAnswered-last old line lines [] new run = absurd run
IsAnswered-last old line [] (answer ∷ []) new run = record {
  before = [];
  line = line;
  cut = refl;
  first_answers = [];
  answer = answer;
  answers_cut = refl;
  state = old;
  answered = refl;
  last = subst (λ state. IsAnswered old line answer state) run.2 run.1;
}
IsAnswered-last old line [] (answer ∷ _ ∷ _) new run = absurd run.2
IsAnswered-last old line (next ∷ lines) (answer ∷ answers) new run =
    let rest = IsAnswered-last run.0 next lines answers new run.2 in
    record {
      before = line ∷ rest.before;
      line = rest.line;
      cut = ap (λ (l : List (List ℕ)). line ∷ l) rest.cut;
      first_answers = answer ∷ rest.first_answers;
      answer = rest.answer;
      answers_cut = ap (λ (l : List (List ℕ)). answer ∷ l) rest.answers_cut;
      state = rest.state;
      answered = (run.0, run.1, rest.answered);
      last = rest.last;
    }

no_lines : (answers : List (List ℕ)) (state : State) → IsRun IsAnswered None [] answers (Some state) → ⊥
no_lines [] state run = cc run
no_lines (_ ∷ _) state run = run

-- how far a script has come, whose next line has this number
pub record Progress (bytes : List ℕ) (known old new : Option (List ℕ)) (state : Option State)
    (number : ℕ) : Type 0 where
  pub before : List (List ℕ)
  pub rest : List ℕ
  pub left : known ≡ Some rest
  pub cut : lines_of bytes ≡ before ++ lines_of rest
  pub count : number ≡ length before + 1
  pub answers : List (List ℕ)
  pub answered : IsRun IsAnswered None before answers state
  pub written : Appends old new (bytes_of answers)

pub Progress-start : (bytes : List ℕ) (known old : Option (List ℕ)) → known ≡ Some bytes
    → Progress bytes known old old None 1
Progress-start bytes known old is = record {
  before = [];
  rest = bytes;
  left = is;
  cut = refl;
  count = refl;
  answers = [];
  answered = refl;
  written = Appends-nil old;
}

module _ (bytes : List ℕ) (known old new after : Option (List ℕ)) (state : Option State) (number : ℕ)
    (progress : Progress bytes known old new state number) where
  -- one more line
  pub Progress-line : (left : Option (List ℕ)) (wrote : List ℕ) (next_state : Option State) → Appends new after wrote
      → IsTurn state progress.rest left (Ok next.Line) wrote next_state
      → Progress bytes left old after next_state (number + 1)
  Progress-line left wrote next_state appended turn =
      let (line, rest, is, lines, answer, answered, text) = turn in
      record {
        before = progress.before ++ line ∷ [];
        rest = rest;
        left = is;
        cut = progress.cut ∙ ap (λ (l : List (List ℕ)). progress.before ++ l) lines
            ∙ sym (append_assoc progress.before (line ∷ []) (lines_of rest));
        count = omega (arith, progress.count, length-append progress.before (line ∷ []));
        answers = progress.answers ++ answer ∷ [];
        answered = IsRun-push IsAnswered None progress.before progress.answers state next_state line answer
            progress.answered answered;
        written = subst (Appends old after) (sym (bytes_of-push progress.answers answer))
            (Appends-trans old new after (bytes_of progress.answers) (answer ++ 10 ∷ []) progress.written
            (subst (Appends new after) text appended));
      }

  -- a line that cannot be done
  pub Progress-stop : (refusal : Cause) (front : List ℕ) → Appends new after front
      → MayStop refusal state (lines_of progress.rest) front
      → (written : List ℕ) × Appends old after written
      × IsStopped (lines_of bytes) (record { line = number; cause = refusal }) written
  Progress-stop refusal front appended stops = (
    bytes_of progress.answers ++ front,
    Appends-trans old new after (bytes_of progress.answers) front progress.written appended,
    record {
      before = progress.before;
      left = lines_of progress.rest;
      cut = progress.cut;
      line = progress.count;
      answers = progress.answers;
      state = state;
      answered = progress.answered;
      front = front;
      cause = stops;
      written = refl;
    },
  )

  -- no line is left
  pub Progress-end : lines_of progress.rest ≡ [] → IsSome state
      → (written : List ℕ) × Appends old new written × IsDone (lines_of bytes) written
      × (number ≡ length (lines_of bytes) + 1)
  Progress-end none some =
      let (made, is) = some_of state some in
      let all : lines_of bytes ≡ progress.before = progress.cut ∙ ap (λ (l : List (List ℕ)). progress.before ++ l) none
      ∙ append-nil progress.before in (
        bytes_of progress.answers,
        progress.written,
        record {
          answers = progress.answers;
          state = made;
          answered = subst (λ lines. IsRun IsAnswered None lines progress.answers (Some made)) (sym all)
              (subst (IsRun IsAnswered None progress.before progress.answers) is progress.answered);
          written = refl;
        },
        omega (arith, progress.count, ap length all),
      )

-- the last answer was written, but not passed on
pub IsStopped-flush : (lines : List (List ℕ)) (written : List ℕ) (fault : Fault) → IsDone lines written
    → fault.line ≡ length lines → fault.cause ≡ cause.WriteFailed → IsStopped lines fault written
IsStopped-flush [] written fault done is why = absurd (no_lines done.answers done.state done.answered)
IsStopped-flush (first ∷ lines) written fault done is why =
    let parts = IsAnswered-last None first lines done.answers (Some done.state) done.answered in
    record {
      before = parts.before;
      left = parts.line ∷ [];
      cut = parts.cut;
      line = omega (arith, is, ap length parts.cut, length-append parts.before (parts.line ∷ []));
      answers = parts.first_answers;
      state = parts.state;
      answered = parts.answered;
      front = parts.answer ++ 10 ∷ [];
      cause = subst (λ given. MayStop given parts.state (parts.line ∷ []) (parts.answer ++ 10 ∷ [])) (sym why)
          (parts.answer, Some done.state, parts.last, [], sym (append-nil (parts.answer ++ 10 ∷ [])));
      written = done.written ∙ ap bytes_of parts.answers_cut ∙ bytes_of-push parts.first_answers parts.answer;
    }

-- an answer of which a beginning was written
pub Answers-stop : (old : Option State) (line answer : List ℕ) (new : Option State) (r : Result (Unit {0}) Cause)
    (front rest : List ℕ) → IsErrAnd r (λ refusal. refusal ≡ cause.WriteFailed) → IsAnswered old line answer new
    → answer ++ 10 ∷ [] ≡ front ++ rest → Answers old line r front new
Answers-stop old line answer new (Ok _) front rest is answered cut = absurd is
Answers-stop old line answer new (Err refusal) front rest is answered cut =
    subst (λ given. Answers old line (Err given) front new) (sym is) (answer, answered, rest, cut)

-- a line that was refused before its answer
pub Answers-refused : (old new : Option State) (line : List ℕ) (r : Result (Unit {0}) Cause) (given : Cause)
    → IsErrAnd r (λ refusal. refusal ≡ given) → Answers old line (Err given) [] new → Answers old line r [] new
Answers-refused old new line (Ok _) given is stops = absurd is
Answers-refused old new line (Err refusal) given is stops =
    subst (λ other. Answers old line (Err other) [] new) (sym is) stops

-- a script may stop at a line that was not answered
Answers-may_stop : (old new : Option State) (line written : List ℕ) (refusal : Cause)
    → Answers old line (Err refusal) written new → MayStop refusal old (line ∷ []) written
Answers-may_stop old new line written cause.BadStep stops = stops
Answers-may_stop old new line written cause.TooManyThreads stops = stops
Answers-may_stop old new line written cause.NoMemory stops = stops
Answers-may_stop old new line written cause.ReadFailed stops = absurd stops
Answers-may_stop old new line written cause.WriteFailed stops = (stops.0, new, stops.1, stops.2, stops.3)

-- at a lost answer nothing more is owed
pub only_lost : (P : Type 0) (r : Result (Unit {0}) Cause) → IsErrAnd r (λ refusal. refusal ≡ cause.WriteFailed)
    → IfErr r (λ refusal. (refusal ≡ cause.WriteFailed → ⊥) → P)
only_lost P (Ok _) is = tt
only_lost P (Err refusal) is = λ other. absurd (other is)

-- what lines follow does not matter
MayStop-behind : (refusal : Cause) (state : Option State) (line : List ℕ) (left other : List (List ℕ)) (front : List ℕ)
    → MayStop refusal state (line ∷ left) front → MayStop refusal state (line ∷ other) front
MayStop-behind cause.BadStep None line left other front stops = stops
MayStop-behind cause.BadStep (Some _) line left other front stops = stops
MayStop-behind cause.TooManyThreads None line left other front stops = stops
MayStop-behind cause.TooManyThreads (Some _) line left other front stops = absurd stops
MayStop-behind cause.NoMemory state line left other front stops = stops
MayStop-behind cause.ReadFailed state line left other front stops = stops
MayStop-behind cause.WriteFailed state line left other front stops = stops

-- a line that was read and answered is a turn
pub IsTurn-line : (known left a b : Option (List ℕ)) (line : List ℕ) (old new : Option State)
    → IfSome known (λ bytes. IsLineRead bytes left (Ok next.Line) line)
    → (written : List ℕ) × Appends a b written × Answers old line (Ok tt) written new
    → IfSome known (λ bytes. (written : List ℕ) × Appends a b written × IsTurn old bytes left
    (Ok next.Line) written new)
IsTurn-line None left a b line old new read answered = tt
IsTurn-line (Some bytes) left a b line old new read answered =
    (answered.0, answered.1, (line, read.0, read.1, read.2, answered.2.0, answered.2.1, answered.2.2))

-- and so is one that was read and refused
pub IsTurn-refused : (known left a b : Option (List ℕ)) (line : List ℕ) (old new : Option State) (given : Cause)
    (r : Result Next Cause)
    → IfSome known (λ bytes. IsLineRead bytes left (Ok next.Line) line)
    → (written : List ℕ) × Appends a b written × Answers old line (Err given) written new
    → IsErrAnd r (λ refusal. refusal ≡ given)
    → IfSome known (λ bytes. (written : List ℕ) × Appends a b written × IsTurn old bytes left r written new)
IsTurn-refused None left a b line old new given r read answered is = tt
IsTurn-refused (Some bytes) left a b line old new given (Ok _) read answered is = absurd is
IsTurn-refused (Some bytes) left a b line old new given (Err refusal) read answered is = (
  answered.0,
  answered.1,
  subst (λ other. MayStop other old (lines_of bytes) answered.0) (sym is)
      (subst (λ lines. MayStop given old lines answered.0) (sym read.2)
      (MayStop-behind given old line [] (lines_of read.0) answered.0
      (Answers-may_stop old new line answered.0 given answered.2))),
)

-- what a line that could not be read says of the script
pub refused_line : (state : Option State) (long : List ℕ) (rest : List (List ℕ)) → MAX_LINE < length long
    → MayStop cause.BadStep state (long ∷ rest) []
refused_line None long rest over = (refl, λ max_threads form. omega (arith, over, form.short))
refused_line (Some _) long rest over = (refl, λ command form. omega (arith, over, form.short))

MayStop-read : (bytes line : List ℕ) (left : Option (List ℕ)) (state : Option State) (refusal : Cause)
    → IsLineRead bytes left (Err refusal) line → MayStop refusal state (lines_of bytes) []
MayStop-read bytes line left state cause.BadStep read =
    subst (λ lines. MayStop cause.BadStep state lines []) (sym read.3) (refused_line state read.0 read.2 read.1)
MayStop-read bytes line left state cause.NoMemory read = refl
MayStop-read bytes line left state cause.ReadFailed read = refl
MayStop-read bytes line left state cause.TooManyThreads read = absurd read
MayStop-read bytes line left state cause.WriteFailed read = absurd read

pub IsTurn-unread : (known left a : Option (List ℕ)) (line : List ℕ) (old new : Option State) (given : Cause)
    (r : Result Next Cause) → IfSome known (λ bytes. IsLineRead bytes left (Err given) line)
    → IsErrAnd r (λ refusal. refusal ≡ given)
    → IfSome known (λ bytes. (written : List ℕ) × Appends a a written × IsTurn old bytes left r written new)
IsTurn-unread None left a line old new given r read is = tt
IsTurn-unread (Some bytes) left a line old new given (Ok _) read is = absurd is
IsTurn-unread (Some bytes) left a line old new given (Err refusal) read is = (
  [],
  Appends-nil a,
  subst (λ other. MayStop other old (lines_of bytes) []) (sym is) (MayStop-read bytes line left old given read),
)

at_some : {A : Type 0} (o : Option A) (a : A) (P : A → Type 0) → o ≡ Some a → IfSome o P → P a
at_some o a P is = subst (λ other. IfSome other P) is

IsScript-flushed : (lines : List (List ℕ)) (written : List ℕ) (number : ℕ) (r : Result (Unit {0}) Fault)
    → IsDone lines written
    → number ≡ length lines + 1
    → IfErr r (λ fault. (fault.line ≡ number - 1) × (fault.cause ≡ cause.WriteFailed)) → IsScript lines r written
IsScript-flushed lines written number (Ok _) done count failed = done
IsScript-flushed lines written number (Err fault) done count failed =
    IsStopped-flush lines written fault done (omega (arith, count, failed.0)) failed.1

module _ (start known left old new after : Option (List ℕ)) (state next_state : Option State) (number : ℕ)
    (so_far : IfSome start (λ bytes. Progress bytes known old new state number)) where
  -- one more line was answered
  pub script-line : IfSome known (λ rest. (written : List ℕ) × Appends new after written
      × IsTurn state rest left (Ok next.Line) written next_state)
      → IfSome start (λ bytes. Progress bytes left old after next_state (number + 1))
  script-line turn = answered start so_far
    where
      answered : (start : Option (List ℕ)) → IfSome start (λ bytes. Progress bytes known old new state number)
          → IfSome start (λ bytes. Progress bytes left old after next_state (number + 1))
      answered None progress = tt
      answered (Some bytes) progress =
          let done = at_some known progress.rest (λ rest. (written : List ℕ) × Appends new after written
          × IsTurn state rest left (Ok next.Line) written next_state) progress.left turn in
          Progress-line bytes known old new after state number progress left done.0 next_state done.1 done.2

  -- a line could not be done
  pub script-stop : (refusal : Cause) → IfSome known (λ rest. (written : List ℕ) × Appends new after written
      × MayStop refusal state (lines_of rest) written)
      → IfSome start (λ bytes. (written : List ℕ) × Appends old after written
      × IsStopped (lines_of bytes) (record { line = number; cause = refusal }) written)
  script-stop refusal turn = stopped start so_far
    where
      stopped : (start : Option (List ℕ)) → IfSome start (λ bytes. Progress bytes known old new state number)
          → IfSome start (λ bytes. (written : List ℕ) × Appends old after written
          × IsStopped (lines_of bytes) (record { line = number; cause = refusal }) written)
      stopped None progress = tt
      stopped (Some bytes) progress =
          let done = at_some known progress.rest (λ rest. (written : List ℕ) × Appends new after written
          × MayStop refusal state (lines_of rest) written) progress.left turn in
          Progress-stop bytes known old new after state number progress refusal done.0 done.1 done.2

  -- no line was left, and the writer was flushed
  pub script-end : (flushed : Option (List ℕ)) (r : Result (Unit {0}) Fault)
      → IfSome known (λ rest. (written : List ℕ) × Appends new after written
      × IsTurn state rest left (Ok next.End) written next_state)
      → Keeps after flushed → IfErr r (λ fault. (fault.line ≡ number - 1) × (fault.cause ≡ cause.WriteFailed))
      → IfSome start (λ bytes. (written : List ℕ) × Appends old flushed written × IsScript (lines_of bytes) r written)
  script-end flushed r turn kept failed = ended start so_far
    where
      ended : (start : Option (List ℕ)) → IfSome start (λ bytes. Progress bytes known old new state number)
          → IfSome start (λ bytes. (written : List ℕ) × Appends old flushed written × IsScript
          (lines_of bytes) r written)
      ended None progress = tt
      ended (Some bytes) progress =
          let done = at_some known progress.rest (λ rest. (written : List ℕ) × Appends new after written
          × IsTurn state rest left (Ok next.End) written next_state) progress.left turn in
          let all = Progress-end bytes known old new after state number progress done.2.0 done.2.3 in
          let nothing : Appends new after [] = subst (Appends new after) done.2.1 done.1 in
          let wrote : Appends old flushed (all.0 ++ []) =
          Appends-kept old after flushed (all.0 ++ []) (Appends-trans old new after all.0 [] all.1 nothing) kept in (
            all.0,
            subst (Appends old flushed) (append-nil all.0) wrote,
            IsScript-flushed (lines_of bytes) all.0 number r all.2 all.3 failed,
          )

-- at first
pub script-start : (known old : Option (List ℕ)) (state : Option State) → state ≡ None
    → IfSome known (λ bytes. Progress bytes known old old state 1)
script-start None old state none = tt
script-start (Some bytes) old state none =
    subst (λ other. Progress bytes (Some bytes) old old other 1) (sym none) (Progress-start bytes (Some bytes) old refl)

-- no further line has a number
pub script-limit : (start known old new : Option (List ℕ)) (state : Option State) (number : ℕ)
    → IfSome start (λ bytes. Progress bytes known old new state number) → number ≡ 18446744073709551615
    → IfSome start (λ bytes. (written : List ℕ) × Appends old new written
    × IsStopped (lines_of bytes) (record { line = 18446744073709551615; cause = cause.ReadFailed }) written)
script-limit None known old new state number progress is = tt
script-limit (Some bytes) known old new state number progress is =
    subst (λ line. (written : List ℕ) × Appends old new written
    × IsStopped (lines_of bytes) (record { line = line; cause = cause.ReadFailed }) written) is
    (Progress-stop bytes known old new new state number progress cause.ReadFailed [] (Appends-nil new) refl)
