-- What the interleaved machine amounts to: the state of the machine with one list for each key that an interleaved
-- state stands for, and the steps of that machine that a run stands for, with their answers. The first is an
-- abstraction function, and a sequential step stands in the run at its linearization point. `Fine` in a name means: of
-- the interleaved machine.
use Rattle.std.specs.Prelude.{◌≡◌, ℕ, ◌+◌, ◌≤◌, ◌==◌, Bool, false, IsTrue, is_some, Option, Some, None, List, ◌∷◌, ◌++◌}
use Rattle.std.specs.Prelude.{[]}
use Rattle.std.specs.Prelude.{All, count_by, flat_map, map, if◌then◌else◌}
use Rattle.std.specs.List.{list_any}
use Rattle.lot_base.specs.Place.{place_of}
use Rattle.lot_base.specs.Waiting.{with_value}
use Rattle.lot_base.specs.declared.token.UnparkToken.{UnparkToken}
use Rattle.lot_machine.specs.declared.status.Status.{Status}
use Rattle.lot_machine.specs.declared.status.Status.TheVariants.{Late, Taken}
use Rattle.lot_machine.specs.declared.step.Answer.{Answer}
use Rattle.lot_machine.specs.declared.step.Answer.TheVariants as answer
use Rattle.lot_machine.specs.declared.step.Step.{Step}
use Rattle.lot_machine.specs.declared.step.Step.TheVariants as machine
use Rattle.lot_simulator.specs.declared.interleaved.FineAnswer.{FineAnswer}
use Rattle.lot_simulator.specs.declared.interleaved.FineAnswer.TheVariants as fine
use Rattle.lot_simulator.specs.declared.interleaved.FineStep.{FineStep}
use Rattle.lot_simulator.specs.declared.interleaved.FineStep.TheVariants.{Begin, Deadline, Look, Enter, Return}
use Rattle.lot_simulator.specs.declared.interleaved.FineStep.TheVariants.{Register, Retire, Acquire, Release, Trim}
use Rattle.lot_simulator.specs.InterleavedState.{FineState, Section, Caller, TakenThread}
use Rattle.lot_simulator.specs.InterleavedSteps.{IsFineStep, holds, section_of}
use Rattle.lot_machine.specs.Run.{IsRun}
use Rattle.lot_machine.specs.Machine.{Machine, MatchesStatus}
use Rattle.lot_machine.specs.Status.{is_queued, is_taken}

-- the threads that a section has taken and not handed on yet
abbrev pub taken_in : Option Section → List TakenThread
taken_in None = []
taken_in (Some section) = section.taken

-- those that open sections have taken
abbrev pub taken_of : FineState → List TakenThread
taken_of s = flat_map (λ caller. taken_in caller.section) s.callers

-- the statuses, where these threads are taken
abbrev pub with_taken : List TakenThread → (ℕ → Status) → ℕ → Status
with_taken [] status = status
with_taken (thread ∷ threads) status = with_value (with_taken threads status) thread.number (Taken thread.token)

-- a status, where the slot is full or empty
abbrev pub with_slot : Option UnparkToken → Status → Status
with_slot None status = status
with_slot (Some token) status = Taken token

-- the status of a thread, where one is taken that an open section has, or whose slot is full
abbrev pub sequential_status : FineState → ℕ → Status
sequential_status s number = with_slot (s.slots number) (with_taken (taken_of s) s.threads_view.status number)

-- the sequential view: the state of the machine with one list for each key
abbrev pub sequential_view : FineState → Machine
sequential_view s = record s.threads_view { status = sequential_status s }

-- what every consistent state keeps, as those of interleaved lots are

-- how often a thread is among these
abbrev pub times_taken : ℕ → List TakenThread → ℕ
times_taken number threads = count_by (λ thread. thread.number == number) threads

-- 1 if it holds, else 0
abbrev pub once_if : Bool → ℕ
once_if b = if b then 1 else 0

-- each thread that a caller's section took and has not handed on has a key word whose bucket the section holds
abbrev pub HoldsForTaken : FineState → Caller → Type 0
HoldsForTaken s caller =
    All (λ thread. IsTrue (holds (place_of (s.key_words thread.number) s.size) caller.section))
    (taken_in caller.section)

-- each open section holds a bucket
abbrev pub EachHoldsABucket : FineState → Type 0
EachHoldsABucket s = (caller : ℕ) → IsTrue (is_some (section_of s caller))
    → (place : ℕ) × IsTrue (holds place (section_of s caller))

-- where two callers' open sections hold the same bucket, they are one caller
abbrev pub EachHoldsAlone : FineState → Type 0
EachHoldsAlone s = (place caller other : ℕ) → IsTrue (holds place (section_of s caller))
    → IsTrue (holds place (section_of s other)) → caller ≡ other

pub record IsFineConsistent (s : FineState) : Type 0 where
  -- the sequential view keeps what every consistent machine keeps, and each thread that waits or is late in it stands
  -- at its key word
  pub view : MatchesStatus s.key_words (sequential_view s)
  -- a thread was taken once at most, and only one that waits or is late
  pub handed : (number : ℕ) → times_taken number (taken_of s) + once_if (is_some (s.slots number))
      ≤ once_if (is_queued (s.threads_view.status number))
  -- and it does not know it: in the threads' view nobody is taken
  pub unaware : (number : ℕ) → is_taken (s.threads_view.status number) ≡ false
  -- only a late thread has read a key
  pub reading : (number : ℕ) → IsTrue (is_some (s.keys_read number)) → s.threads_view.status number ≡ Late
  -- sections hold the buckets of those that they took, so a late one of these cannot look by its key word before the
  -- section's end
  pub held : All (HoldsForTaken s) s.callers
  -- an open section holds a bucket, and no other caller's section holds it
  pub holding : EachHoldsABucket s
  pub alone : EachHoldsAlone s

-- a step of the machine with its answer, if it fitted
abbrev pub answered : Step → Answer → List (Step × Answer)
answered step answer.Misfit = []
answered step given = (step, given) ∷ []

-- the sequential step of an interleaved step, done in this state and answered so, if there is one: a deadline is none
-- where an open section has the thread
abbrev pub sequential_step : FineState → FineStep → FineAnswer → List (Step × Answer)
sequential_step s (Begin caller op) (fine.Answer given) = answered (machine.Unpark op) given
sequential_step s (Deadline thread) fine.Late =
    if list_any (λ caller. list_any (λ taken. taken.number == thread) (taken_in caller.section)) s.callers then []
    else answered (machine.Deadline thread) answer.Late
sequential_step s (Look thread) (fine.Answer (answer.TimedOut key last)) =
    answered (machine.Resolve thread) (answer.TimedOut key last)
sequential_step s (Look thread) (fine.Answer given) = answered (machine.Return thread) given
sequential_step s (Enter thread key valid park_token timed) (fine.Answer given) =
    answered (machine.Enter thread key valid park_token timed) given
sequential_step s (Return thread) (fine.Answer given) = answered (machine.Return thread) given
sequential_step s Register (fine.Answer given) = answered machine.Register given
sequential_step s (Retire thread) (fine.Answer given) = answered (machine.Retire thread) given
sequential_step s (Acquire thread key) (fine.Answer given) = answered (machine.Acquire thread key) given
sequential_step s (Release thread key) (fine.Answer given) = answered (machine.Release thread key) given
sequential_step s Trim (fine.Answer given) = answered machine.Trim given
sequential_step s _ _ = []

-- the sequential steps of a run, with their answers
abbrev pub sequential_steps : (s : FineState) (steps : List FineStep) (answers : List FineAnswer) (last : FineState)
    → IsRun IsFineStep s steps answers last → List (Step × Answer)
sequential_steps s [] [] last ran = []
sequential_steps s [] (_ ∷ _) last none = absurd none
sequential_steps s (_ ∷ _) [] last none = absurd none
sequential_steps s (step ∷ steps) (given ∷ answers) last (next, does, ran) =
    sequential_step s step given ++ sequential_steps next steps answers last ran

-- the steps alone, and the answers
abbrev pub steps_of : List (Step × Answer) → List Step
steps_of sequential = map (λ pair. pair.0) sequential

abbrev pub answers_of : List (Step × Answer) → List Answer
answers_of sequential = map (λ pair. pair.1) sequential
