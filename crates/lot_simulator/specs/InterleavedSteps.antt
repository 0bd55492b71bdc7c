-- The steps of the interleaved machine and its runs. What a step does of the machine with one list for each key is
-- said by that machine's rule. Each step tests first whether it fits, then whether a number is free, then whether its
-- buckets are, and last memory. `fine.`, `answer.`, `status.` and `machine.` stand before the variants of `FineAnswer`,
-- `Answer`, `Status` and `Step`.
use Rattle.std.specs.Prelude.{◌≡◌, ℕ, ◌+◌, ◌*◌, ◌-◌, ◌==◌, Bool, false, ◌&&◌, not, nat_lt, is_some, is_none, IsTrue}
use Rattle.std.specs.Prelude.{MatchBool, MatchOption, length, slice_get, slice_set, option_and_then, Option, Some, None}
use Rattle.std.specs.Prelude.{List, ◌∷◌, [], map, if◌then◌else◌}
use Rattle.std.specs.List.{list_any}
use Rattle.std.specs.Option.{option_map_or}
use Rattle.lot_base.specs.Place.{place_of}
use Rattle.lot_base.specs.Waiting.{with_value, has_any, Split}
use Rattle.lot_base.specs.declared.token.ParkToken.{ParkToken}
use Rattle.lot_base.specs.declared.token.UnparkToken.{UnparkToken}
use Rattle.lot_machine.specs.declared.status.Status.{Status}
use Rattle.lot_machine.specs.declared.status.Status.TheVariants as status
use Rattle.lot_machine.specs.declared.step.Answer.{Answer}
use Rattle.lot_machine.specs.declared.step.Answer.TheVariants as answer
use Rattle.lot_machine.specs.declared.step.Op.{Op}
use Rattle.lot_machine.specs.declared.step.Op.TheVariants.{One, All, Filter, Requeue}
use Rattle.lot_machine.specs.declared.step.Step.{Step}
use Rattle.lot_machine.specs.declared.step.Step.TheVariants as machine
use Rattle.lot_simulator.specs.declared.interleaved.FineAnswer.{FineAnswer}
use Rattle.lot_simulator.specs.declared.interleaved.FineAnswer.TheVariants as fine
use Rattle.lot_simulator.specs.declared.interleaved.FineStep.{FineStep}
use Rattle.lot_simulator.specs.declared.interleaved.FineStep.TheVariants.{Begin, Commit, End, Wake, Deadline}
use Rattle.lot_simulator.specs.declared.interleaved.FineStep.TheVariants.{ReadKey, Look, Enter, Return, Register}
use Rattle.lot_simulator.specs.declared.interleaved.FineStep.TheVariants.{Retire, Acquire, Release, Trim}
use Rattle.lot_simulator.specs.InterleavedState.{FineState, Section, TakenThread}
use Rattle.lot_machine.specs.Machine.{Machine, Waiter, entries_of, threads_of, with_status, after_timeout, is_last}
use Rattle.lot_machine.specs.Operation.{split_of, token_of}
use Rattle.lot_machine.specs.Size.{IsSizeAfter, IsTooLarge}
use Rattle.lot_machine.specs.Status.{is_running, awaits_deadline}
use Rattle.lot_machine.specs.Steps.{IsStep}

-- the step should give the answer `expected` and leave the state `after`: it gave `given` and left `new`
abbrev pub FineGives : FineState → FineAnswer → FineAnswer → FineState → Type 0
FineGives after expected given new = (given ≡ expected) × (new ≡ after)

-- a step that does not fit changes nothing
abbrev pub IsFineMisfit : FineState → FineAnswer → FineState → Type 0
IsFineMisfit s given new = FineGives s (fine.Answer answer.Misfit) given new

-- a step of the machine with one list for each key, which makes of the threads' view what the machine's rule says, and
-- gives its answer; `after` is the whole state then
abbrev pub GivesByMachine : FineState → Step → (Machine → FineState) → FineAnswer → FineState → Type 0
GivesByMachine s step after given new = (by_rule : Answer) × (view : Machine) × IsStep s.threads_view step by_rule view
    × FineGives (after view) (fine.Answer by_rule) given new

-- and changes nothing beside the threads' view
abbrev pub IsMachineStep : FineState → Step → FineAnswer → FineState → Type 0
IsMachineStep s step given new = GivesByMachine s step (λ view. record s { threads_view = view }) given new

-- which buckets are free

-- a section holds the bucket at this place
abbrev pub holds : ℕ → Option Section → Bool
holds place None = false
holds place (Some section) = list_any (λ held. held == place) section.held

-- an open section holds the bucket of the key
abbrev pub is_held : FineState → ℕ → Bool
is_held s key = list_any (λ caller. holds (place_of key s.size) caller.section) s.callers

-- a section is open; Begin opens none without a bucket
abbrev pub is_any_open : FineState → Bool
is_any_open s = list_any (λ caller. is_some caller.section) s.callers

-- a step that needs the buckets of these keys is blocked while one of them is held; else it does this
abbrev pub UnlessHeld : FineState → List ℕ → FineAnswer → FineState → Type 0 → Type 0
UnlessHeld s keys given new does = MatchBool (list_any (is_held s) keys) (FineGives s fine.Blocked given new) does

-- the steps of a caller

-- the open section of a caller of this number, if there is one
abbrev pub section_of : FineState → ℕ → Option Section
section_of s caller = option_and_then (λ c. c.section) (slice_get s.callers caller)

-- how many threads a caller of this number is to wake
abbrev pub wakes_of : FineState → ℕ → ℕ
wakes_of s caller = option_map_or (λ c. c.wakes) (slice_get s.callers caller) 0

-- the state, where a caller has this section, and so many threads to wake
abbrev pub with_caller : FineState → ℕ → Option Section → ℕ → FineState
with_caller s caller section wakes =
    record s { callers = slice_set s.callers caller (record { section = section; wakes = wakes }) }

-- the keys of an operation, whose buckets it needs, a requeue with `Abort` too
abbrev pub keys_of : Op → List ℕ
keys_of (One key token) = key ∷ []
keys_of (All key token) = key ∷ []
keys_of (Filter key decisions token) = key ∷ []
keys_of (Requeue from to op token) = from ∷ to ∷ []

-- the waiters that were taken, with their token
abbrev pub with_tokens : UnparkToken → List Waiter → List TakenThread
with_tokens token waiters = map (λ waiter. record { number = waiter.number; token = token }) waiters

-- the key words once these waiters were moved to the key
abbrev pub with_key_words : ℕ → List Waiter → (ℕ → ℕ) → ℕ → ℕ
with_key_words key moved key_words number = if has_any (entries_of number moved) then key else key_words number

-- and once an operation moved these
abbrev pub key_words_after : Op → List Waiter → (ℕ → ℕ) → ℕ → ℕ
key_words_after (Requeue from to op token) moved key_words = with_key_words to moved key_words
key_words_after _ moved key_words = key_words

-- Begin: the operation's change of the lists, and of the key words of those that moved; the section holds the buckets
-- of the operation's keys, and has those that it took
abbrev pub after_begin : FineState → ℕ → Op → Machine → FineState
after_begin s caller op view =
    let split : Split Waiter = split_of op s.threads_view.lists in
    let section : Section = record {
      held = map (λ key. place_of key s.size) (keys_of op);
      taken = with_tokens (token_of op) split.taken;
    } in
    with_caller (record s {
      threads_view = record s.threads_view { lists = view.lists };
      key_words = key_words_after op split.moved s.key_words;
    })
    caller (Some section) 0

-- a caller may begin: there is one of this number, it has no section open, and it has nobody to wake
abbrev pub can_begin : FineState → ℕ → Bool
can_begin s caller =
    nat_lt caller (length s.callers) && is_none (section_of s caller) && wakes_of s caller == 0

abbrev pub IsBegin : FineState → ℕ → Op → FineAnswer → FineState → Type 0
IsBegin s caller op given new =
    MatchBool (can_begin s caller)
    (UnlessHeld s (keys_of op) given new
    (GivesByMachine s (machine.Unpark op) (after_begin s caller op) given new))
    (IsFineMisfit s given new)

-- Commit, where the section has these left that it took: the first gets its node, with the token, into its slot, and
-- there is one thread more to wake
abbrev pub IsCommit : FineState → ℕ → Section → List TakenThread → FineAnswer → FineState → Type 0
IsCommit s caller section [] given new = IsFineMisfit s given new
IsCommit s caller section (first ∷ rest) given new =
    FineGives (with_caller (record s { slots = with_value s.slots first.number (Some first.token) })
    caller (Some (record section { taken = rest })) (wakes_of s caller + 1))
    (fine.Committed first.number) given new

-- End: the section is closed, once all that it took have their nodes
abbrev pub IsEnd : FineState → ℕ → Section → FineAnswer → FineState → Type 0
IsEnd s caller section given new =
    MatchBool (has_any section.taken) (IsFineMisfit s given new)
    (FineGives (with_caller s caller None (wakes_of s caller)) fine.Ended given new)

-- Wake: there is one thread less to wake
abbrev pub IsWake : FineState → ℕ → FineAnswer → FineState → Type 0
IsWake s caller given new =
    MatchBool (wakes_of s caller == 0) (IsFineMisfit s given new)
    (FineGives (with_caller s caller (section_of s caller) (wakes_of s caller - 1)) fine.Woken given new)

-- the steps of a thread

-- Deadline: a thread that waits with a timeout and finds its slot empty is late, and has read no key
abbrev pub IsDeadline : FineState → ℕ → FineAnswer → FineState → Type 0
IsDeadline s thread given new =
    MatchBool (awaits_deadline (s.threads_view.status thread) && is_none (s.slots thread))
    (FineGives (record s {
      threads_view = with_status s.threads_view thread status.Late;
      keys_read = with_value s.keys_read thread None;
    })
    fine.Late given new)
    (IsFineMisfit s given new)

-- ReadKey, where the thread has this status: one that is late reads its key word
abbrev pub IsReadKey : FineState → ℕ → Status → FineAnswer → FineState → Type 0
IsReadKey s thread status.Late given new =
    let key : ℕ = s.key_words thread in
    FineGives (record s { keys_read = with_value s.keys_read thread (Some key) }) (fine.Read key) given new
IsReadKey s thread _ given new = IsFineMisfit s given new

-- the state, where a thread has its node back and runs, in this threads' view
abbrev pub after_outcome : FineState → ℕ → Machine → FineState
after_outcome s thread view =
    record s {
      threads_view = view;
      keys_read = with_value s.keys_read thread None;
      slots = with_value s.slots thread None;
    }

-- Return, and the end of Look, where a thread finds this token in its slot
abbrev pub IsUnparked : FineState → ℕ → UnparkToken → FineAnswer → FineState → Type 0
IsUnparked s thread token given new =
    FineGives (after_outcome s thread (with_status s.threads_view thread status.Running))
    (fine.Answer (answer.Unparked token)) given new

-- Return, where the thread has this status and this slot: one that waits takes its node out of its slot
abbrev pub IsFineReturn : FineState → ℕ → Status → Option UnparkToken → FineAnswer → FineState → Type 0
IsFineReturn s thread (status.Waiting timed) (Some token) given new = IsUnparked s thread token given new
IsFineReturn s thread _ _ given new = IsFineMisfit s given new

-- Look, where the bucket of the key that the thread has read is free; only a late thread has read one: with another key
-- word the thread is to read again; with a full slot it was unparked; else it leaves its list
abbrev pub IsLook : FineState → ℕ → ℕ → FineAnswer → FineState → Type 0
IsLook s thread key given new =
    MatchBool (s.key_words thread == key)
    (MatchOption (s.slots thread)
    (FineGives (after_outcome s thread (after_timeout s.threads_view thread key))
    (fine.Answer (answer.TimedOut key (is_last s.threads_view thread key))) given new)
    (λ token. IsUnparked s thread token given new))
    (FineGives (record s { keys_read = with_value s.keys_read thread None }) fine.Retry given new)

-- Enter: a running thread does what the machine does, and its key word becomes the key where it is valid
abbrev pub IsEnter : FineState → ℕ → ℕ → Bool → ParkToken → Bool → FineAnswer → FineState → Type 0
IsEnter s thread key valid park_token timed given new =
    let key_words : ℕ → ℕ = if valid then with_value s.key_words thread key else s.key_words in
    MatchBool (is_running (s.threads_view.status thread))
    (UnlessHeld s (key ∷ []) given new
    (GivesByMachine s (machine.Enter thread key valid park_token timed)
    (λ view. record s { threads_view = view; key_words = key_words }) given new))
    (IsFineMisfit s given new)

-- no number is free: `IsFull` of the threads' view, decided
abbrev pub is_full : FineState → Bool
is_full s = threads_of s.threads_view == s.threads_view.max_threads

-- the table would grow while a bucket is held
abbrev pub is_growth_blocked : FineState → Bool
is_growth_blocked s = nat_lt s.size (3 * (threads_of s.threads_view + 1)) && is_any_open s

-- Register: it is full before it is blocked, and else it is the machine's, after which the table's size is as its rule
-- says
abbrev pub IsFineRegister : FineState → FineAnswer → FineState → Type 0
IsFineRegister s given new =
    MatchBool (not (is_full s) && is_growth_blocked s) (FineGives s fine.Blocked given new)
    ((by_rule : Answer) × (view : Machine) × (size : ℕ) × IsStep s.threads_view machine.Register by_rule view
    × IsSizeAfter machine.Register by_rule (threads_of view) s.size size
    × FineGives (record s { threads_view = view; size = size }) (fine.Answer by_rule) given new)

-- Trim: it is blocked where the table is too large for its threads and a section is open. Else it is the machine's,
-- after which the table's size is as its rule says, and where the table is too large no section is open
abbrev pub IsFineTrim : FineState → FineAnswer → FineState → Type 0
IsFineTrim s fine.Blocked new =
    IsTooLarge (threads_of s.threads_view) s.size × IsTrue (is_any_open s) × (new ≡ s)
IsFineTrim s (fine.Answer by_rule) new =
    (IsTooLarge (threads_of s.threads_view) s.size → is_any_open s ≡ false)
    × (view : Machine) × (size : ℕ) × IsStep s.threads_view machine.Trim by_rule view
    × IsSizeAfter machine.Trim by_rule (threads_of view) s.size size
    × (new ≡ record s { threads_view = view; size = size })
IsFineTrim s _ new = ⊥

-- one step: the state before, the step, its answer and the state after
abbrev pub IsFineStep : FineState → FineStep → FineAnswer → FineState → Type 0
IsFineStep s (Begin caller op) given new = IsBegin s caller op given new
IsFineStep s (Commit caller) given new =
    MatchOption (section_of s caller) (IsFineMisfit s given new)
    (λ section. IsCommit s caller section section.taken given new)
IsFineStep s (End caller) given new =
    MatchOption (section_of s caller) (IsFineMisfit s given new) (λ section. IsEnd s caller section given new)
IsFineStep s (Wake caller) given new = IsWake s caller given new
IsFineStep s (Deadline thread) given new = IsDeadline s thread given new
IsFineStep s (ReadKey thread) given new = IsReadKey s thread (s.threads_view.status thread) given new
IsFineStep s (Look thread) given new =
    MatchOption (s.keys_read thread) (IsFineMisfit s given new)
    (λ key. UnlessHeld s (key ∷ []) given new (IsLook s thread key given new))
IsFineStep s (Enter thread key valid park_token timed) given new =
    IsEnter s thread key valid park_token timed given new
IsFineStep s (Return thread) given new = IsFineReturn s thread (s.threads_view.status thread) (s.slots thread) given new
IsFineStep s Register given new = IsFineRegister s given new
IsFineStep s (Retire thread) given new = IsMachineStep s (machine.Retire thread) given new
IsFineStep s (Acquire thread key) given new = IsMachineStep s (machine.Acquire thread key) given new
IsFineStep s (Release thread key) given new = IsMachineStep s (machine.Release thread key) given new
IsFineStep s Trim given new = IsFineTrim s given new
