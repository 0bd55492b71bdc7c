-- What the instructions of a test do.
use Rattle.std.specs.Prelude.{ℕ, zero, suc, ◌+◌, ◌-◌, ◌/◌, ◌%◌, Bool, true, false, ◌==◌, ◌&&◌, not}
use Rattle.std.specs.Prelude.{if◌then◌else◌, nat_lt, nat_le, bit_and, bit_or, bit_xor, List, ◌∷◌, [], length, replicate}
use Rattle.std.specs.Prelude.{slice_get, slice_index, slice_index_or, slice_set, Option, Some, None}
use Rattle.lot_base.specs.declared.token.FilterOp.{FilterOp}
use Rattle.lot_base.specs.declared.token.FilterOp.TheVariants as filter
use Rattle.lot_base.specs.declared.token.RequeueOp.{RequeueOp}
use Rattle.lot_base.specs.declared.token.RequeueOp.TheVariants as requeue
use Rattle.lot_base.specs.Waiting.{Split, split_first, split_all, split_filter, split_by}
use Rattle.lot_machine.specs.declared.status.Status.{Status}
use Rattle.lot_machine.specs.declared.status.Status.TheVariants as status
use Rattle.lot_machine.specs.Status.{is_running}
use Rattle.lot_machine.specs.Machine.{Machine, Waiter, with_status, after_enter, after_unpark, after_requeue}
use Rattle.lot_machine.specs.Machine.{after_timeout, times_in, is_last}
use Rattle.lot_litmus.specs.declared.code.Access.{Access}
use Rattle.lot_litmus.specs.declared.code.Access.TheVariants.{Shared, Alone}
use Rattle.lot_litmus.specs.declared.code.Code.{Code}
use Rattle.lot_litmus.specs.declared.code.Key.{Key}
use Rattle.lot_litmus.specs.declared.code.Local.{Local}
use Rattle.lot_litmus.specs.declared.code.Word.{Word}
use Rattle.lot_litmus.specs.declared.code.Operand.{Operand}
use Rattle.lot_litmus.specs.declared.code.Operand.TheVariants as operand
use Rattle.lot_litmus.specs.declared.code.Operation.{Operation}
use Rattle.lot_litmus.specs.declared.code.Operation.TheVariants as operation
use Rattle.lot_litmus.specs.declared.code.Validation.{Validation}
use Rattle.lot_litmus.specs.declared.code.Validation.TheVariants as validation
use Rattle.lot_litmus.specs.declared.code.Timing.{Timing}
use Rattle.lot_litmus.specs.declared.code.Timing.TheVariants as timing
use Rattle.lot_litmus.specs.declared.code.Moves.{Moves}
use Rattle.lot_litmus.specs.declared.code.Moves.TheVariants as moves
use Rattle.lot_litmus.specs.declared.code.Instruction.{Instruction}
use Rattle.lot_litmus.specs.declared.code.Instruction.TheVariants as instruction
use Rattle.lot_litmus.specs.declared.state.Progress.{Progress}
use Rattle.lot_litmus.specs.declared.test.Fault.{Fault}
use Rattle.lot_litmus.specs.declared.test.Fault.TheVariants.{Assertion, Exclusion, Overflow, Endless}
use Rattle.lot_litmus.specs.declared.test.Test.{Test}
use Rattle.lot_litmus.specs.Configuration.{Configuration}

-- what becomes of a configuration: it cannot be now, it goes on to another one, or there is a fault
pub data Outcome : Type 0 where
  Blocked : Outcome
  Goes : Configuration → Outcome
  Fails : Fault → Outcome

-- numbers

abbrev pub one_if : Bool → ℕ
one_if holds = if holds then 1 else 0

-- what an operation makes of two bytes, where that is a byte
abbrev pub made_of : Operation → ℕ → ℕ → Option ℕ
made_of operation.Second a b = Some b
made_of operation.Add a b = if nat_lt (a + b) 256 then Some (a + b) else None
made_of operation.Subtract a b = if nat_le b a then Some (a - b) else None
made_of operation.And a b = Some (bit_and a b)
made_of operation.Or a b = Some (bit_or a b)
made_of operation.Xor a b = Some (bit_xor a b)
made_of operation.Equal a b = Some (one_if (a == b))
made_of operation.Unequal a b = Some (one_if (not (a == b)))
made_of operation.Below a b = Some (one_if (nat_lt a b))
made_of operation.AtMost a b = Some (one_if (nat_le a b))

-- whether an operation makes anything but 0
abbrev pub is_set : Option ℕ → Bool
is_set None = false
is_set (Some n) = not (n == 0)

abbrev pub value_of : Progress → Operand → ℕ
value_of p (operand.Constant n) = n
value_of p (operand.Local l) = slice_index p.locals l.number

-- how far a thread has come then
abbrev pub at_target : Progress → ℕ → Progress
at_target p target = record p { at = target }

abbrev pub advanced : Progress → Progress
advanced p = record p { at = p.at + 1 }

abbrev pub with_local : Progress → Local → ℕ → Progress
with_local p l n = record p { locals = slice_set p.locals l.number n }

abbrev pub unlocked : Progress → Progress
unlocked p = record p { locked = replicate 4 false }

-- a configuration in which this thread has come so far
abbrev pub with_progress : Configuration → ℕ → Progress → Configuration
with_progress c thread p = record c { threads = slice_set c.threads thread p }

abbrev pub with_word : Configuration → Word → ℕ → Configuration
with_word c word n = record c { words = slice_set c.words word.number n }

abbrev pub with_machine : Configuration → Machine → Configuration
with_machine c m = record c { machine = m }

-- whether all of a list pass a test
abbrev pub all_pass : {A : Type 0} → (A → Bool) → List A → Bool
all_pass test [] = true
all_pass test (x ∷ xs) = test x && all_pass test xs

-- the critical section: whether one who is there lets another in
abbrev pub lets_in : Access → Option Access → Bool
lets_in access None = true
lets_in Shared (Some Shared) = true
lets_in Shared (Some Alone) = false
lets_in Alone (Some _) = false

-- what a local instruction does to the thread that has come so far; nothing, if it is a step
pub data Locally : Type 0 where
  Rests : Locally
  Advances : Progress → Locally
  Errs : Fault → Locally

abbrev pub computed : Progress → Local → Option ℕ → Locally
computed p to None = Errs Overflow
computed p to (Some n) = Advances (advanced (with_local p to n))

-- the waiter at an index of a queue
abbrev pub looked : Progress → Local → ℕ → Option Waiter → Locally
looked p to target None = Advances (at_target p target)
looked p to target (Some waiter) = Advances (advanced (with_local p to waiter.park_token.0))

abbrev pub local_step : Configuration → Progress → Option Instruction → Locally
local_step c p (Some (instruction.Compute to op first second)) =
    computed p to (made_of op (value_of p first) (value_of p second))
local_step c p (Some (instruction.Jump target)) = Advances (at_target p target)
local_step c p (Some (instruction.JumpUnless n target)) =
    Advances (if value_of p n == 0 then at_target p target else advanced p)
local_step c p (Some (instruction.Assert n)) = if value_of p n == 0 then Errs Assertion else Advances (advanced p)
local_step c p (Some (instruction.Enter access)) =
    if all_pass (λ other. lets_in access other.inside) c.threads
    then Advances (advanced (record p { inside = Some access })) else Errs Exclusion
local_step c p (Some (instruction.Count to key)) =
    Advances (advanced (with_local p to (length (c.machine.lists key.number))))
local_step c p (Some (instruction.Look to key index target)) =
    looked p to target (slice_get (c.machine.lists key.number) (value_of p index))
local_step c p _ = Rests

-- a thread goes on up to its next step, by at most so many local instructions
abbrev pub settled_by : (Progress → Outcome) → Outcome → Locally → Outcome
settled_by next rest Rests = rest
settled_by next rest (Advances p) = next p
settled_by next rest (Errs fault) = Fails fault

abbrev pub settled : ℕ → List Instruction → Configuration → ℕ → Progress → Outcome
settled zero code c thread p = Fails Endless
settled (suc more) code c thread p =
    settled_by (settled more code (with_progress c thread p) thread) (Goes (with_progress c thread p))
    (local_step (with_progress c thread p) p (slice_get code p.at))

-- buckets

-- the bucket of a key
abbrev pub bucket_by : ℕ → Option Key → ℕ
bucket_by key None = key
bucket_by key (Some bucket) = bucket.number

abbrev pub bucket_of : Test → ℕ → ℕ
bucket_of test key = bucket_by key (slice_get test.buckets key)

-- whether no other thread has locked the bucket of a key
abbrev pub is_free : Test → Configuration → ℕ → Progress → ℕ → Bool
is_free test c thread p key =
    all_pass (λ other. not (slice_index_or other.locked (bucket_of test key) false))
    (slice_set c.threads thread (unlocked p))

-- the thread has locked the bucket of a key
abbrev pub locking : Test → ℕ → Progress → Progress
locking test key p = record p { locked = slice_set p.locked (bucket_of test key) true }

-- the lot

abbrev pub is_valid : Configuration → Progress → Validation → Bool
is_valid c p (validation.Given n) = not (value_of p n == 0)
is_valid c p (validation.Seen word op n) = is_set (made_of op (slice_index c.words word.number) (value_of p n))

abbrev pub is_timed : Timing → Bool
is_timed timing.Timed = true
is_timed timing.Endless = false

-- the key at which a thread stands
abbrev pub first_key : Machine → ℕ → ℕ → ℕ → Option ℕ
first_key m thread key zero = None
first_key m thread key (suc more) =
    if times_in thread (m.lists key) == 0 then first_key m thread (key + 1) more else Some key

abbrev pub standing_key : Machine → ℕ → Option ℕ
standing_key m thread = first_key m thread 0 4

-- a filter that takes the waiters whose bits are in a number, of which the first has bit 0
abbrev pub decisions_of : ℕ → ℕ → List FilterOp
decisions_of zero chosen = []
decisions_of (suc more) chosen =
    (if chosen % 2 == 1 then filter.Unpark else filter.Skip) ∷ decisions_of more (chosen / 2)

-- of the waiters of a queue, of which there are never more than eight
unfoldable pub decisions_on : ℕ → List FilterOp
decisions_on chosen = decisions_of 8 chosen

abbrev pub requeue_of : Moves → RequeueOp
requeue_of moves.Nobody = requeue.Abort
requeue_of moves.OneUnparkedRestMoved = requeue.UnparkOneRequeueRest
requeue_of moves.AllMoved = requeue.RequeueAll
requeue_of moves.OneUnparked = requeue.UnparkOne
requeue_of moves.OneMoved = requeue.RequeueOne

-- what a thread does with the instruction at which it is: the configuration in which the others see it, and how far it
-- has come itself
pub data Performed : Type 0 where
  Cannot : Performed
  Does : Configuration → Progress → Performed
  Mistakes : Fault → Performed

abbrev pub where_free : Bool → Performed → Performed
where_free free performed = if free then performed else Cannot

abbrev pub updated : Configuration → Progress → Local → Word → Option ℕ → Performed
updated c p to word None = Mistakes Overflow
updated c p to word (Some n) =
    Does (with_word c word n) (advanced (with_local p to (slice_index c.words word.number)))

-- it has parked or not, by what the validation said
abbrev pub parked : Configuration → ℕ → Progress → Key → Bool → ℕ → Bool → ℕ → Performed
parked c thread p key valid token timed target =
    if valid
    then Does (with_machine c (after_enter c.machine thread key.number (record { 0 = token }) timed))
    (advanced (unlocked p))
    else Does c (at_target (unlocked p) target)

-- a thread whose deadline has passed locks the bucket of its queue
abbrev pub leaving : Test → Configuration → ℕ → Progress → Local → ℕ → Option ℕ → Performed
leaving test c thread p last target None = Cannot
leaving test c thread p last target (Some key) =
    where_free (is_free test c thread p key)
    (Does c (at_target (with_local (locking test key p) last (one_if (is_last c.machine thread key))) target))

abbrev pub sleeping : Test → Configuration → ℕ → Progress → Local → Local → ℕ → Status → Performed
sleeping test c thread p to last target (status.Taken token) =
    Does (with_machine c (with_status c.machine thread status.Running)) (advanced (with_local p to token.0))
sleeping test c thread p to last target (status.Waiting true) =
    Does (with_machine c (with_status c.machine thread status.Late)) p
sleeping test c thread p to last target status.Late =
    leaving test c thread p last target (standing_key c.machine thread)
sleeping test c thread p to last target _ = Cannot

-- it leaves the queue in which it stands
abbrev pub left : Configuration → ℕ → Progress → Option ℕ → Performed
left c thread p None = Cannot
left c thread p (Some key) = Does (with_machine c (after_timeout c.machine thread key)) (advanced (unlocked p))

abbrev pub giving_up : Configuration → ℕ → Progress → Status → Performed
giving_up c thread p status.Late = left c thread p (standing_key c.machine thread)
giving_up c thread p _ = Cannot

abbrev pub unparked : Configuration → Progress → Key → Split Waiter → ℕ → Performed
unparked c p key split token =
    Does (with_machine c (after_unpark c.machine key.number split (record { 0 = token }))) (advanced (unlocked p))

-- how many threads have not ended
abbrev pub one_unless_ended : Option Instruction → ℕ
one_unless_ended None = 0
one_unless_ended (Some _) = 1

abbrev pub unended : List Code → List Progress → ℕ
unended (code ∷ codes) (p ∷ ps) = one_unless_ended (slice_get code.instructions.items p.at) + unended codes ps
unended _ _ = 0

abbrev pub performed : Test → Configuration → ℕ → Progress → Option Instruction → Performed
performed test c thread p None = Cannot
performed test c thread p (Some instruction.Pass) = Does c (advanced p)
performed test c thread p (Some instruction.Leave) = Does c (advanced (record p { inside = None }))
performed test c thread p (Some (instruction.Read to word)) =
    Does c (advanced (with_local p to (slice_index c.words word.number)))
performed test c thread p (Some (instruction.Write word n)) = Does (with_word c word (value_of p n)) (advanced p)
performed test c thread p (Some (instruction.Update to word op n)) =
    updated c p to word (made_of op (slice_index c.words word.number) (value_of p n))
performed test c thread p (Some (instruction.CompareExchange to word expected new)) =
    let old = slice_index c.words word.number in
    updated c p to word (Some (if old == value_of p expected then value_of p new else old))
performed test c thread p (Some (instruction.Await word op n)) =
    where_free (is_set (made_of op (slice_index c.words word.number) (value_of p n))) (Does c (advanced p))
performed test c thread p (Some instruction.AwaitOthers) =
    where_free (unended test.codes c.threads == 1) (Does c (advanced p))
performed test c thread p (Some (instruction.Lock key other)) =
    where_free (is_free test c thread p key.number && is_free test c thread p other.number)
    (Does c (advanced (locking test other.number (locking test key.number p))))
performed test c thread p (Some instruction.Unlock) = Does c (advanced (unlocked p))
performed test c thread p (Some (instruction.Park key v token time target)) =
    where_free (is_free test c thread p key.number && is_running (c.machine.status thread))
    (parked c thread p key (is_valid c p v) (value_of p token) (is_timed time) target)
performed test c thread p (Some (instruction.Sleep to last target)) =
    sleeping test c thread p to last target (c.machine.status thread)
performed test c thread p (Some instruction.GiveUp) = giving_up c thread p (c.machine.status thread)
performed test c thread p (Some (instruction.UnparkOne key token)) =
    where_free (is_free test c thread p key.number)
    (unparked c p key (split_first (c.machine.lists key.number)) (value_of p token))
performed test c thread p (Some (instruction.UnparkAll key token)) =
    where_free (is_free test c thread p key.number)
    (unparked c p key (split_all (c.machine.lists key.number)) (value_of p token))
performed test c thread p (Some (instruction.UnparkFilter key chosen token)) =
    where_free (is_free test c thread p key.number)
    (unparked c p key (split_filter (decisions_on (value_of p chosen)) (c.machine.lists key.number)) (value_of p token))
performed test c thread p (Some (instruction.Requeue key other move token)) =
    where_free (is_free test c thread p key.number && is_free test c thread p other.number)
    (Does (with_machine c (after_requeue c.machine key.number other.number
    (split_by (requeue_of move) (c.machine.lists key.number)) (record { 0 = value_of p token })))
    (advanced (unlocked p)))
performed test c thread p (Some _) = Does c p

-- how many local instructions a thread does at once, at most
unfoldable pub local_bound : ℕ
local_bound = 256

-- a step of a thread: its instruction, and the local ones up to the next step
abbrev pub then_settled : List Instruction → ℕ → Performed → Outcome
then_settled code thread Cannot = Blocked
then_settled code thread (Does c p) = settled local_bound code c thread p
then_settled code thread (Mistakes fault) = Fails fault

abbrev pub stepped_in : Test → Configuration → ℕ → Option Code → Option Progress → Outcome
stepped_in test c thread (Some code) (Some p) =
    then_settled code.instructions.items thread
    (performed test c thread p (slice_get code.instructions.items p.at))
stepped_in test c thread _ _ = Blocked

abbrev pub stepped : Test → Configuration → ℕ → Outcome
stepped test c thread = stepped_in test c thread (slice_get test.codes thread) (slice_get c.threads thread)
