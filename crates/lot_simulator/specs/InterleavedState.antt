-- The state of the interleaved machine: of a lot between the steps of its sections, threads and wakes. A section is
-- what a caller of an unpark does while it holds buckets.
use Rattle.std.specs.Prelude.{ℕ, List, Option, None, replicate}
use Rattle.lot_base.specs.declared.token.UnparkToken.{UnparkToken}
use Rattle.lot_machine.specs.Machine.{Machine, new_machine}

-- a thread that was taken, and the token that it is handed
pub record TakenThread : Type 0 where
  pub number : ℕ
  pub token : UnparkToken

-- an open section: the places of the buckets that it holds, in the order of the operation's keys (a requeue within one
-- bucket has its place twice), and the threads that it took and that do not have their nodes yet, in order
pub record Section : Type 0 where
  pub held : List ℕ
  pub taken : List TakenThread

-- a caller: its section, if one is open, and how many threads it is still to wake. Of these only the number is kept: a
-- thread may return once its slot is full, woken or not, so no rule says that the right one is woken
pub record Caller : Type 0 where
  pub section : Option Section
  pub wakes : ℕ

pub record FineState : Type 0 where
  -- the lists as the buckets have them, the records, and what each thread knows of itself: that it runs, waits or is
  -- late. One that was taken is in no list, and still waits or is late here, until it has its node back, so this need
  -- not be a consistent machine
  pub threads_view : Machine
  -- of each number: its key word, which is the key that its last thread to wait waits on or waited on last, and 0 if
  -- none did; the key that it has read, if it is late and has read one to look by; and its slot, empty or with its
  -- node, which has this token
  pub key_words : ℕ → ℕ
  pub keys_read : ℕ → Option ℕ
  pub slots : ℕ → Option UnparkToken
  -- the callers, by their numbers, and how many buckets there are
  pub callers : List Caller
  pub size : ℕ

-- nobody is registered or waits, no section is open, and the table is new
abbrev pub new_fine_state : ℕ → ℕ → FineState
new_fine_state max_threads callers =
    record {
      threads_view = new_machine max_threads;
      key_words = λ _. 0;
      keys_read = λ _. None;
      slots = λ _. None;
      callers = replicate callers (record { section = None; wakes = 0 });
      size = 16;
    }
