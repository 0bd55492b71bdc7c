-- The state of an interleaved lot one of whose threads is another.
use Rattle.std.proofs.Common.{◌≡◌, ◌≢◌, ℕ, ◌<◌, ◌≤◌, Bool, true, false, List, length, refl, sym, ap, ◌∙◌, subst, arith}
use Rattle.std.proofs.Common.{⊎_elim, get_or-set_same, get_or-set_other, slice_set, Some, None, MatchBool, MatchOption}
use Rattle.std.proofs.Common.{IsTrue}
use Rattle.std.proofs.Math.ListN.{length-set, get_or-map}
use Rattle.std.proofs.lemmas.Bool.{cases_eq}
use Rattle.std.proofs.lemmas.List.{map-set, set-get_or, length-map}
use Rattle.std.specs.Prelude.{Option, is_some}
use Rattle.lot_base.specs.BucketState.{BucketState}
use Rattle.lot_base.specs.Waiting.{with_value}
use Rattle.lot_base.specs.declared.token.UnparkToken.{UnparkToken}
use Rattle.lot_base.proofs.ValueLemmas.{with_value-same, with_value-other, with_value-same_value}
use Rattle.lot_simulator.specs.declared.interleaved.FineAnswer.{FineAnswer}
use Rattle.lot_simulator.specs.declared.interleaved.FineStep.{FineStep}
use Rattle.lot_machine.specs.declared.status.Status.{Status}
use Rattle.lot_machine.specs.declared.status.Status.TheVariants as status
use Rattle.lot_simulator.specs.FineLot.{IsFineLot, fine_state, free_fine_thread, plain_threads, plain_lot}
use Rattle.lot_simulator.specs.FineLot.{fine_thread_at}
use Rattle.lot_simulator.specs.FineLotState.{FineLotState, FineThreadState}
use Rattle.lot_simulator.specs.InterleavedState.{FineState, Caller}
use Rattle.lot_simulator.specs.InterleavedSteps.{IsFineStep}
use Rattle.lot_simulator.specs.Lot.{machine, statuses, thread_at, thread_keys, thread_records, use_of, uses}
use Rattle.lot_machine.specs.Machine.{Machine, Waiter, with_status, with_records}
use Rattle.lot_simulator.specs.Private.FineThread.{with_state, with_recorded}
use Rattle.lot_machine.specs.Records.{times_recorded}
use Rattle.lot_simulator.specs.Represents.{waiters_in, Represents}
use Rattle.lot_simulator.proofs.CommitLemmas.{statuses-set, records-set, keys-set_same, keys-set_other, numbers-set}
use Rattle.lot_simulator.proofs.CommitLemmas.{statuses-past, uses-same}
use Rattle.lot_simulator.proofs.InterleavingLemmas.{IsFineConsistent-step}
use Rattle.lot_machine.proofs.StandingLemmas.{same_machine, with_thread, with_thread-status, with_thread-records}

-- the thread of a number as any lot keeps it
pub plain_at : (threads : List FineThreadState) (j : ℕ)
    → thread_at (plain_threads threads) j ≡ (fine_thread_at threads j).thread
plain_at threads j = get_or-map (λ t. t.thread) threads j (free_fine_thread j)

pub plain-set : (threads : List FineThreadState) (number : ℕ) (t : FineThreadState)
    → plain_threads (slice_set threads number t) ≡ slice_set (plain_threads threads) number t.thread
plain-set threads number t = map-set (λ t. t.thread) threads number t

pub plain-length : (threads : List FineThreadState) → length (plain_threads threads) ≡ length threads
plain-length threads = length-map threads (λ t. t.thread)

-- one thread is another, and so what is read of it
pub part-set : {A : Type 0} (part : FineThreadState → A) (threads : List FineThreadState) (number : ℕ)
    (t : FineThreadState) → number < length threads → (j : ℕ)
    → part (fine_thread_at (slice_set threads number t) j)
    ≡ with_value (λ k. part (fine_thread_at threads k)) number (part t) j
part-set part threads number t below j =
    ⊎_elim (λ (same : j ≡ number). ap (λ k. part (fine_thread_at (slice_set threads number t) k)) same
    ∙ ap part (get_or-set_same threads number t _ below)
    ∙ sym (with_value-same (λ k. part (fine_thread_at threads k)) number (part t) j same))
    (λ (other : j ≢ number). ap part (get_or-set_other threads number j t _ other)
    ∙ sym (with_value-other (λ k. part (fine_thread_at threads k)) number (part t) j other))
    (cases_eq j number)

-- a lot after a step
pub record DoneStep (lot new : FineLotState) (step : FineStep) (given : FineAnswer) : Type 0 where
  pub is_lot : IsFineLot new
  pub does : IsFineStep (fine_state lot) step given (fine_state new)

-- as it is told of the same lot by another name
pub step_of : {lot old new : FineLotState} {step : FineStep} {given : FineAnswer} → lot ≡ old
    → DoneStep lot new step given → IsFineStep (fine_state old) step given (fine_state new)
step_of {lot} {old} {new} {step} {given} same done =
    subst (λ (l : FineLotState). IsFineStep (fine_state l) step given (fine_state new)) same done.does

module _ (lot : FineLotState) (number : ℕ) (t : FineThreadState) (row : List BucketState) (callers : List Caller) where
  -- one thread is another, and the row and the callers may be others
  abbrev pub set_lot : FineLotState
  set_lot = record { buckets = row; threads = slice_set lot.threads number t; callers = callers }

  abbrev pub set_state : (ℕ → List Waiter) → FineState
  set_state lists =
      let s : FineState = fine_state lot in
      record {
        threads_view = record (with_thread s.threads_view number t.thread.status (times_recorded t.thread.records)) {
          lists = lists;
        };
        key_words = with_value s.key_words number t.thread.key;
        keys_read = with_value s.keys_read number t.key_read;
        slots = with_value s.slots number t.slot;
        callers = callers;
        size = length row;
      }

  module _ (below : number < length lot.threads) where
    low : number < length (plain_threads lot.threads)
    low = omega (arith, below, plain-length lot.threads)

    view-set : (lists : ℕ → List Waiter) → ((k : ℕ) → waiters_in row k ≡ lists k)
        → machine (plain_lot set_lot) ≡ (set_state lists).threads_view
    view-set lists rows =
        same_machine _ _ rows
        (λ j. ap (λ ts. statuses ts j) (plain-set lot.threads number t)
        ∙ statuses-set (plain_threads lot.threads) number t.thread low j)
        (λ j. ap (λ ts. thread_records ts j) (plain-set lot.threads number t)
        ∙ records-set (plain_threads lot.threads) number t.thread low j)
        (plain-length (slice_set lot.threads number t) ∙ length-set lot.threads number t
        ∙ sym (plain-length lot.threads))

    key_words-set : (j : ℕ) → thread_keys (plain_threads (slice_set lot.threads number t)) j
        ≡ with_value (thread_keys (plain_threads lot.threads)) number t.thread.key j
    key_words-set j =
        let keys : ℕ → ℕ = thread_keys (plain_threads lot.threads) in
        let set = slice_set (plain_threads lot.threads) number t.thread in
        ap (λ ts. thread_keys ts j) (plain-set lot.threads number t)
        ∙ ⊎_elim (λ (same : j ≡ number). ap (thread_keys set) same
        ∙ keys-set_same (plain_threads lot.threads) number t.thread low
        ∙ sym (with_value-same keys number t.thread.key j same))
        (λ (other : j ≢ number). keys-set_other (plain_threads lot.threads) number t.thread j other
        ∙ sym (with_value-other keys number t.thread.key j other))
        (cases_eq j number)

    pub fine_state-set : (lists : ℕ → List Waiter) → ((k : ℕ) → waiters_in row k ≡ lists k)
        → fine_state set_lot ≡ set_state lists
    fine_state-set lists rows =
        λ i.
        record {
          threads_view = view-set lists rows i;
          key_words = λ j. key_words-set j i;
          keys_read = λ j. part-set (λ t. t.key_read) lot.threads number t below j i;
          slots = λ j. part-set (λ t. t.slot) lot.threads number t below j i;
          callers = callers;
          size = length row;
        }

    -- so the lot is one after a step that leaves its state
    pub DoneStep-set : (step : FineStep) (given : FineAnswer) → IsFineLot lot → t.thread.number ≡ number
        → Represents row (waiters_in row) → IsFineStep (fine_state lot) step given (fine_state set_lot)
        → DoneStep lot set_lot step given
    DoneStep-set step given is own represents does = record {
      is_lot = record {
        represents = represents;
        numbers = λ j. ap (λ ts. (thread_at ts j).number) (plain-set lot.threads number t)
            ∙ numbers-set (plain_threads lot.threads) number t.thread low own is.numbers j;
        consistent = IsFineConsistent-step (fine_state lot) step given (fine_state set_lot) is.consistent does;
        count = omega (arith, is.count, length-set lot.threads number t);
      };
      does = does;
    }

-- what is there only where it may not be is not there
None-unless : {A : Type 0} (o : Option A) → (IsTrue (is_some o) → ⊥) → o ≡ None
None-unless None none = refl
None-unless (Some x) none = absurd (none refl)

pub ne-running-late : status.Running ≢ status.Late
ne-running-late same = cc

pub ne-free-late : status.Free ≢ status.Late
ne-free-late same = cc

-- what holds in the case that it is, or is not
pub at_true : {b : Bool} {P : Type 0} (Q : Type 0) → b ≡ true → P → MatchBool b P Q
at_true {b} {P} Q same p = subst (λ c. MatchBool c P Q) (sym same) p

pub at_false : {b : Bool} (P : Type 0) {Q : Type 0} → b ≡ false → Q → MatchBool b P Q
at_false {b} P {Q} same q = subst (λ c. MatchBool c P Q) (sym same) q

pub at_option : {A : Type 0} (o : Option A) {P : Type 0} {Q : A → Type 0} → (o ≡ None → P)
    → ((x : A) → o ≡ Some x → Q x) → MatchOption o P Q
at_option None none some = none refl
at_option (Some x) none some = some x refl

-- a value that is there already makes no other function
pub kept : {A : Type 0} (f : ℕ → A) (number : ℕ) (value : A) → value ≡ f number → with_value f number value ≡ f
kept f number value there = λ i j. with_value-same_value f number value there j i

pub with_status-kept : (m : Machine) (number : ℕ) (s : Status) → s ≡ m.status number → with_status m number s ≡ m
with_status-kept m number s there = λ i. record m { status = kept m.status number s there i }

-- a number that the lot does not have
module _ (lot : FineLotState) (number : ℕ) (past : length lot.threads ≤ number) where
  pub status-past : (fine_state lot).threads_view.status number ≡ status.Free
  status-past = statuses-past (plain_threads lot.threads) number (omega (arith, past, plain-length lot.threads))

-- a thread, as it was read
module _ (lot : FineLotState) (is : IsFineLot lot) (number : ℕ) (now after : FineThreadState)
    (below : number < length lot.threads) (read : now ≡ fine_thread_at lot.threads number) where
  abbrev s : FineState
  s = fine_state lot

  -- what the state says of it
  pub status_is : (fine_state lot).threads_view.status number ≡ now.thread.status
  status_is = ap (λ t. t.status) (plain_at lot.threads number) ∙ ap (λ t. t.thread.status) (sym read)

  pub key_word_is : (fine_state lot).key_words number ≡ now.thread.key
  key_word_is = ap (λ t. t.key) (plain_at lot.threads number) ∙ ap (λ t. t.thread.key) (sym read)

  pub records_are : (fine_state lot).threads_view.records number ≡ times_recorded now.thread.records
  records_are = ap (λ t. times_recorded t.records) (plain_at lot.threads number)
      ∙ ap (λ t. times_recorded t.thread.records) (sym read)

  pub key_read_is : (fine_state lot).keys_read number ≡ now.key_read
  key_read_is = ap (λ t. t.key_read) (sym read)

  pub slot_is : (fine_state lot).slots number ≡ now.slot
  slot_is = ap (λ t. t.slot) (sym read)

  pub number_is : now.thread.number ≡ number
  number_is = ap (λ t. t.thread.number) read ∙ ap (λ t. t.number) (sym (plain_at lot.threads number))
      ∙ is.numbers number

  -- one that is not late has read no key
  pub no_key_read : now.thread.status ≢ status.Late → (fine_state lot).keys_read number ≡ None
  no_key_read other = None-unless (s.keys_read number)
      (λ some. other (sym status_is ∙ is.consistent.reading number some))

  -- it has the records that it had
  module _ (st : Status) (key : ℕ) (key_read : Option ℕ) (slot : Option UnparkToken)
      (set : after ≡ record {
        thread = record now.thread { status = st; key = key };
        key_read = key_read;
        slot = slot;
      }) where
    pub own_number : after.thread.number ≡ number
    own_number = ap (λ t. t.thread.number) set ∙ number_is

    pub fine_state-moved : (row : List BucketState) (lists : ℕ → List Waiter) (callers : List Caller)
        → ((k : ℕ) → waiters_in row k ≡ lists k)
        → fine_state (set_lot lot number after row callers)
        ≡ record (fine_state lot) {
          threads_view = record (with_status (fine_state lot).threads_view number st) { lists = lists };
          key_words = with_value (fine_state lot).key_words number key;
          keys_read = with_value (fine_state lot).keys_read number key_read;
          slots = with_value (fine_state lot).slots number slot;
          callers = callers;
          size = length row;
        }
    fine_state-moved row lists callers rows =
        fine_state-set lot number after row callers below lists rows
        ∙ (λ i. record s {
          threads_view = record (view i) { lists = lists };
          key_words = with_value s.key_words number (set i).thread.key;
          keys_read = with_value s.keys_read number (set i).key_read;
          slots = with_value s.slots number (set i).slot;
          callers = callers;
          size = length row;
        })
      where
        recorded : times_recorded after.thread.records ≡ s.threads_view.records number
        recorded = ap (λ t. times_recorded t.thread.records) set ∙ sym records_are

        view : with_thread s.threads_view number after.thread.status (times_recorded after.thread.records)
            ≡ with_status s.threads_view number st
        view = (λ i. with_thread s.threads_view number (set i).thread.status (recorded i))
            ∙ with_thread-status s.threads_view number st

    pub uses-changed : use_of st ≡ use_of now.thread.status
        → uses (plain_threads (slice_set lot.threads number after)) ≡ uses (plain_threads lot.threads)
    uses-changed alike =
        ap uses (plain-set lot.threads number after)
        ∙ uses-same (plain_threads lot.threads) number after.thread
        (ap (λ t. use_of t.thread.status) set ∙ alike ∙ ap use_of (sym status_is))

  -- it has the key word too
  module _ (st : Status) (key_read : Option ℕ) (slot : Option UnparkToken)
      (set : after ≡ record (with_state now st key_read) { slot = slot }) where
    pub fine_state-changed : (row : List BucketState) (lists : ℕ → List Waiter) (callers : List Caller)
        → ((k : ℕ) → waiters_in row k ≡ lists k)
        → fine_state (set_lot lot number after row callers)
        ≡ record (fine_state lot) {
          threads_view = record (with_status (fine_state lot).threads_view number st) { lists = lists };
          keys_read = with_value (fine_state lot).keys_read number key_read;
          slots = with_value (fine_state lot).slots number slot;
          callers = callers;
          size = length row;
        }
    fine_state-changed row lists callers rows =
        fine_state-moved st now.thread.key key_read slot set row lists callers rows
        ∙ (λ i. record s {
          threads_view = record (with_status s.threads_view number st) { lists = lists };
          key_words = kept s.key_words number now.thread.key (sym key_word_is) i;
          keys_read = with_value s.keys_read number key_read;
          slots = with_value s.slots number slot;
          callers = callers;
          size = length row;
        })

    -- and the lists are as they were
    pub fine_state-thread : (callers : List Caller) → fine_state (set_lot lot number after lot.buckets callers)
        ≡ record (fine_state lot) {
          threads_view = with_status (fine_state lot).threads_view number st;
          keys_read = with_value (fine_state lot).keys_read number key_read;
          slots = with_value (fine_state lot).slots number slot;
          callers = callers;
        }
    fine_state-thread callers = fine_state-changed lot.buckets s.threads_view.lists callers (λ k. refl)

    -- a step that leaves this state
    pub DoneStep-thread : (callers : List Caller) (step : FineStep) (given : FineAnswer)
        → IsFineStep (fine_state lot) step given (record (fine_state lot) {
          threads_view = with_status (fine_state lot).threads_view number st;
          keys_read = with_value (fine_state lot).keys_read number key_read;
          slots = with_value (fine_state lot).slots number slot;
          callers = callers;
        })
        → DoneStep lot (set_lot lot number after lot.buckets callers) step given
    DoneStep-thread callers step given does =
        DoneStep-set lot number after lot.buckets callers below step given is
        (own_number st now.thread.key key_read slot set) is.represents
        (subst (IsFineStep s step given) (sym (fine_state-thread callers)) does)

  -- it is as it was
  pub DoneStep-kept : (step : FineStep) (given : FineAnswer) → after ≡ now
      → IsFineStep (fine_state lot) step given (fine_state lot)
      → DoneStep lot (set_lot lot number after lot.buckets lot.callers) step given
  DoneStep-kept step given same does =
      subst (λ (new : FineLotState). DoneStep lot new step given) (sym unchanged) (record { is_lot = is; does = does })
    where
      unchanged : set_lot lot number after lot.buckets lot.callers ≡ lot
      unchanged =
          ap (λ threads. record lot { threads = threads })
          (ap (slice_set lot.threads number) (same ∙ read)
          ∙ set-get_or lot.threads number (free_fine_thread number))

  pub uses-kept : after ≡ now
      → uses (plain_threads (slice_set lot.threads number after)) ≡ uses (plain_threads lot.threads)
  uses-kept same =
      ap (λ threads. uses (plain_threads threads))
      (ap (slice_set lot.threads number) (same ∙ read) ∙ set-get_or lot.threads number (free_fine_thread number))

  -- it has other records
  module _ (records : ℕ → ℕ) (set : after ≡ with_recorded now after.thread.records)
      (recorded : times_recorded after.thread.records ≡ records) where
    pub fine_state-recorded : fine_state (set_lot lot number after lot.buckets lot.callers)
        ≡ record (fine_state lot) { threads_view = with_records (fine_state lot).threads_view number records }
    fine_state-recorded =
        fine_state-set lot number after lot.buckets lot.callers below s.threads_view.lists (λ k. refl)
        ∙ (λ i. record s {
          threads_view = view i;
          key_words = kept s.key_words number after.thread.key (ap (λ t. t.thread.key) set ∙ sym key_word_is) i;
          keys_read = kept s.keys_read number after.key_read (ap (λ t. t.key_read) set ∙ sym key_read_is) i;
          slots = kept s.slots number after.slot (ap (λ t. t.slot) set ∙ sym slot_is) i;
        })
      where
        view : with_thread s.threads_view number after.thread.status (times_recorded after.thread.records)
            ≡ with_records s.threads_view number records
        view = (λ i. with_thread s.threads_view number ((ap (λ t. t.thread.status) set ∙ sym status_is) i) (recorded i))
            ∙ with_thread-records s.threads_view number records

    pub DoneStep-recorded : (step : FineStep) (given : FineAnswer)
        → IsFineStep (fine_state lot) step given
        (record (fine_state lot) { threads_view = with_records (fine_state lot).threads_view number records })
        → DoneStep lot (set_lot lot number after lot.buckets lot.callers) step given
    DoneStep-recorded step given does =
        DoneStep-set lot number after lot.buckets lot.callers below step given is
        (ap (λ t. t.thread.number) set ∙ number_is) is.represents
        (subst (IsFineStep s step given) (sym fine_state-recorded) does)

    pub uses-recorded : uses (plain_threads (slice_set lot.threads number after)) ≡ uses (plain_threads lot.threads)
    uses-recorded =
        ap uses (plain-set lot.threads number after)
        ∙ uses-same (plain_threads lot.threads) number after.thread
        (ap (λ t. use_of t.thread.status) set ∙ ap use_of (sym status_is))
