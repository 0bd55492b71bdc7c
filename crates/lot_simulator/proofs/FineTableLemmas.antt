-- Steps of the threads of an interleaved lot on its table: looks, entries and registrations.
use Rattle.std.proofs.Common.{◌≡◌, ◌≢◌, ℕ, ◌<◌, ◌≤◌, ◌==◌, Bool, true, false, List, [], ◌∷◌, ◌++◌, map, length}
use Rattle.std.proofs.Common.{refl, sym, ap, ◌∙◌, subst, slice_set, Some, None, MatchOption, ⊎_elim}
use Rattle.std.proofs.lemmas.Bool.{MatchBool-at_true, cases_lt, eq-eqb, ne_eqb, true≢false}
use Rattle.std.proofs.lemmas.List.{get_or_past, map-append}
use Rattle.std.proofs.lemmas.Option.{none-some}
use Rattle.std.specs.Prelude.{is_some, not, ◌&&◌, ◌||◌}
use Rattle.lot_base.specs.BucketState.{BucketState}
use Rattle.lot_base.specs.NodeFields.{NodeFields}
use Rattle.lot_base.specs.NodeLists.{has_number}
use Rattle.lot_base.specs.Place.{IsTableSize}
use Rattle.lot_base.specs.Waiting.{with_value, without_first}
use Rattle.lot_base.specs.declared.token.ParkToken.{ParkToken}
use Rattle.lot_base.specs.declared.token.UnparkToken.{UnparkToken}
use Rattle.lot_base.proofs.ValueLemmas.{map-with_value}
use Rattle.lot_simulator.specs.declared.interleaved.FineAnswer.{FineAnswer}
use Rattle.lot_simulator.specs.declared.interleaved.FineAnswer.TheVariants as fine
use Rattle.lot_simulator.specs.declared.interleaved.FineStep.TheVariants.{Look, Enter, Register}
use Rattle.lot_machine.specs.declared.status.Status.TheVariants as status
use Rattle.lot_machine.specs.declared.step.Answer.TheVariants as answer
use Rattle.lot_machine.specs.declared.numbers.Use.{Use}
use Rattle.lot_simulator.specs.FineLot.{IsFineLot, fine_state, fine_thread_at, free_fine_thread, plain_lot}
use Rattle.lot_simulator.specs.FineLot.{plain_threads}
use Rattle.lot_simulator.specs.FineLotState.{FineLotState, FineThreadState}
use Rattle.lot_simulator.specs.InterleavedState.{FineState}
use Rattle.lot_simulator.specs.InterleavedSteps.{IsFineStep, IsLook, IsFineMisfit, IsUnparked, FineGives, UnlessHeld}
use Rattle.lot_simulator.specs.InterleavedSteps.{after_outcome, is_full, is_growth_blocked, is_held}
use Rattle.lot_simulator.specs.InterleavedView.{IsFineConsistent, sequential_status, sequential_view}
use Rattle.lot_simulator.specs.InterleavedView.{taken_of, times_taken}
use Rattle.lot_simulator.specs.Lot.{uses}
use Rattle.lot_machine.specs.Machine.{IsFull, IsLeastFree, StandsAt, after_enter, after_timeout}
use Rattle.lot_machine.specs.Machine.{is_last, threads_of}
use Rattle.lot_machine.specs.Machine.{Waiter, times_in, with_status}
use Rattle.lot_simulator.specs.Private.FineThread.{with_empty_slot, with_state}
use Rattle.lot_simulator.specs.Represents.{nodes_in, waiter_of, waiters_in, with_node}
use Rattle.lot_machine.specs.Size.{IsSizeFor}
use Rattle.lot_machine.specs.Status.{is_queued, is_running}
use Rattle.lot_simulator.specs.Table.{IsRowStep, KeepsLists}
use Rattle.lot_machine.specs.Numbers.{count_registered}
use Rattle.lot_simulator.proofs.FineStateLemmas.{DoneStep, DoneStep-set, DoneStep-thread, at_false, at_true}
use Rattle.lot_simulator.proofs.FineStateLemmas.{fine_state-changed, fine_state-moved, kept, key_word_is}
use Rattle.lot_simulator.proofs.FineStateLemmas.{status-past}
use Rattle.lot_simulator.proofs.CommitLemmas.{ne-free-running}
use Rattle.lot_simulator.proofs.FineStateLemmas.{ne-free-late, ne-running-late, no_key_read}
use Rattle.lot_simulator.proofs.FineStateLemmas.{own_number, plain-length}
use Rattle.lot_simulator.proofs.FineStateLemmas.{set_lot, slot_is}
use Rattle.lot_simulator.proofs.FineStateLemmas.{status_is, with_status-kept}
use Rattle.lot_simulator.proofs.InterleavingLemmas.{not_among}
use Rattle.lot_simulator.proofs.RemovalLemmas.{without_first-map}
use Rattle.lot_simulator.proofs.RowLemmas.{IsRowStep-with_node}
use Rattle.lot_simulator.proofs.AmountsLemmas.{own_status}
use Rattle.lot_simulator.proofs.UseLemmas.{IsFull-counted, counted-IsFull, threads_of-uses}

-- a thread that looks by a key whose bucket is free
Look-free : (s : FineState) (thread key : ℕ) → s.keys_read thread ≡ Some key → is_held s key ≡ false
    → (given : FineAnswer) (new : FineState) → IsLook s thread key given new → IsFineStep s (Look thread) given new
Look-free s thread key reads free given new does =
    subst (λ o. MatchOption o (IsFineMisfit s given new)
    (λ key. UnlessHeld s (key ∷ []) given new (IsLook s thread key given new))) (sym reads)
    (at_false _ (ap (λ b. b || false) free) does)

-- a number whose thread has read a key is one of the lot's
pub below-read : (lot : FineLotState) (number key : ℕ) → (fine_state lot).keys_read number ≡ Some key
    → number < length lot.threads
below-read lot number key reads =
    ⊎_elim (λ (low : number < length lot.threads). low)
    (λ (past : length lot.threads ≤ number). absurd (none-some key
    (sym (ap (λ (t : FineThreadState). t.key_read) (get_or_past lot.threads number (free_fine_thread number) past))
    ∙ reads)))
    (cases_lt number (length lot.threads))

-- and so is a number whose thread runs
pub below-running : (lot : FineLotState) (number : ℕ) → (fine_state lot).threads_view.status number ≡ status.Running
    → number < length lot.threads
below-running lot number runs =
    ⊎_elim (λ (low : number < length lot.threads). low)
    (λ (past : length lot.threads ≤ number).
    absurd (ne-free-running (sym runs ∙ status-past lot number past)))
    (cases_lt number (length lot.threads))

-- a thread that looks by its key word, whose bucket is free, and that nobody has unparked
module _ (s : FineState) (consistent : IsFineConsistent s) (number key : ℕ) (reads : s.keys_read number ≡ Some key)
    (free : is_held s key ≡ false) (same : s.key_words number ≡ key) (empty : s.slots number ≡ None) where
  gone : times_taken number (taken_of s) ≡ 0
  gone = not_among s consistent number key same (ap (λ b. b || false) free)

  late_view : sequential_status s number ≡ status.Late
  late_view = own_status s consistent number gone empty ∙ consistent.reading number (ap is_some reads)

  stands : StandsAt (sequential_view s) number key
  stands = subst (StandsAt (sequential_view s) number) same
      (MatchBool-at_true _ _ (ap is_queued late_view) (consistent.view.standing number))

  pub once-standing : times_in number (s.threads_view.lists key) ≡ 1
  once-standing = stands.once

-- a row, once the node of a thread was taken out of the list of a key
module _ (row new : List BucketState) (number key : ℕ)
    (step : IsRowStep row new
    (with_value (nodes_in row) key (without_first (has_number number) (nodes_in row key)))) where
  waiters-removed : (k : ℕ) → waiters_in new k
      ≡ with_value (waiters_in row) key
      (without_first (λ waiter. waiter.number == number) (waiters_in row key)) k
  waiters-removed k =
      ap (map waiter_of) (step.nodes k)
      ∙ map-with_value waiter_of (nodes_in row) key (without_first (has_number number) (nodes_in row key)) k
      ∙ ap (λ list. with_value (waiters_in row) key list k) (without_first-map number (nodes_in row key))

-- a thread, as it was read
module _ (lot : FineLotState) (is : IsFineLot lot) (number : ℕ) (now after : FineThreadState)
    (below : number < length lot.threads) (read : now ≡ fine_thread_at lot.threads number) where
  abbrev s : FineState
  s = fine_state lot

  status_at : s.threads_view.status number ≡ now.thread.status
  status_at = status_is lot is number now after below read

  slot_at : s.slots number ≡ now.slot
  slot_at = slot_is lot is number now after below read

  word_at : s.key_words number ≡ now.thread.key
  word_at = key_word_is lot is number now after below read

  -- it looks by a key whose bucket is free
  module _ (key : ℕ) (reads : s.keys_read number ≡ Some key) (free : is_held s key ≡ false) where
    pub late : now.thread.status ≡ status.Late
    late = sym status_at ∙ is.consistent.reading number (ap is_some reads)

    pub DoneStep-retry : now.thread.key ≢ key → after ≡ record now { key_read = None }
        → DoneStep lot (set_lot lot number after lot.buckets lot.callers) (Look number) fine.Retry
    DoneStep-retry other set =
        DoneStep-thread lot is number now after below read now.thread.status None now.slot set lot.callers (Look number)
        fine.Retry
        (Look-free s number key reads free fine.Retry _
        (at_false _ (ne_eqb (s.key_words number) key (λ same. other (sym word_at ∙ same))) (
          refl,
          λ i. record s {
            threads_view = with_status-kept s.threads_view number now.thread.status (sym status_at) i;
            keys_read = with_value s.keys_read number None;
            slots = kept s.slots number now.slot (sym slot_at) i;
          },
        )))

    pub DoneStep-look_unparked : now.thread.key ≡ key → (token : UnparkToken) → now.slot ≡ Some token
        → after ≡ with_empty_slot (with_state now status.Running None)
        → DoneStep lot (set_lot lot number after lot.buckets lot.callers) (Look number)
        (fine.Answer (answer.Unparked token))
    DoneStep-look_unparked same token full set =
        DoneStep-thread lot is number now after below read status.Running None None set lot.callers (Look number)
        (fine.Answer (answer.Unparked token))
        (Look-free s number key reads free (fine.Answer (answer.Unparked token)) left
        (at_true _ (eq-eqb (s.key_words number) key (word_at ∙ same))
        (subst (λ o. MatchOption o
        (FineGives (after_outcome s number (after_timeout s.threads_view number key))
        (fine.Answer (answer.TimedOut key (is_last s.threads_view number key)))
        (fine.Answer (answer.Unparked token)) left)
        (λ t. IsUnparked s number t (fine.Answer (answer.Unparked token)) left)) (sym (slot_at ∙ full)) (refl, refl))))
      where
        left : FineState
        left = after_outcome s number (with_status s.threads_view number status.Running)

    -- and nobody has unparked it
    module _ (same : s.key_words number ≡ key) (empty : s.slots number ≡ None) where
      pub DoneStep-timed_out : (row : List BucketState)
          → IsRowStep lot.buckets row
          (with_value (nodes_in lot.buckets) key (without_first (has_number number) (nodes_in lot.buckets key)))
          → after ≡ with_state now status.Running None → (last : Bool) → last ≡ is_last s.threads_view number key
          → DoneStep lot (set_lot lot number after row lot.callers) (Look number)
          (fine.Answer (answer.TimedOut key last))
      DoneStep-timed_out row step set last last_is =
          DoneStep-set lot number after row lot.callers below (Look number) given is
          (own_number lot is number now after below read status.Running now.thread.key None now.slot set)
          step.represents
          (subst (IsFineStep s (Look number) given)
          (sym (fine_state-changed lot is number now after below read status.Running None now.slot set row lists
          lot.callers (waiters-removed lot.buckets row number key step)))
          (Look-free s number key reads free given left
          (at_true _ (eq-eqb (s.key_words number) key same)
          (subst (λ o. MatchOption o
          (FineGives (after_outcome s number (after_timeout s.threads_view number key))
          (fine.Answer (answer.TimedOut key (is_last s.threads_view number key))) given left)
          (λ t. IsUnparked s number t given left)) (sym empty) (
            ap (λ l. fine.Answer (answer.TimedOut key l)) last_is,
            λ i. record s {
              threads_view = after_timeout s.threads_view number key;
              keys_read = with_value s.keys_read number None;
              slots = with_value s.slots number ((sym slot_at ∙ empty) i);
              size = step.count i;
            },
          )))))
        where
          given : FineAnswer
          given = fine.Answer (answer.TimedOut key last)

          lists : ℕ → List Waiter
          lists = with_value (waiters_in lot.buckets) key
              (without_first (λ waiter. waiter.number == number) (waiters_in lot.buckets key))

          left : FineState
          left = record s {
            threads_view = record (with_status s.threads_view number status.Running) { lists = lists };
            keys_read = with_value s.keys_read number None;
            slots = with_value s.slots number now.slot;
            size = length row;
          }

  -- it enters the list of a key whose bucket is free
  pub DoneStep-entered : (key : ℕ) (park_token : ParkToken) (unpark_token : UnparkToken) (timed : Bool)
      → IsTableSize (length lot.buckets) → now.thread.status ≡ status.Running → is_held s key ≡ false
      → after ≡ record now {
        thread = record now.thread { status = status.Waiting timed; key = key };
        key_read = None;
      }
      → DoneStep lot
      (set_lot lot number after
      (with_node lot.buckets
      (record { number = number; key = key; park_token = park_token; unpark_token = unpark_token; timed = timed }))
      lot.callers)
      (Enter number key true park_token timed) (fine.Answer answer.Entered)
  DoneStep-entered key park_token unpark_token timed table runs free set =
      DoneStep-set lot number after row lot.callers below (Enter number key true park_token timed)
      (fine.Answer answer.Entered) is
      (own_number lot is number now after below read (status.Waiting timed) key None now.slot set) step.represents
      (at_true _ (ap is_running (status_at ∙ runs))
      (at_false _ (ap (λ b. b || false) free) (
        answer.Entered,
        after_enter s.threads_view number key park_token timed,
        at_true _ (ap is_running (status_at ∙ runs)) (refl, refl),
        (refl, means),
      )))
    where
      node : NodeFields
      node = record { number = number; key = key; park_token = park_token; unpark_token = unpark_token; timed = timed }

      row : List BucketState
      row = with_node lot.buckets node

      step : IsRowStep lot.buckets row (with_value (nodes_in lot.buckets) key (nodes_in lot.buckets key ++ node ∷ []))
      step = IsRowStep-with_node lot.buckets node table is.represents

      lists : (k : ℕ) → waiters_in row k
          ≡ with_value (waiters_in lot.buckets) key (waiters_in lot.buckets key ++ waiter_of node ∷ []) k
      lists k =
          ap (map waiter_of) (step.nodes k)
          ∙ map-with_value waiter_of (nodes_in lot.buckets) key (nodes_in lot.buckets key ++ node ∷ []) k
          ∙ ap (λ list. with_value (waiters_in lot.buckets) key list k)
          (map-append waiter_of (nodes_in lot.buckets key) (node ∷ []))

      means : fine_state (set_lot lot number after row lot.callers) ≡ record s {
        threads_view = after_enter s.threads_view number key park_token timed;
        key_words = with_value s.key_words number key;
      }
      means =
          fine_state-moved lot is number now after below read (status.Waiting timed) key None now.slot set row
          (with_value (waiters_in lot.buckets) key (waiters_in lot.buckets key ++ waiter_of node ∷ [])) lot.callers
          lists
          ∙ (λ i. record s {
            threads_view = after_enter s.threads_view number key park_token timed;
            key_words = with_value s.key_words number key;
            keys_read = kept s.keys_read number None
                (sym (no_key_read lot is number now after below read
                (λ late. ne-running-late (sym runs ∙ late)))) i;
            slots = kept s.slots number now.slot (sym slot_at) i;
            size = step.count i;
          })

  -- its number is registered, in a table that may have grown
  pub DoneStep-registered : (row : List BucketState) → KeepsLists lot.buckets row
      → IsLeastFree s.threads_view number → after ≡ with_state now status.Running None
      → IsSizeFor (count_registered (uses (plain_threads (slice_set lot.threads number after)))) (length lot.buckets)
      (length row)
      → (not (is_full s) && is_growth_blocked s) ≡ false
      → DoneStep lot (set_lot lot number after row lot.callers) Register (fine.Answer (answer.Registered number))
  DoneStep-registered row keeps least set sized free =
      DoneStep-set lot number after row lot.callers below Register (fine.Answer (answer.Registered number)) is
      (own_number lot is number now after below read status.Running now.thread.key None now.slot set)
      (record { in_place = (keeps.represents (waiters_in lot.buckets) is.represents).in_place; in_order = λ key. refl })
      (at_false _ free (
        answer.Registered number,
        with_status s.threads_view number status.Running,
        length row,
        (least, refl),
        subst (λ threads. IsSizeFor threads (length lot.buckets) (length row))
            (threads_of-uses (plain_lot new) ∙ ap (λ (left : FineState). threads_of left.threads_view) means) sized,
        (refl, means),
      ))
    where
      new : FineLotState
      new = set_lot lot number after row lot.callers

      means : fine_state new ≡ record s {
        threads_view = with_status s.threads_view number status.Running;
        size = length row;
      }
      means =
          fine_state-changed lot is number now after below read status.Running None now.slot set row
          s.threads_view.lists lot.callers (λ k. ap (map waiter_of) (keeps.nodes k))
          ∙ (λ i. record s {
            threads_view = with_status s.threads_view number status.Running;
            keys_read = kept s.keys_read number None
                (sym (no_key_read lot is number now after below read
                (λ late. ne-free-late (sym least.free ∙ status_at ∙ late)))) i;
            slots = kept s.slots number now.slot (sym slot_at) i;
            size = length row;
          })

-- an entry that is not valid
pub Enter-invalid : (s : FineState) (thread key : ℕ) (park_token : ParkToken) (timed : Bool)
    → is_running (s.threads_view.status thread) ≡ true → is_held s key ≡ false
    → IsFineStep s (Enter thread key false park_token timed) (fine.Answer answer.Invalid) s
Enter-invalid s thread key park_token timed runs free =
    at_true _ runs
    (at_false _ (ap (λ b. b || false) free)
    (answer.Invalid, s.threads_view, at_true _ runs (refl, refl), (refl, refl)))

-- registrations that change nothing
module _ (lot : FineLotState) (table_numbers : List Use)
    (same : table_numbers ≡ uses (plain_threads lot.threads)) where
  pub registered-threads : count_registered table_numbers ≡ threads_of (fine_state lot).threads_view
  registered-threads = ap count_registered same ∙ threads_of-uses (plain_lot lot)

  is_full-all : count_registered table_numbers ≡ length lot.threads → is_full (fine_state lot) ≡ true
  is_full-all all =
      eq-eqb (threads_of (fine_state lot).threads_view) (fine_state lot).threads_view.max_threads
      (sym registered-threads ∙ all ∙ sym (plain-length lot.threads))

  pub is_full-some : count_registered table_numbers ≢ length lot.threads → is_full (fine_state lot) ≡ false
  is_full-some some =
      ne_eqb (threads_of (fine_state lot).threads_view) (fine_state lot).threads_view.max_threads
      (λ all. some (registered-threads ∙ all ∙ plain-length lot.threads))

  not_full : is_full (fine_state lot) ≡ false → IsFull (fine_state lot).threads_view → ⊥
  not_full some full =
      true≢false
      (sym (eq-eqb (threads_of (fine_state lot).threads_view) (fine_state lot).threads_view.max_threads
      (sym (threads_of-uses (plain_lot lot)) ∙ counted-IsFull (plain_lot lot) full)) ∙ some)

  pub Register-full : count_registered table_numbers ≡ length lot.threads
      → IsFineStep (fine_state lot) Register (fine.Answer answer.Full) (fine_state lot)
  Register-full all =
      at_false _ (ap (λ b. not b && is_growth_blocked (fine_state lot)) (is_full-all all)) (
        answer.Full,
        (fine_state lot).threads_view,
        (fine_state lot).size,
        (IsFull-counted (plain_lot lot) (sym (ap count_registered same) ∙ all ∙ sym (plain-length lot.threads)), refl),
        refl,
        (refl, refl),
      )

  pub Register-blocked : is_full (fine_state lot) ≡ false → is_growth_blocked (fine_state lot) ≡ true
      → IsFineStep (fine_state lot) Register fine.Blocked (fine_state lot)
  Register-blocked some blocked = at_true _ (λ i. not (some i) && blocked i) (refl, refl)

  pub Register-no_memory : is_full (fine_state lot) ≡ false → is_growth_blocked (fine_state lot) ≡ false
      → IsFineStep (fine_state lot) Register (fine.Answer answer.NoMemory) (fine_state lot)
  Register-no_memory some free =
      at_false _ (λ i. not (some i) && free i) (
        answer.NoMemory,
        (fine_state lot).threads_view,
        (fine_state lot).size,
        (not_full some, refl),
        refl,
        (refl, refl),
      )
