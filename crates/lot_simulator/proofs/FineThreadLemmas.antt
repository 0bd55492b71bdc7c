-- Steps of the threads of an interleaved lot that need no bucket.
use Rattle.std.proofs.Common.{◌≡◌, ◌≢◌, ℕ, ◌<◌, Bool, true, false, [], length, refl, sym, ap, ◌∙◌, subst}
use Rattle.std.proofs.Common.{Some, None}
use Rattle.std.proofs.lemmas.Bool.{and_parts}
use Rattle.std.specs.Prelude.{Option, is_none, ◌&&◌}
use Rattle.lot_base.specs.Waiting.{with_value}
use Rattle.lot_base.specs.declared.token.UnparkToken.{UnparkToken}
use Rattle.lot_simulator.specs.declared.interleaved.FineAnswer.TheVariants as fine
use Rattle.lot_simulator.specs.declared.interleaved.FineStep.TheVariants.{Deadline, ReadKey, Return, Retire, Acquire}
use Rattle.lot_simulator.specs.declared.interleaved.FineStep.TheVariants.{Release}
use Rattle.lot_machine.specs.declared.status.Status.{Status}
use Rattle.lot_machine.specs.declared.status.Status.TheVariants as status
use Rattle.lot_machine.specs.declared.step.Answer.TheVariants as answer
use Rattle.lot_machine.specs.declared.step.Step.TheVariants as machine
use Rattle.lot_simulator.specs.FineLot.{IsFineLot, fine_state, fine_thread_at}
use Rattle.lot_simulator.specs.FineLotState.{FineLotState, FineThreadState}
use Rattle.lot_simulator.specs.InterleavedState.{FineState}
use Rattle.lot_simulator.specs.InterleavedSteps.{IsDeadline, IsReadKey, IsFineReturn, IsMachineStep}
use Rattle.lot_machine.specs.Machine.{with_status, after_retire, after_acquire, after_release}
use Rattle.lot_simulator.specs.Private.FineThread.{with_state, with_recorded, with_empty_slot}
use Rattle.lot_machine.specs.Records.{times_recorded, one_more, one_less}
use Rattle.lot_machine.specs.Status.{is_running, awaits_deadline}
use Rattle.lot_simulator.proofs.FineStateLemmas.{DoneStep, DoneStep-set, DoneStep-thread, DoneStep-kept}
use Rattle.lot_simulator.proofs.FineStateLemmas.{DoneStep-recorded, at_true, at_false, kept, with_status-kept}
use Rattle.lot_simulator.proofs.FineStateLemmas.{fine_state-set, key_word_is, ne-running-late}
use Rattle.lot_simulator.proofs.FineStateLemmas.{no_key_read, number_is}
use Rattle.lot_simulator.proofs.FineStateLemmas.{records_are, set_lot, slot_is, status_is}
use Rattle.lot_simulator.proofs.HandedLemmas.{None-from_test}
use Rattle.lot_machine.proofs.StandingLemmas.{MatchBool-from, with_thread}
use Rattle.lot_machine.proofs.StepLemmas.{Waiting-from}

not_running : (st : Status) → st ≢ status.Running → is_running st ≡ false
not_running status.Free other = refl
not_running status.Running other = absurd (other refl)
not_running (status.Waiting _) other = refl
not_running status.Late other = refl
not_running (status.Taken _) other = refl

-- a thread, as it was read
module _ (lot : FineLotState) (is : IsFineLot lot) (number : ℕ) (now after : FineThreadState)
    (below : number < length lot.threads) (read : now ≡ fine_thread_at lot.threads number) where
  abbrev s : FineState
  s = fine_state lot

  abbrev new : FineLotState
  new = set_lot lot number after lot.buckets lot.callers

  status_at : s.threads_view.status number ≡ now.thread.status
  status_at = status_is lot is number now after below read

  slot_at : s.slots number ≡ now.slot
  slot_at = slot_is lot is number now after below read

  pub DoneStep-deadline : now.thread.status ≡ status.Waiting true → now.slot ≡ None
      → after ≡ with_state now status.Late None → DoneStep lot new (Deadline number) fine.Late
  DoneStep-deadline waits empty set =
      DoneStep-thread lot is number now after below read status.Late None now.slot set lot.callers (Deadline number)
      fine.Late
      (at_true _ (λ i. awaits_deadline ((status_at ∙ waits) i) && is_none ((slot_at ∙ empty) i)) (
        refl,
        λ i. record s {
          threads_view = with_status s.threads_view number status.Late;
          keys_read = with_value s.keys_read number None;
          slots = kept s.slots number now.slot (sym slot_at) i;
        },
      ))

  pub DoneStep-read_key : now.thread.status ≡ status.Late → (key : ℕ) → key ≡ now.thread.key
      → after ≡ record now { key_read = Some key } → DoneStep lot new (ReadKey number) (fine.Read key)
  DoneStep-read_key late key reads set =
      DoneStep-thread lot is number now after below read now.thread.status (Some key) now.slot set lot.callers
      (ReadKey number) (fine.Read key)
      (subst (λ st. IsReadKey s number st (fine.Read key) left) (sym (status_at ∙ late)) (
        ap fine.Read word,
        λ i. record s {
          threads_view = with_status-kept s.threads_view number now.thread.status (sym status_at) i;
          keys_read = with_value s.keys_read number (Some (word i));
          slots = kept s.slots number now.slot (sym slot_at) i;
        },
      ))
    where
      word : key ≡ s.key_words number
      word = reads ∙ sym (key_word_is lot is number now after below read)

      left : FineState
      left = record s {
        threads_view = with_status s.threads_view number now.thread.status;
        keys_read = with_value s.keys_read number (Some key);
        slots = with_value s.slots number now.slot;
      }

  pub DoneStep-return : (timed : Bool) (token : UnparkToken) → now.thread.status ≡ status.Waiting timed
      → now.slot ≡ Some token → after ≡ with_empty_slot (with_state now status.Running None)
      → DoneStep lot new (Return number) (fine.Answer (answer.Unparked token))
  DoneStep-return timed token waits full set =
      DoneStep-thread lot is number now after below read status.Running None None set lot.callers (Return number)
      (fine.Answer (answer.Unparked token))
      (subst (λ st. IsFineReturn s number st (s.slots number) (fine.Answer (answer.Unparked token)) left)
      (sym (status_at ∙ waits))
      (subst (λ o. IsFineReturn s number (status.Waiting timed) o (fine.Answer (answer.Unparked token)) left)
      (sym (slot_at ∙ full)) (refl, refl)))
    where
      left : FineState
      left = record s {
        threads_view = with_status s.threads_view number status.Running;
        keys_read = with_value s.keys_read number None;
        slots = with_value s.slots number None;
      }

  runs_at : now.thread.status ≡ status.Running → is_running (s.threads_view.status number) ≡ true
  runs_at runs = ap is_running (status_at ∙ runs)

  pub DoneStep-retire : now.thread.status ≡ status.Running
      → after ≡ with_recorded (with_state now status.Free None) []
      → DoneStep lot new (Retire number) (fine.Answer answer.Retired)
  DoneStep-retire runs set =
      DoneStep-set lot number after lot.buckets lot.callers below (Retire number) (fine.Answer answer.Retired) is
      (ap (λ t. t.thread.number) set ∙ number_is lot is number now after below read) is.represents (
        answer.Retired,
        after_retire s.threads_view number,
        at_true _ (runs_at runs) (refl, refl),
        (refl, means),
      )
    where
      means : fine_state new ≡ record s { threads_view = after_retire s.threads_view number }
      means =
          fine_state-set lot number after lot.buckets lot.callers below s.threads_view.lists (λ k. refl)
          ∙ (λ i. record s {
            threads_view = with_thread s.threads_view number (set i).thread.status
                (times_recorded (set i).thread.records);
            key_words = kept s.key_words number after.thread.key
                (ap (λ t. t.thread.key) set ∙ sym (key_word_is lot is number now after below read)) i;
            keys_read = kept s.keys_read number after.key_read
                (ap (λ t. t.key_read) set
                ∙ sym (no_key_read lot is number now after below read
                (λ late. ne-running-late (sym runs ∙ late)))) i;
            slots = kept s.slots number after.slot (ap (λ t. t.slot) set ∙ sym slot_at) i;
          })

  pub DoneStep-acquire : (key : ℕ) → now.thread.status ≡ status.Running
      → after ≡ with_recorded now after.thread.records
      → times_recorded after.thread.records ≡ one_more (times_recorded now.thread.records) key
      → DoneStep lot new (Acquire number key) (fine.Answer answer.Recorded)
  DoneStep-acquire key runs set recorded =
      DoneStep-recorded lot is number now after below read (one_more (s.threads_view.records number) key) set
      (recorded ∙ ap (λ records. one_more records key) (sym (records_are lot is number now after below read)))
      (Acquire number key) (fine.Answer answer.Recorded) (
        answer.Recorded,
        after_acquire s.threads_view number key,
        at_true _ (runs_at runs) refl,
        (refl, refl),
      )

  pub DoneStep-unrecorded : (key : ℕ) → now.thread.status ≡ status.Running → after ≡ now
      → DoneStep lot new (Acquire number key) (fine.Answer answer.NoMemory)
  DoneStep-unrecorded key runs same =
      DoneStep-kept lot is number now after below read (Acquire number key) (fine.Answer answer.NoMemory) same
      (answer.NoMemory, s.threads_view, at_true _ (runs_at runs) refl, (refl, refl))

  pub DoneStep-release : (key : ℕ) → now.thread.status ≡ status.Running
      → after ≡ with_recorded now after.thread.records
      → times_recorded after.thread.records ≡ one_less (times_recorded now.thread.records) key
      → DoneStep lot new (Release number key) (fine.Answer answer.Released)
  DoneStep-release key runs set recorded =
      DoneStep-recorded lot is number now after below read (one_less (s.threads_view.records number) key) set
      (recorded ∙ ap (λ records. one_less records key) (sym (records_are lot is number now after below read)))
      (Release number key) (fine.Answer answer.Released) (
        answer.Released,
        after_release s.threads_view number key,
        at_true _ (runs_at runs) (refl, refl),
        (refl, refl),
      )

-- steps that do not fit
module _ (s : FineState) (thread : ℕ) where
  pub IsDeadline-misfit : (s.threads_view.status thread ≡ status.Waiting true → s.slots thread ≡ None → ⊥)
      → IsDeadline s thread (fine.Answer answer.Misfit) s
  IsDeadline-misfit unfit =
      MatchBool-from (awaits_deadline (s.threads_view.status thread) && is_none (s.slots thread)) _ _
      (λ both. absurd (let (waits, empty) =
      and_parts (awaits_deadline (s.threads_view.status thread)) (is_none (s.slots thread)) both in
      unfit (Waiting-from (s.threads_view.status thread) waits) (None-from_test (s.slots thread) empty)))
      (λ _. (refl, refl))

  pub IsReadKey-misfit : (now : Status) → now ≢ status.Late → IsReadKey s thread now (fine.Answer answer.Misfit) s
  IsReadKey-misfit status.Late other = absurd (other refl)
  IsReadKey-misfit status.Free other = (refl, refl)
  IsReadKey-misfit status.Running other = (refl, refl)
  IsReadKey-misfit (status.Waiting _) other = (refl, refl)
  IsReadKey-misfit (status.Taken _) other = (refl, refl)

  pub IsReturn-misfit : (now : Status) (slot : Option UnparkToken)
      → ((timed : Bool) → now ≡ status.Waiting timed → slot ≡ None)
      → IsFineReturn s thread now slot (fine.Answer answer.Misfit) s
  IsReturn-misfit (status.Waiting timed) (Some token) unfit = absurd (let none = unfit timed refl in cc)
  IsReturn-misfit (status.Waiting timed) None unfit = (refl, refl)
  IsReturn-misfit status.Free slot unfit = (refl, refl)
  IsReturn-misfit status.Running slot unfit = (refl, refl)
  IsReturn-misfit status.Late slot unfit = (refl, refl)
  IsReturn-misfit (status.Taken _) slot unfit = (refl, refl)

  -- of the machine's steps that fit a running thread
  pub unfit-retire : s.threads_view.status thread ≢ status.Running
      → IsMachineStep s (machine.Retire thread) (fine.Answer answer.Misfit) s
  unfit-retire other = (
    answer.Misfit,
    s.threads_view,
    at_false _ (not_running (s.threads_view.status thread) other) (refl, refl),
    (refl, refl),
  )

  pub unfit-acquire : (key : ℕ) → s.threads_view.status thread ≢ status.Running
      → IsMachineStep s (machine.Acquire thread key) (fine.Answer answer.Misfit) s
  unfit-acquire key other = (
    answer.Misfit,
    s.threads_view,
    at_false _ (not_running (s.threads_view.status thread) other) (refl, refl),
    (refl, refl),
  )

  pub unfit-release : (key : ℕ) → s.threads_view.status thread ≢ status.Running
      → IsMachineStep s (machine.Release thread key) (fine.Answer answer.Misfit) s
  unfit-release key other = (
    answer.Misfit,
    s.threads_view,
    at_false _ (not_running (s.threads_view.status thread) other) (refl, refl),
    (refl, refl),
  )
