-- Steps of the callers of an interleaved lot after a section has begun.
use Rattle.std.proofs.Common.{◌≡◌, ◌≢◌, ℕ, ◌+◌, ◌-◌, ◌<◌, ◌≤◌, Bool, true, false, List, [], ◌∷◌, ◌++◌}
use Rattle.std.proofs.Common.{refl, sym, ap, ◌∙◌, subst, arith, slice_get, slice_set, Some, None, MatchOption, length}
use Rattle.std.proofs.lemmas.Bool.{eq-eqb, ne_eqb}
use Rattle.std.proofs.lemmas.List.{set-get_or}
use Rattle.std.proofs.lemmas.Option.{get_or_from_slice_get}
use Rattle.std.specs.Option.{option_map_or}
use Rattle.std.specs.Prelude.{option_and_then}
use Rattle.lot_base.specs.Waiting.{has_any, with_value}
use Rattle.lot_simulator.specs.declared.interleaved.FineAnswer.TheVariants as fine
use Rattle.lot_simulator.specs.declared.interleaved.FineAnswer.{FineAnswer}
use Rattle.lot_simulator.specs.declared.interleaved.FineStep.{FineStep}
use Rattle.lot_simulator.specs.declared.interleaved.FineStep.TheVariants.{Commit, End, Wake}
use Rattle.lot_machine.specs.declared.step.Answer.TheVariants as answer
use Rattle.lot_simulator.specs.FineLot.{IsFineLot, fine_state, fine_thread_at, plain_threads}
use Rattle.lot_simulator.specs.FineLotState.{FineLotState, FineThreadState}
use Rattle.lot_simulator.specs.InterleavedState.{FineState, Section, Caller, TakenThread}
use Rattle.lot_simulator.specs.InterleavedSteps.{IsCommit, IsEnd, IsFineStep, IsFineMisfit, section_of, wakes_of}
use Rattle.lot_simulator.specs.InterleavedView.{IsFineConsistent, once_if, taken_in, taken_of, times_taken}
use Rattle.lot_simulator.specs.Lot.{statuses}
use Rattle.lot_machine.specs.Machine.{with_status}
use Rattle.lot_machine.specs.Status.{is_queued}
use Rattle.lot_simulator.proofs.CommitLemmas.{below_from_status, ne-free-queued}
use Rattle.lot_simulator.proofs.FineStateLemmas.{DoneStep, DoneStep-thread, at_true, at_false, at_option, kept}
use Rattle.lot_simulator.proofs.FineStateLemmas.{key_read_is, plain-length, set_lot, status_is, with_status-kept}
use Rattle.lot_simulator.proofs.HandedLemmas.{None-from, TakenAround, once_if-most, taken_around, times_taken-append}
use Rattle.lot_simulator.proofs.HandedLemmas.{times_taken-own}
use Rattle.lot_simulator.proofs.InterleavingLemmas.{IsFineConsistent-step}

-- only the callers are others
pub DoneStep-callers : (lot : FineLotState) (callers : List Caller) (step : FineStep) (given : FineAnswer)
    → IsFineLot lot → IsFineStep (fine_state lot) step given (record (fine_state lot) { callers = callers })
    → DoneStep lot (record lot { callers = callers }) step given
DoneStep-callers lot callers step given is does = record {
  is_lot = record {
    represents = is.represents;
    numbers = is.numbers;
    consistent = IsFineConsistent-step (fine_state lot) step given (record (fine_state lot) { callers = callers })
        is.consistent does;
    count = is.count;
  };
  does = does;
}

-- or one that is as it was
pub DoneStep-kept_caller : (lot : FineLotState) (caller : ℕ) (now after : Caller)
    → slice_get lot.callers caller ≡ Some now → after ≡ now → (step : FineStep) (given : FineAnswer) → IsFineLot lot
    → IsFineStep (fine_state lot) step given (fine_state lot)
    → DoneStep lot (record lot { callers = slice_set lot.callers caller after }) step given
DoneStep-kept_caller lot caller now after at same step given is does =
    DoneStep-callers lot (slice_set lot.callers caller after) step given is
    (subst (λ callers. IsFineStep (fine_state lot) step given (record (fine_state lot) { callers = callers }))
    (sym unchanged) does)
  where
    unchanged : slice_set lot.callers caller after ≡ lot.callers
    unchanged =
        ap (slice_set lot.callers caller) (same ∙ sym (get_or_from_slice_get lot.callers caller now now at))
        ∙ set-get_or lot.callers caller now

-- a caller, as it was read
module _ (s : FineState) (caller : ℕ) (now : Caller) (at : slice_get s.callers caller ≡ Some now) where
  pub section_is : section_of s caller ≡ now.section
  section_is = ap (λ o. option_and_then (λ (c : Caller). c.section) o) at

  pub wakes_are : wakes_of s caller ≡ now.wakes
  wakes_are = ap (λ o. option_map_or (λ (c : Caller). c.wakes) o 0) at

  abbrev left : Caller → FineState
  left after = record s { callers = slice_set s.callers caller after }

  pub End-done : (section : Section) → now.section ≡ Some section → section.taken ≡ [] → (after : Caller)
      → after ≡ record now { section = None }
      → IsFineStep s (End caller) fine.Ended (record s { callers = slice_set s.callers caller after })
  End-done section opened empty after set =
      subst (λ o. MatchOption o (IsFineMisfit s fine.Ended (left after))
      (λ section. IsEnd s caller section fine.Ended (left after))) (sym (section_is ∙ opened))
      (at_false _ (ap has_any empty)
      (refl, ap left (set ∙ ap (λ wakes. record { section = None; wakes = wakes }) (sym wakes_are))))

  pub End-misfit : ((section : Section) → now.section ≡ Some section → has_any section.taken ≡ true)
      → IsFineStep s (End caller) (fine.Answer answer.Misfit) s
  End-misfit taken =
      at_option (section_of s caller) (λ _. (refl, refl))
      (λ section opened. at_true _ (taken section (sym section_is ∙ opened)) (refl, refl))

  pub Wake-done : now.wakes ≢ 0 → (after : Caller) → after ≡ record now { wakes = now.wakes - 1 }
      → IsFineStep s (Wake caller) fine.Woken (record s { callers = slice_set s.callers caller after })
  Wake-done some after set =
      at_false _ (ne_eqb (wakes_of s caller) 0 (λ none. some (sym wakes_are ∙ none)))
      (refl, ap left (set ∙ (λ i. record { section = sym section_is i; wakes = sym wakes_are i - 1 })))

  pub Wake-misfit : now.wakes ≡ 0 → IsFineStep s (Wake caller) (fine.Answer answer.Misfit) s
  Wake-misfit none = at_true _ (eq-eqb (wakes_of s caller) 0 (wakes_are ∙ none)) (refl, refl)

  pub Commit-misfit : taken_in now.section ≡ [] → IsFineStep s (Commit caller) (fine.Answer answer.Misfit) s
  Commit-misfit empty =
      at_option (section_of s caller) (λ _. (refl, refl))
      (λ section opened. subst
      (λ taken. IsCommit s caller section taken (fine.Answer answer.Misfit) s)
      (sym (ap taken_in (sym (sym section_is ∙ opened)) ∙ empty)) (refl, refl))

  -- the first of those that its section took
  module _ (c : IsFineConsistent s) (section : Section) (first : TakenThread) (rest : List TakenThread)
      (opened : now.section ≡ Some section) (takes : section.taken ≡ first ∷ rest) where
    around : TakenAround s.callers caller now.section
    around = taken_around s.callers caller now at

    some_taken : 1 ≤ times_taken first.number (taken_of s)
    some_taken =
        let old : taken_of s ≡ around.before ++ ((first ∷ rest) ++ around.after) =
        around.old ∙ ap (λ ts. around.before ++ (ts ++ around.after)) (ap taken_in opened ∙ takes) in
        let counted : times_taken first.number (taken_of s) ≡ times_taken first.number around.before
        + (1 + times_taken first.number (rest ++ around.after)) =
        ap (times_taken first.number) old
        ∙ times_taken-append first.number around.before ((first ∷ rest) ++ around.after)
        ∙ ap (λ n. times_taken first.number around.before + n)
        (times_taken-own first.number first (rest ++ around.after) refl) in
        omega (arith, counted)

    first-queued : is_queued (s.threads_view.status first.number) ≡ true
    first-queued = from_once (is_queued (s.threads_view.status first.number))
        (omega (arith, some_taken, c.handed first.number))
      where
        from_once : (b : Bool) → 1 ≤ once_if b → b ≡ true
        from_once true some = refl
        from_once false some = absurd (omega (arith, some))

    first-empty : s.slots first.number ≡ None
    first-empty =
        None-from (s.slots first.number)
        (let most = once_if-most (is_queued (s.threads_view.status first.number)) in
        omega (arith, some_taken, c.handed first.number, most))

    Commit-done : (after : Caller)
        → after ≡ record { section = Some (record section { taken = rest }); wakes = now.wakes + 1 }
        → IsFineStep s (Commit caller) (fine.Committed first.number) (record s {
          slots = with_value s.slots first.number (Some first.token);
          callers = slice_set s.callers caller after;
        })
    Commit-done after set =
        subst (λ o. MatchOption o (IsFineMisfit s (fine.Committed first.number) done)
        (λ section. IsCommit s caller section section.taken (fine.Committed first.number) done))
        (sym (section_is ∙ opened))
        (subst (λ taken. IsCommit s caller section taken (fine.Committed first.number) done) (sym takes) (
          refl,
          ap (λ (cl : Caller). record s {
            slots = with_value s.slots first.number (Some first.token);
            callers = slice_set s.callers caller cl;
          })
              (set ∙ ap (λ wakes. record { section = Some (record section { taken = rest }); wakes = wakes + 1 })
              (sym wakes_are)),
        ))
      where
        done : FineState
        done = record s {
          slots = with_value s.slots first.number (Some first.token);
          callers = slice_set s.callers caller after;
        }

-- a caller hands on the first that its section took
pub record HandsOn (lot : FineLotState) (caller : ℕ) (after : Caller) (first : TakenThread) : Type 0 where
  pub below : first.number < length lot.threads
  pub queued : is_queued ((fine_state lot).threads_view.status first.number) ≡ true
  pub empty : (fine_state lot).slots first.number ≡ None
  pub does : IsFineStep (fine_state lot) (Commit caller) (fine.Committed first.number) (record (fine_state lot) {
    slots = with_value (fine_state lot).slots first.number (Some first.token);
    callers = slice_set lot.callers caller after;
  })

pub hands_on : (lot : FineLotState) → IsFineLot lot → (caller : ℕ) (now after : Caller)
    → slice_get lot.callers caller ≡ Some now → (section : Section) (first : TakenThread) (rest : List TakenThread)
    → now.section ≡ Some section → section.taken ≡ first ∷ rest
    → after ≡ record { section = Some (record section { taken = rest }); wakes = now.wakes + 1 }
    → HandsOn lot caller after first
hands_on lot is caller now after at section first rest opened takes set = record {
  below = omega (
    arith,
    plain-length lot.threads,
    below_from_status (plain_threads lot.threads) first.number
        (ne-free-queued (statuses (plain_threads lot.threads) first.number) queued),
  );
  queued = queued;
  empty = first-empty (fine_state lot) caller now at is.consistent section first rest opened takes;
  does = Commit-done (fine_state lot) caller now at is.consistent section first rest opened takes after set;
}
  where
    queued : is_queued ((fine_state lot).threads_view.status first.number) ≡ true
    queued = first-queued (fine_state lot) caller now at is.consistent section first rest opened takes

pub DoneStep-commit : (lot : FineLotState) → IsFineLot lot → (caller : ℕ) (after : Caller) (first : TakenThread)
    (hands : HandsOn lot caller after first) (thread handed : FineThreadState)
    → thread ≡ fine_thread_at lot.threads first.number → handed ≡ record thread { slot = Some first.token }
    → DoneStep lot (set_lot lot first.number handed lot.buckets (slice_set lot.callers caller after)) (Commit caller)
    (fine.Committed first.number)
DoneStep-commit lot is caller after first hands thread handed read put =
    DoneStep-thread lot is first.number thread handed hands.below read thread.thread.status thread.key_read
    (Some first.token) put (slice_set lot.callers caller after) (Commit caller) (fine.Committed first.number)
    (subst (IsFineStep s (Commit caller) (fine.Committed first.number)) same hands.does)
  where
    s : FineState
    s = fine_state lot

    same : record s {
      slots = with_value s.slots first.number (Some first.token);
      callers = slice_set s.callers caller after;
    } ≡ record s {
      threads_view = with_status s.threads_view first.number thread.thread.status;
      keys_read = with_value s.keys_read first.number thread.key_read;
      slots = with_value s.slots first.number (Some first.token);
      callers = slice_set s.callers caller after;
    }
    same =
        sym
        (λ i. record s {
          threads_view = with_status-kept s.threads_view first.number thread.thread.status
              (sym (status_is lot is first.number thread handed hands.below read)) i;
          keys_read = kept s.keys_read first.number thread.key_read
              (sym (key_read_is lot is first.number thread handed hands.below read)) i;
          slots = with_value s.slots first.number (Some first.token);
          callers = slice_set s.callers caller after;
        })
