-- What the end of a park amounts to.
use Rattle.std.proofs.Common.{◌≡◌, ◌≢◌, ℕ, true, List}
use Rattle.std.proofs.Common.{refl, sym, ap, ◌∙◌, subst, arith, ⊎_elim, Some, None}
use Rattle.std.proofs.lemmas.Bool.{cases_eq, false≢true, MatchBool-at_true}
use Rattle.std.specs.Prelude.{is_some, IsTrue}
use Rattle.lot_base.specs.Waiting.{with_value}
use Rattle.lot_base.specs.declared.token.UnparkToken.{UnparkToken}
use Rattle.lot_base.proofs.ValueLemmas.{with_value-same, with_value-other}
use Rattle.lot_machine.specs.declared.status.Status.{Status}
use Rattle.lot_machine.specs.declared.status.Status.TheVariants as status
use Rattle.lot_machine.specs.declared.step.Answer.TheVariants as answer
use Rattle.lot_machine.specs.declared.step.Step.TheVariants as machine
use Rattle.lot_simulator.specs.InterleavedState.{FineState}
use Rattle.lot_simulator.specs.InterleavedSteps.{after_outcome}
use Rattle.lot_simulator.specs.InterleavedView.{sequential_view, sequential_status, taken_of, times_taken, once_if}
use Rattle.lot_simulator.specs.InterleavedView.{with_taken, with_slot, IsFineConsistent}
use Rattle.lot_simulator.specs.InterleavedView.{answered}
use Rattle.lot_machine.specs.Machine.{MatchesStatus, StandsAt, Waiter, with_status, after_timeout, is_last}
use Rattle.lot_machine.specs.Status.{is_queued, is_taken, is_timed}
use Rattle.lot_machine.specs.Steps.{IsReturn, IsResolve}
use Rattle.lot_simulator.proofs.HandedLemmas.{with_taken-none}
use Rattle.lot_simulator.proofs.HandedLemmas.{with_taken-alike}
use Rattle.lot_simulator.proofs.HandedLemmas.{once_if-most}
use Rattle.lot_machine.proofs.StandingLemmas.{same_machine}
use Rattle.lot_machine.proofs.MachineLemmas.{below_max_threads}
use Rattle.lot_machine.proofs.MachineLemmas.{MatchesStatus-with_status}
use Rattle.lot_machine.proofs.MachineLemmas.{MatchesStatus-after_timeout}
use Rattle.lot_simulator.proofs.AmountsLemmas.{Amounts, own_status}

module _ (s : FineState) (c : IsFineConsistent s) where
  -- a thread whose park ends, and what becomes of the lists
  module _ (thread : ℕ) (lists : ℕ → List Waiter) (gone : times_taken thread (taken_of s) ≡ 0) where
    abbrev outcome : FineState
    outcome = after_outcome s thread (record (with_status s.threads_view thread status.Running) { lists = lists })

    abbrev threads_status : ℕ → Status
    threads_status = with_value s.threads_view.status thread status.Running

    status_after : (n : ℕ) → sequential_status outcome n ≡ with_value (sequential_status s) thread status.Running n
    status_after n =
        ⊎_elim (λ (same : n ≡ thread).
        ap (λ o. with_slot o (with_taken (taken_of s) threads_status n)) (with_value-same s.slots thread None n same)
        ∙ with_taken-none n (taken_of s) threads_status (ap (λ j. times_taken j (taken_of s)) same ∙ gone)
        ∙ with_value-same s.threads_view.status thread status.Running n same
        ∙ sym (with_value-same (sequential_status s) thread status.Running n same))
        (λ (other : n ≢ thread).
        ap (λ o. with_slot o (with_taken (taken_of s) threads_status n)) (with_value-other s.slots thread None n other)
        ∙ ap (with_slot (s.slots n)) (with_taken-alike n (taken_of s) threads_status s.threads_view.status
        (with_value-other s.threads_view.status thread status.Running n other))
        ∙ sym (with_value-other (sequential_status s) thread status.Running n other))
        (cases_eq n thread)

    outcome-keeps : MatchesStatus s.key_words (sequential_view outcome) → IsFineConsistent outcome
    outcome-keeps view = record {
      view = view;
      handed = λ n. ⊎_elim (λ (same : n ≡ thread).
          let none : times_taken n (taken_of s) ≡ 0 = ap (λ j. times_taken j (taken_of s)) same ∙ gone in
          let empty : once_if (is_some (with_value s.slots thread None n)) ≡ 0 =
          ap (λ o. once_if (is_some o)) (with_value-same s.slots thread None n same) in
          omega (arith, none, empty))
          (λ (other : n ≢ thread).
          let slot : once_if (is_some (with_value s.slots thread None n)) ≡ once_if (is_some (s.slots n)) =
          ap (λ o. once_if (is_some o)) (with_value-other s.slots thread None n other) in
          let stays : once_if (is_queued (threads_status n)) ≡ once_if (is_queued (s.threads_view.status n)) =
          ap (λ o. once_if (is_queued o)) (with_value-other s.threads_view.status thread status.Running n other) in
          omega (arith, c.handed n, slot, stays))
          (cases_eq n thread);
      unaware = λ n. ⊎_elim (λ (same : n ≡ thread).
          ap is_taken (with_value-same s.threads_view.status thread status.Running n same))
          (λ (other : n ≢ thread).
          ap is_taken (with_value-other s.threads_view.status thread status.Running n other) ∙ c.unaware n)
          (cases_eq n thread);
      reading = λ n read. ⊎_elim (λ (same : n ≡ thread). absurd (false≢true (subst (λ o. IsTrue (is_some o))
          (with_value-same s.keys_read thread None n same) read)))
          (λ (other : n ≢ thread). with_value-other s.threads_view.status thread status.Running n other
          ∙ c.reading n (subst (λ o. IsTrue (is_some o)) (with_value-other s.keys_read thread None n other) read))
          (cases_eq n thread);
      held = c.held;
      holding = c.holding;
      alone = c.alone;
    }

  -- Return, and Look of a thread that finds its node
  module _ (thread : ℕ) (token : UnparkToken) (full : s.slots thread ≡ Some token)
      (waits : is_queued (s.threads_view.status thread) ≡ true) where
    gone_by_slot : times_taken thread (taken_of s) ≡ 0
    gone_by_slot =
        let slot : once_if (is_some (s.slots thread)) ≡ 1 = ap (λ o. once_if (is_some o)) full in
        let most = once_if-most (is_queued (s.threads_view.status thread)) in
        omega (arith, c.handed thread, slot, most)

    has_token : sequential_status s thread ≡ status.Taken token
    has_token = ap (λ o. with_slot o (with_taken (taken_of s) s.threads_view.status thread)) full

    abbrev returned : FineState
    returned = after_outcome s thread (with_status s.threads_view thread status.Running)

    view_returned : sequential_view returned ≡ with_status (sequential_view s) thread status.Running
    view_returned =
        same_machine _ _ (λ k. refl) (status_after thread s.threads_view.lists gone_by_slot) (λ n. refl) refl

    pub Amounts-unparked : Amounts s returned (answered (machine.Return thread) (answer.Unparked token))
    Amounts-unparked = record {
      run = (
        sequential_view returned,
        subst (λ st. IsReturn (sequential_view s) thread st (answer.Unparked token) (sequential_view returned))
            (sym has_token) (refl, view_returned),
        refl,
      );
      consistent = outcome-keeps thread s.threads_view.lists gone_by_slot
          (subst (MatchesStatus s.key_words) (sym view_returned)
          (MatchesStatus-with_status s.key_words (sequential_view s) thread status.Running
          (below_max_threads s.key_words (sequential_view s) thread c.view
          (λ free. false≢true (sym (ap is_taken (sym has_token ∙ free)))))
          (sym (ap is_queued has_token)) (sym (ap is_timed has_token)) (λ same. cc) c.view));
    }

  -- Look of a thread that is not unparked
  module _ (thread key : ℕ) (late : s.threads_view.status thread ≡ status.Late) (empty : s.slots thread ≡ None)
      (at_key : s.key_words thread ≡ key) (gone : times_taken thread (taken_of s) ≡ 0) where
    late_view : sequential_status s thread ≡ status.Late
    late_view = (own_status s c) thread gone empty ∙ late

    stands : StandsAt (sequential_view s) thread key
    stands = subst (StandsAt (sequential_view s) thread) at_key
        (MatchBool-at_true _ _ (ap is_queued late_view) (c.view.standing thread))

    abbrev timed_out : FineState
    timed_out = after_outcome s thread (after_timeout s.threads_view thread key)

    view_timed_out : sequential_view timed_out ≡ after_timeout (sequential_view s) thread key
    view_timed_out =
        same_machine _ _ (λ k. refl) (status_after thread (after_timeout s.threads_view thread key).lists gone)
        (λ n. refl) refl

    pub Amounts-timed_out : Amounts s timed_out
        (answered (machine.Resolve thread) (answer.TimedOut key (is_last s.threads_view thread key)))
    Amounts-timed_out = record {
      run = (
        sequential_view timed_out,
        subst (λ st. IsResolve (sequential_view s) thread st
            (answer.TimedOut key (is_last s.threads_view thread key)) (sequential_view timed_out))
            (sym late_view) (key, stands, (refl, view_timed_out)),
        refl,
      );
      consistent = outcome-keeps thread (after_timeout s.threads_view thread key).lists gone
          (subst (MatchesStatus s.key_words) (sym view_timed_out)
          (MatchesStatus-after_timeout s.key_words s.key_words (sequential_view s) thread key
          (ap is_queued late_view) stands (λ n other. refl) c.view));
    }
