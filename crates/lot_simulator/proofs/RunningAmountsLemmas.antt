-- What the steps of a thread amount to that runs or is free.
use Rattle.std.proofs.Common.{◌≡◌, ◌≢◌, ℕ, ◌+◌, ◌≤◌, ◌<◌, Bool, true, false}
use Rattle.std.proofs.Common.{refl, sym, ap, ◌∙◌, subst, arith, ⊎_elim, inl}
use Rattle.std.proofs.lemmas.Bool.{cases_eq, false≢true}
use Rattle.std.specs.Prelude.{is_some, IsTrue, MatchBool}
use Rattle.lot_base.specs.Place.{place_of}
use Rattle.lot_base.specs.Waiting.{with_value}
use Rattle.lot_base.specs.declared.token.ParkToken.{ParkToken}
use Rattle.lot_base.proofs.ValueLemmas.{with_value-same, with_value-other}
use Rattle.lot_machine.specs.declared.status.Status.{Status}
use Rattle.lot_machine.specs.declared.status.Status.TheVariants as status
use Rattle.lot_machine.specs.declared.step.Answer.TheVariants as answer
use Rattle.lot_machine.specs.declared.step.Step.TheVariants as machine
use Rattle.lot_simulator.specs.InterleavedState.{FineState}
use Rattle.lot_simulator.specs.InterleavedView.{sequential_view, sequential_status, taken_of, times_taken, once_if}
use Rattle.lot_simulator.specs.InterleavedView.{with_taken, with_slot, IsFineConsistent}
use Rattle.lot_simulator.specs.InterleavedView.{answered}
use Rattle.lot_machine.specs.Machine.{MatchesStatus}
use Rattle.lot_machine.specs.Machine.{with_records, after_retire, after_acquire, after_release, after_enter}
use Rattle.lot_machine.specs.Records.{one_more, one_less}
use Rattle.lot_machine.specs.Status.{is_queued, is_running, is_taken, is_timed}
use Rattle.lot_simulator.proofs.HandedLemmas.{with_taken-none}
use Rattle.lot_simulator.proofs.HandedLemmas.{with_taken-alike}
use Rattle.lot_machine.proofs.StandingLemmas.{same_machine, MatchBool-from}
use Rattle.lot_machine.proofs.MachineLemmas.{below_max_threads}
use Rattle.lot_machine.proofs.MachineLemmas.{MatchesStatus-with_thread}
use Rattle.lot_machine.proofs.MachineLemmas.{MatchesStatus-with_records}
use Rattle.lot_machine.proofs.MachineLemmas.{MatchesStatus-after_enter}
use Rattle.lot_simulator.proofs.AmountsLemmas.{still_held_at, Amounts, not_taken, no_slot, still_status}

module _ (s : FineState) (c : IsFineConsistent s) where
  -- a thread that runs or is free gets another status
  module _ (thread : ℕ) (st : Status) (still : is_queued (s.threads_view.status thread) ≡ false)
      (untaken : is_taken st ≡ false) where
    abbrev set_status : ℕ → Status
    set_status = with_value s.threads_view.status thread st

    pub view_set : (n : ℕ) → with_slot (s.slots n) (with_taken (taken_of s) set_status n)
        ≡ with_value (sequential_status s) thread st n
    view_set n =
        ⊎_elim (λ (same : n ≡ thread).
        ap (λ o. with_slot o (with_taken (taken_of s) set_status n)) (ap s.slots same ∙ (no_slot s c) thread still)
        ∙ with_taken-none n (taken_of s) set_status
        (ap (λ j. times_taken j (taken_of s)) same ∙ (not_taken s c) thread still)
        ∙ with_value-same s.threads_view.status thread st n same
        ∙ sym (with_value-same (sequential_status s) thread st n same))
        (λ (other : n ≢ thread).
        ap (with_slot (s.slots n)) (with_taken-alike n (taken_of s) set_status s.threads_view.status
        (with_value-other s.threads_view.status thread st n other))
        ∙ sym (with_value-other (sequential_status s) thread st n other))
        (cases_eq n thread)

    pub handed_set : (n : ℕ) → times_taken n (taken_of s) + once_if (is_some (s.slots n))
        ≤ once_if (is_queued (set_status n))
    handed_set n =
        ⊎_elim (λ (same : n ≡ thread).
        let none : times_taken n (taken_of s) ≡ 0 =
        ap (λ j. times_taken j (taken_of s)) same ∙ (not_taken s c) thread still in
        let empty : once_if (is_some (s.slots n)) ≡ 0 =
        ap (λ o. once_if (is_some o)) (ap s.slots same ∙ (no_slot s c) thread still) in
        omega (arith, none, empty))
        (λ (other : n ≢ thread).
        let stays : once_if (is_queued (set_status n)) ≡ once_if (is_queued (s.threads_view.status n)) =
        ap (λ o. once_if (is_queued o)) (with_value-other s.threads_view.status thread st n other) in
        omega (arith, c.handed n, stays))
        (cases_eq n thread)

    pub unaware_set : (n : ℕ) → is_taken (set_status n) ≡ false
    unaware_set n =
        ⊎_elim (λ (same : n ≡ thread). ap is_taken (with_value-same s.threads_view.status thread st n same) ∙ untaken)
        (λ (other : n ≢ thread). ap is_taken (with_value-other s.threads_view.status thread st n other) ∙ c.unaware n)
        (cases_eq n thread)

    pub reading_set : (n : ℕ) → IsTrue (is_some (s.keys_read n)) → set_status n ≡ status.Late
    reading_set n read =
        ⊎_elim (λ (same : n ≡ thread). absurd (false≢true
        (sym still ∙ ap is_queued (ap s.threads_view.status (sym same) ∙ c.reading n read))))
        (λ (other : n ≢ thread). with_value-other s.threads_view.status thread st n other ∙ c.reading n read)
        (cases_eq n thread)

  -- a running thread
  module _ (thread : ℕ) (runs : s.threads_view.status thread ≡ status.Running) where
    runs_view : sequential_status s thread ≡ status.Running
    runs_view = (still_status s c) thread (ap is_queued runs) ∙ runs

    below : thread < s.threads_view.max_threads
    below = below_max_threads s.key_words (sequential_view s) thread c.view
        (λ free. false≢true (sym (ap is_running (sym runs_view ∙ free))))

    -- what the machine's rule says of it
    pub when_running : (P Q : Type 0) → P → MatchBool (is_running (sequential_status s thread)) P Q
    when_running P Q p = MatchBool-from (is_running (sequential_status s thread)) P Q (λ _. p)
        (λ not. absurd (false≢true (sym not ∙ ap is_running runs_view)))

    pub Amounts-retire : Amounts s (record s { threads_view = after_retire s.threads_view thread })
        (answered (machine.Retire thread) answer.Retired)
    Amounts-retire =
        let left : sequential_view (record s { threads_view = after_retire s.threads_view thread })
        ≡ after_retire (sequential_view s) thread =
        same_machine _ _ (λ k. refl) (view_set thread status.Free (ap is_queued runs) refl) (λ n. refl) refl in
        record {
          run = (_, when_running _ _ (refl, left), refl);
          consistent = record {
            view = subst (MatchesStatus s.key_words) (sym left)
                (MatchesStatus-with_thread s.key_words s.key_words (sequential_view s) thread status.Free (λ _. 0)
                below (ap is_queued (sym runs_view)) (ap is_timed (sym runs_view)) (λ j other. refl) (inl refl)
                (λ _ key. refl) c.view);
            handed = handed_set thread status.Free (ap is_queued runs) refl;
            unaware = unaware_set thread status.Free (ap is_queued runs) refl;
            reading = reading_set thread status.Free (ap is_queued runs) refl;
            held = c.held;
            holding = c.holding;
            alone = c.alone;
          };
        }

    -- it has other records
    recorded : (records : ℕ → ℕ) → IsFineConsistent (record s {
      threads_view = with_records s.threads_view thread records;
    })
    recorded records = record {
      view = MatchesStatus-with_records s.key_words (sequential_view s) thread records runs_view c.view;
      handed = c.handed;
      unaware = c.unaware;
      reading = c.reading;
      held = c.held;
      holding = c.holding;
      alone = c.alone;
    }

    pub Amounts-acquire : (key : ℕ) → Amounts s (record s { threads_view = after_acquire s.threads_view thread key })
        (answered (machine.Acquire thread key) answer.Recorded)
    Amounts-acquire key =
        record {
          run = (_, when_running _ _ refl, refl);
          consistent = recorded (one_more (s.threads_view.records thread) key);
        }

    pub Amounts-unrecorded : (key : ℕ) → Amounts s s (answered (machine.Acquire thread key) answer.NoMemory)
    Amounts-unrecorded key = record { run = (_, when_running _ _ refl, refl); consistent = c }

    pub Amounts-release : (key : ℕ) → Amounts s (record s { threads_view = after_release s.threads_view thread key })
        (answered (machine.Release thread key) answer.Released)
    Amounts-release key = record {
      run = (_, when_running _ _ (refl, refl), refl);
      consistent = recorded (one_less (s.threads_view.records thread) key);
    }

    module _ (key : ℕ) (park_token : ParkToken) (timed : Bool) where
      pub Amounts-invalid : Amounts s s (answered (machine.Enter thread key false park_token timed) answer.Invalid)
      Amounts-invalid = record { run = (_, when_running _ _ (refl, refl), refl); consistent = c }

      abbrev entered : FineState
      entered =
          record s {
            threads_view = after_enter s.threads_view thread key park_token timed;
            key_words = with_value s.key_words thread key;
          }

      pub Amounts-enter : Amounts s entered (answered (machine.Enter thread key true park_token timed) answer.Entered)
      Amounts-enter =
          let still : is_queued (s.threads_view.status thread) ≡ false = ap is_queued runs in
          let left : sequential_view entered ≡ after_enter (sequential_view s) thread key park_token timed =
          same_machine _ _ (λ k. refl) (view_set thread (status.Waiting timed) still refl) (λ n. refl) refl in
          record {
            run = (_, when_running _ _ (refl, left), refl);
            consistent = record {
              view = subst (MatchesStatus (with_value s.key_words thread key)) (sym left)
                  (MatchesStatus-after_enter s.key_words (with_value s.key_words thread key) (sequential_view s) thread
                  key park_token timed runs_view (with_value-other s.key_words thread key)
                  (with_value-same s.key_words thread key thread refl) c.view);
              handed = handed_set thread (status.Waiting timed) still refl;
              unaware = unaware_set thread (status.Waiting timed) still refl;
              reading = reading_set thread (status.Waiting timed) still refl;
              held = still_held_at s (with_value s.key_words thread key) s.size s.callers
                  (λ n some. ap (λ k. place_of k s.size) (with_value-other s.key_words thread key n
                  (λ same. some (ap (λ j. times_taken j (taken_of s)) same ∙ (not_taken s c) thread still)))) c.held;
              holding = c.holding;
              alone = c.alone;
            };
          }
