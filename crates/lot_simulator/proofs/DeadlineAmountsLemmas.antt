-- What a deadline amounts to.
use Rattle.std.proofs.Common.{◌≡◌, ◌≢◌, ℕ, true, []}
use Rattle.std.proofs.Common.{refl, sym, ap, ◌∙◌, subst, arith, ⊎_elim, None}
use Rattle.std.proofs.lemmas.Bool.{cases_eq, cond-true, cond-false, false≢true}
use Rattle.std.specs.List.{list_any}
use Rattle.std.specs.Prelude.{is_some, IsTrue, if◌then◌else◌}
use Rattle.lot_base.specs.Waiting.{with_value}
use Rattle.lot_base.proofs.ValueLemmas.{with_value-same, with_value-other}
use Rattle.lot_machine.specs.declared.status.Status.{Status}
use Rattle.lot_machine.specs.declared.status.Status.TheVariants as status
use Rattle.lot_machine.specs.declared.step.Answer.TheVariants as answer
use Rattle.lot_machine.specs.declared.step.Step.TheVariants as machine
use Rattle.lot_simulator.specs.InterleavedState.{Caller, FineState}
use Rattle.lot_simulator.specs.InterleavedView.{sequential_view, sequential_status, taken_of, times_taken, once_if}
use Rattle.lot_simulator.specs.InterleavedView.{taken_in, with_taken, with_slot, IsFineConsistent}
use Rattle.lot_simulator.specs.InterleavedView.{answered}
use Rattle.lot_machine.specs.Machine.{MatchesStatus, with_status}
use Rattle.lot_machine.specs.Status.{is_queued, is_taken, is_timed, awaits_deadline}
use Rattle.lot_simulator.proofs.HandedLemmas.{with_taken-none}
use Rattle.lot_simulator.proofs.HandedLemmas.{with_taken-among, with_taken-alike, is_among}
use Rattle.lot_simulator.proofs.HandedLemmas.{is_among-callers, is_among-none, is_among-some}
use Rattle.lot_machine.proofs.StandingLemmas.{same_machine, MatchBool-from}
use Rattle.lot_machine.proofs.MachineLemmas.{below_max_threads}
use Rattle.lot_machine.proofs.MachineLemmas.{MatchesStatus-with_status}
use Rattle.lot_simulator.proofs.AmountsLemmas.{Amounts, own_status}

module _ (s : FineState) (c : IsFineConsistent s) where
  -- Deadline of a thread that waits with a timeout and whose slot is empty
  module _ (thread : ℕ) (waits : s.threads_view.status thread ≡ status.Waiting true)
      (empty : s.slots thread ≡ None) where
    abbrev passed : FineState
    passed =
        record s {
          threads_view = with_status s.threads_view thread status.Late;
          keys_read = with_value s.keys_read thread None;
        }

    abbrev late_status : ℕ → Status
    late_status = with_value s.threads_view.status thread status.Late

    passed-keeps : MatchesStatus s.key_words (sequential_view passed) → IsFineConsistent passed
    passed-keeps view = record {
      view = view;
      handed = λ n. ⊎_elim (λ (same : n ≡ thread).
          let stays : once_if (is_queued (late_status n)) ≡ once_if (is_queued (s.threads_view.status n)) =
          ap (λ o. once_if (is_queued o)) (with_value-same s.threads_view.status thread status.Late n same)
          ∙ sym (ap (λ o. once_if (is_queued o)) (ap s.threads_view.status same ∙ waits)) in
          omega (arith, c.handed n, stays))
          (λ (other : n ≢ thread).
          let stays : once_if (is_queued (late_status n)) ≡ once_if (is_queued (s.threads_view.status n)) =
          ap (λ o. once_if (is_queued o)) (with_value-other s.threads_view.status thread status.Late n other) in
          omega (arith, c.handed n, stays))
          (cases_eq n thread);
      unaware = λ n. ⊎_elim (λ (same : n ≡ thread).
          ap is_taken (with_value-same s.threads_view.status thread status.Late n same))
          (λ (other : n ≢ thread).
          ap is_taken (with_value-other s.threads_view.status thread status.Late n other) ∙ c.unaware n)
          (cases_eq n thread);
      reading = λ n read. ⊎_elim (λ (same : n ≡ thread).
          with_value-same s.threads_view.status thread status.Late n same)
          (λ (other : n ≢ thread). with_value-other s.threads_view.status thread status.Late n other
          ∙ c.reading n (subst (λ o. IsTrue (is_some o)) (with_value-other s.keys_read thread None n other) read))
          (cases_eq n thread);
      held = c.held;
      holding = c.holding;
      alone = c.alone;
    }

    of_others : (n : ℕ) → n ≢ thread → sequential_status passed n ≡ sequential_status s n
    of_others n other = ap (with_slot (s.slots n)) (with_taken-alike n (taken_of s) late_status s.threads_view.status
        (with_value-other s.threads_view.status thread status.Late n other))

    -- it stands in a list
    module _ (gone : times_taken thread (taken_of s) ≡ 0) where
      waits_view : sequential_status s thread ≡ status.Waiting true
      waits_view = (own_status s c) thread gone empty ∙ waits

      view_passed : sequential_view passed ≡ with_status (sequential_view s) thread status.Late
      view_passed = same_machine _ _ (λ k. refl) at (λ n. refl) refl
        where
          at : (n : ℕ) → sequential_status passed n ≡ with_value (sequential_status s) thread status.Late n
          at n =
              ⊎_elim (λ (same : n ≡ thread).
              ap (λ o. with_slot o (with_taken (taken_of s) late_status n)) (ap s.slots same ∙ empty)
              ∙ with_taken-none n (taken_of s) late_status (ap (λ j. times_taken j (taken_of s)) same ∙ gone)
              ∙ with_value-same s.threads_view.status thread status.Late n same
              ∙ sym (with_value-same (sequential_status s) thread status.Late n same))
              (λ (other : n ≢ thread). of_others n other
              ∙ sym (with_value-other (sequential_status s) thread status.Late n other))
              (cases_eq n thread)

      Amounts-in_list : Amounts s passed (answered (machine.Deadline thread) answer.Late)
      Amounts-in_list = record {
        run = (
          sequential_view passed,
          MatchBool-from (awaits_deadline (sequential_status s thread)) _ _ (λ _. (refl, view_passed))
              (λ not. absurd (false≢true (sym not ∙ ap awaits_deadline waits_view))),
          refl,
        );
        consistent = passed-keeps (subst (MatchesStatus s.key_words) (sym view_passed)
            (MatchesStatus-with_status s.key_words (sequential_view s) thread status.Late
            (below_max_threads s.key_words (sequential_view s) thread c.view
            (λ free. false≢true (sym (ap is_queued (sym waits_view ∙ free)))))
            (sym (ap is_queued waits_view)) (sym (ap is_timed waits_view)) (λ same. cc) c.view));
      }

    -- a section has it
    module _ (some : times_taken thread (taken_of s) ≢ 0) where
      view_same : sequential_view passed ≡ sequential_view s
      view_same = same_machine _ _ (λ k. refl) at (λ n. refl) refl
        where
          at : (n : ℕ) → sequential_status passed n ≡ sequential_status s n
          at n =
              ⊎_elim (λ (same : n ≡ thread). ap (with_slot (s.slots n))
              (with_taken-among n (taken_of s) late_status s.threads_view.status
              (λ none. some (ap (λ j. times_taken j (taken_of s)) (sym same) ∙ none))))
              (of_others n)
              (cases_eq n thread)

      Amounts-in_section : Amounts s passed []
      Amounts-in_section = record {
        run = sym view_same;
        consistent = passed-keeps (subst (MatchesStatus s.key_words) (sym view_same) c.view);
      }

    Amounts-among : Amounts s passed
        (if is_among thread (taken_of s) then [] else answered (machine.Deadline thread) answer.Late)
    Amounts-among =
        ⊎_elim (λ (gone : times_taken thread (taken_of s) ≡ 0).
        subst (Amounts s passed)
        (sym (cond-false (is_among thread (taken_of s)) _ _ (is_among-none thread (taken_of s) gone)))
        (Amounts-in_list gone))
        (λ (some : times_taken thread (taken_of s) ≢ 0).
        subst (Amounts s passed)
        (sym (cond-true (is_among thread (taken_of s)) _ _ (is_among-some thread (taken_of s) some)))
        (Amounts-in_section some))
        (cases_eq (times_taken thread (taken_of s)) 0)

    pub Amounts-deadline : Amounts s passed
        (if list_any (λ (caller : Caller). is_among thread (taken_in caller.section)) s.callers then []
        else answered (machine.Deadline thread) answer.Late)
    Amounts-deadline =
        subst (λ taken. Amounts s passed (if taken then [] else answered (machine.Deadline thread) answer.Late))
        (sym (is_among-callers thread s.callers)) Amounts-among
