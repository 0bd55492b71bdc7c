-- What a registration on the interleaved machine amounts to.
use Rattle.std.proofs.Common.{◌≡◌, ◌≢◌, ℕ, ◌+◌, ◌*◌, ◌≤◌, ◌<◌, false, not, List, [], ◌∷◌, ◌++◌, refl, sym, ap}
use Rattle.std.proofs.Common.{◌∙◌, subst, arith, ⊎_elim, inl, inr, Some, None}
use Rattle.std.proofs.lemmas.Bool.{cases_eq, cases_lt, lt-ltb, ne_eqb, and_cases, false≢true, true≢false}
use Rattle.std.proofs.lemmas.List.Sums.{count_by-le-length}
use Rattle.std.specs.Prelude.{Option, All, is_some, nat_lt, ◌&&◌, ◌||◌, ◌⊎◌, flat_map}
use Rattle.std.proofs.lemmas.List.FromFn.{length-range_with_len}
use Rattle.std.specs.List.{list_any, range_with_len}
use Rattle.lot_base.specs.Place.{place_of}
use Rattle.lot_base.proofs.ValueLemmas.{with_value-same}
use Rattle.lot_machine.specs.declared.status.Status.TheVariants as status
use Rattle.lot_machine.specs.declared.step.Answer.{Answer}
use Rattle.lot_machine.specs.declared.step.Answer.TheVariants as answer
use Rattle.lot_machine.specs.declared.step.Step.TheVariants as machine
use Rattle.lot_simulator.specs.declared.interleaved.FineAnswer.{FineAnswer}
use Rattle.lot_simulator.specs.declared.interleaved.FineAnswer.TheVariants as fine
use Rattle.lot_simulator.specs.declared.interleaved.FineStep.TheVariants.{Register}
use Rattle.lot_simulator.specs.InterleavedState.{FineState, Section, Caller, TakenThread}
use Rattle.lot_simulator.specs.InterleavedSteps.{IsFineRegister, is_full, is_growth_blocked, is_any_open}
use Rattle.lot_simulator.specs.InterleavedView.{sequential_view, sequential_status, sequential_step, taken_of}
use Rattle.lot_simulator.specs.InterleavedView.{taken_in}
use Rattle.lot_simulator.specs.InterleavedView.{times_taken, with_taken, with_slot, HoldsForTaken, IsFineConsistent}
use Rattle.lot_simulator.specs.InterleavedView.{answered}
use Rattle.lot_machine.specs.Machine.{Machine, MatchesStatus, IsLeastFree, IsFull, threads_of, with_status}
use Rattle.lot_machine.specs.Size.{IsSizeAfter}
use Rattle.lot_machine.specs.Status.{is_queued, is_taken, is_timed, is_registered}
use Rattle.lot_machine.specs.Steps as steps
use Rattle.lot_machine.proofs.ThreadCountLemmas.{threads_of-one_more, registered-with_status}
use Rattle.lot_simulator.proofs.HandedLemmas.{is_taken-among}
use Rattle.lot_machine.proofs.StandingLemmas.{same_machine}
use Rattle.lot_machine.proofs.MachineLemmas.{MatchesStatus-with_status}
use Rattle.lot_simulator.proofs.AmountsLemmas.{Amounts, Amounts-none, own_status, still_held_at, still_status}
use Rattle.lot_simulator.proofs.RunningAmountsLemmas.{view_set, handed_set, unaware_set, reading_set}
use Rattle.lot_machine.proofs.StepLemmas.{MatchBool-either}

-- where no section is open, nobody is taken
pub none_taken : (callers : List Caller) → list_any (λ caller. is_some caller.section) callers ≡ false
    → flat_map (λ (caller : Caller). taken_in caller.section) callers ≡ []
none_taken [] closed = refl
none_taken (caller ∷ callers) closed = at caller.section refl (none_taken callers)
  where
    behind : List TakenThread
    behind = flat_map (λ (caller : Caller). taken_in caller.section) callers

    at : (o : Option Section) → caller.section ≡ o
        → (list_any (λ caller. is_some caller.section) callers ≡ false → behind ≡ [])
        → flat_map (λ (caller : Caller). taken_in caller.section) (caller ∷ callers) ≡ []
    at None is rest =
        ap (λ o. taken_in o ++ behind) is
        ∙ rest (sym (ap (λ o. is_some o || list_any (λ (x : Caller). is_some x.section) callers) is) ∙ closed)
    at (Some section) is rest =
        absurd
        (true≢false (sym (ap (λ o. is_some o || list_any (λ (x : Caller). is_some x.section) callers) is) ∙ closed))

-- a number that is free
module _ (s : FineState) (number : ℕ) (below : number < s.threads_view.max_threads)
    (free : s.threads_view.status number ≡ status.Free) where
  pub one_more_thread : threads_of (with_status s.threads_view number status.Running) ≡ threads_of s.threads_view + 1
  one_more_thread =
      threads_of-one_more s.threads_view (with_status s.threads_view number status.Running) number refl below
      (ap is_registered free)
      (ap is_registered (with_value-same s.threads_view.status number status.Running number refl))
      (λ j other. sym (registered-with_status s.threads_view number status.Running j other))

  pub has_room : is_full s ≡ false
  has_room =
      let most = count_by-le-length
      (λ k. is_registered ((with_status s.threads_view number status.Running).status k))
      (range_with_len 0 s.threads_view.max_threads) in
      ne_eqb (threads_of s.threads_view) s.threads_view.max_threads (λ full. omega (
        arith,
        full,
        most,
        one_more_thread,
        length-range_with_len 0 s.threads_view.max_threads,
      ))

module _ (s : FineState) (c : IsFineConsistent s) where
  -- a number is free in the sequential view where it is
  pub free_own : (k : ℕ) → sequential_status s k ≡ status.Free → s.threads_view.status k ≡ status.Free
  free_own k free = at (s.slots k) refl
    where
      at : (o : Option _) → s.slots k ≡ o → s.threads_view.status k ≡ status.Free
      at (Some token) is =
          absurd (false≢true (sym (ap is_taken free)
          ∙ ap (λ o. is_taken (with_slot o (with_taken (taken_of s) s.threads_view.status k))) is))
      at None is =
          ⊎_elim (λ (gone : times_taken k (taken_of s) ≡ 0). sym (own_status s c k gone is) ∙ free)
          (λ (some : times_taken k (taken_of s) ≢ 0). absurd (false≢true (sym (ap is_taken free)
          ∙ ap (λ o. is_taken (with_slot o (with_taken (taken_of s) s.threads_view.status k))) is
          ∙ is_taken-among k (taken_of s) s.threads_view.status some)))
          (cases_eq (times_taken k (taken_of s)) 0)

  pub free_view : (k : ℕ) → s.threads_view.status k ≡ status.Free → sequential_status s k ≡ status.Free
  free_view k free = still_status s c k (ap is_queued free) ∙ free

  Amounts-full : IsFull s.threads_view → Amounts s s (answered machine.Register answer.Full)
  Amounts-full full =
      record { run = (_, ((λ k low free. full k low (free_own k free)), refl), refl); consistent = c }

  Amounts-no_memory : (IsFull s.threads_view → ⊥) → Amounts s s (answered machine.Register answer.NoMemory)
  Amounts-no_memory room = record {
    run = (_, ((λ full. room (λ k low free. full k low (free_view k free))), refl), refl);
    consistent = c;
  }

  module _ (number size : ℕ) (least : IsLeastFree s.threads_view number) where
    abbrev registered : FineState
    registered = record s { threads_view = with_status s.threads_view number status.Running; size = size }

    view_registered : sequential_view registered ≡ with_status (sequential_view s) number status.Running
    view_registered =
        same_machine _ _ (λ k. refl) (view_set s c number status.Running (ap is_queued least.free) refl)
        (λ n. refl) refl

    least_view : IsLeastFree (sequential_view s) number
    least_view = record {
      below = least.below;
      free = free_view number least.free;
      least = λ k low free. least.least k low (free_own k free);
    }

    held_at : (size ≡ s.size) ⊎ (taken_of s ≡ []) → All (HoldsForTaken registered) s.callers
    held_at kept =
        still_held_at s s.key_words size s.callers
        (λ n some. ⊎_elim (λ (same : size ≡ s.size). ap (place_of (s.key_words n)) same)
        (λ (nobody : taken_of s ≡ []). absurd (some (ap (times_taken n) nobody))) kept)
        c.held

    Amounts-registered : (size ≡ s.size) ⊎ (taken_of s ≡ [])
        → Amounts s registered (answered machine.Register (answer.Registered number))
    Amounts-registered kept = record {
      run = (_, (least_view, view_registered), refl);
      consistent = record {
        view = subst (MatchesStatus s.key_words) (sym view_registered)
            (MatchesStatus-with_status s.key_words (sequential_view s) number status.Running least.below
            (ap is_queued (sym least_view.free)) (ap is_timed (sym least_view.free)) (λ same. cc) c.view);
        handed = handed_set s c number status.Running (ap is_queued least.free) refl;
        unaware = unaware_set s c number status.Running (ap is_queued least.free) refl;
        reading = reading_set s c number status.Running (ap is_queued least.free) refl;
        held = held_at kept;
        holding = c.holding;
        alone = c.alone;
      };
    }

    -- the table keeps its size, or no section is open
    keeps_or_closed : (not (is_full s) && is_growth_blocked s) ≡ false
        → IsSizeAfter machine.Register (answer.Registered number) (threads_of registered.threads_view) s.size size
        → (size ≡ s.size) ⊎ (taken_of s ≡ [])
    keeps_or_closed free sized =
        ⊎_elim (λ (grows : s.size < 3 * threads_of registered.threads_view). inr (closed grows))
        (λ (keeps : 3 * threads_of registered.threads_view ≤ s.size). inl (sized.kept keeps))
        (cases_lt s.size (3 * threads_of registered.threads_view))
      where
        unblocked : is_growth_blocked s ≡ false
        unblocked = ⊎_elim (λ full. absurd (true≢false (ap not (sym (has_room s number least.below least.free)) ∙ full))) (λ not_blocked. not_blocked)
            (and_cases (not (is_full s)) (is_growth_blocked s) free)

        closed : s.size < 3 * threads_of registered.threads_view → taken_of s ≡ []
        closed grows =
            let grown : s.size < 3 * (threads_of s.threads_view + 1) =
            omega (arith, grows, one_more_thread s number least.below least.free) in
            ⊎_elim
            (λ keeps. absurd (true≢false (sym (lt-ltb s.size (3 * (threads_of s.threads_view + 1)) grown) ∙ keeps)))
            (λ none. none_taken s.callers none)
            (and_cases (nat_lt s.size (3 * (threads_of s.threads_view + 1))) (is_any_open s) unblocked)

  -- by the answer of the machine's rule
  by_rule-amounts : (by_rule : Answer) (view : Machine) (size : ℕ) → (not (is_full s) && is_growth_blocked s) ≡ false
      → steps.IsRegister s.threads_view by_rule view → IsSizeAfter machine.Register by_rule (threads_of view) s.size size
      → Amounts s (record s { threads_view = view; size = size }) (sequential_step s Register (fine.Answer by_rule))
  by_rule-amounts (answer.Registered number) view size free (least, left) sized =
      subst (λ m. Amounts s (record s { threads_view = m; size = size })
      (answered machine.Register (answer.Registered number))) (sym left)
      (Amounts-registered number size least (keeps_or_closed number size least free
      (subst (λ m. IsSizeAfter machine.Register (answer.Registered number) (threads_of m) s.size size) left sized)))
  by_rule-amounts answer.Full view size free (full, left) sized =
      subst (λ m. Amounts s (record s { threads_view = m; size = size }) (answered machine.Register answer.Full))
      (sym left)
      (subst (λ n. Amounts s (record s { size = n }) (answered machine.Register answer.Full)) (sym sized)
      (Amounts-full full))
  by_rule-amounts answer.NoMemory view size free (room, left) sized =
      subst (λ m. Amounts s (record s { threads_view = m; size = size }) (answered machine.Register answer.NoMemory))
      (sym left)
      (subst (λ n. Amounts s (record s { size = n }) (answered machine.Register answer.NoMemory)) (sym sized)
      (Amounts-no_memory room))
  by_rule-amounts _ view size free none sized = absurd none

  pub IsRegister-amounts : (given : FineAnswer) (new : FineState) → IsFineRegister s given new
      → Amounts s new (sequential_step s Register given)
  IsRegister-amounts given new =
      MatchBool-either (not (is_full s) && is_growth_blocked s)
      (λ _ (answers, new_is). subst (λ n. Amounts s n (sequential_step s Register given)) (sym new_is)
      (subst (λ a. Amounts s s (sequential_step s Register a)) (sym answers) (Amounts-none s c)))
      (λ free (by_rule, view, size, does, sized, (answers, new_is)).
      subst (λ n. Amounts s n (sequential_step s Register given)) (sym new_is)
      (subst (λ a. Amounts s (record s { threads_view = view; size = size }) (sequential_step s Register a))
      (sym answers) (by_rule-amounts by_rule view size free does sized)))
