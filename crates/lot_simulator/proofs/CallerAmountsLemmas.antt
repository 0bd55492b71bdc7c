-- What the steps of a caller amount to: the end of a section, a wake, a commit.
use Rattle.std.proofs.Common.{◌≡◌, ◌≢◌, ℕ, ◌+◌, ◌≤◌, List, [], ◌∷◌, ◌++◌}
use Rattle.std.proofs.Common.{refl, sym, ap, ◌∙◌, subst, arith, ⊎_elim, Some, None, slice_get, slice_set}
use Rattle.std.proofs.lemmas.Bool.{cases_eq, false≢true}
use Rattle.std.proofs.lemmas.List.Elements.{All-nil, All-tail, All-set, All-get_or}
use Rattle.std.proofs.lemmas.Option.{get_or_from_slice_get, slice_get_within}
use Rattle.std.specs.Option.{option_map_or}
use Rattle.std.specs.Prelude.{Option, All, is_some, IsTrue, option_and_then}
use Rattle.lot_base.specs.Place.{place_of}
use Rattle.lot_base.specs.Waiting.{with_value}
use Rattle.lot_base.proofs.ValueLemmas.{with_value-same, with_value-other}
use Rattle.lot_machine.specs.declared.status.Status.TheVariants as status
use Rattle.lot_simulator.specs.InterleavedState.{FineState, Section, Caller, TakenThread}
use Rattle.lot_simulator.specs.InterleavedSteps.{holds, section_of, wakes_of, with_caller}
use Rattle.lot_simulator.specs.InterleavedView.{sequential_view, sequential_status, taken_of, times_taken, once_if}
use Rattle.lot_simulator.specs.InterleavedView.{taken_in, with_taken, with_slot, HoldsForTaken, IsFineConsistent}
use Rattle.lot_simulator.specs.InterleavedView.{EachHoldsABucket, EachHoldsAlone}
use Rattle.lot_machine.specs.Machine.{MatchesStatus}
use Rattle.lot_machine.specs.Status.{is_queued}
use Rattle.lot_simulator.proofs.HandedLemmas.{times_taken-append, times_taken-own}
use Rattle.lot_simulator.proofs.HandedLemmas.{times_taken-other, with_taken-none}
use Rattle.lot_simulator.proofs.HandedLemmas.{with_taken-alike, with_taken-append}
use Rattle.lot_simulator.proofs.HandedLemmas.{None-from, once_if-most, TakenAround, taken_around, caller_at}
use Rattle.lot_simulator.proofs.HoldingLemmas.{EachHoldsABucket-set, EachHoldsAlone-set}
use Rattle.lot_machine.proofs.StandingLemmas.{same_machine}
use Rattle.lot_simulator.proofs.AmountsLemmas.{Amounts}

module _ (s : FineState) (c : IsFineConsistent s) where
  -- callers that have taken the same, in the same order
  Amounts-callers : (callers : List Caller) → taken_of (record s { callers = callers }) ≡ taken_of s
      → All (HoldsForTaken s) callers → EachHoldsABucket (record s { callers = callers })
      → EachHoldsAlone (record s { callers = callers }) → Amounts s (record s { callers = callers }) []
  Amounts-callers callers same held holding alone = record {
    run = sym view;
    consistent = record {
      view = subst (MatchesStatus s.key_words) (sym view) c.view;
      handed = λ n. let counted = ap (times_taken n) same in omega (arith, c.handed n, counted);
      unaware = c.unaware;
      reading = c.reading;
      held = held;
      holding = holding;
      alone = alone;
    };
  }
    where
      view : sequential_view (record s { callers = callers }) ≡ sequential_view s
      view =
          ap
          (λ ts. record s.threads_view { status = λ n. with_slot (s.slots n) (with_taken ts s.threads_view.status n) })
          same

  -- what a caller of the state holds
  holds_at : (caller : ℕ) (cl : Caller) → slice_get s.callers caller ≡ Some cl → HoldsForTaken s cl
  holds_at caller cl at =
      subst (HoldsForTaken s) (get_or_from_slice_get s.callers caller cl cl at)
      (All-get_or (HoldsForTaken s) s.callers caller cl (slice_get_within s.callers caller cl at) c.held)

  -- End: all that the section took have their nodes
  pub Amounts-end : (caller : ℕ) (section : Section) → section_of s caller ≡ Some section → section.taken ≡ []
      → Amounts s (with_caller s caller None (wakes_of s caller)) []
  Amounts-end caller section open_is none =
      let (cl, at, has) = caller_at s caller section open_is in
      let around = taken_around s.callers caller cl at in
      let closed : Caller = record { section = None; wakes = wakes_of s caller } in
      let taken : taken_in cl.section ≡ [] = ap taken_in has ∙ none in
      Amounts-callers (slice_set s.callers caller closed)
      (around.set closed ∙ ap (λ ts. around.before ++ (ts ++ around.after)) (sym taken) ∙ sym around.old)
      (All-set (HoldsForTaken s) s.callers caller closed (All-nil _) c.held)
      (EachHoldsABucket-set s caller closed (λ none. absurd (false≢true none)) c.holding)
      (EachHoldsAlone-set s caller closed (λ place other none there. absurd (false≢true none)) c.alone)

  -- Wake
  pub Amounts-wake : (caller : ℕ) (wakes : ℕ) → wakes_of s caller ≢ 0
      → Amounts s (with_caller s caller (section_of s caller) wakes) []
  Amounts-wake caller wakes some = at (slice_get s.callers caller) refl
    where
      woken : Caller
      woken = record { section = section_of s caller; wakes = wakes }

      at : (o : Option Caller) → slice_get s.callers caller ≡ o
          → Amounts s (with_caller s caller (section_of s caller) wakes) []
      at None is = absurd (some (ap (λ o. option_map_or (λ (c : Caller). c.wakes) o 0) is))
      at (Some cl) is =
          let around = taken_around s.callers caller cl is in
          let has : section_of s caller ≡ cl.section = ap (λ o. option_and_then (λ (c : Caller). c.section) o) is in
          Amounts-callers (slice_set s.callers caller woken)
          (around.set woken ∙ ap (λ o. around.before ++ (taken_in o ++ around.after)) has ∙ sym around.old)
          (All-set (HoldsForTaken s) s.callers caller woken
          (subst (λ o. HoldsForTaken s (record { section = o; wakes = wakes })) (sym has) (holds_at caller cl is))
          c.held)
          (EachHoldsABucket-set s caller woken (c.holding caller) c.holding)
          (EachHoldsAlone-set s caller woken (λ place. c.alone place caller) c.alone)

  -- Commit: the first that the section took has its node in its slot
  module _ (caller : ℕ) (section : Section) (first : TakenThread) (rest : List TakenThread)
      (open_is : section_of s caller ≡ Some section) (taken_is : section.taken ≡ first ∷ rest) where
    abbrev left : Caller
    left = record { section = Some (record section { taken = rest }); wakes = wakes_of s caller + 1 }

    abbrev committed : FineState
    committed = with_caller (record s { slots = with_value s.slots first.number (Some first.token) }) caller
        (Some (record section { taken = rest })) (wakes_of s caller + 1)

    found : (cl : Caller) × (slice_get s.callers caller ≡ Some cl) × (cl.section ≡ Some section)
    found = caller_at s caller section open_is

    around : TakenAround s.callers caller found.0.section
    around = taken_around s.callers caller found.0 found.1

    old : taken_of s ≡ around.before ++ (first ∷ (rest ++ around.after))
    old = around.old ∙ ap (λ ts. around.before ++ (ts ++ around.after)) (ap taken_in found.2 ∙ taken_is)

    new : taken_of committed ≡ around.before ++ (rest ++ around.after)
    new = around.set left

    counted_old : (n : ℕ) → times_taken n (taken_of s)
        ≡ times_taken n around.before + times_taken n (first ∷ (rest ++ around.after))
    counted_old n = ap (times_taken n) old ∙ times_taken-append n around.before (first ∷ (rest ++ around.after))

    counted_new : (n : ℕ) → times_taken n (taken_of committed)
        ≡ times_taken n around.before + times_taken n (rest ++ around.after)
    counted_new n = ap (times_taken n) new ∙ times_taken-append n around.before (rest ++ around.after)

    of_first : (n : ℕ) → first.number ≡ n → sequential_status committed n ≡ sequential_status s n
    of_first n same =
        let own = times_taken-own n first (rest ++ around.after) same in
        let most = once_if-most (is_queued (s.threads_view.status n)) in
        let empty : s.slots n ≡ None =
        None-from (s.slots n) (omega (arith, c.handed n, counted_old n, own, most)) in
        let before : times_taken n around.before ≡ 0 = omega (arith, c.handed n, counted_old n, own, most) in
        ap (λ o. with_slot o (with_taken (taken_of committed) s.threads_view.status n))
        (with_value-same s.slots first.number (Some first.token) n (sym same))
        ∙ sym (ap (λ o. with_slot o (with_taken (taken_of s) s.threads_view.status n)) empty
        ∙ ap (λ ts. with_taken ts s.threads_view.status n) old
        ∙ with_taken-append n around.before (first ∷ (rest ++ around.after)) s.threads_view.status
        ∙ with_taken-none n around.before (with_taken (first ∷ (rest ++ around.after)) s.threads_view.status) before
        ∙ with_value-same (with_taken (rest ++ around.after) s.threads_view.status) first.number
        (status.Taken first.token) n (sym same))

    of_other : (n : ℕ) → first.number ≢ n → sequential_status committed n ≡ sequential_status s n
    of_other n other =
        let behind : List TakenThread = rest ++ around.after in
        let apart : n ≢ first.number = λ same. other (sym same) in
        ap (λ o. with_slot o (with_taken (taken_of committed) s.threads_view.status n))
        (with_value-other s.slots first.number (Some first.token) n apart)
        ∙ ap (with_slot (s.slots n))
        (ap (λ ts. with_taken ts s.threads_view.status n) new
        ∙ with_taken-append n around.before behind s.threads_view.status
        ∙ with_taken-alike n around.before (with_taken behind s.threads_view.status)
        (with_taken (first ∷ behind) s.threads_view.status)
        (sym (with_value-other (with_taken behind s.threads_view.status) first.number (status.Taken first.token) n
        apart))
        ∙ sym (with_taken-append n around.before (first ∷ behind) s.threads_view.status)
        ∙ sym (ap (λ ts. with_taken ts s.threads_view.status n) old))

    view : sequential_view committed ≡ sequential_view s
    view =
        same_machine _ _ (λ k. refl) (λ n. ⊎_elim (of_first n) (of_other n) (cases_eq first.number n)) (λ n. refl) refl

    handed : (n : ℕ) → times_taken n (taken_of committed)
        + once_if (is_some (with_value s.slots first.number (Some first.token) n))
        ≤ once_if (is_queued (s.threads_view.status n))
    handed n =
        ⊎_elim (λ (same : first.number ≡ n).
        let slot : once_if (is_some (with_value s.slots first.number (Some first.token) n)) ≡ 1 =
        ap (λ o. once_if (is_some o)) (with_value-same s.slots first.number (Some first.token) n (sym same)) in
        omega (
          arith,
          c.handed n,
          counted_old n,
          counted_new n,
          times_taken-own n first (rest ++ around.after) same,
          slot,
        ))
        (λ (other : first.number ≢ n).
        let slot : once_if (is_some (with_value s.slots first.number (Some first.token) n))
        ≡ once_if (is_some (s.slots n)) =
        ap (λ o. once_if (is_some o))
        (with_value-other s.slots first.number (Some first.token) n (λ same. other (sym same))) in
        omega (
          arith,
          c.handed n,
          counted_old n,
          counted_new n,
          times_taken-other n first (rest ++ around.after) other,
          slot,
        ))
        (cases_eq first.number n)

    still_held : HoldsForTaken s left
    still_held =
        let all = subst (λ o. HoldsForTaken s (record { section = o; wakes = 0 })) found.2
        (holds_at caller found.0 found.1) in
        let Held : TakenThread → Type 0 =
        λ t. IsTrue (holds (place_of (s.key_words t.number) s.size) (Some section)) in
        All-tail Held first rest (subst (All Held) taken_is all)

    still_holding : IsTrue (is_some left.section) → (place : ℕ) × IsTrue (holds place left.section)
    still_holding is_open =
        let (place, holds_it) = c.holding caller (ap is_some open_is) in
        (place, subst (λ o. IsTrue (holds place o)) open_is holds_it)

    pub Amounts-commit : Amounts s committed []
    Amounts-commit = record {
      run = sym view;
      consistent = record {
        view = subst (MatchesStatus s.key_words) (sym view) c.view;
        handed = handed;
        unaware = c.unaware;
        reading = c.reading;
        held = All-set (HoldsForTaken s) s.callers caller left still_held c.held;
        holding = EachHoldsABucket-set s caller left still_holding c.holding;
        alone = EachHoldsAlone-set s caller left
            (λ place other here. c.alone place caller other (subst (λ o. IsTrue (holds place o)) (sym open_is) here))
            c.alone;
      };
    }
