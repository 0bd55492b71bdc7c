-- What the beginning of a section on the interleaved machine amounts to.
use Rattle.std.proofs.Common.{◌≡◌, ◌≢◌, ℕ, ◌+◌, ◌≤◌, ◌<◌, ◌==◌, true, false, List, [], ◌∷◌, ◌++◌, refl, sym, ap}
use Rattle.std.proofs.Common.{◌∙◌, subst, arith, ⊎_elim, Some, None, slice_get, slice_set, length, get_or}
use Rattle.std.proofs.lemmas.Bool.{cases_eq, ltb-true, eq-eqb, and_parts, cond-true, cond-false}
use Rattle.std.proofs.lemmas.Bool.{false≢true, MatchBool-at_true, MatchBool-at_false}
use Rattle.std.proofs.lemmas.List.Elements.{All-map, All-set}
use Rattle.std.proofs.lemmas.Option.{slice_get-get_or}
use Rattle.std.specs.Prelude.{Option, All, is_some, is_none, IsTrue, ◌&&◌, ◌||◌, nat_lt, option_and_then}
use Rattle.std.specs.List.{list_any}
use Rattle.lot_base.specs.Place.{place_of}
use Rattle.lot_base.specs.Waiting.{Split, has_any, lists_after_requeue, split_first, split_all, split_filter, split_by}
use Rattle.lot_base.specs.declared.token.UnparkToken.{UnparkToken}
use Rattle.lot_base.proofs.FilterLemmas.{split_filter-moves_nobody}
use Rattle.lot_machine.specs.declared.status.Status.{Status}
use Rattle.lot_machine.specs.declared.step.Answer.{Answer}
use Rattle.lot_machine.specs.declared.step.Op.{Op}
use Rattle.lot_machine.specs.declared.step.Op.TheVariants.{One, All as AllOp, Filter, Requeue}
use Rattle.lot_machine.specs.declared.step.Step.TheVariants as machine
use Rattle.lot_simulator.specs.declared.interleaved.FineAnswer.TheVariants as fine
use Rattle.lot_simulator.specs.declared.interleaved.FineStep.TheVariants.{Begin}
use Rattle.lot_simulator.specs.InterleavedState.{FineState, Section, Caller, TakenThread}
use Rattle.lot_simulator.specs.InterleavedSteps.{section_of, wakes_of, with_caller, with_tokens, with_key_words}
use Rattle.lot_simulator.specs.InterleavedSteps.{can_begin, after_begin, holds, is_held, keys_of}
use Rattle.lot_simulator.specs.InterleavedView.{sequential_view, sequential_status, sequential_step, taken_of}
use Rattle.lot_simulator.specs.InterleavedView.{taken_in}
use Rattle.lot_simulator.specs.InterleavedView.{times_taken, with_taken, with_slot, once_if, HoldsForTaken}
use Rattle.lot_simulator.specs.InterleavedView.{IsFineConsistent}
use Rattle.lot_machine.specs.Machine.{Machine, Waiter, MatchesStatus, StandsAt, times_in, entries_of}
use Rattle.lot_machine.specs.Machine.{statuses_with_taken, after_unpark, after_requeue}
use Rattle.lot_machine.specs.Status.{is_queued, is_taken}
use Rattle.lot_machine.specs.Steps.{IsUnpark}
use Rattle.lot_simulator.proofs.HandedLemmas.{times_taken-append, times_taken-with_tokens, with_taken-none}
use Rattle.lot_simulator.proofs.HandedLemmas.{with_taken-alike, with_taken-append, with_taken-with_tokens}
use Rattle.lot_simulator.proofs.HandedLemmas.{is_taken-among}
use Rattle.lot_simulator.proofs.HandedLemmas.{None-from_test, TakenAround, taken_around}
use Rattle.lot_simulator.proofs.HoldingLemmas.{EachHoldsABucket-set, EachHoldsAlone-set, some_holds, places_free}
use Rattle.lot_machine.proofs.StandingLemmas.{same_machine, is_queued-standing, StandsAt-standing}
use Rattle.lot_machine.proofs.MachineLemmas.{MatchesStatus-after_requeue}
use Rattle.lot_machine.proofs.StandingLemmas.{after_requeue-after_unpark}
use Rattle.lot_simulator.proofs.AmountsLemmas.{Amounts, own_status, still_held_at}
use Rattle.lot_machine.proofs.StepLemmas.{is_queued-taken}
use Rattle.lot_machine.proofs.SplitLemmas.{AreParts, AreParts-first, AreParts-all, AreParts-filter, AreParts-by}
use Rattle.lot_machine.proofs.WaiterLemmas.{All-among, has_any-none, has_any-some, statuses_with_taken-other}
use Rattle.lot_machine.proofs.WaiterLemmas.{statuses_with_taken-among}

module _ (s : FineState) (c : IsFineConsistent s) where
  -- who is taken is so in the sequential view
  pub is_taken-view : (n : ℕ) → times_taken n (taken_of s) ≢ 0 → is_taken (sequential_status s n) ≡ true
  is_taken-view n some = at (s.slots n) refl
    where
      at : (o : Option UnparkToken) → s.slots n ≡ o → is_taken (sequential_status s n) ≡ true
      at (Some token) is = ap (λ o. is_taken (with_slot o (with_taken (taken_of s) s.threads_view.status n))) is
      at None is =
          ap (λ o. is_taken (with_slot o (with_taken (taken_of s) s.threads_view.status n))) is
          ∙ is_taken-among n (taken_of s) s.threads_view.status some

  -- who stands in a list was not taken
  module _ (n key : ℕ) (standing : 0 < times_in n (s.threads_view.lists key)) where
    queued_view : is_queued (sequential_status s n) ≡ true
    queued_view = is_queued-standing s.key_words (sequential_view s) n key c.view.standing standing

    queued_free : times_taken n (taken_of s) ≡ 0
    queued_free =
        ⊎_elim (λ (gone : times_taken n (taken_of s) ≡ 0). gone)
        (λ (some : times_taken n (taken_of s) ≢ 0). absurd (false≢true
        (sym (is_queued-taken (sequential_status s n) (is_taken-view n some)) ∙ queued_view)))
        (cases_eq (times_taken n (taken_of s)) 0)

    queued_empty : s.slots n ≡ None
    queued_empty = at (s.slots n) refl
      where
        at : (o : Option UnparkToken) → s.slots n ≡ o → o ≡ None
        at None is = refl
        at (Some token) is =
            absurd (false≢true
            (ap (λ o. is_queued (with_slot o (with_taken (taken_of s) s.threads_view.status n))) (sym is)
            ∙ queued_view))

    pub queued_own : is_queued (s.threads_view.status n) ≡ true
    queued_own = ap is_queued (sym (own_status s c n queued_free queued_empty)) ∙ queued_view

    stands : StandsAt (sequential_view s) n key
    stands = StandsAt-standing s.key_words (sequential_view s) n key c.view.standing standing

    at_key_word : s.key_words n ≡ key
    at_key_word =
        ⊎_elim (λ (same : s.key_words n ≡ key). same)
        (λ (other : s.key_words n ≢ key). absurd (let none = at.nowhere_else key (λ same. other (sym same)) in
        omega (arith, standing, none)))
        (cases_eq (s.key_words n) key)
      where
        at : StandsAt (sequential_view s) n (s.key_words n)
        at = MatchBool-at_true _ _ queued_view (c.view.standing n)

  -- who was taken stands in no list
  pub taken_nowhere : (n : ℕ) → times_taken n (taken_of s) ≢ 0 → (key : ℕ) → times_in n (s.threads_view.lists key) ≡ 0
  taken_nowhere n some =
      MatchBool-at_false _ _ (is_queued-taken (sequential_status s n) (is_taken-view n some)) (c.view.standing n)

  module _ (caller : ℕ) (cl : Caller) (at : slice_get s.callers caller ≡ Some cl) (closed : cl.section ≡ None)
      (from to : ℕ) (split : Split Waiter) (token : UnparkToken) (parts : AreParts split (s.threads_view.lists from))
      (lists : ℕ → List Waiter)
      (lists_are : (k : ℕ) → lists k ≡ lists_after_requeue s.threads_view.lists from to split k)
      (key_words : ℕ → ℕ) (stays : (j : ℕ) → times_in j split.moved ≡ 0 → key_words j ≡ s.key_words j)
      (moves : (j : ℕ) → times_in j split.moved ≢ 0 → key_words j ≡ to) (held : List ℕ)
      (holds_from : list_any (λ place. place == place_of from s.size) held ≡ true)
      (apart : (place : ℕ) → list_any (λ h. h == place) held ≡ true
      → list_any (λ (cl : Caller). holds place cl.section) s.callers ≡ false) where
    abbrev section : Section
    section = record { held = held; taken = with_tokens token split.taken }

    abbrev opened : Caller
    opened = record { section = Some section; wakes = 0 }

    abbrev begun : FineState
    begun = with_caller (record s {
      threads_view = record s.threads_view { lists = lists };
      key_words = key_words;
    }) caller (Some section) 0

    around : TakenAround s.callers caller cl.section
    around = taken_around s.callers caller cl at

    old : taken_of s ≡ around.before ++ around.after
    old = around.old ∙ ap (λ o. around.before ++ (taken_in o ++ around.after)) closed

    new : taken_of begun ≡ around.before ++ (with_tokens token split.taken ++ around.after)
    new = around.set opened

    counted_old : (n : ℕ) → times_taken n (taken_of s) ≡ times_taken n around.before + times_taken n around.after
    counted_old n = ap (times_taken n) old ∙ times_taken-append n around.before around.after

    counted_new : (n : ℕ) → times_taken n (taken_of begun)
        ≡ times_taken n around.before + (times_in n split.taken + times_taken n around.after)
    counted_new n =
        let tokens = with_tokens token split.taken in
        let inner = times_taken-append n tokens around.after in
        let outer = times_taken-append n around.before (tokens ++ around.after) in
        let waiters = times_taken-with_tokens n token split.taken in
        ap (times_taken n) new ∙ omega (arith, inner, outer, waiters)

    -- who is taken now stood in the list
    stood : (n : ℕ) → times_in n split.taken ≢ 0 → 0 < times_in n (s.threads_view.lists from)
    stood n some = let counted = parts.counts n in omega (arith, counted, some)

    abbrev own : ℕ → Status
    own = s.threads_view.status

    of_taken : (n : ℕ) → times_in n split.taken ≢ 0
        → sequential_status begun n ≡ statuses_with_taken token split.taken (sequential_status s) n
    of_taken n some =
        let standing = stood n some in
        let tokens = with_tokens token split.taken in
        let before : times_taken n around.before ≡ 0 =
        omega (arith, counted_old n, queued_free n from standing) in
        ap (λ o. with_slot o (with_taken (taken_of begun) own n)) (queued_empty n from standing)
        ∙ ap (λ ts. with_taken ts own n) new
        ∙ with_taken-append n around.before (tokens ++ around.after) own
        ∙ with_taken-none n around.before (with_taken (tokens ++ around.after) own) before
        ∙ with_taken-append n tokens around.after own
        ∙ with_taken-with_tokens n token split.taken (with_taken around.after own) some
        ∙ sym (statuses_with_taken-among token split.taken (sequential_status s) n some)

    of_other : (n : ℕ) → times_in n split.taken ≡ 0
        → sequential_status begun n ≡ statuses_with_taken token split.taken (sequential_status s) n
    of_other n none =
        let tokens = with_tokens token split.taken in
        let untaken : times_taken n tokens ≡ 0 = times_taken-with_tokens n token split.taken ∙ none in
        ap (with_slot (s.slots n))
        (ap (λ ts. with_taken ts own n) new
        ∙ with_taken-append n around.before (tokens ++ around.after) own
        ∙ with_taken-alike n around.before (with_taken (tokens ++ around.after) own) (with_taken around.after own)
        (with_taken-append n tokens around.after own
        ∙ with_taken-none n tokens (with_taken around.after own) untaken)
        ∙ sym (with_taken-append n around.before around.after own)
        ∙ ap (λ ts. with_taken ts own n) (sym old))
        ∙ sym (statuses_with_taken-other token split.taken (sequential_status s) n none)

    pub view_begun : sequential_view begun ≡ after_requeue (sequential_view s) from to split token
    view_begun =
        same_machine _ _ lists_are (λ n. ⊎_elim (of_other n) (of_taken n) (cases_eq (times_in n split.taken) 0))
        (λ n. refl) refl

    handed : (n : ℕ) → times_taken n (taken_of begun) + once_if (is_some (s.slots n)) ≤ once_if (is_queued (own n))
    handed n =
        ⊎_elim (λ (none : times_in n split.taken ≡ 0). omega (arith, c.handed n, counted_old n, counted_new n, none))
        (λ (some : times_in n split.taken ≢ 0).
        let standing = stood n some in
        let once = (stands n from standing).once in
        let queued : once_if (is_queued (own n)) ≡ 1 = ap once_if (queued_own n from standing) in
        let slot : once_if (is_some (s.slots n)) ≡ 0 =
        ap (λ o. once_if (is_some o)) (queued_empty n from standing) in
        omega (
          arith,
          counted_old n,
          counted_new n,
          queued_free n from standing,
          queued,
          slot,
          once,
          parts.counts n,
        ))
        (cases_eq (times_in n split.taken) 0)

    -- the section holds the bucket of those that it took
    holds_taken : HoldsForTaken begun opened
    holds_taken =
        All-map (λ (t : TakenThread). IsTrue (holds (place_of (key_words t.number) s.size) (Some section)))
        (λ (waiter : Waiter). record { number = waiter.number; token = token }) split.taken
        (λ k d low. at_from (get_or split.taken k d).number (All-among split.taken k d low))
      where
        at_from : (n : ℕ) → 0 < times_in n split.taken
            → IsTrue (holds (place_of (key_words n) s.size) (Some section))
        at_from n among =
            let some : times_in n split.taken ≢ 0 = λ none. absurd (omega (arith, among, none)) in
            let standing = stood n some in
            let once = (stands n from standing).once in
            let unmoved : times_in n split.moved ≡ 0 = omega (arith, among, once, parts.counts n) in
            subst (λ key. IsTrue (holds (place_of key s.size) (Some section)))
            (sym (stays n unmoved ∙ at_key_word n from standing)) holds_from

    held_begun : All (HoldsForTaken begun) (slice_set s.callers caller opened)
    held_begun =
        All-set (HoldsForTaken begun) s.callers caller opened holds_taken
        (still_held_at s key_words s.size s.callers
        (λ n some. ap (λ key. place_of key s.size) (stays n
        (let nowhere = taken_nowhere n some from in omega (arith, nowhere, parts.counts n))))
        c.held)

    pub begun-keeps : IsFineConsistent begun
    begun-keeps = record {
      view = subst (MatchesStatus key_words) (sym view_begun)
          (MatchesStatus-after_requeue s.key_words key_words (sequential_view s) from to split token parts stays moves
          c.view);
      handed = handed;
      unaware = c.unaware;
      reading = c.reading;
      held = held_begun;
      holding = EachHoldsABucket-set s caller opened (λ is_open. (place_of from s.size, holds_from)) c.holding;
      alone = EachHoldsAlone-set s caller opened (λ place other here there. absurd (false≢true
          (sym (apart place here) ∙ some_holds (holds place) refl s.callers other there))) c.alone;
    }

    -- an unpark of this operation
    Amounts-begun : (op : Op) (given : Answer)
        → ((left : Machine) → left ≡ after_requeue (sequential_view s) from to split token
        → IsUnpark (sequential_view s) op given left) → Amounts s begun ((machine.Unpark op, given) ∷ [])
    Amounts-begun op given does =
        record { run = (_, does (sequential_view begun) view_begun, refl); consistent = begun-keeps }

  -- one that moves nobody
  Amounts-one_key : (caller : ℕ) (cl : Caller) → slice_get s.callers caller ≡ Some cl → cl.section ≡ None → (op : Op)
      (given : Answer) (view : Machine) (key : ℕ) (split : Split Waiter) (token : UnparkToken)
      → list_any (is_held s) (key ∷ []) ≡ false → split.moved ≡ []
      → AreParts split (s.threads_view.lists key) → view ≡ after_unpark s.threads_view key split token
      → ((left : Machine) → left ≡ after_unpark (sequential_view s) key split token
      → IsUnpark (sequential_view s) op given left)
      → Amounts s (with_caller (record s { threads_view = record s.threads_view { lists = view.lists } }) caller
      (Some (record { held = place_of key s.size ∷ []; taken = with_tokens token split.taken })) 0)
      ((machine.Unpark op, given) ∷ [])
  Amounts-one_key caller cl at closed op given view key split token free none parts view_is does =
      Amounts-begun caller cl at closed key key split token parts view.lists
      (λ k. ap (λ (m : Machine). m.lists k)
      (view_is ∙ sym (after_requeue-after_unpark s.threads_view key split token none)))
      s.key_words (λ j unmoved. refl) (λ j some. absurd (some (ap (times_in j) none))) (place_of key s.size ∷ [])
      (ap (λ b. b || false) (eq-eqb (place_of key s.size) (place_of key s.size) refl))
      (places_free s (key ∷ []) free) op given
      (λ left is. does left (is ∙ after_requeue-after_unpark (sequential_view s) key split token none))

  -- the machine's step on the threads' view
  IsUnpark-amounts : (caller : ℕ) (cl : Caller) → slice_get s.callers caller ≡ Some cl → cl.section ≡ None → (op : Op)
      (given : Answer) (view : Machine) → list_any (is_held s) (keys_of op) ≡ false → IsUnpark s.threads_view op given view
      → Amounts s (after_begin s caller op view) (sequential_step s (Begin caller op) (fine.Answer given))
  IsUnpark-amounts caller cl at closed (One key token) given view free (answers, view_is) =
      let split : Split Waiter = split_first (s.threads_view.lists key) in
      let op : Op = One key token in
      subst (λ a. Amounts s (after_begin s caller op view) (sequential_step s (Begin caller op) (fine.Answer a)))
      (sym answers)
      (Amounts-one_key caller cl at closed op _ view key split token free refl (AreParts-first (s.threads_view.lists key))
      view_is (λ left is. (refl, is)))
  IsUnpark-amounts caller cl at closed (AllOp key token) given view free (answers, view_is) =
      let split : Split Waiter = split_all (s.threads_view.lists key) in
      let op : Op = AllOp key token in
      subst (λ a. Amounts s (after_begin s caller op view) (sequential_step s (Begin caller op) (fine.Answer a)))
      (sym answers)
      (Amounts-one_key caller cl at closed op _ view key split token free refl (AreParts-all (s.threads_view.lists key))
      view_is (λ left is. (refl, is)))
  IsUnpark-amounts caller cl at closed (Filter key decisions token) given view free (answers, view_is) =
      let split : Split Waiter = split_filter decisions.items (s.threads_view.lists key) in
      let op : Op = Filter key decisions token in
      subst (λ a. Amounts s (after_begin s caller op view) (sequential_step s (Begin caller op) (fine.Answer a)))
      (sym answers)
      (Amounts-one_key caller cl at closed op _ view key split token free
      (split_filter-moves_nobody decisions.items (s.threads_view.lists key))
      (AreParts-filter decisions.items (s.threads_view.lists key))
      view_is (λ left is. (refl, is)))
  IsUnpark-amounts caller cl at closed (Requeue from to by token) given view free (answers, view_is) =
      let split : Split Waiter = split_by by (s.threads_view.lists from) in
      let op : Op = Requeue from to by token in
      subst (λ a. Amounts s (after_begin s caller op view) (sequential_step s (Begin caller op) (fine.Answer a)))
      (sym answers)
      (Amounts-begun caller cl at closed from to split token (AreParts-by by (s.threads_view.lists from)) view.lists
      (λ k. ap (λ (m : Machine). m.lists k) view_is) (with_key_words to split.moved s.key_words)
      (λ j none. cond-false (has_any (entries_of j split.moved)) to (s.key_words j)
      (has_any-none (entries_of j split.moved) none))
      (λ j some. cond-true (has_any (entries_of j split.moved)) to (s.key_words j)
      (has_any-some (entries_of j split.moved) some))
      (place_of from s.size ∷ place_of to s.size ∷ [])
      (ap (λ b. b || ((place_of to s.size == place_of from s.size) || false))
      (eq-eqb (place_of from s.size) (place_of from s.size) refl))
      (places_free s (from ∷ to ∷ []) free) op _ (λ left is. (refl, is)))

  -- the caller that may begin
  pub begin-amounts : (caller : ℕ) → can_begin s caller ≡ true → (op : Op) (given : Answer) (view : Machine)
      → list_any (is_held s) (keys_of op) ≡ false → IsUnpark s.threads_view op given view
      → Amounts s (after_begin s caller op view) (sequential_step s (Begin caller op) (fine.Answer given))
  begin-amounts caller can op given view =
      let fresh : Caller = record { section = None; wakes = 0 } in
      let (first_two, idle) = and_parts (nat_lt caller (length s.callers) && is_none (section_of s caller))
      (wakes_of s caller == 0) can in
      let (exists, closed) = and_parts (nat_lt caller (length s.callers)) (is_none (section_of s caller)) first_two in
      let at : slice_get s.callers caller ≡ Some (get_or s.callers caller fresh) =
      slice_get-get_or s.callers caller fresh (ltb-true caller (length s.callers) exists) in
      let none : section_of s caller ≡ None = None-from_test (section_of s caller) closed in
      IsUnpark-amounts caller (get_or s.callers caller fresh) at
      (ap (λ o. option_and_then (λ (cl : Caller). cl.section) o) (sym at) ∙ none) op given view
