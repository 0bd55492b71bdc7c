-- What each interleaved step and every interleaved run amounts to.
use Rattle.std.proofs.Common.{◌≡◌, ◌≢◌, ℕ, ◌+◌, ◌-◌, ◌==◌, Bool, true, false, List, [], ◌∷◌, ◌++◌, refl, sym}
use Rattle.std.proofs.Common.{ap, ◌∙◌, subst, arith, ⊎_elim, Some, None, MatchBool}
use Rattle.std.proofs.lemmas.Bool.{cases_eq, cases_Bool, eqb-true, eqb-false, and_parts, false≢true, true≢false}
use Rattle.std.proofs.lemmas.Bool.{MatchBool-at_true, MatchBool-at_false}
use Rattle.std.proofs.lemmas.List.Elements.{All-head, All-tail}
use Rattle.std.specs.Prelude.{Option, MatchOption, All, is_some, is_none, IsTrue, flat_map, ◌&&◌, ◌||◌, if◌then◌else◌}
use Rattle.std.specs.List.{list_any}
use Rattle.lot_base.specs.Place.{place_of}
use Rattle.lot_base.specs.Waiting.{has_any, with_value}
use Rattle.lot_base.specs.declared.token.ParkToken.{ParkToken}
use Rattle.lot_base.specs.declared.token.UnparkToken.{UnparkToken}
use Rattle.lot_machine.specs.declared.status.Status.{Status}
use Rattle.lot_machine.specs.declared.status.Status.TheVariants as status
use Rattle.lot_machine.specs.declared.step.Answer.{Answer}
use Rattle.lot_machine.specs.declared.step.Answer.TheVariants as answer
use Rattle.lot_machine.specs.declared.step.Step.{Step}
use Rattle.lot_simulator.specs.declared.interleaved.FineAnswer.{FineAnswer}
use Rattle.lot_simulator.specs.declared.interleaved.FineAnswer.TheVariants as fine
use Rattle.lot_simulator.specs.declared.interleaved.FineStep.{FineStep}
use Rattle.lot_simulator.specs.declared.interleaved.FineStep.TheVariants.{Begin, Commit, End, Wake, Deadline}
use Rattle.lot_simulator.specs.declared.interleaved.FineStep.TheVariants.{ReadKey, Look, Enter, Return, Register}
use Rattle.lot_simulator.specs.declared.interleaved.FineStep.TheVariants.{Retire, Acquire, Release, Trim}
use Rattle.lot_simulator.specs.InterleavedState.{FineState, Section, Caller, TakenThread}
use Rattle.lot_simulator.specs.InterleavedSteps.{FineGives, IsFineMisfit, IsBegin, IsCommit, IsReadKey}
use Rattle.lot_simulator.specs.InterleavedSteps.{IsFineReturn, IsLook}
use Rattle.lot_simulator.specs.InterleavedSteps.{IsEnter, IsFineStep, is_held, holds, keys_of, can_begin, section_of}
use Rattle.lot_simulator.specs.InterleavedSteps.{wakes_of}
use Rattle.lot_simulator.specs.InterleavedView.{sequential_step, taken_of, taken_in, times_taken, HoldsForTaken}
use Rattle.lot_simulator.specs.InterleavedView.{IsFineConsistent, sequential_view, sequential_status}
use Rattle.lot_simulator.specs.InterleavedView.{sequential_steps, steps_of}
use Rattle.lot_simulator.specs.InterleavedView.{answers_of, with_taken, with_slot, once_if}
use Rattle.lot_simulator.specs.InterleavedLaws.{FineStepsKeepConsistency, EveryInterleavingIsARun}
use Rattle.lot_simulator.specs.InterleavedLaws.{EachNodeIsInOnePlace, NoNodeIsInAnotherList}
use Rattle.lot_machine.specs.Machine.{Machine, StandsAt, after_enter, after_retire, after_release, times_in}
use Rattle.lot_machine.specs.Status.{is_queued, is_registered, is_running, is_taken, awaits_deadline}
use Rattle.lot_machine.specs.Run.{IsRun}
use Rattle.lot_machine.specs.Steps as steps
use Rattle.lot_simulator.proofs.BeginLemmas.{begin-amounts, taken_nowhere}
use Rattle.lot_simulator.proofs.HandedLemmas.{None-from_test, times_taken-append, times_taken-other}
use Rattle.lot_simulator.proofs.RegisterLemmas.{IsRegister-amounts}
use Rattle.lot_simulator.proofs.TrimLemmas.{IsTrim-amounts}
use Rattle.lot_simulator.proofs.AmountsLemmas.{Amounts, Amounts-none, Amounts-read, Amounts-retry, own_status}
use Rattle.lot_simulator.proofs.AmountsLemmas.{sequential_step-misfit, still_status}
use Rattle.lot_simulator.proofs.CallerAmountsLemmas.{Amounts-end, Amounts-wake, Amounts-commit}
use Rattle.lot_simulator.proofs.OutcomeAmountsLemmas.{Amounts-unparked, Amounts-timed_out}
use Rattle.lot_simulator.proofs.DeadlineAmountsLemmas.{Amounts-deadline}
use Rattle.lot_simulator.proofs.RunningAmountsLemmas.{Amounts-retire, Amounts-acquire, Amounts-unrecorded}
use Rattle.lot_simulator.proofs.RunningAmountsLemmas.{Amounts-release, Amounts-invalid, Amounts-enter}
use Rattle.lot_machine.proofs.StepLemmas.{MatchBool-either, Running-from, Waiting-from}

-- a fact of what may be there, with what is there
pub MatchOption-either : {A : Type 0} (o : Option A) {P R : Type 0} {Q : A → Type 0} → (o ≡ None → P → R)
    → ((x : A) → o ≡ Some x → Q x → R) → MatchOption o P Q → R
MatchOption-either None f g p = f refl p
MatchOption-either (Some x) f g q = g x refl q

or_left : (x y : Bool) → x ≡ true → (x || y) ≡ true
or_left x y is = ap (λ b. b || y) is

or_right : (x y : Bool) → y ≡ true → (x || y) ≡ true
or_right true y is = refl
or_right false y is = is

empty_from : {A : Type 0} (xs : List A) → has_any xs ≡ false → xs ≡ []
empty_from [] none = refl
empty_from (x ∷ xs) none = absurd (true≢false none)

module _ (s : FineState) (c : IsFineConsistent s) where
  -- a section that took a thread holds the bucket of its key word
  holds_in : (n : ℕ) (section : Option Section) (ts : List TakenThread)
      → All (λ t. IsTrue (holds (place_of (s.key_words t.number) s.size) section)) ts → times_taken n ts ≢ 0
      → holds (place_of (s.key_words n) s.size) section ≡ true
  holds_in n section [] all some = absurd (some refl)
  holds_in n section (t ∷ ts) all some =
      let Held : TakenThread → Type 0 = λ t. IsTrue (holds (place_of (s.key_words t.number) s.size) section) in
      let rest = holds_in n section ts (All-tail Held t ts all) in
      ⊎_elim (λ (same : t.number ≡ n). subst (λ j. holds (place_of (s.key_words j) s.size) section ≡ true) same
      (All-head Held t ts all))
      (λ (other : t.number ≢ n). rest (λ none. some (times_taken-other n t ts other ∙ none)))
      (cases_eq t.number n)

  is_held-for : (n : ℕ) (callers : List Caller) → All (HoldsForTaken s) callers
      → times_taken n (flat_map (λ (cl : Caller). taken_in cl.section) callers) ≢ 0
      → list_any (λ cl. holds (place_of (s.key_words n) s.size) cl.section) callers ≡ true
  is_held-for n [] all some = absurd (some refl)
  is_held-for n (cl ∷ callers) all some =
      let behind : List TakenThread = flat_map (λ (cl : Caller). taken_in cl.section) callers in
      let rest = is_held-for n callers (All-tail (HoldsForTaken s) cl callers all) in
      ⊎_elim (λ (none : times_taken n (taken_in cl.section) ≡ 0). or_right _ _
      (rest
      (λ nobody. some (omega (arith, times_taken-append n (taken_in cl.section) behind, none, nobody)))))
      (λ (among : times_taken n (taken_in cl.section) ≢ 0). or_left _ _
      (holds_in n cl.section (taken_in cl.section) (All-head (HoldsForTaken s) cl callers all) among))
      (cases_eq (times_taken n (taken_in cl.section)) 0)

  -- where the bucket of its key word is free, no section has the thread
  pub not_among : (n key : ℕ) → s.key_words n ≡ key → list_any (is_held s) (key ∷ []) ≡ false
      → times_taken n (taken_of s) ≡ 0
  not_among n key same free =
      ⊎_elim (λ (gone : times_taken n (taken_of s) ≡ 0). gone)
      (λ (some : times_taken n (taken_of s) ≢ 0). absurd (true≢false
      (sym (or_left (is_held s key) false (subst (λ k. is_held s k ≡ true) same (is_held-for n s.callers c.held some)))
      ∙ free)))
      (cases_eq (times_taken n (taken_of s)) 0)

  module _ (given : FineAnswer) (new : FineState) where
    -- a step gives an answer and leaves a state
    from_gives : (step : FineStep) {after : FineState} {expected : FineAnswer}
        → Amounts s after (sequential_step s step expected) → FineGives after expected given new
        → Amounts s new (sequential_step s step given)
    from_gives step {after} amounts (answers, new_is) =
        subst (λ n. Amounts s n (sequential_step s step given)) (sym new_is)
        (subst (λ a. Amounts s after (sequential_step s step a)) (sym answers) amounts)

    from_misfit : (step : FineStep) → IsFineMisfit s given new → Amounts s new (sequential_step s step given)
    from_misfit step =
        from_gives step (subst (Amounts s s) (sym (sequential_step-misfit s step)) (Amounts-none s c))

    begin : (caller : ℕ) (op : _) → IsBegin s caller op given new
        → Amounts s new (sequential_step s (Begin caller op) given)
    begin caller op =
        MatchBool-either (can_begin s caller)
        (λ can. MatchBool-either (list_any (is_held s) (keys_of op))
        (λ _. from_gives (Begin caller op) (Amounts-none s c))
        (λ free (by_rule, view, does, gives).
        from_gives (Begin caller op) (begin-amounts s c caller can op by_rule view free does) gives))
        (λ _. from_misfit (Begin caller op))

    commit : (caller : ℕ) (section : Section) → section_of s caller ≡ Some section → (taken : List TakenThread)
        → section.taken ≡ taken → IsCommit s caller section taken given new
        → Amounts s new (sequential_step s (Commit caller) given)
    commit caller section open_is [] is = from_misfit (Commit caller)
    commit caller section open_is (first ∷ rest) is =
        from_gives (Commit caller) (Amounts-commit s c caller section first rest open_is is)

    read_key : (thread : ℕ) (now : Status) → s.threads_view.status thread ≡ now → IsReadKey s thread now given new
        → Amounts s new (sequential_step s (ReadKey thread) given)
    read_key thread status.Late is = from_gives (ReadKey thread) (Amounts-read s c thread is)
    read_key thread _ is = from_misfit (ReadKey thread)

    give_back : (thread : ℕ) (now : Status) (slot : Option UnparkToken) → s.threads_view.status thread ≡ now
        → s.slots thread ≡ slot → IsFineReturn s thread now slot given new
        → Amounts s new (sequential_step s (Return thread) given)
    give_back thread (status.Waiting timed) (Some token) is full =
        from_gives (Return thread) (Amounts-unparked s c thread token full (ap is_queued is))
    give_back thread _ _ is full = from_misfit (Return thread)

    look : (thread key : ℕ) → s.keys_read thread ≡ Some key → list_any (is_held s) (key ∷ []) ≡ false
        → IsLook s thread key given new → Amounts s new (sequential_step s (Look thread) given)
    look thread key read free =
        let late : s.threads_view.status thread ≡ status.Late = c.reading thread (ap is_some read) in
        MatchBool-either (s.key_words thread == key)
        (λ same. MatchOption-either (s.slots thread)
        (λ empty. from_gives (Look thread)
        (Amounts-timed_out s c thread key late empty (eqb-true (s.key_words thread) key same)
        (not_among thread key (eqb-true (s.key_words thread) key same) free)))
        (λ token full. from_gives (Look thread) (Amounts-unparked s c thread token full (ap is_queued late))))
        (λ _. from_gives (Look thread) (Amounts-retry s c thread))

    enter_by : (thread key : ℕ) (valid : Bool) (park_token : ParkToken) (timed : Bool) (by_rule : Answer)
        (view : Machine) → s.threads_view.status thread ≡ status.Running
        → MatchBool valid
        (steps.Gives (after_enter s.threads_view thread key park_token timed) answer.Entered by_rule view)
        (steps.Gives s.threads_view answer.Invalid by_rule view)
        → Amounts s (record s {
          threads_view = view;
          key_words = if valid then with_value s.key_words thread key else s.key_words;
        })
        (sequential_step s (Enter thread key valid park_token timed) (fine.Answer by_rule))
    enter_by thread key true park_token timed by_rule view runs (answers, view_is) =
        let step : FineStep = Enter thread key true park_token timed in
        let after : Machine → FineState =
        λ m. record s { threads_view = m; key_words = with_value s.key_words thread key } in
        subst (λ m. Amounts s (after m) (sequential_step s step (fine.Answer by_rule))) (sym view_is)
        (subst (λ a. Amounts s (after (after_enter s.threads_view thread key park_token timed))
        (sequential_step s step (fine.Answer a))) (sym answers)
        (Amounts-enter s c thread runs key park_token timed))
    enter_by thread key false park_token timed by_rule view runs (answers, view_is) =
        let step : FineStep = Enter thread key false park_token timed in
        subst (λ m. Amounts s (record s { threads_view = m }) (sequential_step s step (fine.Answer by_rule)))
        (sym view_is)
        (subst (λ a. Amounts s s (sequential_step s step (fine.Answer a))) (sym answers)
        (Amounts-invalid s c thread runs key park_token timed))

    enter : (thread key : ℕ) (valid : Bool) (park_token : ParkToken) (timed : Bool)
        → IsEnter s thread key valid park_token timed given new
        → Amounts s new (sequential_step s (Enter thread key valid park_token timed) given)
    enter thread key valid park_token timed =
        let step : FineStep = Enter thread key valid park_token timed in
        MatchBool-either (is_running (s.threads_view.status thread))
        (λ runs. MatchBool-either (list_any (is_held s) (key ∷ []))
        (λ _. from_gives step (Amounts-none s c))
        (λ _ (by_rule, view, does, gives). from_gives step
        (enter_by thread key valid park_token timed by_rule view (Running-from (s.threads_view.status thread) runs)
        (MatchBool-at_true _ _ runs does)) gives))
        (λ _. from_misfit step)

    -- a step of the machine that fits a running thread, and changes nothing else
    of_running : (step : FineStep) (thread : ℕ) (by_rule : Answer) (view : Machine) {P : Type 0}
        → (s.threads_view.status thread ≡ status.Running → P
        → Amounts s (record s { threads_view = view }) (sequential_step s step (fine.Answer by_rule)))
        → MatchBool (is_running (s.threads_view.status thread)) P (steps.Gives s.threads_view answer.Misfit by_rule view)
        → FineGives (record s { threads_view = view }) (fine.Answer by_rule) given new
        → Amounts s new (sequential_step s step given)
    of_running step thread by_rule view amounts does gives =
        from_gives step
        (MatchBool-either (is_running (s.threads_view.status thread))
        (λ runs. amounts (Running-from (s.threads_view.status thread) runs))
        (λ _ (answers, view_is).
        subst (λ m. Amounts s (record s { threads_view = m }) (sequential_step s step (fine.Answer by_rule)))
        (sym view_is)
        (subst (λ a. Amounts s s (sequential_step s step (fine.Answer a))) (sym answers)
        (subst (Amounts s s) (sym (sequential_step-misfit s step)) (Amounts-none s c))))
        does)
        gives

    acquire_by : (thread key : ℕ) (by_rule : Answer) (view : Machine) → s.threads_view.status thread ≡ status.Running
        → steps.IsAcquire s.threads_view thread key by_rule view
        → Amounts s (record s { threads_view = view })
        (sequential_step s (Acquire thread key) (fine.Answer by_rule))
    acquire_by thread key answer.Recorded view runs view_is =
        subst (λ m. Amounts s (record s { threads_view = m })
        (sequential_step s (Acquire thread key) (fine.Answer answer.Recorded))) (sym view_is)
        (Amounts-acquire s c thread runs key)
    acquire_by thread key answer.NoMemory view runs view_is =
        subst (λ m. Amounts s (record s { threads_view = m })
        (sequential_step s (Acquire thread key) (fine.Answer answer.NoMemory))) (sym view_is)
        (Amounts-unrecorded s c thread runs key)
    acquire_by thread key _ view runs none = absurd none

    step-amounts : (step : FineStep) → IsFineStep s step given new → Amounts s new (sequential_step s step given)
    step-amounts (Begin caller op) = begin caller op
    step-amounts (Commit caller) =
        MatchOption-either (section_of s caller) (λ _. from_misfit (Commit caller))
        (λ section open_is. commit caller section open_is section.taken refl)
    step-amounts (End caller) =
        MatchOption-either (section_of s caller) (λ _. from_misfit (End caller))
        (λ section open_is. MatchBool-either (has_any section.taken) (λ _. from_misfit (End caller))
        (λ none. from_gives (End caller) (Amounts-end s c caller section open_is (empty_from section.taken none))))
    step-amounts (Wake caller) =
        MatchBool-either (wakes_of s caller == 0) (λ _. from_misfit (Wake caller))
        (λ some. from_gives (Wake caller)
        (Amounts-wake s c caller (wakes_of s caller - 1) (eqb-false (wakes_of s caller) 0 some)))
    step-amounts (Deadline thread) =
        MatchBool-either (awaits_deadline (s.threads_view.status thread) && is_none (s.slots thread))
        (λ both. let (waits, empty) =
        and_parts (awaits_deadline (s.threads_view.status thread)) (is_none (s.slots thread)) both in
        from_gives (Deadline thread) (Amounts-deadline s c thread (Waiting-from (s.threads_view.status thread) waits)
        (None-from_test (s.slots thread) empty)))
        (λ _. from_misfit (Deadline thread))
    step-amounts (ReadKey thread) = read_key thread (s.threads_view.status thread) refl
    step-amounts (Look thread) =
        MatchOption-either (s.keys_read thread) (λ _. from_misfit (Look thread))
        (λ key read. MatchBool-either (list_any (is_held s) (key ∷ []))
        (λ _. from_gives (Look thread) (Amounts-none s c)) (look thread key read))
    step-amounts (Enter thread key valid park_token timed) = enter thread key valid park_token timed
    step-amounts (Return thread) = give_back thread (s.threads_view.status thread) (s.slots thread) refl refl
    step-amounts Register = IsRegister-amounts s c given new
    step-amounts (Retire thread) =
        λ (by_rule, view, does, gives). of_running (Retire thread) thread by_rule view
        (λ runs (answers, view_is).
        subst (λ m. Amounts s (record s { threads_view = m })
        (sequential_step s (Retire thread) (fine.Answer by_rule))) (sym view_is)
        (subst (λ a. Amounts s (record s { threads_view = after_retire s.threads_view thread })
        (sequential_step s (Retire thread) (fine.Answer a))) (sym answers)
        (Amounts-retire s c thread runs)))
        does gives
    step-amounts (Acquire thread key) =
        λ (by_rule, view, does, gives). of_running (Acquire thread key) thread by_rule view
        (acquire_by thread key by_rule view) does gives
    step-amounts (Release thread key) =
        λ (by_rule, view, does, gives). of_running (Release thread key) thread by_rule view
        (λ runs (answers, view_is).
        subst (λ m. Amounts s (record s { threads_view = m })
        (sequential_step s (Release thread key) (fine.Answer by_rule))) (sym view_is)
        (subst (λ a. Amounts s (record s { threads_view = after_release s.threads_view thread key })
        (sequential_step s (Release thread key) (fine.Answer a))) (sym answers)
        (Amounts-release s c thread runs key)))
        does gives
    step-amounts Trim = IsTrim-amounts s c given new

pub IsFineStep-amounts : (s : FineState) (step : FineStep) (given : FineAnswer) (new : FineState) → IsFineConsistent s
    → IsFineStep s step given new → Amounts s new (sequential_step s step given)
IsFineStep-amounts s step given new c = step-amounts s c given new step

pub IsFineConsistent-step : FineStepsKeepConsistency
IsFineConsistent-step s step given new c does = (IsFineStep-amounts s step given new c does).consistent

-- one run after another
IsRun-append : (first rest : List (Step × Answer)) (m mid last : Machine)
    → IsRun steps.IsStep m (steps_of first) (answers_of first) mid → IsRun steps.IsStep mid (steps_of rest) (answers_of rest) last
    → IsRun steps.IsStep m (steps_of (first ++ rest)) (answers_of (first ++ rest)) last
IsRun-append [] rest m mid last same ran =
    subst (λ n. IsRun steps.IsStep n (steps_of rest) (answers_of rest) last) (sym same) ran
IsRun-append (pair ∷ first) rest m mid last (next, does, begins) ran =
    (next, does, IsRun-append first rest next mid last begins ran)

pub IsRun-sequential : EveryInterleavingIsARun
IsRun-sequential s [] [] last c ran = ap sequential_view ran
IsRun-sequential s [] (_ ∷ _) last c ran = absurd ran
IsRun-sequential s (_ ∷ _) [] last c ran = absurd ran
IsRun-sequential s (step ∷ steps) (given ∷ answers) last c (next, does, ran) =
    let amounts = IsFineStep-amounts s step given next c does in
    IsRun-append (sequential_step s step given) (sequential_steps next steps answers last ran) (sequential_view s)
    (sequential_view next) (sequential_view last) amounts.run
    (IsRun-sequential next steps answers last amounts.consistent ran)

module _ (s : FineState) (c : IsFineConsistent s) (n : ℕ) where
  -- who stands in no list by his status in the sequential view
  nowhere : is_queued (sequential_status s n) ≡ false → (key : ℕ) → times_in n (s.threads_view.lists key) ≡ 0
  nowhere not_queued = MatchBool-at_false _ _ not_queued (c.view.standing n)

  -- a thread that neither waits nor is late has its node
  still_place : is_queued (s.threads_view.status n) ≡ false → times_in n (s.threads_view.lists (s.key_words n))
      + times_taken n (taken_of s) + once_if (is_some (s.slots n)) ≡ 0
  still_place still =
      let nobody : once_if (is_queued (s.threads_view.status n)) ≡ 0 = ap once_if still in
      let none = nowhere (ap is_queued (still_status s c n still) ∙ still) (s.key_words n) in
      omega (arith, none, c.handed n, nobody)

  -- the node of one that does is in one of the other three places
  away_place : is_queued (s.threads_view.status n) ≡ true → times_in n (s.threads_view.lists (s.key_words n))
      + times_taken n (taken_of s) + once_if (is_some (s.slots n)) ≡ 1
  away_place away = at (s.slots n) refl
    where
      one : once_if (is_queued (s.threads_view.status n)) ≡ 1
      one = ap once_if away

      at : (o : Option UnparkToken) → s.slots n ≡ o → times_in n (s.threads_view.lists (s.key_words n))
          + times_taken n (taken_of s) + once_if (is_some (s.slots n)) ≡ 1
      at (Some token) is =
          let full : once_if (is_some (s.slots n)) ≡ 1 = ap (λ o. once_if (is_some o)) is in
          let none = nowhere (ap (λ o. is_queued (with_slot o (with_taken (taken_of s) s.threads_view.status n))) is)
          (s.key_words n) in
          omega (arith, none, full, c.handed n, one)
      at None is =
          let empty : once_if (is_some (s.slots n)) ≡ 0 = ap (λ o. once_if (is_some o)) is in
          ⊎_elim (λ (gone : times_taken n (taken_of s) ≡ 0).
          let stands : StandsAt (sequential_view s) n (s.key_words n) =
          MatchBool-at_true _ _ (ap is_queued (own_status s c n gone is) ∙ away) (c.view.standing n) in
          let once = stands.once in
          omega (arith, once, gone, empty))
          (λ (some : times_taken n (taken_of s) ≢ 0).
          let none = taken_nowhere s c n some (s.key_words n) in
          omega (arith, none, empty, some, c.handed n, one))
          (cases_eq (times_taken n (taken_of s)) 0)

  in_one_place : (now : Status) → s.threads_view.status n ≡ now → once_if (is_running (s.threads_view.status n))
      + times_in n (s.threads_view.lists (s.key_words n)) + times_taken n (taken_of s) + once_if (is_some (s.slots n))
      ≡ once_if (is_registered (s.threads_view.status n))
  in_one_place status.Free is =
      let places = still_place (ap is_queued is) in
      let runs : once_if (is_running (s.threads_view.status n)) ≡ 0 = ap (λ o. once_if (is_running o)) is in
      let here : once_if (is_registered (s.threads_view.status n)) ≡ 0 = ap (λ o. once_if (is_registered o)) is in
      omega (arith, places, runs, here)
  in_one_place status.Running is =
      let places = still_place (ap is_queued is) in
      let runs : once_if (is_running (s.threads_view.status n)) ≡ 1 = ap (λ o. once_if (is_running o)) is in
      let here : once_if (is_registered (s.threads_view.status n)) ≡ 1 = ap (λ o. once_if (is_registered o)) is in
      omega (arith, places, runs, here)
  in_one_place (status.Taken token) is = absurd (false≢true (sym (c.unaware n) ∙ ap is_taken is))
  in_one_place (status.Waiting timed) is =
      let places = away_place (ap is_queued is) in
      let runs : once_if (is_running (s.threads_view.status n)) ≡ 0 = ap (λ o. once_if (is_running o)) is in
      let here : once_if (is_registered (s.threads_view.status n)) ≡ 1 = ap (λ o. once_if (is_registered o)) is in
      omega (arith, places, runs, here)
  in_one_place status.Late is =
      let places = away_place (ap is_queued is) in
      let runs : once_if (is_running (s.threads_view.status n)) ≡ 0 = ap (λ o. once_if (is_running o)) is in
      let here : once_if (is_registered (s.threads_view.status n)) ≡ 1 = ap (λ o. once_if (is_registered o)) is in
      omega (arith, places, runs, here)

pub node-in_one_place : EachNodeIsInOnePlace
node-in_one_place s number c = in_one_place s c number (s.threads_view.status number) refl

pub node-in_no_other_list : NoNodeIsInAnotherList
node-in_no_other_list s number key c other =
    ⊎_elim (λ (queued : is_queued (sequential_status s number) ≡ true).
    let stands : StandsAt (sequential_view s) number (s.key_words number) =
    MatchBool-at_true _ _ queued (c.view.standing number) in
    stands.nowhere_else key other)
    (λ (not_queued : is_queued (sequential_status s number) ≡ false). nowhere s c number not_queued key)
    (cases_Bool (is_queued (sequential_status s number)))
