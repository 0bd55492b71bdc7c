-- The laws of `specs/FairLaws`.
use Rattle.std.proofs.Common.{◌≡◌, ◌≢◌, ℕ, ◌==◌, false, IsFalse, List}
use Rattle.std.proofs.Common.{[], ◌∷◌, ◌++◌, take, drop, append-nil, append_assoc, refl, sym, ap, ◌∙◌, subst}
use Rattle.std.proofs.Common.{⊎_elim, ◌⊎◌, inl, inr}
use Rattle.std.proofs.lemmas.Bool.{cases_eq, eq-eqb, true≢false}
use Rattle.lot_base.proofs.ValueLemmas.{with_value-same, with_value-other}
use Rattle.lot_base.specs.Waiting.{with_value, split_by}
use Rattle.lot_base.specs.declared.token.RequeueOp.{RequeueOp}
use Rattle.lot_base.specs.declared.token.RequeueOp.TheVariants.{UnparkOneRequeueRest, RequeueAll, UnparkOne}
use Rattle.lot_base.specs.declared.token.RequeueOp.TheVariants.{RequeueOne}
use Rattle.lot_machine.proofs.StepLemmas.{MatchBool-either}
use Rattle.lot_machine.specs.Run.{IsRun}
use Rattle.lot_simulator.specs.declared.fair.fair_core.FairStatus.{FairStatus}
use Rattle.lot_simulator.specs.declared.fair.fair_core.FairStatus.TheVariants.{Free, Idle, Holding, Queued, Leaving, Handed}
use Rattle.lot_simulator.specs.declared.fair.schedule.FairAnswer.{FairAnswer}
use Rattle.lot_simulator.specs.declared.fair.schedule.FairAnswer.TheVariants as answer
use Rattle.lot_simulator.specs.declared.fair.schedule.FairStep.{FairStep}
use Rattle.lot_simulator.specs.declared.fair.schedule.FairStep.TheVariants.{Register, Retire, Lock, Unlock, Return, Wait}
use Rattle.lot_simulator.specs.declared.fair.schedule.FairStep.TheVariants.{Leave, NotifyOne, NotifyAll}
use Rattle.lot_simulator.specs.FairMachine.{FairState, with_status, with_handed, let_go}
use Rattle.lot_simulator.specs.FairMachine.{after_queue, after_wait, after_release, after_notify}
use Rattle.lot_simulator.specs.FairSteps.{IsFairStep, IsRegister, IsLock, is_idle, is_holding}
use Rattle.lot_simulator.specs.FairSteps.{is_leaving, is_handed}
use Rattle.lot_simulator.specs.FairLaws.{MovesUp, NeverComesBack, WaitersKeepTheirOrder, NotifiedThreadsKeepTheirPlace}
use Rattle.lot_simulator.specs.FairLaws.{comes_back}
use Rattle.lot_simulator.proofs.FairMachineLemmas.{Idle-from, Holding-from, Leaving-from}

-- a thread was handed the mutex, or has moved up from where it stood
abbrev Kept : ℕ → List ℕ → List ℕ → FairState → Type 0
Kept thread before behind m = (m.status thread ≡ Handed) ⊎ MovesUp thread before behind m.waiters

module _ (thread : ℕ) (before behind : List ℕ) where
  abbrev Moves : List ℕ → Type 0
  Moves = MovesUp thread before behind

  -- others come to stand last
  Moves-came : (now more : List ℕ) → Moves now → Moves (now ++ more)
  Moves-came now more moves = record {
    gone = moves.gone;
    left = moves.left;
    came = moves.came ++ more;
    leave = moves.leave;
    stand = ap (λ xs. xs ++ more) moves.stand ∙ append_assoc moves.left (thread ∷ (behind ++ moves.came)) more
        ∙ ap (λ xs. moves.left ++ thread ∷ xs) (append_assoc behind moves.came more);
  }

  -- the first leaves, which is another thread or this one
  Moves-first : (gone left came now : List ℕ) → before ≡ gone ++ left → now ≡ left ++ thread ∷ (behind ++ came)
      → (status : ℕ → FairStatus)
      → (with_handed (take 1 now) status thread ≡ Handed) ⊎ Moves (drop 1 now)
  Moves-first gone [] came now leave stand status =
      inl (ap (λ xs. with_handed (take 1 xs) status thread) stand ∙ with_value-same status thread Handed thread refl)
  Moves-first gone (first ∷ left) came now leave stand status = inr (record {
    gone = gone ++ first ∷ [];
    left = left;
    came = came;
    leave = leave ∙ sym (append_assoc gone (first ∷ []) left);
    stand = ap (drop 1) stand;
  })

  -- one who was handed the mutex is so still, where another has another status
  Handed-other : (status : ℕ → FairStatus) (t : ℕ) (s : FairStatus) → status thread ≡ Handed → status t ≢ Handed
      → with_value status t s thread ≡ Handed
  Handed-other status t s handed other =
      with_value-other status t s thread (λ same. other (ap status (sym same) ∙ handed)) ∙ handed

  Handed-handing : (taken : List ℕ) (status : ℕ → FairStatus) → status thread ≡ Handed
      → with_handed taken status thread ≡ Handed
  Handed-handing [] status handed = handed
  Handed-handing (t ∷ taken) status handed =
      ⊎_elim (λ (same : thread ≡ t). with_value-same (with_handed taken status) t Handed thread same)
      (λ (other : thread ≢ t). with_value-other (with_handed taken status) t Handed thread other
      ∙ Handed-handing taken status handed)
      (cases_eq thread t)

  abbrev Keeps : FairState → Type 0
  Keeps = Kept thread before behind

  -- another thread has another status
  Keeps-with_status : (m : FairState) (t : ℕ) (s : FairStatus) → m.status t ≢ Handed → Keeps m
      → Keeps (with_status m t s)
  Keeps-with_status m t s other =
      ⊎_elim (λ (handed : m.status thread ≡ Handed). inl (Handed-other m.status t s handed other)) inr

  Keeps-queue : (m : FairState) (t : ℕ) → m.status t ≢ Handed → Keeps m → Keeps (after_queue m t)
  Keeps-queue m t other =
      ⊎_elim (λ (handed : m.status thread ≡ Handed). inl (Handed-other m.status t Queued handed other))
      (λ moves. inr (Moves-came m.waiters (t ∷ []) moves))

  Keeps-wait : (m : FairState) (t : ℕ) → m.status t ≢ Handed → Keeps m → Keeps (after_wait m t)
  Keeps-wait m t other =
      ⊎_elim (λ (handed : m.status thread ≡ Handed). inl (Handed-other m.status t Leaving handed other)) inr

  Keeps-release : (m : FairState) (t : ℕ) → m.status t ≢ Handed → Keeps m → Keeps (after_release m t)
  Keeps-release m t other =
      ⊎_elim (λ (handed : m.status thread ≡ Handed). inl (Handed-handing (take 1 m.waiters) _
      (Handed-other m.status t (let_go (m.status t)) handed other)))
      (λ (moves : Moves m.waiters). Moves-first moves.gone moves.left moves.came m.waiters moves.leave moves.stand _)

  Keeps-notify : (m : FairState) (op : RequeueOp) → Keeps m → Keeps (after_notify m op)
  Keeps-notify m op =
      ⊎_elim (λ (handed : m.status thread ≡ Handed). inl (Handed-handing (split_by op m.sleepers).taken m.status handed))
      (λ moves. inr (Moves-came m.waiters (split_by op m.sleepers).moved moves))

  -- a thread that is this cannot be handed the mutex
  Idle-other : (s : FairStatus) → s ≡ Idle → s ≢ Handed
  Idle-other s idle handed = let same : Idle ≡ Handed = sym idle ∙ handed in absurd cc

  Holding-other : (s : FairStatus) → s ≡ Holding → s ≢ Handed
  Holding-other s holding handed = let same : Holding ≡ Handed = sym holding ∙ handed in absurd cc

  Leaving-other : (s : FairStatus) → s ≡ Leaving → s ≢ Handed
  Leaving-other s leaving handed = let same : Leaving ≡ Handed = sym leaving ∙ handed in absurd cc

  module _ (m new : FairState) (kept : Keeps m) where
    becomes : {left : FairState} → Keeps left → new ≡ left → Keeps new
    becomes keeps new_is = subst Keeps (sym new_is) keeps

    Register-keeps : (given : FairAnswer) → IsRegister m given new → Keeps new
    Register-keeps (answer.Registered number) (least, new_is) =
        becomes (Keeps-with_status m number Idle
        (λ handed. let same : Free ≡ Handed = sym least.free ∙ handed in absurd cc) kept) new_is
    Register-keeps answer.Full (_, new_is) = becomes kept new_is
    Register-keeps answer.NoMemory (_, new_is) = becomes kept new_is
    Register-keeps _ none = absurd none

    Lock-keeps : (t : ℕ) (given : FairAnswer) → m.status t ≢ Handed → IsLock m t given new → Keeps new
    Lock-keeps t answer.Locked other (_, new_is) = becomes (Keeps-with_status m t Holding other kept) new_is
    Lock-keeps t answer.Queued other (_, new_is) = becomes (Keeps-queue m t other kept) new_is
    Lock-keeps t _ other none = absurd none

    Return-keeps : (t : ℕ) (given : FairAnswer) → given ≡ answer.Locked → IsFalse (comes_back thread (Return t) given)
        → new ≡ with_status m t Holding → Keeps new
    Return-keeps t given locked never new_is =
        let apart : (t == thread) ≡ false = ap (comes_back thread (Return t)) (sym locked) ∙ never in
        becomes (⊎_elim (λ (handed : m.status thread ≡ Handed). inl (with_value-other m.status t Holding thread
        (λ same. true≢false (sym (eq-eqb t thread (sym same)) ∙ apart)) ∙ handed)) inr kept) new_is

    Step-keeps : (step : FairStep) (given : FairAnswer) → IsFalse (comes_back thread step given)
        → IsFairStep m step given new → Keeps new
    Step-keeps Register given never = Register-keeps given
    Step-keeps (Retire t) given never =
        MatchBool-either (is_idle (m.status t))
        (λ idle (_, new_is). becomes (Keeps-with_status m t Free
        (Idle-other (m.status t) (Idle-from (m.status t) idle)) kept) new_is)
        (λ _ (_, new_is). becomes kept new_is)
    Step-keeps (Lock t) given never =
        MatchBool-either (is_idle (m.status t))
        (λ idle. Lock-keeps t given (Idle-other (m.status t) (Idle-from (m.status t) idle)))
        (λ _ (_, new_is). becomes kept new_is)
    Step-keeps (Unlock t) given never =
        MatchBool-either (is_holding (m.status t))
        (λ holding (_, new_is). becomes (Keeps-release m t
        (Holding-other (m.status t) (Holding-from (m.status t) holding)) kept) new_is)
        (λ _ (_, new_is). becomes kept new_is)
    Step-keeps (Return t) given never =
        MatchBool-either (is_handed (m.status t))
        (λ handed (locked, new_is). Return-keeps t given locked never new_is)
        (λ _ (_, new_is). becomes kept new_is)
    Step-keeps (Wait t) given never =
        MatchBool-either (is_holding (m.status t))
        (λ holding (_, new_is). becomes (Keeps-wait m t
        (Holding-other (m.status t) (Holding-from (m.status t) holding)) kept) new_is)
        (λ _ (_, new_is). becomes kept new_is)
    Step-keeps (Leave t) given never =
        MatchBool-either (is_leaving (m.status t))
        (λ leaving (_, new_is). becomes (Keeps-release m t
        (Leaving-other (m.status t) (Leaving-from (m.status t) leaving)) kept) new_is)
        (λ _ (_, new_is). becomes kept new_is)
    Step-keeps NotifyOne given never =
        ⊎_elim (λ (_, (_, new_is)). becomes (Keeps-notify m UnparkOne kept) new_is)
        (λ (_, (_, new_is)). becomes (Keeps-notify m RequeueOne kept) new_is)
    Step-keeps NotifyAll given never =
        ⊎_elim (λ (_, (_, new_is)). becomes (Keeps-notify m UnparkOneRequeueRest kept) new_is)
        (λ (_, (_, new_is)). becomes (Keeps-notify m RequeueAll kept) new_is)

  Run-keeps : (m : FairState) (steps : List FairStep) (answers : List FairAnswer) (last : FairState) → Keeps m
      → IsRun IsFairStep m steps answers last → NeverComesBack thread steps answers → Keeps last
  Run-keeps m [] [] last kept same never = subst Keeps same kept
  Run-keeps m [] (_ ∷ _) last kept none never = absurd none
  Run-keeps m (_ ∷ _) [] last kept none never = absurd none
  Run-keeps m (step ∷ steps) (given ∷ answers) last kept (next, does, ran) (never, rest) =
      Run-keeps next steps answers last (Step-keeps m next kept step given never does) ran rest

pub waiters_keep_their_order : WaitersKeepTheirOrder
waiters_keep_their_order m thread before behind steps answers last stands ran never =
    Run-keeps thread before behind m steps answers last
    (inr (record {
      gone = [];
      left = before;
      came = [];
      leave = refl;
      stand = stands ∙ ap (λ xs. before ++ thread ∷ xs) (sym (append-nil behind));
    })) ran never

pub notified_threads_keep_their_place : NotifiedThreadsKeepTheirPlace
notified_threads_keep_their_place m op given notified thread before behind steps answers last (_, new_is) moved =
    waiters_keep_their_order notified thread (m.waiters ++ before) behind steps answers last
    (ap (λ (state : FairState). state.waiters) new_is ∙ ap (λ xs. m.waiters ++ xs) moved
    ∙ sym (append_assoc m.waiters before (thread ∷ behind)))
