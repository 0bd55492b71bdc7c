-- Each step of a consistent machine has just one answer, but for want of memory, and the answers count the threads.
use Rattle.std.proofs.Common.{◌≡◌, ◌≢◌, ℕ, zero, suc, ◌<◌, ◌≤◌, Bool, true, false, MatchBool, List}
use Rattle.std.proofs.Common.{refl, sym, ap, ◌∙◌, subst, ⊎_elim, ◌⊎◌, inl, inr, arith}
use Rattle.std.proofs.lemmas.Bool.{cases_eq, cases_lt, false≢true, MatchBool-at_true}
use Rattle.lot_base.specs.Waiting.{split_by}
use Rattle.lot_base.specs.declared.token.RequeueOp.{RequeueOp}
use Rattle.lot_base.specs.declared.token.RequeueOp.TheVariants.{Abort, UnparkOneRequeueRest, RequeueAll, UnparkOne}
use Rattle.lot_base.specs.declared.token.RequeueOp.TheVariants.{RequeueOne}
use Rattle.lot_base.specs.declared.token.UnparkToken.{UnparkToken}
use Rattle.lot_base.proofs.LawLemmas.{lists_after_requeue-to_itself}
use Rattle.lot_base.proofs.RequeueLemmas.{lists-aborted}
use Rattle.lot_machine.specs.declared.status.Status.{Status}
use Rattle.lot_machine.specs.declared.status.Status.TheVariants as status
use Rattle.lot_machine.specs.declared.step.Answer.{Answer}
use Rattle.lot_machine.specs.declared.step.Answer.TheVariants as answer
use Rattle.lot_machine.specs.declared.step.Op.{Op}
use Rattle.lot_machine.specs.declared.step.Op.TheVariants.{One, All, Filter, Requeue}
use Rattle.lot_machine.specs.declared.step.Step.{Step}
use Rattle.lot_machine.specs.declared.step.Step.TheVariants.{Register, Retire, Enter, Unpark, Deadline}
use Rattle.lot_machine.specs.declared.step.Step.TheVariants.{Resolve, Return, Acquire, Release, Trim}
use Rattle.lot_machine.specs.Status.{is_running, is_queued, awaits_deadline}
use Rattle.lot_machine.specs.Machine.{Machine, Waiter, IsConsistent, IsFull, IsLeastFree}
use Rattle.lot_machine.specs.Machine.{StandsAt, with_status}
use Rattle.lot_machine.specs.Machine.{after_acquire, after_requeue}
use Rattle.lot_machine.specs.Machine.{after_timeout, is_last}
use Rattle.lot_machine.specs.Steps.{Gives, IsRegister, IsUnpark, IsReturn, IsResolve, IsAcquire, IsTrim, IsStep}
use Rattle.lot_machine.specs.Laws.{EachStepHasAnAnswer, NoOtherAnswer, OnlyMemoryIsOpen, AbortChangesNothing}
use Rattle.lot_machine.specs.Laws.{MayWantMemory, ListsAreShort}
use Rattle.lot_machine.proofs.LawLemmas.{MatchBool-both}
use Rattle.lot_machine.proofs.StandingLemmas.{same_machine, MatchBool-from}
use Rattle.lot_machine.proofs.MachineLemmas.{length-le_from_MatchesStatus}
use Rattle.lot_machine.proofs.StepLemmas.{MatchBool-either, Running-from}

pub length-le-lists : ListsAreShort
length-le-lists m key (keys, right) = length-le_from_MatchesStatus keys m key right

pub after_requeue-aborted : AbortChangesNothing
after_requeue-aborted m from to token = same_machine _ _ (lists-aborted m.lists from to) (λ j. refl) (λ j. refl) refl

pub after_requeue-to_itself : (m : Machine) (key : ℕ) (token : UnparkToken)
    → after_requeue m key key (split_by RequeueAll (m.lists key)) token ≡ m
after_requeue-to_itself m key token =
    same_machine _ _ (lists_after_requeue-to_itself Waiter m.lists key) (λ j. refl) (λ j. refl) refl

-- so at an abort the token does not matter
pub after_requeue-token : (m : Machine) (from to : ℕ) (op : RequeueOp) (waiters : List Waiter)
    (given token : UnparkToken) → (op ≢ Abort → given ≡ token)
    → after_requeue m from to (split_by op waiters) given ≡ after_requeue m from to (split_by op waiters) token
after_requeue-token m from to Abort waiters given token same = refl
after_requeue-token m from to UnparkOneRequeueRest waiters given token same =
    ap (after_requeue m from to (split_by UnparkOneRequeueRest waiters)) (same (λ aborts. cc))
after_requeue-token m from to RequeueAll waiters given token same =
    ap (after_requeue m from to (split_by RequeueAll waiters)) (same (λ aborts. cc))
after_requeue-token m from to UnparkOne waiters given token same =
    ap (after_requeue m from to (split_by UnparkOne waiters)) (same (λ aborts. cc))
after_requeue-token m from to RequeueOne waiters given token same =
    ap (after_requeue m from to (split_by RequeueOne waiters)) (same (λ aborts. cc))

-- an answer that is not for want of memory, and the machine that the step leaves
abbrev HasAnswer : Machine → Step → Type 0
HasAnswer m step = (given : Answer) × (given ≢ answer.NoMemory) × (new : Machine) × IsStep m step given new

free_or_not : (s : Status) → (s ≡ status.Free) ⊎ (s ≢ status.Free)
free_or_not status.Free = inl refl
free_or_not status.Running = inr (λ same. cc)
free_or_not (status.Waiting timed) = inr (λ same. cc)
free_or_not status.Late = inr (λ same. cc)
free_or_not (status.Taken token) = inr (λ same. cc)

-- of the numbers below n one is the least that is free, or none is free
abbrev IsLeastBelow : Machine → ℕ → ℕ → Type 0
IsLeastBelow m n number = (number < n) × (m.status number ≡ status.Free)
    × ((k : ℕ) → k < number → m.status k ≢ status.Free)

least_free_below : (m : Machine) (n : ℕ) → ((number : ℕ) × IsLeastBelow m n number)
    ⊎ ((k : ℕ) → k < n → m.status k ≢ status.Free)
least_free_below m zero = inr (λ k low. absurd (omega arith))
least_free_below m (suc n) =
    ⊎_elim (λ (found : (number : ℕ) × IsLeastBelow m n number). let (number, (below, free, least)) = found in
    inl (number, (omega (arith, below), free, least)))
    (λ (none : (k : ℕ) → k < n → m.status k ≢ status.Free).
    ⊎_elim (λ (free : m.status n ≡ status.Free). inl (n, (omega arith, free, none)))
    (λ (other : m.status n ≢ status.Free).
    inr (λ k low. ⊎_elim (λ (same : k ≡ n). subst (λ j. m.status j ≢ status.Free) (sym same) other)
    (λ (apart : k ≢ n). none k (omega (arith, low, apart))) (cases_eq k n))) (free_or_not (m.status n)))
    (least_free_below m n)

HasAnswer-register : (m : Machine) → HasAnswer m Register
HasAnswer-register m =
    ⊎_elim (λ (found : (number : ℕ) × IsLeastBelow m m.max_threads number).
    let (number, (below, free, least)) = found in (
      answer.Registered number,
      (λ same. cc),
      with_status m number status.Running,
      (record { below = below; free = free; least = least }, refl),
    ))
    (λ (none : IsFull m). (answer.Full, (λ same. cc), m, (none, refl)))
    (least_free_below m m.max_threads)

-- a step whose answer one test decides
HasAnswer-either : (m : Machine) (step : Step) (b : Bool) (fit unfit : Machine) (given other : Answer)
    → given ≢ answer.NoMemory → other ≢ answer.NoMemory
    → ((g : Answer) (new : Machine) → MatchBool b (Gives fit given g new) (Gives unfit other g new)
    → IsStep m step g new) → HasAnswer m step
HasAnswer-either m step true fit unfit given other at_fit at_unfit steps =
    (given, at_fit, fit, steps given fit (refl, refl))
HasAnswer-either m step false fit unfit given other at_fit at_unfit steps =
    (other, at_unfit, unfit, steps other unfit (refl, refl))

HasAnswer-return : (m : Machine) (thread : ℕ) (s : Status)
    → (given : Answer) × (given ≢ answer.NoMemory) × (new : Machine) × IsReturn m thread s given new
HasAnswer-return m thread (status.Taken token) =
    (answer.Unparked token, (λ same. cc), with_status m thread status.Running, (refl, refl))
HasAnswer-return m thread status.Free = (answer.Misfit, (λ same. cc), m, (refl, refl))
HasAnswer-return m thread status.Running = (answer.Misfit, (λ same. cc), m, (refl, refl))
HasAnswer-return m thread (status.Waiting timed) = (answer.Misfit, (λ same. cc), m, (refl, refl))
HasAnswer-return m thread status.Late = (answer.Misfit, (λ same. cc), m, (refl, refl))

HasAnswer-resolve : (m : Machine) (thread : ℕ) (s : Status) → m.status thread ≡ s → IsConsistent m
    → (given : Answer) × (given ≢ answer.NoMemory) × (new : Machine) × IsResolve m thread s given new
HasAnswer-resolve m thread status.Late is (keys, right) =
    let at : StandsAt m thread (keys thread) = MatchBool-at_true _ _ (ap is_queued is) (right.standing thread) in (
      answer.TimedOut (keys thread) (is_last m thread (keys thread)),
      (λ same. cc),
      after_timeout m thread (keys thread),
      (keys thread, at, (refl, refl)),
    )
HasAnswer-resolve m thread (status.Taken token) is consistent = HasAnswer-return m thread (status.Taken token)
HasAnswer-resolve m thread status.Free is consistent = HasAnswer-return m thread status.Free
HasAnswer-resolve m thread status.Running is consistent = HasAnswer-return m thread status.Running
HasAnswer-resolve m thread (status.Waiting timed) is consistent = HasAnswer-return m thread (status.Waiting timed)

HasAnswer-unpark : (m : Machine) (op : Op) → HasAnswer m (Unpark op)
HasAnswer-unpark m (One key token) = (_, (λ same. cc), _, (refl, refl))
HasAnswer-unpark m (All key token) = (_, (λ same. cc), _, (refl, refl))
HasAnswer-unpark m (Filter key decisions token) = (_, (λ same. cc), _, (refl, refl))
HasAnswer-unpark m (Requeue from to op token) = (_, (λ same. cc), _, (refl, refl))

HasAnswer-acquire : (m : Machine) (thread key : ℕ) (b : Bool)
    → ((given : Answer) (new : Machine) → MatchBool b (IsAcquire m thread key given new) (Gives m answer.Misfit given new)
    → IsStep m (Acquire thread key) given new) → HasAnswer m (Acquire thread key)
HasAnswer-acquire m thread key true steps =
    let new = after_acquire m thread key in (answer.Recorded, (λ same. cc), new, steps answer.Recorded new refl)
HasAnswer-acquire m thread key false steps =
    (answer.Misfit, (λ same. cc), m, steps answer.Misfit m (refl, refl))

pub HasAnswer-step : EachStepHasAnAnswer
HasAnswer-step m Register consistent = HasAnswer-register m
HasAnswer-step m (Retire thread) consistent =
    HasAnswer-either m (Retire thread) (is_running (m.status thread)) _ _ _ _ (λ same. cc) (λ same. cc)
    (λ g new does. does)
HasAnswer-step m (Enter thread key true park_token timed) consistent =
    HasAnswer-either m (Enter thread key true park_token timed) (is_running (m.status thread)) _ _ _ _ (λ same. cc)
    (λ same. cc) (λ g new does. does)
HasAnswer-step m (Enter thread key false park_token timed) consistent =
    HasAnswer-either m (Enter thread key false park_token timed) (is_running (m.status thread)) _ _ _ _ (λ same. cc)
    (λ same. cc) (λ g new does. does)
HasAnswer-step m (Unpark op) consistent = HasAnswer-unpark m op
HasAnswer-step m (Deadline thread) consistent =
    HasAnswer-either m (Deadline thread) (awaits_deadline (m.status thread)) _ _ _ _ (λ same. cc) (λ same. cc)
    (λ g new does. does)
HasAnswer-step m (Resolve thread) consistent = HasAnswer-resolve m thread (m.status thread) refl consistent
HasAnswer-step m (Return thread) consistent = HasAnswer-return m thread (m.status thread)
HasAnswer-step m (Acquire thread key) consistent =
    HasAnswer-acquire m thread key (is_running (m.status thread)) (λ given new does. does)
HasAnswer-step m (Release thread key) consistent =
    HasAnswer-either m (Release thread key) (is_running (m.status thread)) _ _ _ _ (λ same. cc) (λ same. cc)
    (λ g new does. does)
HasAnswer-step m Trim consistent = (answer.Trimmed, (λ same. cc), m, refl)

-- two answers to one step
Gives-same_answer : {after after' new left : Machine} {expected given other : Answer} → Gives after expected given new
    → Gives after' expected other left → given ≡ other
Gives-same_answer (is, _) (other_is, _) = is ∙ sym other_is

least_free-unique : (m : Machine) (n k : ℕ) → IsLeastFree m n → IsLeastFree m k → n ≡ k
least_free-unique m n k least other =
    ⊎_elim (λ (same : n ≡ k). same)
    (λ (apart : n ≢ k). ⊎_elim (λ (low : n < k). absurd (other.least n low least.free))
    (λ (high : k ≤ n). absurd (least.least k (omega (arith, high, apart)) other.free)) (cases_lt n k))
    (cases_eq n k)

IsRegister-same_answer : (m : Machine) (given other : Answer) (new left : Machine) → IsRegister m given new
    → IsRegister m other left → given ≢ answer.NoMemory → other ≢ answer.NoMemory → given ≡ other
IsRegister-same_answer m (answer.Registered n) (answer.Registered k) new left (least, _) (other, _) _ _ =
    ap answer.Registered (least_free-unique m n k least other)
IsRegister-same_answer m (answer.Registered n) answer.Full new left (least, _) (full, _) _ _ =
    absurd (full n least.below least.free)
IsRegister-same_answer m answer.Full (answer.Registered n) new left (full, _) (least, _) _ _ =
    absurd (full n least.below least.free)
IsRegister-same_answer m answer.Full answer.Full new left _ _ _ _ = refl
IsRegister-same_answer m answer.NoMemory _ new left _ _ memory _ = absurd (memory refl)
IsRegister-same_answer m _ answer.NoMemory new left _ _ _ memory = absurd (memory refl)
IsRegister-same_answer m (answer.Registered n) _ new left _ none _ _ = absurd none
IsRegister-same_answer m answer.Full _ new left _ none _ _ = absurd none
IsRegister-same_answer m _ _ new left none _ _ _ = absurd none

-- one answer of a step that a test decides
Gives-either : (b : Bool) (fit unfit new left : Machine) (at_fit at_unfit given other : Answer)
    → MatchBool b (Gives fit at_fit given new) (Gives unfit at_unfit given new)
    → MatchBool b (Gives fit at_fit other left) (Gives unfit at_unfit other left) → given ≡ other
Gives-either true fit unfit new left at_fit at_unfit given other gives also = Gives-same_answer gives also
Gives-either false fit unfit new left at_fit at_unfit given other gives also = Gives-same_answer gives also

IsReturn-same_answer : (m : Machine) (thread : ℕ) (s : Status) (given other : Answer) (new left : Machine)
    → IsReturn m thread s given new → IsReturn m thread s other left → given ≡ other
IsReturn-same_answer m thread (status.Taken token) given other new left = Gives-same_answer
IsReturn-same_answer m thread _ given other new left = Gives-same_answer

-- a thread stands at one key
key-unique : (m : Machine) (number key other : ℕ) → StandsAt m number key → StandsAt m number other → key ≡ other
key-unique m number key other at also =
    ⊎_elim (λ (same : key ≡ other). same)
    (λ (apart : key ≢ other). absurd (let none = also.nowhere_else key apart in omega (arith, none, at.once)))
    (cases_eq key other)

IsResolve-same_answer : (m : Machine) (thread : ℕ) (s : Status) (given other : Answer) (new left : Machine)
    → IsResolve m thread s given new → IsResolve m thread s other left → given ≡ other
IsResolve-same_answer m thread status.Late given other new left = λ (key, at, (is, _)) (other_key, also, (other_is, _)).
    is ∙ ap (λ k. answer.TimedOut k (is_last m thread k)) (key-unique m thread key other_key at also) ∙ sym other_is
IsResolve-same_answer m thread s given other new left = IsReturn-same_answer m thread s given other new left

IsUnpark-same_answer : (m : Machine) (op : Op) (given other : Answer) (new left : Machine) → IsUnpark m op given new
    → IsUnpark m op other left → given ≡ other
IsUnpark-same_answer m (One key token) given other new left = Gives-same_answer
IsUnpark-same_answer m (All key token) given other new left = Gives-same_answer
IsUnpark-same_answer m (Filter key decisions token) given other new left = Gives-same_answer
IsUnpark-same_answer m (Requeue from to op token) given other new left = Gives-same_answer

IsAcquire-same_answer : (m : Machine) (thread key : ℕ) (given other : Answer) (new left : Machine)
    → IsAcquire m thread key given new → IsAcquire m thread key other left → given ≢ answer.NoMemory
    → other ≢ answer.NoMemory → given ≡ other
IsAcquire-same_answer m thread key answer.Recorded answer.Recorded new left _ _ _ _ = refl
IsAcquire-same_answer m thread key answer.NoMemory _ new left _ _ memory _ = absurd (memory refl)
IsAcquire-same_answer m thread key _ answer.NoMemory new left _ _ _ memory = absurd (memory refl)
IsAcquire-same_answer m thread key answer.Recorded _ new left _ none _ _ = absurd none
IsAcquire-same_answer m thread key _ _ new left none _ _ _ = absurd none

IsTrim-same_answer : (m : Machine) (given other : Answer) (new left : Machine) → IsTrim m given new
    → IsTrim m other left → given ≢ answer.NoMemory → other ≢ answer.NoMemory → given ≡ other
IsTrim-same_answer m answer.Trimmed answer.Trimmed new left _ _ _ _ = refl
IsTrim-same_answer m answer.NoMemory _ new left _ _ memory _ = absurd (memory refl)
IsTrim-same_answer m _ answer.NoMemory new left _ _ _ memory = absurd (memory refl)
IsTrim-same_answer m answer.Trimmed _ new left _ none _ _ = absurd none
IsTrim-same_answer m _ _ new left none _ _ _ = absurd none

pub IsStep-same_answer : NoOtherAnswer
IsStep-same_answer m Register given other new left consistent does also memory more =
    IsRegister-same_answer m given other new left does also memory more
IsStep-same_answer m (Retire thread) given other new left consistent does also _ _ =
    Gives-either (is_running (m.status thread)) _ _ new left _ _ given other does also
IsStep-same_answer m (Enter thread key true park_token timed) given other new left consistent does also _ _ =
    Gives-either (is_running (m.status thread)) _ _ new left _ _ given other does also
IsStep-same_answer m (Enter thread key false park_token timed) given other new left consistent does also _ _ =
    Gives-either (is_running (m.status thread)) _ _ new left _ _ given other does also
IsStep-same_answer m (Unpark op) given other new left consistent does also _ _ =
    IsUnpark-same_answer m op given other new left does also
IsStep-same_answer m (Deadline thread) given other new left consistent does also _ _ =
    Gives-either (awaits_deadline (m.status thread)) _ _ new left _ _ given other does also
IsStep-same_answer m (Resolve thread) given other new left consistent does also _ _ =
    IsResolve-same_answer m thread (m.status thread) given other new left does also
IsStep-same_answer m (Return thread) given other new left consistent does also _ _ =
    IsReturn-same_answer m thread (m.status thread) given other new left does also
IsStep-same_answer m (Acquire thread key) given other new left consistent does also memory more =
    MatchBool-both (is_running (m.status thread))
    (λ acquires too. IsAcquire-same_answer m thread key given other new left acquires too memory more)
    Gives-same_answer does also
IsStep-same_answer m (Release thread key) given other new left consistent does also _ _ =
    Gives-either (is_running (m.status thread)) _ _ new left _ _ given other does also
IsStep-same_answer m Trim given other new left consistent does also memory more =
    IsTrim-same_answer m given other new left does also memory more

-- memory is wanting at a registration, at an acquire and at a trim alone
Gives-not_memory : {after new : Machine} {expected : Answer} → expected ≢ answer.NoMemory
    → Gives after expected answer.NoMemory new → ⊥
Gives-not_memory other (is, _) = other (sym is)

Gives-neither : (b : Bool) (fit unfit new : Machine) (at_fit at_unfit : Answer) → at_fit ≢ answer.NoMemory
    → at_unfit ≢ answer.NoMemory → MatchBool b (Gives fit at_fit answer.NoMemory new)
    (Gives unfit at_unfit answer.NoMemory new) → ⊥
Gives-neither true fit unfit new at_fit at_unfit other also gives = Gives-not_memory other gives
Gives-neither false fit unfit new at_fit at_unfit other also gives = Gives-not_memory also gives

IsReturn-not_memory : (m : Machine) (thread : ℕ) (s : Status) (new : Machine) → IsReturn m thread s answer.NoMemory new
    → ⊥
IsReturn-not_memory m thread (status.Taken token) new = Gives-not_memory (λ same. cc)
IsReturn-not_memory m thread _ new = Gives-not_memory (λ same. cc)

IsResolve-not_memory : (m : Machine) (thread : ℕ) (s : Status) (new : Machine)
    → IsResolve m thread s answer.NoMemory new → ⊥
IsResolve-not_memory m thread status.Late new = λ (key, at, gives). Gives-not_memory (λ same. cc) gives
IsResolve-not_memory m thread s new = IsReturn-not_memory m thread s new

IsUnpark-not_memory : (m : Machine) (op : Op) (new : Machine) → IsUnpark m op answer.NoMemory new → ⊥
IsUnpark-not_memory m (One key token) new = Gives-not_memory (λ same. cc)
IsUnpark-not_memory m (All key token) new = Gives-not_memory (λ same. cc)
IsUnpark-not_memory m (Filter key decisions token) new = Gives-not_memory (λ same. cc)
IsUnpark-not_memory m (Requeue from to op token) new = Gives-not_memory (λ same. cc)

abbrev IsOpen : Machine → Step → Machine → Type 0
IsOpen m step new = MayWantMemory m step × (new ≡ m)

IsOpen-from : (m : Machine) (step : Step) (new : Machine) → IsStep m step answer.NoMemory new → IsOpen m step new
IsOpen-from m Register new opens = opens
IsOpen-from m (Retire thread) new does =
    absurd (Gives-neither (is_running (m.status thread)) _ _ new _ _ (λ same. cc) (λ same. cc) does)
IsOpen-from m (Enter thread key true park_token timed) new does =
    absurd (Gives-neither (is_running (m.status thread)) _ _ new _ _ (λ same. cc) (λ same. cc) does)
IsOpen-from m (Enter thread key false park_token timed) new does =
    absurd (Gives-neither (is_running (m.status thread)) _ _ new _ _ (λ same. cc) (λ same. cc) does)
IsOpen-from m (Unpark op) new does = absurd (IsUnpark-not_memory m op new does)
IsOpen-from m (Deadline thread) new does =
    absurd (Gives-neither (awaits_deadline (m.status thread)) _ _ new _ _ (λ same. cc) (λ same. cc) does)
IsOpen-from m (Resolve thread) new does = absurd (IsResolve-not_memory m thread (m.status thread) new does)
IsOpen-from m (Return thread) new does = absurd (IsReturn-not_memory m thread (m.status thread) new does)
IsOpen-from m (Acquire thread key) new does =
    MatchBool-either (is_running (m.status thread)) (λ runs same. (Running-from (m.status thread) runs, same))
    (λ _ gives. absurd (Gives-not_memory (λ same. cc) gives)) does
IsOpen-from m (Release thread key) new does =
    absurd (Gives-neither (is_running (m.status thread)) _ _ new _ _ (λ same. cc) (λ same. cc) does)
IsOpen-from m Trim new same = (tt, same)

IsStep-open : (m : Machine) (step : Step) (new : Machine) → IsOpen m step new → IsStep m step answer.NoMemory new
IsStep-open m Register new opens = opens
IsStep-open m (Acquire thread key) new (runs, same) =
    MatchBool-from (is_running (m.status thread)) _ _ (λ _. same)
    (λ stands. absurd (false≢true (sym stands ∙ ap is_running runs)))
IsStep-open m Trim new (_, same) = same
IsStep-open m _ new (none, _) = absurd none

pub memory-open : OnlyMemoryIsOpen
memory-open m step new = (IsOpen-from m step new, IsStep-open m step new)
