-- What each step leaves of a machine.
use Rattle.std.proofs.Common.{◌≡◌, ℕ, ap}
use Rattle.lot_machine.specs.declared.status.Status.{Status}
use Rattle.lot_machine.specs.declared.status.Status.TheVariants as status
use Rattle.lot_machine.specs.declared.step.Answer.{Answer}
use Rattle.lot_machine.specs.declared.step.Answer.TheVariants as answer
use Rattle.lot_machine.specs.declared.step.Op.{Op}
use Rattle.lot_machine.specs.declared.step.Op.TheVariants.{One, All, Filter, Requeue}
use Rattle.lot_machine.specs.declared.step.Step.{Step}
use Rattle.lot_machine.specs.declared.step.Step.TheVariants.{Register, Retire, Enter, Unpark, Deadline}
use Rattle.lot_machine.specs.declared.step.Step.TheVariants.{Resolve, Return, Acquire, Release, Trim}
use Rattle.lot_machine.specs.Machine.{Machine}
use Rattle.lot_machine.specs.Status.{is_running, awaits_deadline}
use Rattle.lot_machine.specs.Steps.{IsRegister, IsUnpark, IsReturn, IsResolve, IsAcquire, IsStep}
use Rattle.lot_machine.proofs.StepLemmas.{MatchBool-either, IsTrim-unchanged}

-- a step does not change for how many threads a machine is
module _ (m : Machine) (given : Answer) (next : Machine) where
  same : next ≡ m → next.max_threads ≡ m.max_threads
  same is = ap (λ (n : Machine). n.max_threads) is

  register : (a : Answer) → IsRegister m a next → next.max_threads ≡ m.max_threads
  register (answer.Registered number) (_, is) = ap (λ (n : Machine). n.max_threads) is
  register answer.Full (_, is) = same is
  register answer.NoMemory (_, is) = same is
  register _ none = absurd none

  unpark : (op : Op) → IsUnpark m op given next → next.max_threads ≡ m.max_threads
  unpark (One key token) (_, is) = ap (λ (n : Machine). n.max_threads) is
  unpark (All key token) (_, is) = ap (λ (n : Machine). n.max_threads) is
  unpark (Filter key decisions token) (_, is) = ap (λ (n : Machine). n.max_threads) is
  unpark (Requeue from to op token) (_, is) = ap (λ (n : Machine). n.max_threads) is

  returns : (thread : ℕ) (s : Status) → IsReturn m thread s given next → next.max_threads ≡ m.max_threads
  returns thread (status.Taken token) (_, is) = ap (λ (n : Machine). n.max_threads) is
  returns thread _ (_, is) = same is

  resolve : (thread : ℕ) (s : Status) → IsResolve m thread s given next → next.max_threads ≡ m.max_threads
  resolve thread status.Late = λ (key, _, (_, is)). ap (λ (n : Machine). n.max_threads) is
  resolve thread s = returns thread s

  acquire : (thread key : ℕ) (a : Answer) → IsAcquire m thread key a next → next.max_threads ≡ m.max_threads
  acquire thread key answer.Recorded is = ap (λ (n : Machine). n.max_threads) is
  acquire thread key answer.NoMemory is = same is
  acquire thread key _ none = absurd none

  either : (step : Step) → IsStep m step given next → next.max_threads ≡ m.max_threads
  either Register = register given
  either (Retire thread) =
      MatchBool-either (is_running (m.status thread)) (λ _ (_, is). ap (λ (n : Machine). n.max_threads) is)
      (λ _ (_, is). same is)
  either (Enter thread key valid park_token timed) =
      MatchBool-either (is_running (m.status thread))
      (λ _. MatchBool-either valid (λ _ (_, is). ap (λ (n : Machine). n.max_threads) is) (λ _ (_, is). same is))
      (λ _ (_, is). same is)
  either (Unpark op) = unpark op
  either (Deadline thread) =
      MatchBool-either (awaits_deadline (m.status thread)) (λ _ (_, is). ap (λ (n : Machine). n.max_threads) is)
      (λ _ (_, is). same is)
  either (Resolve thread) = resolve thread (m.status thread)
  either (Return thread) = returns thread (m.status thread)
  either (Acquire thread key) =
      MatchBool-either (is_running (m.status thread)) (λ _. acquire thread key given) (λ _ (_, is). same is)
  either (Release thread key) =
      MatchBool-either (is_running (m.status thread)) (λ _ (_, is). ap (λ (n : Machine). n.max_threads) is)
      (λ _ (_, is). same is)
  either Trim = λ is. same (IsTrim-unchanged m given next is)

pub max_threads-step : (m : Machine) (step : Step) (given : Answer) (next : Machine) → IsStep m step given next
    → next.max_threads ≡ m.max_threads
max_threads-step m step given next = either m given next step
