-- Which steps fit, and which never lack room.
use Rattle.std.proofs.Common.{◌≡◌, ◌≢◌, ◌↔◌, ℕ, ◌≤◌, Bool, true, false, MatchBool, refl, sym, ◌∙◌, subst, arith}
use Rattle.std.proofs.lemmas.Bool.{false≢true}
use Rattle.lot_machine.specs.declared.status.Status.{Status}
use Rattle.lot_machine.specs.declared.status.Status.TheVariants as status
use Rattle.lot_machine.specs.declared.step.Answer.{Answer}
use Rattle.lot_machine.specs.declared.step.Answer.TheVariants as answer
use Rattle.lot_machine.specs.declared.step.Op.TheVariants.{One, All, Filter, Requeue}
use Rattle.lot_machine.specs.declared.step.Step.TheVariants.{Register, Retire, Enter, Unpark, Deadline}
use Rattle.lot_machine.specs.declared.step.Step.TheVariants.{Resolve, Return, Acquire, Release, Trim}
use Rattle.lot_machine.specs.Machine.{Machine}
use Rattle.lot_machine.specs.Status.{is_parked, is_taken, can_resolve, awaits_deadline}
use Rattle.lot_machine.specs.Steps.{Gives, IsRegister, IsReturn, IsResolve, IsAcquire, IsTrim}
use Rattle.lot_simulator.specs.JournalLaws.{MisfitsDoNotFit, ParksHaveEntries, EndsHaveRoom}
use Rattle.lot_simulator.proofs.JournalLemmas.{IsBacked}
use Rattle.lot_simulator.proofs.JournalRecordLemmas.{Replays-backing}

module _ (m : Machine) (given : Answer) (new : Machine) where
  -- a step that fits has another answer
  other : given ≢ answer.Misfit → (true ≡ false) ↔ (given ≡ answer.Misfit)
  other answered = (λ is. absurd (false≢true (sym is)), λ misfit. absurd (answered misfit))

  answers : {after : Machine} {expected : Answer} → expected ≢ answer.Misfit → Gives after expected given new
      → given ≢ answer.Misfit
  answers some (is, _) misfit = some (sym is ∙ misfit)

  by_fit : (fit : Bool) {Does : Type 0} → (Does → given ≢ answer.Misfit) → MatchBool fit Does (Gives m answer.Misfit given new)
      → (fit ≡ false) ↔ (given ≡ answer.Misfit)
  by_fit true answered does = other (answered does)
  by_fit false answered (is, _) = (λ _. is, λ _. refl)

  by_register : IsRegister m given new → given ≢ answer.Misfit
  by_register does misfit = subst (λ told. IsRegister m told new) misfit does

  by_acquire : (thread key : ℕ) → IsAcquire m thread key given new → given ≢ answer.Misfit
  by_acquire thread key does misfit = subst (λ told. IsAcquire m thread key told new) misfit does

  by_trim : IsTrim m given new → given ≢ answer.Misfit
  by_trim does misfit = subst (λ told. IsTrim m told new) misfit does

  by_return : (thread : ℕ) (now : Status) → IsReturn m thread now given new
      → (is_taken now ≡ false) ↔ (given ≡ answer.Misfit)
  by_return thread (status.Taken token) does = other (answers (λ same. cc) does)
  by_return thread status.Free (is, _) = (λ _. is, λ _. refl)
  by_return thread status.Running (is, _) = (λ _. is, λ _. refl)
  by_return thread (status.Waiting timed) (is, _) = (λ _. is, λ _. refl)
  by_return thread status.Late (is, _) = (λ _. is, λ _. refl)

  by_resolve : (thread : ℕ) (now : Status) → IsResolve m thread now given new
      → (can_resolve now ≡ false) ↔ (given ≡ answer.Misfit)
  by_resolve thread status.Late (key, stands, gives) = other (answers (λ same. cc) gives)
  by_resolve thread (status.Taken token) does = other (answers (λ same. cc) does)
  by_resolve thread status.Free (is, _) = (λ _. is, λ _. refl)
  by_resolve thread status.Running (is, _) = (λ _. is, λ _. refl)
  by_resolve thread (status.Waiting timed) (is, _) = (λ _. is, λ _. refl)

pub misfits_do_not_fit : MisfitsDoNotFit
misfits_do_not_fit m Register given new does = other m given new (by_register m given new does)
misfits_do_not_fit m (Retire thread) given new does = by_fit m given new _ (answers m given new (λ same. cc)) does
misfits_do_not_fit m (Enter thread key true park_token timed) given new does =
    by_fit m given new _ (answers m given new (λ same. cc)) does
misfits_do_not_fit m (Enter thread key false park_token timed) given new does =
    by_fit m given new _ (answers m given new (λ same. cc)) does
misfits_do_not_fit m (Unpark (One key token)) given new does =
    other m given new (answers m given new (λ same. cc) does)
misfits_do_not_fit m (Unpark (All key token)) given new does =
    other m given new (answers m given new (λ same. cc) does)
misfits_do_not_fit m (Unpark (Filter key decisions token)) given new does =
    other m given new (answers m given new (λ same. cc) does)
misfits_do_not_fit m (Unpark (Requeue from to op token)) given new does =
    other m given new (answers m given new (λ same. cc) does)
misfits_do_not_fit m (Deadline thread) given new does = by_fit m given new _ (answers m given new (λ same. cc)) does
misfits_do_not_fit m (Resolve thread) given new does = by_resolve m given new thread (m.status thread) does
misfits_do_not_fit m (Return thread) given new does = by_return m given new thread (m.status thread) does
misfits_do_not_fit m (Acquire thread key) given new does = by_fit m given new _ (by_acquire m given new thread key) does
misfits_do_not_fit m (Release thread key) given new does = by_fit m given new _ (answers m given new (λ same. cc)) does
misfits_do_not_fit m Trim given new does = other m given new (by_trim m given new does)

-- what is set aside for a thread of this status
IsBacked-parked : (s : Status) (entries : ℕ) → IsBacked s entries → is_parked s ≡ true → 1 ≤ entries
IsBacked-parked (status.Waiting true) entries two parked = omega (arith, two)
IsBacked-parked (status.Waiting false) entries some parked = some
IsBacked-parked status.Late entries some parked = some
IsBacked-parked (status.Taken token) entries some parked = some
IsBacked-parked status.Free entries any parked = absurd (false≢true parked)
IsBacked-parked status.Running entries any parked = absurd (false≢true parked)

IsBacked-timed : (s : Status) (entries : ℕ) → IsBacked s entries → awaits_deadline s ≡ true → 2 ≤ entries
IsBacked-timed (status.Waiting true) entries two waits = omega (arith, two)
IsBacked-timed (status.Waiting false) entries some waits = absurd (false≢true waits)
IsBacked-timed status.Late entries some waits = absurd (false≢true waits)
IsBacked-timed (status.Taken token) entries some waits = absurd (false≢true waits)
IsBacked-timed status.Free entries any waits = absurd (false≢true waits)
IsBacked-timed status.Running entries any waits = absurd (false≢true waits)

pub parks_have_entries : ParksHaveEntries
parks_have_entries max_threads journal m number ran =
    let backed = (Replays-backing max_threads journal m ran).backed number in
    (IsBacked-parked (m.status number) _ backed, IsBacked-timed (m.status number) _ backed)

pub ends_have_room : EndsHaveRoom
ends_have_room state thread is =
    let room = is.room in (
      λ lacks. absurd (let short = lacks.1 in omega (arith, room, short)),
      λ lacks. absurd (let short = lacks.1 in omega (arith, room, short)),
      λ lacks. absurd (let short = lacks.1 in omega (arith, room, short)),
    )
