-- Runs of events, in parts.
use Rattle.std.proofs.Common.{List, [], ◌∷◌, ◌++◌, refl, sym, subst}
use Rattle.lot_machine.specs.Machine.{Machine, IsConsistent}
use Rattle.lot_machine.specs.Run.{IsRun}
use Rattle.lot_machine.specs.Steps.{IsStep}
use Rattle.lot_machine.proofs.StepLemmas.{IsConsistent-step}
use Rattle.lot_history.specs.declared.event.Event.{Event}
use Rattle.lot_history.specs.History.{steps_of, answers_of}

-- a run of events from a machine
abbrev pub Runs : Machine → List Event → Machine → Type 0
Runs m events last = IsRun IsStep m (steps_of events) (answers_of events) last

-- its two parts
pub parts : (m : Machine) (events more : List Event) (last : Machine) → Runs m (events ++ more) last
    → (mid : Machine) × Runs m events mid × Runs mid more last
parts m [] more last run = (m, refl, run)
parts m (event ∷ events) more last (next, does, rest) =
    let tail = parts next events more last rest in (tail.0, (next, does, tail.1), tail.2)

-- and put together
pub joined : (m : Machine) (events more : List Event) (mid last : Machine) → Runs m events mid → Runs mid more last
    → Runs m (events ++ more) last
joined m [] more mid last same rest = subst (λ n. Runs n more last) (sym same) rest
joined m (event ∷ events) more mid last (next, does, run) rest = (next, does, joined next events more mid last run rest)

-- it keeps machines consistent
pub IsConsistent-run : (m : Machine) (events : List Event) (last : Machine) → IsConsistent m → Runs m events last
    → IsConsistent last
IsConsistent-run m [] last consistent same = subst IsConsistent same consistent
IsConsistent-run m (event ∷ events) last consistent (next, does, rest) =
    IsConsistent-run next events last (IsConsistent-step m event.step event.answer next consistent does) rest
