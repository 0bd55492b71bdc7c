-- Runs of steps of any kind, and that parks and outcomes alternate in them: each kind of step has its states, its
-- answers and the relation between a state, a step, its answer and the state after it.
use Rattle.std.specs.Prelude.{◌≡◌, Bool, true, false, MatchBool, ⊤, List, ◌∷◌, []}

-- a run: a list of steps with an answer each, in which each step begins where the one before ended
abbrev pub IsRun : {State Step Answer : Type 0} (is_step : State → Step → Answer → State → Type 0) → State
    → List Step → List Answer → State → Type 0
IsRun is_step state [] [] last = state ≡ last
IsRun is_step state [] (_ ∷ _) last = ⊥
IsRun is_step state (_ ∷ _) [] last = ⊥
IsRun {State} is_step state (step ∷ steps) (given ∷ answers) last = (next : State) × is_step state step given next
    × IsRun is_step next steps answers last

-- the parks of a thread and their outcomes take turns, where it is parked or not before the first step: it parks only
-- where it is not parked, and has an outcome only where it is
abbrev pub OutcomesAlternate : {Step Answer : Type 0} (parks ends_park : Step → Answer → Bool) → Bool → List Step
    → List Answer → Type 0
OutcomesAlternate parks ends_park parked [] [] = ⊤
OutcomesAlternate parks ends_park parked [] (_ ∷ _) = ⊥
OutcomesAlternate parks ends_park parked (_ ∷ _) [] = ⊥
OutcomesAlternate parks ends_park parked (step ∷ steps) (given ∷ answers) =
    MatchBool (parks step given) ((parked ≡ false) × OutcomesAlternate parks ends_park true steps answers)
    (MatchBool (ends_park step given) ((parked ≡ true) × OutcomesAlternate parks ends_park false steps answers)
    (OutcomesAlternate parks ends_park parked steps answers))
