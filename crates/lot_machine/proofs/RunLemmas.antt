-- Runs of steps of any kind that go on.
use Rattle.std.proofs.Common.{List, [], ◌∷◌, ◌++◌, refl, sym, subst}
use Rattle.lot_machine.specs.Run.{IsRun}

-- a run, and one step more
pub IsRun-push : {State Step Answer : Type 0} (is_step : State → Step → Answer → State → Type 0) (state : State)
    (steps : List Step) (answers : List Answer) (now last : State) (step : Step) (given : Answer)
    → IsRun is_step state steps answers now → is_step now step given last
    → IsRun is_step state (steps ++ step ∷ []) (answers ++ given ∷ []) last
IsRun-push is_step state [] [] now last step given same next =
    (last, subst (λ n. is_step n step given last) (sym same) next, refl)
IsRun-push is_step state [] (_ ∷ _) now last step given ran next = absurd ran
IsRun-push is_step state (_ ∷ _) [] now last step given ran next = absurd ran
IsRun-push is_step state (first ∷ steps) (answer ∷ answers) now last step given (after, does, rest) next =
    (after, does, IsRun-push is_step after steps answers now last step given rest next)
