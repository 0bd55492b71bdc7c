-- What a test promises: of every schedule of its threads.
use Rattle.std.specs.Prelude.{◌≡◌, ℕ, false, List, ◌∷◌, [], replicate, None}
use Rattle.lot_litmus.specs.declared.state.Progress.{Progress}
use Rattle.lot_litmus.specs.declared.test.Test.{Test}
use Rattle.lot_litmus.specs.Configuration.{Configuration, first_machine}
use Rattle.lot_litmus.specs.Steps.{Outcome, Blocked, Goes, Fails, stepped, unended}

-- a thread at its beginning
abbrev pub fresh : Progress
fresh = record { at = 0; locals = replicate 12 0; locked = replicate 4 false; inside = None }

-- the test at its beginning: six threads run, and nobody waits
abbrev pub first_of : Test → Configuration
first_of test = record { machine = first_machine 6; words = test.words; threads = replicate 6 fresh }

-- threads take steps by turns, in this order; one that cannot is passed by
abbrev pub after_step : (Configuration → Outcome) → Configuration → Outcome → Outcome
after_step go_on c Blocked = go_on c
after_step go_on c (Goes next) = go_on next
after_step go_on c (Fails fault) = Fails fault

abbrev pub run : Test → Configuration → List ℕ → Outcome
run test c [] = Goes c
run test c (thread ∷ threads) = after_step (λ next. run test next threads) c (stepped test c thread)

-- all threads have ended
abbrev pub HasEnded : Test → Outcome → Type 0
HasEnded test (Goes c) = unended test.codes c.threads ≡ 0
HasEnded test _ = ⊥

-- from here they all can end
abbrev pub CanEnd : Test → Outcome → Type 0
CanEnd test (Goes c) = (rest : List ℕ) × HasEnded test (run test c rest)
CanEnd test _ = ⊥

-- from here they never all end, however they go on
abbrev pub IsStuck : Test → Outcome → Type 0
IsStuck test (Goes c) = (rest : List ℕ) → HasEnded test (run test c rest) → ⊥
IsStuck test _ = ⊥

-- on every schedule there is no fault, and wherever it leads, all threads can still come to their ends
abbrev pub IsSafe : Test → Type 0
IsSafe test = (schedule : List ℕ) → CanEnd test (run test (first_of test) schedule)
