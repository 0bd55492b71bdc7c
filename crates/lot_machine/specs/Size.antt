-- The size of a lot's table: how it follows the threads that register, and trims.
use Rattle.std.specs.Prelude.{◌≡◌, ℕ, ◌+◌, ◌-◌, ◌*◌, ◌/◌, ◌<◌, ◌≤◌, max, min, List, ◌∷◌, []}
use Rattle.std.specs.Int.{IsPowerOfTwo}
use Rattle.lot_machine.specs.declared.step.Answer.{Answer}
use Rattle.lot_machine.specs.declared.step.Answer.TheVariants.{Registered, NoMemory, Retired, Trimmed}
use Rattle.lot_machine.specs.declared.step.Step.{Step}
use Rattle.lot_machine.specs.declared.step.Step.TheVariants.{Register, Trim}

-- the least power of two that is not below n, where n is at least 1
pub record IsNextPowerOfTwo (n power : ℕ) : Type 0 where
  pub is_power : IsPowerOfTwo power
  pub not_below : n ≤ power
  pub least : power / 2 < n

-- the size of a table after a registration that made so many threads: it has at least three buckets for each
pub record IsSizeFor (threads old new : ℕ) : Type 0 where
  pub kept : 3 * threads ≤ old → new ≡ old
  pub grown : old < 3 * threads → IsNextPowerOfTwo (3 * threads) new

-- the least size of a table for so many threads, counted as three where they are fewer
abbrev pub IsLeastSize : ℕ → ℕ → Type 0
IsLeastSize threads least = IsNextPowerOfTwo (3 * max threads 3) least

-- the size of a table after a trim, where so many threads are registered: the least one, or its own if that is smaller
abbrev pub IsTrimmedSize : ℕ → ℕ → ℕ → Type 0
IsTrimmedSize threads old new = (least : ℕ) × IsLeastSize threads least × (new ≡ min least old)

-- a table that a trim makes smaller
abbrev pub IsTooLarge : ℕ → ℕ → Type 0
IsTooLarge threads size = (least : ℕ) × IsLeastSize threads least × (least < size)

-- how many threads are registered after a step with this answer
abbrev pub threads_after : ℕ → Answer → ℕ
threads_after threads (Registered _) = threads + 1
threads_after threads Retired = threads - 1
threads_after threads _ = threads

-- the size after a step with this answer, where so many threads are registered then: a registration and a trim alone
-- change it, and a trim wants no memory where it would not
abbrev pub IsSizeAfter : Step → Answer → ℕ → ℕ → ℕ → Type 0
IsSizeAfter Register (Registered _) threads old new = IsSizeFor threads old new
IsSizeAfter Trim Trimmed threads old new = IsTrimmedSize threads old new
IsSizeAfter Trim NoMemory threads old new = IsTooLarge threads old × (new ≡ old)
IsSizeAfter _ _ threads old new = new ≡ old

-- the size after steps with these answers, where so many threads were registered before
abbrev pub IsSizeAfterRun : ℕ → List Step → List Answer → ℕ → ℕ → Type 0
IsSizeAfterRun threads [] [] old new = new ≡ old
IsSizeAfterRun threads [] (_ ∷ _) old new = ⊥
IsSizeAfterRun threads (_ ∷ _) [] old new = ⊥
IsSizeAfterRun threads (step ∷ steps) (given ∷ answers) old new =
    let now : ℕ = threads_after threads given in
    (next : ℕ) × IsSizeAfter step given now old next × IsSizeAfterRun now steps answers next new
