-- Copies of steps. The value of a list of decisions tells its address and its capacity, so a copied list is another
-- value, with the same decisions in it.
use Rattle.std.specs.Prelude.{◌≡◌, List, Vec}
use Rattle.std.specs.List.{AllZip}
use Rattle.std.specs.declared.alloc.Global.{Global}
use Rattle.lot_base.specs.declared.token.FilterOp.{FilterOp}
use Rattle.lot_machine.specs.declared.step.Op.{Op}
use Rattle.lot_machine.specs.declared.step.Op.TheVariants.{One, All, Filter, Requeue}
use Rattle.lot_machine.specs.declared.step.Step.{Step}
use Rattle.lot_machine.specs.declared.step.Step.TheVariants.{Register, Retire, Enter, Unpark, Deadline}
use Rattle.lot_machine.specs.declared.step.Step.TheVariants.{Resolve, Return, Acquire, Release, Trim}

-- a copy of an operation
abbrev pub IsCopyOfOp : Op → Op → Type 0
IsCopyOfOp (Filter key decisions token) copy =
    (others : Vec FilterOp Global) × (others.items ≡ decisions.items) × (copy ≡ Filter key others token)
IsCopyOfOp (One key token) copy = copy ≡ One key token
IsCopyOfOp (All key token) copy = copy ≡ All key token
IsCopyOfOp (Requeue from to op token) copy = copy ≡ Requeue from to op token

-- a step, and a list of steps
abbrev pub IsCopyOf : Step → Step → Type 0
IsCopyOf (Unpark op) copy = (other : Op) × IsCopyOfOp op other × (copy ≡ Unpark other)
IsCopyOf Register copy = copy ≡ Register
IsCopyOf (Retire thread) copy = copy ≡ Retire thread
IsCopyOf (Enter thread key valid park_token timed) copy = copy ≡ Enter thread key valid park_token timed
IsCopyOf (Deadline thread) copy = copy ≡ Deadline thread
IsCopyOf (Resolve thread) copy = copy ≡ Resolve thread
IsCopyOf (Return thread) copy = copy ≡ Return thread
IsCopyOf (Acquire thread key) copy = copy ≡ Acquire thread key
IsCopyOf (Release thread key) copy = copy ≡ Release thread key
IsCopyOf Trim copy = copy ≡ Trim

abbrev pub AreCopies : List Step → List Step → Type 0
AreCopies steps copies = AllZip IsCopyOf steps copies
