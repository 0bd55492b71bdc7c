-- What clauses say of a `Once`.
use Rattle.lock_words.specs.Onces.{IsBegunAt}
use Rattle.parking_lot.specs.declared.once.OnceIn.{OnceIn}
use Rattle.lock_words.specs.declared.beginning.Begun.{Begun}

-- the right was given by this once
abbrev pub IsBegunOf : {P : Type 0} → OnceIn P → Begun → Type 0
IsBegunOf once begun = IsBegunAt once.beginning begun
