use Rattle.std.proofs.Common.{◌∷◌, take}
use Rattle.std.specs.Prelude.{decimal}
use Rattle.std.specs.List.{flat_map}
use Rattle.std.specs.Io.KnownBytes.{Appends}
use Rattle.lot_script.proofs.script.print.put_numbers.Given as goal

-- the numbers so far are written
abbrev pub invariant-loop-number : goal.invariant-loop-number
invariant-loop-number g l = Appends (g.W.Write.contents l.fn.output) (g.W.Write.contents l.output)
    (flat_map (λ n. 32 ∷ decimal n) (take l.number-index l.numbers))
