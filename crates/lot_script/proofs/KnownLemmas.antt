-- Texts that are written piece by piece.
use Rattle.std.proofs.Common.{ℕ, List, ◌++◌, Option, sym, ap, ◌∙◌, append_assoc}
use Rattle.std.specs.Prelude.{Result, Ok, Err, IsErr}
use Rattle.std.specs.Io.KnownBytes.{Appends}
use Rattle.std.proofs.KnownBytes.{Appends-trans}
use Rattle.std.proofs.lemmas.Result.{MatchResult-from_err}
use Rattle.lot_script.specs.Private.Turns.{AppendsFront, Writes}

-- a beginning of a text is one of a longer text
AppendsFront-longer : (u v : Option (List ℕ)) (a b : List ℕ) → AppendsFront u v a → AppendsFront u v (a ++ b)
AppendsFront-longer u v a b wrote = record {
  front = wrote.front;
  rest = wrote.rest ++ b;
  cut = ap (λ (t : List ℕ). t ++ b) wrote.cut ∙ append_assoc wrote.front wrote.rest b;
  appended = wrote.appended;
}

-- a text, and then a beginning of the next
AppendsFront-then : (u v w : Option (List ℕ)) (a b : List ℕ) → Appends u v a → AppendsFront v w b
    → AppendsFront u w (a ++ b)
AppendsFront-then u v w a b all wrote = record {
  front = a ++ wrote.front;
  rest = wrote.rest;
  cut = ap (λ (t : List ℕ). a ++ t) wrote.cut ∙ sym (append_assoc a wrote.front wrote.rest);
  appended = Appends-trans u v w a wrote.front all wrote.appended;
}

-- the first of two texts could not be written
pub Writes-stop : {E : Type 0} (r : Result (Unit {0}) E) (u v : Option (List ℕ)) (a b : List ℕ) → IsErr r
    → AppendsFront u v a → Writes u v r (a ++ b)
Writes-stop r u v a b is wrote = MatchResult-from_err r _ _ is (λ _. AppendsFront-longer u v a b wrote)

-- the first could, and so the second decides
pub Writes-then : {E : Type 0} (r : Result (Unit {0}) E) (u v w : Option (List ℕ)) (a b : List ℕ) → Appends u v a
    → Writes v w r b → Writes u w r (a ++ b)
Writes-then (Ok _) u v w a b all wrote = Appends-trans u v w a b all wrote
Writes-then (Err _) u v w a b all wrote = AppendsFront-then u v w a b all wrote
