-- What the threads of a pool give, one after another.
use Rattle.std.proofs.Common.{◌≡◌, ℕ, List, ◌∷◌, ◌++◌, length, All, Result, Ok, IfOk, Vec, Global, subst, arith}
use Rattle.std.specs.Fork.{GivesEach}
use Rattle.std.proofs.lemmas.List.Elements.{All-append, All-head, All-tail}
use denote.Param.Members.{Shared}

-- what every call promises holds of all that the calls gave
pub all_promised : {F R : Type 0} (g : Shared F (ℕ × Unit {0}) R) (f : F) (count : ℕ) (given : List R) (Q : R → Type 0)
    → ((place : ℕ) (r : R) → g.post f (place, tt) r → Q r) → length given ≡ count → GivesEach g f count given → All Q given
all_promised g f count given Q promised same each k d lt =
    promised k _ (each k d (omega (arith, same))).1.met

-- each element that a thread gives has P
abbrev pub GivesAll : {D E : Type 0} → (D → Type 0) → Result (Vec D Global) E → Type 0
GivesAll P r = IfOk r (λ given. All P given.items)

-- the list of one thread is appended
pub one_more : {D E : Type 0} (P : D → Type 0) (all whole : List D) (given rest : List (Result (Vec D Global) E))
    (r : Result (Vec D Global) E) (some : Vec D Global)
    → All P all → All (GivesAll P) given → given ≡ r ∷ rest → r ≡ Ok some → whole ≡ all ++ some.items
    → All P whole × All (GivesAll P) rest
one_more P all whole given rest r some of_all of_given first is_ok joined =
    let of_both : All (GivesAll P) (r ∷ rest) = subst (All (GivesAll P)) first of_given in
    let of_some : All P some.items = subst (GivesAll P) is_ok (All-head (GivesAll P) r rest of_both) in
    (rw joined (All-append P all some.items of_all of_some), All-tail (GivesAll P) r rest of_both)
