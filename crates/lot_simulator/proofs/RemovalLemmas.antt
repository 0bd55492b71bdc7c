-- One thread leaves a list: of nodes, and of their waiters.
use Rattle.std.proofs.Common.{◌≡◌, ◌≢◌, ℕ, ◌==◌, Bool, true, false, not, if◌then◌else◌, IsSomeAnd, find, Some, List, []}
use Rattle.std.proofs.Common.{◌∷◌, map, refl, sym, ap, ◌∙◌, subst, ⊎_elim, arith, IsSome, MatchOption, None, Option}
use Rattle.std.proofs.lemmas.Bool.{cases_eq, eq-eqb, ne_eqb, cond-true, cond-false}
use Rattle.lot_base.specs.NodeFields.{NodeFields}
use Rattle.lot_base.specs.Waiting.{has_any, without_first}
use Rattle.lot_base.specs.NodeLists.{has_number}
use Rattle.lot_machine.specs.Machine.{Waiter, times_in}
use Rattle.lot_simulator.specs.Represents.{waiter_of}
use Rattle.lot_machine.proofs.SplitLemmas.{has_any-map}
use Rattle.lot_machine.proofs.WaiterLemmas.{times_in-append, times_in-not_own}

-- the waiters of the nodes that are left are those that are left of the waiters
pub without_first-map : (number : ℕ) (nodes : List NodeFields)
    → map waiter_of (without_first (has_number number) nodes)
    ≡ without_first (λ waiter. waiter.number == number) (map waiter_of nodes)
without_first-map number [] = refl
without_first-map number (node ∷ nodes) = chosen (node.number == number) (without_first-map number nodes)
  where
    chosen : (b : Bool) → map waiter_of (without_first (has_number number) nodes)
        ≡ without_first (λ waiter. waiter.number == number) (map waiter_of nodes)
        → map waiter_of (if b then nodes else node ∷ without_first (has_number number) nodes)
        ≡ (if b then map waiter_of nodes else waiter_of node ∷ without_first (λ waiter. waiter.number == number)
        (map waiter_of nodes))
    chosen true rest = refl
    chosen false rest = ap (λ waiters. waiter_of node ∷ waiters) rest

-- the node of a thread that stands among the waiters is found, and is its own
pub find-standing : (number : ℕ) (nodes : List NodeFields) → times_in number (map waiter_of nodes) ≡ 1
    → IsSomeAnd (find (has_number number) nodes) (λ node. node.number ≡ number)
find-standing number [] once = absurd (omega (arith, once))
find-standing number (node ∷ nodes) once =
    ⊎_elim own (other (find-standing number nodes)) (cases_eq node.number number)
  where
    own : node.number ≡ number → IsSomeAnd (find (has_number number) (node ∷ nodes)) (λ node. node.number ≡ number)
    own same =
        subst (λ found. IsSomeAnd found (λ node. node.number ≡ number))
        (sym (cond-true (node.number == number) (Some node) (find (has_number number) nodes)
        (eq-eqb node.number number same))) same

    other : (times_in number (map waiter_of nodes) ≡ 1
        → IsSomeAnd (find (has_number number) nodes) (λ node. node.number ≡ number)) → node.number ≢ number
        → IsSomeAnd (find (has_number number) (node ∷ nodes)) (λ node. node.number ≡ number)
    other behind ne =
        subst (λ found. IsSomeAnd found (λ node. node.number ≡ number))
        (sym (cond-false (node.number == number) (Some node) (find (has_number number) nodes)
        (ne_eqb node.number number ne)))
        (behind (omega (
          arith,
          times_in-append number (waiter_of node ∷ []) (map waiter_of nodes),
          times_in-not_own (waiter_of node) number (λ same. ne (sym same)),
          once,
        )))

-- whether a key has no waiter left once the node of a thread is out, as the machine says it
pub is_last-map : (number : ℕ) (nodes : List NodeFields)
    → not (has_any (without_first (has_number number) nodes))
    ≡ not (has_any (without_first (λ (waiter : Waiter). waiter.number == number) (map waiter_of nodes)))
is_last-map number nodes =
    ap not (sym (has_any-map waiter_of (without_first (has_number number) nodes))
    ∙ ap has_any (without_first-map number nodes))

-- a node that is there was taken out
pub is_some-removed : {A : Type 0} (P : NodeFields → Type 0) (B : Type 0) (Q : A → Type 0) (at : Option NodeFields)
    (removed : Option A) → IsSomeAnd at P → MatchOption removed ((at ≡ None) × B) Q → IsSome removed
is_some-removed P B Q at None holds none = absurd (subst (λ o. IsSomeAnd o P) none.0 holds)
is_some-removed P B Q at (Some _) holds some = refl
