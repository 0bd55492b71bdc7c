-- Calls of a closure at the nodes of a list.
use Rattle.std.proofs.Common.{◌≡◌, ℕ, List, [], ◌∷◌, ◌++◌, Vec, Result, Ok, Err, IfOk, IsOkAnd, OnOk}
use Rattle.std.proofs.Common.{OnErr, IsTrue, map, refl, ap, subst, ◌==◌}
use Rattle.std.proofs.lemmas.Bool.{eq-eqb}
use Rattle.std.proofs.lemmas.List.{map-append}
use Rattle.std.proofs.lemmas.List.Elements.{filter-append}
use Rattle.std.proofs.lemmas.Fn.{chained_keeps}
use Rattle.std.specs.Fn.{Called, Mut}
use Rattle.std.specs.declared.alloc.Global.{Global}
use Rattle.lot_base.specs.declared.queue.Node.{Node}
use Rattle.lot_word_lock.specs.declared.no_memory.NoMemory.{NoMemory}
use Rattle.lot_base.specs.Fold.{CanFold, Folds, CalledAtNode}
use Rattle.lot_base.specs.Node.{fields}
use Rattle.lot_base.specs.NodeFields.{NodeFields}
use Rattle.lot_base.specs.Waiting.{has_any}
use Rattle.lot_base.specs.NodeLists.{lists_of}
use denote.Ref.{Bor}

module _ {F B : Type 0} (g : Mut F (B × (Bor Node × Unit {0})) B) where
  -- the first call may be made
  pub CanFold-first : (f : F) (start : B) (first : Bor Node) (behind : List NodeFields)
      → CanFold g f start (fields first.now ∷ behind) → g.pre f (start, (first, tt))
  CanFold-first f start first behind can = can.at [] f start first behind refl (record { calls = refl })

  -- and after it the others
  pub CanFold-behind : (f f' : F) (start next : B) (first : NodeFields) (behind : List NodeFields)
      → CalledAtNode g f start first next f' → CanFold g f start (first ∷ behind) → CanFold g f' next behind
  CanFold-behind f f' start next first behind call can = record {
    at = λ before f'' answer shown rest is folds. can.at (first ∷ before) f'' answer shown rest
        (ap (λ nodes. first ∷ nodes) is) (record { calls = ((f', next), call, folds.calls) });
  }

  -- what each call keeps, of the nodes so far and the answer, holds of all nodes and the result
  pub Folds-same : (J : List NodeFields → B → Type 0) (f : F)
      → ((seen : List NodeFields) (answer : B) (shown : Bor Node) (next : B) (f' : F) → J seen answer
      → Called g f (answer, (shown, tt)) next f' → J (seen ++ fields shown.now ∷ []) next × (f' ≡ f))
      → (start : B) (nodes : List NodeFields) (last : F) (result : B) → J [] start → Folds g f start nodes last result
      → J nodes result
  Folds-same J f step start nodes last result at_start folds =
      (chained_keeps {P = F × B} (λ p node q. CalledAtNode g p.0 p.1 node q.1 q.0) (λ seen p. J seen p.1 × (p.0 ≡ f))
      (λ seen q node p kept call.
      let called : Called g f (q.1, (call.shown, tt)) p.1 p.0 = rw (← kept.1) call.called in
      let h = step seen q.1 call.shown p.1 p.0 kept.0 called in
      let P : NodeFields → Type 0 = λ x. J (seen ++ x ∷ []) p.1 in (subst P call.shows h.0, h.1))
      nodes (f, start) (last, result) (at_start, refl) folds.calls).0

has_any-append_left : (xs ys : List NodeFields) → IsTrue (has_any xs) → IsTrue (has_any (xs ++ ys))
has_any-append_left [] ys any = absurd (cc any)
has_any-append_left (x ∷ xs) ys any = refl

has_any-append_right : (xs ys : List NodeFields) → IsTrue (has_any ys) → IsTrue (has_any (xs ++ ys))
has_any-append_right [] ys any = any
has_any-append_right (x ∷ xs) ys any = refl

-- one more node in a list of numbers
pub numbers-next : (key : ℕ) (seen : List NodeFields) (node : NodeFields) (before next : Result (Vec ℕ Global) NoMemory)
    → IfOk before (λ old. old.items ≡ map (λ x. x.number) (lists_of seen key))
    → IfOk next (λ new. IsOkAnd before (λ old. new.items ≡ old.items ++ map (λ x. x.number) (lists_of (node ∷ []) key)))
    → IfOk next (λ new. new.items ≡ map (λ x. x.number) (lists_of (seen ++ node ∷ []) key))
numbers-next key seen node before (Err e) at_before grown = tt
numbers-next key seen node (Err d) (Ok new) at_before grown = absurd grown
numbers-next key seen node (Ok old) (Ok new) at_before grown =
    rw (
      filter-append (λ (x : NodeFields). x.key == key) seen (node ∷ []),
      map-append (λ (x : NodeFields). x.number) (lists_of seen key) (lists_of (node ∷ []) key),
      ← at_before,
    ) grown

-- a list that is refused at a waiter, or was refused before
pub refused-next : (key : ℕ) (seen : List NodeFields) (node : NodeFields) (before next : Result (Vec ℕ Global) NoMemory)
    → OnErr before (IsTrue (has_any (lists_of seen key)))
    → OnErr next (OnOk before (node.key ≡ key))
    → OnErr next (IsTrue (has_any (lists_of (seen ++ node ∷ []) key)))
refused-next key seen node before (Ok new) at_before refused = tt
refused-next key seen node (Ok old) (Err e) at_before refused =
    rw (filter-append (λ (x : NodeFields). x.key == key) seen (node ∷ []))
    (has_any-append_right (lists_of seen key) (lists_of (node ∷ []) key) (rw (eq-eqb node.key key refused) refl))
refused-next key seen node (Err d) (Err e) at_before refused =
    rw (filter-append (λ (x : NodeFields). x.key == key) seen (node ∷ []))
    (has_any-append_left (lists_of seen key) (lists_of (node ∷ []) key) at_before)
