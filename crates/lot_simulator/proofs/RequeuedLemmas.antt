-- What a requeue tells the threads of a lot.
use Rattle.std.proofs.Common.{◌≡◌, ℕ, Bool, List, [], ◌∷◌, sym, ap, ◌∙◌}
use Rattle.std.specs.Fn.{Mut, Called}
use Rattle.lot_base.specs.NodeFields.{NodeFields}
use Rattle.lot_base.specs.Requeue.{Move, IsCalledAtEach, moves_of, numbers}

-- a closure that sets the key of one thread, and keeps the rest of what it has; and how threads change where the keys
-- of some are set
module _ {M K T : Type 0} (with_key : T → ℕ → ℕ → T) (with_keys : ℕ → List ℕ → T → T)
    (of_none : (key : ℕ) (threads : T) → with_keys key [] threads ≡ threads)
    (of_more : (key number : ℕ) (numbers : List ℕ) (threads : T)
    → with_keys key (number ∷ numbers) threads ≡ with_keys key numbers (with_key threads number key))
    (m : Mut M Move (Unit {0})) (view : M → T) (kept : M → ℕ × K)
    (sets : (now next : M) (number : ℕ) (timed : Bool) → Called m now (number, (timed, tt)) tt next → (view next
    ≡ with_key (view now) number (kept now).0) × (kept next ≡ kept now)) where
  -- called for each node
  pub keys_set : (nodes : List NodeFields) (moved last : M) → IsCalledAtEach m moved (moves_of nodes) last
      → view last ≡ with_keys (kept moved).0 (numbers nodes) (view moved)
  keys_set [] moved last same = ap view (sym same) ∙ sym (of_none (kept moved).0 (view moved))
  keys_set (node ∷ nodes) moved last (next, called, rest) =
      let (one, same) = sets moved next node.number node.timed called in
      keys_set nodes next last rest ∙ ap (λ k. with_keys k.0 (numbers nodes) (view next)) same
      ∙ ap (with_keys (kept moved).0 (numbers nodes)) one
      ∙ sym (of_more (kept moved).0 node.number (numbers nodes) (view moved))

  pub all_kept : (nodes : List NodeFields) (moved last : M) → IsCalledAtEach m moved (moves_of nodes) last
      → kept last ≡ kept moved
  all_kept [] moved last same = ap kept (sym same)
  all_kept (node ∷ nodes) moved last (next, called, rest) =
      all_kept nodes next last rest ∙ (sets moved next node.number node.timed called).1
