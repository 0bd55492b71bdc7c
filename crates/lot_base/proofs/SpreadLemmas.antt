-- Nodes that are entered one by one, each behind the list of its own key.
use Rattle.std.proofs.Common.{◌≡◌, ℕ, ◌==◌, Bool, true, false, List, [], ◌∷◌, ◌++◌, if◌then◌else◌, refl, sym, ap, ◌∙◌}
use Rattle.std.proofs.Common.{append_assoc, append-nil}
use Rattle.std.proofs.lemmas.Bool.{both_ways, eq-eqb, eqb-true}
use Rattle.std.proofs.lemmas.List.Elements.{filter-append}
use Rattle.lot_base.specs.NodeFields.{NodeFields}
use Rattle.lot_base.specs.Spread.{with_entered}
use Rattle.lot_base.specs.Laws.{EnteringKeepsOrder}
use Rattle.lot_base.specs.NodeLists.{lists_of}

-- one node more
pub with_entered-is : (lists : ℕ → List NodeFields) (node : NodeFields) (k : ℕ)
    → with_entered lists node k ≡ lists k ++ lists_of (node ∷ []) k
with_entered-is lists node k = chosen (node.key == k) (k == node.key) refl refl
  where
    chosen : (there here : Bool) → (node.key == k) ≡ there → (k == node.key) ≡ here
        → (if here then lists node.key ++ node ∷ [] else lists k) ≡ lists k ++ (if there then node ∷ [] else [])
    chosen true true e f = ap (λ key. lists key ++ node ∷ []) (eqb-true node.key k e)
    chosen true false e f = absurd (both_ways (k == node.key) f (eq-eqb k node.key (sym (eqb-true node.key k e))))
    chosen false true e f = absurd (both_ways (node.key == k) e (eq-eqb node.key k (sym (eqb-true k node.key f))))
    chosen false false e f = sym (append-nil (lists k))

pub lists_of-push : (nodes : List NodeFields) (node : NodeFields) (k : ℕ)
    → lists_of (nodes ++ node ∷ []) k ≡ with_entered (lists_of nodes) node k
lists_of-push nodes node k =
    filter-append (λ n. n.key == k) nodes (node ∷ []) ∙ sym (with_entered-is (lists_of nodes) node k)

-- one node after another: each key's list gets those of the key, in order
pub with_all_entered-step : EnteringKeepsOrder
with_all_entered-step lists nodes node k = (
  append-nil (lists k),
  ap (λ back. lists k ++ back) (filter-append (λ n. n.key == k) (node ∷ []) nodes)
      ∙ sym (append_assoc (lists k) (lists_of (node ∷ []) k) (lists_of nodes k))
      ∙ ap (λ front. front ++ lists_of nodes k) (sym (with_entered-is lists node k)),
)
