-- Calls of a closure at the nodes of a list, one after another.
use Rattle.std.specs.Prelude.{◌≡◌, List, ◌∷◌, ◌++◌}
use Rattle.std.specs.List.{FoldsTo}
use Rattle.std.specs.Fn.{Called, Mut}
use Rattle.lot_base.specs.declared.queue.Node.{Node}
use Rattle.lot_base.specs.Node.{fields}
use Rattle.lot_base.specs.NodeFields.{NodeFields}
use denote.Ref.{Bor}

module _ {F B : Type 0} (g : Mut F (B × (Bor Node × Unit {0})) B) where
  -- f, called with the answer so far and a `&` to a node of these fields, may give the next answer
  -- and be f' from then on
  pub record CalledAtNode (f : F) (answer : B) (node : NodeFields) (next : B) (f' : F) : Type 0 where
    pub shown : Bor Node
    pub shows : fields shown.now ≡ node
    pub called : Called g f (answer, (shown, tt)) next f'

  -- calls at the nodes, in order and each with the answer of the one before, took f and start to last and result
  pub record Folds (f : F) (start : B) (nodes : List NodeFields) (last : F) (result : B) : Type 0 where
    pub calls : FoldsTo {P = F × B} (λ p node q. CalledAtNode p.0 p.1 node q.1 q.0) (f, start) nodes (last, result)

  -- each call may be made: whatever the calls at the nodes before gave, f may be called with that at the next
  pub record CanFold (f : F) (start : B) (nodes : List NodeFields) : Type 0 where
    pub at : (before : List NodeFields) (f' : F) (answer : B) (shown : Bor Node) (behind : List NodeFields)
        → nodes ≡ before ++ fields shown.now ∷ behind → Folds f start before f' answer → g.pre f' (answer, (shown, tt))
