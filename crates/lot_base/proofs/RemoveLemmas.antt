-- One node taken from a list by its key and its thread's number.
use Rattle.std.proofs.Common.{◌≡◌, ℕ, find, arith, Bool, true, false, List, [], ◌∷◌, ◌++◌, if◌then◌else◌, Option, Some, None, All, Box}
use Rattle.std.specs.Option.{IfSome}
use Rattle.std.specs.declared.alloc.Global.{Global}
use Rattle.std.proofs.lemmas.List.Elements.{All-cons, All-head, All-tail}
use Rattle.lot_base.specs.declared.queue.Node.{Node}
use Rattle.lot_base.specs.Node.{fields, option_nodes}
use Rattle.lot_base.specs.NodeFields.{NodeFields}
use Rattle.lot_base.specs.NodeLists.{has_number}
use Rattle.lot_base.specs.Waiting.{without_first}

-- what holds of all nodes holds of the one that was taken from the front, and of the rest
pub All-behind_option : (P : NodeFields → Type 0) (first : Option (Box Node Global)) (old new : List NodeFields)
    → old ≡ option_nodes first ++ new → All P old → All P new
All-behind_option P None old new e all = rw e at all
All-behind_option P (Some node) old new e all = All-tail P (fields node.value) new (rw e at all)

pub All-in_option : (P : NodeFields → Type 0) (first : Option (Box Node Global)) (old new : List NodeFields)
    → old ≡ option_nodes first ++ new → All P old → IfSome first (λ node. P (fields node.value))
All-in_option P None old new e all = tt
All-in_option P (Some node) old new e all = All-head P (fields node.value) new (rw e at all)

-- a list without its first that passes a test keeps what holds of all
pub All-without_first : {A : Type 0} (P : A → Type 0) (test : A → Bool) (xs : List A) → All P xs
    → All P (without_first test xs)
All-without_first P test [] all = all
All-without_first P test (x ∷ xs) all = chosen (test x) (All-without_first P test xs (All-tail P x xs all))
  where
    chosen : (b : Bool) → All P (without_first test xs) → All P (if b then xs else x ∷ without_first test xs)
    chosen true rest = All-tail P x xs all
    chosen false rest = All-cons P x (without_first test xs) (All-head P x xs all) rest

-- a node that is found by its number has it
pub find-number : (number : ℕ) (nodes : List NodeFields) (node : NodeFields)
    → find (has_number number) nodes ≡ Some node → node.number ≡ number
find-number number [] node found = search
find-number number (first ∷ nodes) node found = grind (arith, find-number number nodes node)
