-- Nodes in a row: what a `&` to them is made of. Assumes `Logic`.
use mathlib.Core.List.{List, [], ◌∷◌}
use seplogic.Ra.Ura.{Ura}
use base.Fml.{Lft, ftrue}
use types.Logic.{Logic}
use contract.BorrowLft.{⊑_static}
use denote.RawPtr.{Ptr, block_ptr}
use denote.Sharing.{ShrLaws}
use denote.SharingLaws.{beside_shr_laws, nothing_shr_laws}
use denote.Shares.{Shares-less}
use denote.Struct.Lending.{lent_at, lent_at_shr_laws, Lends, Lends-lies, Lends-first, Lends-both, Lends-nothing}
use Rattle.lot_base.specs.contracts.queue.Node.{the_row}
use Rattle.lot_base.proofs.queue.Node.TheLaws as node_laws
use Rattle.lot_base.specs.Chain.{Placed, first_place, node_of, nodes_own, nodes_lent}

pub nodes_lent_laws : (ns : List Placed) (end : Ptr) → ShrLaws (nodes_lent ns end)
nodes_lent_laws [] end = nothing_shr_laws
nodes_lent_laws (n ∷ ns) end =
    beside_shr_laws _ _ (lent_at_shr_laws the_row node_laws.the_row_laws.shr_laws (block_ptr n.0 0) (node_of n.1
    (first_place ns end))) (nodes_lent_laws ns end)

module _ {M : Type 1} {𝓤 : Ura M} (𝓛 : Logic 𝓤) (l : Lft) where
  pub Lends-nodes : (ns : List Placed) (end : Ptr) → Lends 𝓛 (nodes_own ns end) (nodes_lent ns end) l
  Lends-nodes [] end = Lends-nothing 𝓛 ftrue l
  Lends-nodes (n ∷ ns) end =
      let node = node_of n.1 (first_place ns end) in
      let lent = lent_at the_row (block_ptr n.0 0) node in
      Lends-both 𝓛 _ (nodes_own ns end) lent (nodes_lent ns end) l
      (Lends-first 𝓛 _ _ lent l (Lends-lies 𝓛 the_row l (block_ptr n.0 0) node (Shares-less 𝓛 the_row [] l
      (⊑_static l) (node_laws.the_row_laws.shares 𝓛) node)))
      (Lends-nodes ns end)
