-- What a `&` to a queue shows. Assumes `Logic`.
--     pointer_in, pointer_out      a pointer behind a `&` is opened, and shut
--     queue_shows                  a `&` to a queue is [one to its head; what is lent of its nodes]
--     nodes_made                   an iterator is what is lent of its nodes
use mathlib.Core.Path.{◌≡◌, refl, ◌∙◌}
use mathlib.Core.List.{List, [], ◌∷◌, ◌++◌}
use Prim.Native.Nat.{ℕ, ◌+◌}
use seplogic.Ra.Ura.{Ura}
use base.Fml.{Lft, Share, fat, flft}
use mir.Syntax.{ty_ptr}
use lib.Dec.{T, lit<}
use mir.Val.{Val, has_ty, WT, vstruct, vcons, vnil, of_list}
use types.Logic.{Logic}
use types.Kit.{Item, Goal, Seq, Step, Soaks, step, ‵, ◌$◌, move, drop, use0, rewrite, fsplit, fjoin, fpick, fpack}
use types.Kit.{feq_l, feq_i}
use denote.Copied.{plain_Copied}
use denote.Memory.{lone, cell_at, part_at, hidden_shr}
use denote.Opens.{Shut, hide, unhide}
use denote.RattleType.{Valss}
use denote.RawPtr.{Ptr, RawPtr, block_ptr, coded_ptr, null_ptr, ptr_own, ptr_val, rawptr_pure}
use denote.Steps.{looks, shuts, nothing}
use denote.Struct.Laws.{RawPtr-laws}
use denote.Struct.Lending.{lent_at}
use denote.Struct.Owning.{shape}
use denote.Struct.Declared.{shape as mark_shape}
use denote.Struct.Field.{shr_ref_field}
use denote.Struct.Struct.{Struct, Struct-Makes, within}
use Rattle.std.specs.contracts.marker.PhantomData as marker
use Rattle.lot_base.specs.contracts.queue.Node.{the_row as Node}
use Rattle.lot_base.specs.NodeFields.{NodeFields}
use Rattle.lot_base.specs.Chain.{Placed, all_fields, first_place, node_of, nodes_lent}
use Rattle.lot_base.specs.contracts.queue.Queue.{the_row as Queue}
use denote.Ref.{NamedLft}
use Rattle.lot_base.specs.contracts.queue.Nodes as Rest
use Rattle.lot_base.specs.declared.queue.Nodes.{Nodes}
use Rattle.lot_base.specs.declared.queue.Queue.TheInside.{Inside}

module _ {M : Type 1} {𝓤 : Ura M} {𝓛 : Logic 𝓤} {K : Type 0} {Γ : List (Item 𝓤)} {G : Goal 𝓤 𝓛.H} where
  pub pointer_in : K → Soaks G → {κ : Lft} {q : Share} (p : Ptr) (b at : ℕ)
      → ((part : Share) → Seq K 𝓛 (‵ (fat part ty_ptr b at (ptr_val p)) ∷ Shut 𝓛 κ q
      (part_at RawPtr part p b at) ∷ Γ) G)
      → Seq K 𝓛 (‵ (hidden_shr RawPtr κ p b at) ∷ ‵ (flft κ q) ∷ Γ) G
  pointer_in t z p b at k =
      looks t z RawPtr (plain_Copied 𝓛 Ptr coded_ptr
      (ty_ptr ∷ []) ptr_own rawptr_pure ptr_val RawPtr-laws.tells).opens p b at (λ part vs. move t (1 ∷ []) $
      feq_l t (λ e.
      rewrite t 0 (λ (us : List Val). ‵ (cell_at part RawPtr.mir us b at)) e refl $ move t (2 ∷ []) $ drop t $ k part))

  pub pointer_out : K → Soaks G → {κ : Lft} {q part : Share} (p : Ptr) (b at : ℕ)
      → Step K 𝓛 (‵ (flft κ q) ∷ Γ) G (‵ (fat part ty_ptr b at (ptr_val p)) ∷ Shut 𝓛 κ q
      (part_at RawPtr part p b at) ∷ Γ) G
  pointer_out t z {part = part} p b at = step (λ s.
      feq_i t (List Val) (ptr_val p ∷ []) (ptr_val p ∷ []) refl $ move t (1 ∷ 0 ∷ []) $
      shuts t z RawPtr part p (ptr_val p ∷ []) b at $ s)

  pub queue_shows : K → {κ : Lft} (view : List NodeFields) (b o : ℕ)
      → ((ns : List Placed) → all_fields ns ≡ view
      → Seq K 𝓛 (‵ (hidden_shr RawPtr κ (first_place ns null_ptr) b (o + 0)) ∷ ‵ (nodes_lent ns null_ptr κ) ∷ Γ) G)
      → Seq K 𝓛 (‵ (hidden_shr Queue κ view b o) ∷ Γ) G
  queue_shows t {κ} view b o k =
      unhide t $
      fpick t (λ (x : (d : Inside) × ((all_fields d.nodes ≡ view) × Unit {0})). fsplit t $ move t (1 ∷ []) $ drop t $
      fsplit t $ fsplit t $ fsplit t $ hide t $ move t (1 ∷ []) $ drop t $ move t (1 ∷ []) $ drop t $
      let d : Inside = x.0 in
      rewrite t 0 (λ (p : Ptr). ‵ (hidden_shr RawPtr κ p b (o + 0))) d.linked.0 refl $ k d.nodes x.1.0)

-- an iterator over these nodes
abbrev pub rest : List Placed → Nodes
rest ns = record { first = first_place ns null_ptr; lent = record {}; nodes = ns; leads = refl }

-- its machine value
abbrev pub rest_val : List Placed → Val
rest_val ns = vstruct (vcons (ptr_val (first_place ns null_ptr)) (vcons (vstruct vnil) vnil))

pub rest_good : (a : NamedLft) (ns : List Placed)
    → T (has_ty (lone (Rest.the_row a).mir) (rest_val ns)) × WT (rest_val ns)
rest_good a [] = (tt, (record { fits = lit< tt }, (tt, tt)))
rest_good a (n ∷ ns) = (tt, (tt, (tt, tt)))

module _ {M : Type 1} {𝓤 : Ura M} {𝓛 : Logic 𝓤} {K : Type 0} {Γ : List (Item 𝓤)} {G : Goal 𝓤 𝓛.H} where
  pub rest_made : K → (a : NamedLft) (ns : List Placed)
      → Step K 𝓛 (‵ ((Rest.the_row a).own_val (rest ns) (rest_val ns ∷ [])) ∷ Γ) G (‵
      (nodes_lent ns null_ptr a.lft) ∷ Γ) G
  rest_made t a ns = step (λ s.
      let head = first_place ns null_ptr in
      let none = vstruct vnil ∷ [] in
      let Mark = marker.the_type (shr_ref_field a Node tt).row in
      nothing t $ use0 𝓛 (‵ ((Struct (mark_shape Mark)).own_val tt none))
      (Struct-Makes 𝓛 (mark_shape Mark) tt tt none (tt, (refl, tt))) $ fjoin t $
      feq_i t (List Val) (ptr_val head ∷ []) (ptr_val head ∷ []) refl $ fjoin t $
      feq_i t (List Val) (rest_val ns ∷ []) (rest_val ns ∷ []) refl $ fjoin t $
      fpack t (Valss (shape (Rest.the_type a)).fields) (within (shape (Rest.the_type a)) (
        head,
        (record {}, tt),
      ) (rest_val ns ∷ [])) (ptr_val head ∷ [], (none, tt)) $ fjoin t $ s)

module _ {M : Type 1} {𝓤 : Ura M} {𝓛 : Logic 𝓤} {K : Type 0} {Γ : List (Item 𝓤)} {G : Goal 𝓤 𝓛.H} where
  pub rest_had : K → (a : NamedLft) (d : Nodes) (vs : List Val)
      → (vs ≡ rest_val d.nodes ∷ [] → Seq K 𝓛 (‵ (nodes_lent d.nodes null_ptr a.lft) ∷ Γ) G)
      → Seq K 𝓛 (‵ ((Rest.the_row a).own_val d vs) ∷ Γ) G
  rest_had t a d vs k =
      fsplit t $ fpick t (λ vss. fsplit t $ feq_l t (λ all. fsplit t $ feq_l t (λ at_first. fsplit t $
      fpick t (λ ws. fsplit t $ feq_l t (λ at_mark. drop t $ drop t $
      k (all ∙ (λ i. vstruct (of_list (at_first i ++ (at_mark i ++ []))) ∷ [])
      ∙ (λ i. vstruct (vcons (ptr_val (d.leads i)) (vcons (vstruct vnil) vnil)) ∷ [])))))))

  -- a `&` to a node
  pub node_lent : K → {κ : Lft} (n : Placed) (link : Ptr)
      → Step K 𝓛 (‵ (hidden_shr Node κ (node_of n.1 link) n.0 0) ∷ Γ) G (‵ (lent_at Node (block_ptr n.0 0)
      (node_of n.1 link) κ) ∷ Γ) G
  node_lent t n link = step (λ s. fsplit t $ drop t $ hide t $ s)

  -- a `&` to its link
  pub link_lent : K → {κ : Lft} (n : Placed) (link : Ptr)
      → Step K 𝓛 (‵ (hidden_shr RawPtr κ link n.0 40) ∷ Γ) G (‵ (lent_at Node (block_ptr n.0 0)
      (node_of n.1 link) κ) ∷ Γ) G
  link_lent t n link = step (λ s. fsplit t $ drop t $ fsplit t $ move t (1 ∷ []) $ drop t $ fsplit t $ drop t $
      fsplit t $ drop t $ fsplit t $ drop t $ fsplit t $ drop t $ fsplit t $ drop t $ fsplit t $
      hide t $ move t (1 ∷ []) $ drop t $ s)
