-- What the proofs by hand of a queue share. Assumes `Logic`.
--     node_opens, node_closes      a node of the queue is [its cell; the right to free its block]
--     queue_had, queue_made        a queue by value is its nodes, with the two pointers as its machine value
--     queue_opens, queue_closes    the same behind a `&mut`: [the nodes; the two pointers; the open borrow; obs; auth]
use mathlib.Core.Path.{◌≡◌, refl, sym, ap, ◌∙◌}
use mathlib.Core.List.{List, [], ◌∷◌, ◌++◌}
use Prim.Native.Nat.{ℕ, zero, suc, ◌<◌, ◌^◌}
use seplogic.Ra.Ura.{Ura}
use base.Fraction.{full_share}
use base.Fml.{Fml, Lft, GName, Share, ftrue, fsep, fat, flft, fobs, fauth, fbor, fobor}
use base.Stored.{Gv}
use base.Logic.{SProp, ent, emp, sep, never, fst∗, guard_i, assoc∗}
use mir.Syntax.{Body, seq, w64, ty_ptr, Dict, impl, tcons, tnil, dnil}
use mir.Raw.{raw as bare}
use mir.Val.{Val, vint, vbool, vunit, vstruct, vcons, vnil, of_list, has_ty, WT}
use lib.Dec.{T, lit<}
use mathlib.Core.Bool.{Bool, true, false, ◌&&◌}
use types.Match.{live}
use Rattle.std.specs.contracts.option.Option.{the_row as Opt}
use types.Logic.{Logic, sem}
use types.Kit.{Item, Goal, Seq, given, learn, Step, Soaks, step, ‵, ◌⊛◌, some, ◌$◌, ◌∵◌, !, qed, move, drop, use0, use1}
use types.Kit.{use2, pick, split, rewrite, fsplit, fjoin, fpick, fpack, feq_l, feq_i, prop, suffices, done}
use denote.Laws.{Is, Tells, shows}
use denote.Memory.{lone, cell_at, mem}
use contract.Monad.{fact, fact_use}
use denote.Triple.Walked.{says}
use types.SemTy.{Body as Borrowed}
use denote.RattleType.{RattleType, Valss}
use denote.RawPtr.{Ptr, block_ptr, null_ptr, count_of, ptr_val, lies_at, in_a_block}
use denote.Steps.{only, facts, nothing, opens, closes}
use denote.Struct.Struct.{Struct-Makes, within}
use denote.Struct.Owning.{shape as struct_shape}
use denote.Struct.Declared.{shape}
use borrow.Table.OneValue.{part_out, part_in}
use Rattle.std.specs.contracts.impls.GlobalAllocator.TheImpl.{ghosts}
use Rattle.std.proofs.alloc.Global.TheLaws as global_laws
use Rattle.std.specs.contracts.alloc.Global.{the_row as Global, the_type as Heap-type}
use Rattle.std.specs.contracts.boxed.Box as B
use Rattle.std.specs.Box.Ownership.{box_owns}
use Rattle.std.proofs.GlobalToken.{dealloc_token_start}
use Rattle.lot_base.specs.Node.{fields}
use Rattle.lot_base.specs.NodeFields.{NodeFields}
use Rattle.lot_base.specs.Chain.{Placed, all_fields, first_place, last_place, node_of, node_owns, nodes_own}
use Rattle.lot_base.specs.declared.queue.Queue.TheInside.{Inside}
use Rattle.lot_base.specs.contracts.queue.Queue.TheInside as I
use Rattle.lot_base.specs.contracts.queue.Queue.{the_row as Queue}
use Rattle.lot_base.specs.contracts.queue.Node as N
use Rattle.lot_base.specs.contracts.queue.Node.{the_row as Node}
use Rattle.lot_base.proofs.queue.Node.TheLaws as node_laws
use Rattle.lot_base.proofs.queue.Node.TheLaws.{lowers}
use denote.Exit.{no}
use denote.Param.NoDrop
use prog.Routine.{Env}
use prog.Wired as wired
use Rattle.lot_base.proofs.Destruct++none.drop.Code as Destruct++none
use denote.Param.{layout, arg}
use denote.Param.Laws.{Laws, arg_laws}

-- a box of a node
abbrev pub Boxed : RattleType
Boxed = B.the_row Node Global ghosts

abbrev pub handle : Global.Denot
handle = record { memory = record { seal = tt } }

-- the right to free the block b, which holds a node
abbrev pub may_free : ℕ → Fml
may_free b = ghosts.dealloc_token handle (bare (lone Node.mir)) (block_ptr b 0)

-- a node's machine value
abbrev pub node_val : NodeFields → Ptr → Val
node_val f link =
    vstruct (vcons (vint w64 f.number) (vcons (vint w64 f.key) (vcons
    (vstruct (vcons (vint w64 f.park_token.0) vnil)) (vcons (vstruct (vcons (vint w64 f.unpark_token.0) vnil))
    (vcons (vbool f.timed) (vcons (ptr_val link) (vcons (vstruct (vcons (vstruct (vcons vunit vnil)) vnil)) vnil)))))))

-- its numbers fit their type
abbrev pub Fit : NodeFields → Type 0
Fit f = (f.number < 2 ^ 64) × (f.key < 2 ^ 64) × (f.park_token.0 < 2 ^ 64) × (f.unpark_token.0 < 2 ^ 64)

node_fits : (f : NodeFields) (link : Ptr) (v : Val) → Is Node (node_of f link) (v ∷ []) → Fit f
node_fits f link v p = let q = p.1.1 in (q.0.1, q.1.0.1, q.1.1.0.1.1.0.1, q.1.1.1.0.1.1.0.1)

node_is : (f : NodeFields) (link : Ptr) (v : Val) → Is Node (node_of f link) (v ∷ []) → v ≡ node_val f link
node_is f link v p = ap only (lowers.val_is (node_of f link) (v ∷ []) p)

is_node : (f : NodeFields) (link : Ptr) → Fit f → Is Node (node_of f link) (node_val f link ∷ [])
is_node f link fit =
    let number = vint w64 f.number ∷ [] in
    let key = vint w64 f.key ∷ [] in
    let park = vint w64 f.park_token.0 ∷ [] in
    let unpark = vint w64 f.unpark_token.0 ∷ [] in
    let memory = vstruct (vcons vunit vnil) ∷ [] in (
      (
        number,
        (
          key,
          (
            vstruct (of_list park) ∷ [],
            (
              vstruct (of_list unpark) ∷ [],
              (
                vbool f.timed ∷ [],
                (
                  ptr_val link ∷ [],
                  (vstruct (of_list memory) ∷ [], tt),
                ),
              ),
            ),
          ),
        ),
      ),
      (
        refl,
        (
          (refl, fit.0),
          (
            (refl, fit.1),
            (
              ((park, tt), (refl, ((refl, fit.2), tt))),
              (
                (
                  (unpark, tt),
                  (
                    refl,
                    ((refl, fit.3), tt),
                  ),
                ),
                (
                  refl,
                  (
                    refl,
                    (
                      (
                        (memory, tt),
                        (
                          refl,
                          (
                            (
                              (vunit ∷ [], tt),
                              (
                                refl,
                                (refl, tt),
                              ),
                            ),
                            tt,
                          ),
                        ),
                      ),
                      tt,
                    ),
                  ),
                ),
              ),
            ),
          ),
        ),
      ),
    )

-- a node owns nothing
node_made : {M : Type 1} {𝓤 : Ura M} (𝓛 : Logic 𝓤) (f : NodeFields) (link : Ptr) → Fit f
    → ent 𝓤 (emp 𝓤) (sem 𝓛 (Node.own_val (node_of f link) (node_val f link ∷ [])))
node_made 𝓛 f link fit =
    Struct-Makes 𝓛 (shape N.the_type) (
      λ x vs. (tt, tt),
      (
        λ x vs. (tt, tt),
        (
          λ x vs us. (tt, ((tt, tt), tt)),
          (
            λ x vs us. (tt, ((tt, tt), tt)),
            (λ x vs. tt, (λ x vs. tt, (λ x vs us. (tt, (λ ws. (tt, (tt, tt)), tt)), tt))),
          ),
        ),
      ),
    )
    (N.the_type.to (node_of f link)) (node_val f link ∷ []) (is_node f link fit)

module _ {M : Type 1} {𝓤 : Ura M} {𝓛 : Logic 𝓤} {K : Type 0} {Γ : List (Item 𝓤)} {G : Goal 𝓤 𝓛.H} where
  -- [the node's cell; the right to free its block]
  pub node_opens : K → (n : Placed) (link : Ptr)
      → (Fit n.1 → Seq K 𝓛 (‵ (fat full_share (lone Node.mir) n.0 0 (node_val n.1 link)) ∷ ‵ (may_free n.0) ∷ Γ) G)
      → Seq K 𝓛 (‵ (node_owns n link) ∷ Γ) G
  node_opens t n link k =
      fsplit t $
      use1 𝓛 (some (λ (v : Val). ‵ (fat full_share (lone Node.mir) n.0 0 v)
      ⊛ ‵ (Node.own_val (node_of n.1 link) (v ∷ [])))) (part_out 𝓛 Node refl full_share (node_of n.1 link) n.0 0) $
      pick t (λ v. split t $ move t (1 ∷ []) $ facts t Node (Is Node) (shows 𝓛 Node) (node_of n.1 link) (v ∷ []) (λ is.
      rewrite t 0 (λ (w : Val). ‵ (fat full_share (lone Node.mir) n.0 0 w)) (node_is n.1 link v is) refl $
      k (node_fits n.1 link v is)))

module _ {M : Type 1} {𝓤 : Ura M} {𝓛 : Logic 𝓤} {K : Type 0} {Γ : List (Item 𝓤)} {G : Goal 𝓤 𝓛.H} where
  -- a box's block begins where its pointer leads
  pub node_taken : K → (node : N.the_row.Denot) (p : Ptr)
      → ((b : ℕ) → p ≡ block_ptr b 0 → Fit (fields node)
      → Seq K 𝓛 (‵ (fat full_share (lone Node.mir) b 0 (node_val (fields node) node.link)) ∷ ‵ (may_free b) ∷ Γ) G)
      → Seq K 𝓛 (‵ (box_owns (ghosts.dealloc_token handle) Node p node) ∷ Γ) G
  node_taken t node p k =
      let token : Ptr → Fml = ghosts.dealloc_token handle (bare (lone Node.mir)) in
      fsplit t $ move t (1 ∷ []) $
      use1 𝓛 (given (count_of p ≡ 0) (‵ (token p))) (fact_use 𝓤 (count_of p ≡ 0) (dealloc_token_start 𝓛 handle (bare
      (lone Node.mir)) p) (guard_i 𝓤 (count_of p ≡ 0) (sem 𝓛 (token p)))) $
      learn t (λ starts. move t (1 ∷ 0 ∷ []) $ fjoin t $
      in_a_block t p (λ r. box_owns (ghosts.dealloc_token handle) Node r node) (fst∗ 𝓤 (never 𝓤) (sem 𝓛
      (token null_ptr))) (λ b o at.
      let begins : p ≡ block_ptr b 0 = at ∙ ap (λ (n : ℕ). block_ptr b n) (sym (ap count_of at) ∙ starts) in
      rewrite t 0 (λ (r : Ptr). ‵ (box_owns (ghosts.dealloc_token handle) Node r node)) (sym at ∙ begins) refl $
      node_opens t (b, fields node) node.link (k b begins)))

  pub node_closes : K → (n : Placed) (link : Ptr) → Fit n.1
      → Step K 𝓛 (‵ (node_owns n link) ∷ Γ) G (‵ (fat full_share (lone Node.mir) n.0 0 (node_val n.1 link))
      ∷ ‵ (may_free n.0) ∷ Γ) G
  node_closes t n link fit = step (λ s.
      use0 𝓛 (‵ (Node.own_val (node_of n.1 link) (node_val n.1 link ∷ []))) (node_made 𝓛 n.1 link fit) $
      move t (1 ∷ 0 ∷ []) $ use2 𝓛 (‵ (lies_at Node full_share (block_ptr n.0 0) (node_of n.1 link)))
      (part_in 𝓛 Node refl full_share (node_of n.1 link) n.0 0 (node_val n.1 link)) $
      fjoin t $ s)

-- the machine value of a queue of these nodes
abbrev pub words : List Placed → Val
words ns = vstruct (vcons (ptr_val (first_place ns null_ptr)) (vcons (ptr_val (last_place null_ptr ns)) vnil))

-- what the nodes of a queue own
abbrev pub Held : List Placed → Fml
Held ns = nodes_own ns null_ptr

module _ {M : Type 1} {𝓤 : Ura M} {𝓛 : Logic 𝓤} {K : Type 0} {Γ : List (Item 𝓤)} {G : Goal 𝓤 𝓛.H} where
  queue_had : K → (view : List NodeFields) (vs : List Val)
      → ((ns : List Placed) → all_fields ns ≡ view → vs ≡ words ns ∷ [] → Seq K 𝓛 (‵ (Held ns) ∷ Γ) G)
      → Seq K 𝓛 (‵ (Queue.own_val view vs) ∷ Γ) G
  queue_had t view vs k =
      fpick t (λ x. fsplit t $ move t (1 ∷ []) $ drop t $ fsplit t $ fpick t (λ vss. fsplit t $
      feq_l t (λ all. fsplit t $ feq_l t (λ at_head. fsplit t $ feq_l t (λ at_tail. drop t $
      let d : Inside = x.0 in
      k d.nodes x.1.0 (all ∙ (λ i. vstruct (of_list (at_head i ++ (at_tail i ++ []))) ∷ [])
      ∙ (λ i. vstruct (vcons (ptr_val (d.linked.0 i)) (vcons (ptr_val (d.linked.1 i)) vnil)) ∷ [])))))))

  pub queue_made : K → (ns : List Placed)
      → Step K 𝓛 (‵ (Queue.own_val (all_fields ns) (words ns ∷ [])) ∷ Γ) G (‵ (Held ns) ∷ Γ) G
  queue_made t ns = step (λ s.
      let head = first_place ns null_ptr in
      let tail = last_place null_ptr ns in
      let d : Inside = record { head = head; tail = tail; nodes = ns; linked = (refl, refl) } in
      nothing t $ feq_i t (List Val) (ptr_val tail ∷ []) (ptr_val tail ∷ []) refl $ fjoin t $
      feq_i t (List Val) (ptr_val head ∷ []) (ptr_val head ∷ []) refl $ fjoin t $
      feq_i t (List Val) (words ns ∷ []) (words ns ∷ []) refl $ fjoin t $
      fpack t (Valss (struct_shape I.the_type).fields) (within (struct_shape I.the_type) (
        head,
        (tail, tt),
      ) (words ns ∷ [])) (ptr_val head ∷ [], (ptr_val tail ∷ [], tt)) $ fjoin t $
      nothing t $ move t (1 ∷ 0 ∷ []) $ fjoin t $
      fpack t ((a : Inside) × ((all_fields a.nodes ≡ all_fields ns) × Unit {0}))
      (λ x. fsep (I.the_row.own_val x.0 (words ns ∷ [])) ftrue) (d, (refl, tt)) $ s)

module _ {M : Type 1} {𝓤 : Ura M} {𝓛 : Logic 𝓤} {K : Type 0} {Γ : List (Item 𝓤)} {G : Goal 𝓤 𝓛.H} where
  pub queue_opens : K → Soaks G → {κ : Lft} {q : Share} {γ : GName} (view : List NodeFields) (b o : ℕ)
      → ((ns : List Placed) → all_fields ns ≡ view
      → Seq K 𝓛 (‵ (Held ns) ∷ ‵ (cell_at full_share Queue.mir (words ns ∷ []) b o)
      ∷ ‵ (fobor κ q (Borrowed (mem Queue) b o γ)) ∷ ‵ (fobs γ (Queue.coded.code view))
      ∷ ‵ (fauth γ (Queue.coded.code view)) ∷ Γ) G)
      → Seq K 𝓛 (‵ (fobs γ (Queue.coded.code view)) ∷ ‵ (fbor κ (Borrowed (mem Queue) b o γ)) ∷ ‵ (flft κ q) ∷ Γ) G
  queue_opens t z view b o k =
      opens t z Queue {h = view} b o (λ vs. move t (1 ∷ []) $
      queue_had t view vs (λ ns seen is. rewrite t 1
      (λ (ws : List Val). ‵ (cell_at full_share Queue.mir ws b o)) is refl $ k ns seen))

  pub queue_closes : K → Soaks G → {κ : Lft} {q : Share} {u v : Gv} {γ : GName} (ns : List Placed) (b o : ℕ)
      → Step K 𝓛 (‵ (fobs γ (Queue.coded.code (all_fields ns))) ∷ ‵ (fbor κ (Borrowed (mem Queue) b o γ))
      ∷ ‵ (flft κ q) ∷ Γ) G
      (‵ (Held ns) ∷ ‵ (cell_at full_share Queue.mir (words ns ∷ []) b o)
      ∷ ‵ (fobor κ q (Borrowed (mem Queue) b o γ)) ∷ ‵ (fobs γ u) ∷ ‵ (fauth γ v) ∷ Γ) G
  queue_closes t z ns b o = step (λ s.
      queue_made t ns $ move t (1 ∷ 0 ∷ []) $ closes t z Queue (all_fields ns) (words ns ∷ []) b o $ s)

-- a nonempty row has a last node
pub last_of : (x : Placed) (xs : List Placed)
    → (init : List Placed) × (l : Placed) × (x ∷ xs ≡ init ++ l ∷ []) × (last_place
    (block_ptr x.0 0) xs ≡ block_ptr l.0 0)
last_of x [] = ([], x, refl, refl)
last_of x (y ∷ ys) = let on = last_of y ys in (x ∷ on.0, on.1, ap (λ zs. x ∷ zs) on.2, on.3)

pub last_place-append : (start : Ptr) (xs : List Placed) (y : Placed) (ys : List Placed)
    → last_place start (xs ++ y ∷ ys) ≡ last_place (block_ptr y.0 0) ys
last_place-append start [] y ys = refl
last_place-append start (x ∷ xs) y ys = last_place-append (block_ptr x.0 0) xs y ys

first_place-append : (xs ys : List Placed) (end : Ptr)
    → first_place (xs ++ ys) end ≡ first_place xs (first_place ys end)
first_place-append [] ys end = refl
first_place-append (x ∷ xs) ys end = refl

module _ {M : Type 1} {𝓤 : Ura M} (𝓛 : Logic 𝓤) where
  -- a row of nodes that is cut in two, and two that are joined
  pub cuts : (xs ys : List Placed) (end : Ptr)
      → ent 𝓤 (sem 𝓛 (nodes_own (xs ++ ys) end)) (sep 𝓤 (sem 𝓛 (nodes_own xs (first_place ys end))) (sem 𝓛
      (nodes_own ys end)))
  cuts [] ys end = qed 𝓛 (‵ (nodes_own ys end) ∷ []) ∵ nothing ! $ done !
  cuts (x ∷ xs) ys end =
      qed 𝓛 (‵ (nodes_own (x ∷ (xs ++ ys)) end) ∷ []) ∵ fsplit ! $
      rewrite ! 0 (λ (p : Ptr). ‵ (node_owns x p)) (first_place-append xs ys end) refl $
      move ! (1 ∷ []) $ use1 𝓛 (‵ (nodes_own xs (first_place ys end)) ⊛ ‵ (nodes_own ys end)) (cuts xs ys end) $
      split ! $ move ! (2 ∷ 0 ∷ []) $ fjoin ! $ done !

  pub joins : (xs ys : List Placed) (end : Ptr)
      → ent 𝓤 (sep 𝓤 (sem 𝓛 (nodes_own xs (first_place ys end))) (sem 𝓛 (nodes_own ys end))) (sem 𝓛 (nodes_own
      (xs ++ ys) end))
  joins [] ys end = qed 𝓛 (‵ ftrue ∷ ‵ (nodes_own ys end) ∷ []) ∵ drop ! $ done !
  joins (x ∷ xs) ys end =
      qed 𝓛 (‵ (nodes_own (x ∷ xs) (first_place ys end)) ∷ ‵ (nodes_own ys end) ∷ []) ∵ fsplit ! $
      move ! (1 ∷ 2 ∷ []) $ use2 𝓛 (‵ (nodes_own (xs ++ ys) end)) (joins xs ys end) $
      move ! (1 ∷ []) $ rewrite ! 0 (λ (p : Ptr). ‵ (node_owns x p)) (sym (first_place-append xs ys end)) refl $
      fjoin ! $ done !

-- what two clauses of an `ensures` state
pub says_both : {M : Type 1} {𝓤 : Ura M} {𝓛 : Logic 𝓤} {K : Type 0} {Γ : List (Item 𝓤)} → K
    → {φ ψ : Type 0} {P : SProp 𝓤} → φ → ψ
    → Step K 𝓛 Γ (prop P) Γ (prop (sep 𝓤 P (sep 𝓤 (fact 𝓤 φ) (fact 𝓤 ψ))))
says_both {𝓤 = 𝓤} {𝓛 = 𝓛} t {φ} {ψ} {P} x y = step (λ s.
    suffices t (sep 𝓤 (sep 𝓤 P (fact 𝓤 φ)) (fact 𝓤 ψ)) (assoc∗ 𝓤 P (fact 𝓤 φ) (fact 𝓤 ψ)) $ says t y $ says t x $ s)

-- a pointer has its type
pub pointer_good : (p : Ptr) → T (has_ty ty_ptr (ptr_val p)) × WT (ptr_val p)
pointer_good (block_ptr b o) = (tt, tt)
pointer_good null_ptr = (tt, record { fits = lit< tt })

and_true : (y : Bool) → T y → T (y && true)
and_true true t = tt
and_true false t = t

-- a box within `Some` has its type, as the box has
pub some_good : (v : Val) → T (has_ty (lone Boxed.mir) v) × WT v
    → T (has_ty (lone (Opt Boxed).mir) (live 1 (vcons v vnil))) × WT (live 1 (vcons v vnil))
some_good v good = (and_true (has_ty (lone Boxed.mir) v) good.0, (record { fits = lit< tt }, (good.1, tt)))

-- the code behind the first n statements
abbrev pub after : ℕ → Body → Body
after zero b = b
after (suc n) (seq a b) = after n b
after (suc n) b = b

-- the machine value of the handle of a box, and of the box at p
abbrev pub handle_val : Val
handle_val = vstruct (vcons (vstruct (vcons vunit vnil)) vnil)

pub handle_good : T (has_ty (lone Global.mir) handle_val) × WT handle_val
handle_good = (tt, ((tt, tt), tt))

abbrev pub box_val : Ptr → Val
box_val p = vstruct (vcons (ptr_val p) (vcons handle_val vnil))

pub box_tells : Tells Boxed (Is Boxed) (λ d. box_val d.ptr ∷ [])
box_tells d vs is = is.0.1.0
    ∙ (λ i. vstruct (of_list (is.0.1.1.0 i ++
    (global_laws.lowers.val_is d.alloc is.0.0.1.0 is.0.1.1.1.0 i ++ []))) ∷ [])

pub box_good : (p : Ptr) → T (has_ty (lone Boxed.mir) (box_val p)) × WT (box_val p)
box_good (block_ptr b o) = (tt, (tt, (((tt, tt), tt), tt)))
box_good null_ptr = (tt, (record { fits = lit< tt }, (((tt, tt), tt), tt)))

-- ---- a call of a function of `Box`
-- the two types as it is passed them, with what drops them
abbrev pub Nodes : RattleType
Nodes = arg (bare (lone Node.mir)) no Node

abbrev pub Heap : RattleType
Heap = arg (bare (lone Global.mir)) no Global

abbrev pub Nodes-laws : Laws Nodes
Nodes-laws = arg_laws (bare (lone Node.mir)) no Node node_laws.the_row_laws refl

abbrev pub Heap-laws : Laws Heap
Heap-laws = arg_laws (bare (lone Global.mir)) no Global global_laws.the_row_laws refl

abbrev pub drops : RattleType → Dict
drops R = impl ("lot_base::Destruct++none::drop" ∷ []) (tcons (layout R) tnil) dnil

-- what drops them does nothing
pub no_drop : (γ : Env) → wired.Wired γ Destruct++none.code
    → wired.Wired γ (wired.node (("lot_base::Destruct++none::drop", NoDrop.function) ∷ []) [] wired.end)
unfolding Destruct++none.code
no_drop γ has = has

-- the handle owns nothing
pub handle_made : {M : Type 1} {𝓤 : Ura M} (𝓛 : Logic 𝓤)
    → ent 𝓤 (emp 𝓤) (sem 𝓛 (Global.own_val handle (handle_val ∷ [])))
handle_made 𝓛 =
    let memory = vstruct (vcons vunit vnil) ∷ [] in
    Struct-Makes 𝓛 (shape Heap-type)
    (λ x vs us. (tt, (tt, tt)), tt) (Heap-type.to handle) (handle_val ∷ []) (
      (memory, tt),
      (
        refl,
        (((vunit ∷ [], tt), (refl, (refl, tt))), tt),
      ),
    )
