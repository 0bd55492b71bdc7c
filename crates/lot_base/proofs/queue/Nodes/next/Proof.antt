-- `next` reads the link of the node that it gives. Assumes `Logic`.
use mathlib.Core.Path.{◌≡◌, refl, ap}
use mathlib.Core.List.{List, [], ◌∷◌}
use Prim.Native.Nat.{ℕ}
use lib.Dec.{lit<}
use seplogic.Ra.Ura.{Ura}
use base.Fraction.{full_share}
use base.Logic.{SProp, ent}
use base.Fml.{GName, Share, ftrue, flft, fobs, fbor, fobor, fauth}
use contract.Lifetimes.{Lfts, AllOutlive}
use contract.Monad.{Fun}
use contract.Running.{tables}
use mir.Syntax.{named}
use mir.Val.{Val, vptr, vcons, vnil}
use prog.Memory.{Memory}
use prog.Routine.{Routine}
use prog.Wp.{Env, Calls, Loops}
use types.Kit.{Item, Sq, ⋆, ‵, ◌⊛◌, runs, at_ret, ◌$◌, ◌∵◌, !, qed, by, move, keep, use0, use1, split, split3, join}
use types.Kit.{fsplit, fsplit3, fjoin, fjoin3, feq_i, rewrite, suffices, frame, done}
use types.Logic.{Logic}
use types.Match.{live}
use types.Part.{whole, sub, agg, look_in, store_in}
use types.Run.{enter, stop, fld, hop, addr, load, look, lit, of_opd, bin, and_then, no_more, assigns, first, blocks}
use types.Run.{branches, skips, exec, returns, returns_within}
use types.ByLocal.{holding, alloc_all, pass_all, free_all, look_at, get, through, sets, sets_last, env}
use types.SemTy.{Body as Borrowed}
use denote.Memory.{cell_at, mem}
use denote.RattleType.{RattleType, owns}
use denote.RawPtr.{block_ptr, null_ptr, tests_null}
use denote.Ref.{MutBor, MutRef, ShrRef, NamedLft, mut_vals, mut_Tells}
use denote.Signature.{plain, named_lft}
use denote.SharingLaws.{contraction}
use denote.Steps.{nothing, opens, closes}
use denote.Struct.Lending.{lent_at, lent_at_shr_laws}
use denote.Triple.Walked.{Stays, stay_ref, walk_of, says, ends_at, Goes-ref}
use Rattle.std.proofs.option.Made.{Some-of, none_of}
use Rattle.std.proofs.raw_atomic.Walks.{proved}
use Rattle.std.specs.Prelude.{Some, None, MatchOption}
use Rattle.std.specs.contracts.option.Option.{the_row as Opt}
use Rattle.lot_base.specs.Chain.{Placed, all_fields, first_place, node_of, nodes_lent}
use Rattle.lot_base.specs.Node.{fields}
use Rattle.lot_base.specs.contracts.queue.Node.{the_row as Node}
use Rattle.lot_base.specs.contracts.queue.Nodes.{the_row as Rest}
use Rattle.lot_base.specs.contracts.queue.Nodes.next as f
use Rattle.lot_base.specs.declared.queue.Nodes.{Nodes}
use Rattle.lot_base.proofs.queue.Node.TheLaws as node_laws
use Rattle.lot_base.proofs.QueueSteps.{pointer_good, after}
use Rattle.lot_base.proofs.QueueShows.{pointer_in, pointer_out, rest, rest_val, rest_had, rest_made, node_lent}
use Rattle.lot_base.proofs.QueueShows.{link_lent}
use Rattle.lot_base.proofs.queue.Nodes.next.Statement.{statement}
use Rattle.lot_base.proofs.queue.Nodes.next.Code as code

abbrev stayed : Stays f.ended.signature.params f.ended.kept
stayed = (stay_ref (0 ∷ []) tt (plain (λ κs. Rest (named_lft 2 1 tt κs))), tt)

module _ {M : Type 1} {𝓤 : Ura M} (𝓛 : Logic 𝓤) (at_mem : Memory → SProp 𝓤) (run : Routine
    → Fun 𝓤) (C : Calls 𝓤 𝓛.H) (Λ : Loops 𝓤 𝓛.H)
    (κs : Lfts 2) (q s : Share) (bounds : AllOutlive 2 f.ended.signature.outlives κs) (rb ro : ℕ) (γ : GName)
    (d : Nodes) where
  open 𝓛 use {H}

  abbrev life : NamedLft
  life = named_lft 2 1 tt κs

  abbrev Row : RattleType
  Row = Rest life

  abbrev Ref : RattleType
  Ref = ShrRef (named 1) κs.1.0 Node

  abbrev Out : RattleType
  Out = Opt Ref

  abbrev self : MutBor Nodes
  self = record { ref_ptr = (rb, ro); ghost_name = γ; now = d }

  abbrev bound : (walk_of 𝓛 f.ended stayed (f.clauses 𝓛 at_mem run)).Ghost
  bound = ((κs, (q, (s, tt)), bounds, (self, tt), (mut_vals self, tt)), tt)

  abbrev Post : Val → SProp 𝓤
  Post = (walk_of 𝓛 f.ended stayed (f.clauses 𝓛 at_mem run)).post bound

  abbrev Gives : Nodes → Out.Denot → Type 0
  Gives new r = MatchOption r ((d.nodes ≡ []) × (new.nodes ≡ []))
      (λ node. all_fields d.nodes ≡ fields node.now ∷ all_fields new.nodes)

  abbrev Had : Nodes → Out.Denot → Val → List (Item 𝓤)
  Had u r v = ‵ (fobs γ (Row.coded.code u)) ∷ ‵ (fbor κs.0 (Borrowed (mem Row) rb ro γ)) ∷ ‵ (flft κs.0 q)
      ∷ ‵ (flft κs.1.0 s) ∷ ‵ (Out.own_val r (v ∷ [])) ∷ []

  exits : (u : Nodes) (r : Out.Denot) (v : Val) → Gives u r → ent 𝓤 (⋆ 𝓛 (Had u r v)) (Post v)
  exits u r v told =
      qed 𝓛 (Had u r v) ∵ suffices ! _
      (ends_at 𝓛 f.ended stayed (f.clauses 𝓛 at_mem run) bound v r (u, tt) (tt, tt)) $ says ! told $
      nothing ! $ move ! (4 ∷ 0 ∷ []) $ join ! $ move ! (3 ∷ 0 ∷ []) $ join ! $ frame ! $
      feq_i ! (List Val) (vptr rb ro ∷ []) (vptr rb ro ∷ []) refl $ fjoin3 ! $ nothing ! $ move ! (1 ∷ 0 ∷ []) $
      fjoin ! $ done !

  module _ (l : ℕ → ℕ) where
    abbrev E : Env 𝓤 H
    E = env code.function.locals l

    abbrev Opened : List Placed → List (Item 𝓤)
    Opened ns = ‵ (nodes_lent ns null_ptr κs.1.0) ∷ ‵ (cell_at full_share Row.mir (rest_val ns ∷ []) rb ro)
        ∷ ‵ (fobor κs.0 q (Borrowed (mem Row) rb ro γ)) ∷ ‵ (fobs γ (Row.coded.code d))
        ∷ ‵ (fauth γ (Row.coded.code d))
        ∷ ‵ (flft κs.1.0 s) ∷ holding 𝓛 E ((1, vptr rb ro) ∷ [])

    walk : (ns : List Placed) → d.nodes ≡ ns → Sq 𝓛 (Opened ns) (runs C Λ E code.function.body (at_ret E Post))
    walk [] is =
        let none : Val = live 0 vnil in
        sets ! (of_opd ! (load ! (through ! refl (fld ! refl (stop !)))
        (look_in ! 1 (sub ! 0 refl (whole !))))) refl (tt, record { fits = lit< tt }) $
        sets ! (bin ! (get ! refl) (lit ! tt) tt) refl (tt, tt) $ first ! $ branches ! (get ! refl)
        (λ _. sets ! (agg ! (and_then ! (lit ! tt) (no_more !))) refl (tt, (record { fits = lit< tt }, tt)) $
        rest_made ! life [] $ move ! (1 ∷ 0 ∷ 2 ∷ 3 ∷ 4 ∷ []) $ closes ! tt Row (rest []) (rest_val [] ∷ []) rb ro $
        returns_within ! Post refl (look_at ! 0 refl) $ free_all ! refl $
        use0 𝓛 (‵ (Out.own_val None (none ∷ []))) (none_of 𝓛 Ref) $ move ! (1 ∷ 2 ∷ 3 ∷ 4 ∷ 0 ∷ []) $
        by ! (exits (rest []) None none (is, refl))) (λ wrong. absurd wrong)
    walk (x ∷ xs) is =
        let link = first_place xs null_ptr in
        let node = node_of x.1 link in
        let found : Ref.Denot = record { ref_ptr = (x.0, 0); now = node } in
        let some : Val = live 1 (vcons (vptr x.0 0) vnil) in
        let lent = lent_at Node (block_ptr x.0 0) node in
        sets ! (of_opd ! (load ! (through ! refl (fld ! refl (stop !)))
        (look_in ! 1 (sub ! 0 refl (whole !))))) refl (tt, tt) $
        sets ! (bin ! (get ! refl) (lit ! tt) (tests_null (block_ptr x.0 0) (lit< tt))) refl (tt, tt) $
        first ! $ branches ! (get ! refl) (λ wrong. absurd wrong) (λ _. skips ! $
        exec ! C Λ E (after 3 code.function.body) (at_ret E Post) $
        first ! $ blocks ! $ sets_last ! (addr ! (through ! refl (fld ! refl (hop !
        (look_in ! 1 (sub ! 0 refl (whole !))) (stop !))))) refl (tt, tt) $
        exec ! C Λ E (after 4 code.function.body) (at_ret E Post) $ sets ! (of_opd ! (get ! refl)) refl (tt, tt) $
        fsplit ! $ use1 𝓛 (‵ (lent κs.1.0)
        ⊛ ‵ (lent κs.1.0)) (contraction 𝓛 lent (lent_at_shr_laws Node node_laws.the_row_laws.shr_laws
        (block_ptr x.0 0) node) κs.1.0) $ split ! $
        link_lent ! x link $ move ! (0 ∷ 7 ∷ []) $ pointer_in ! tt link x.0 40 (λ part.
        sets ! (of_opd ! (load ! (through ! refl (fld ! refl (stop !))) (look ! 0 refl))) refl (pointer_good link) $
        pointer_out ! tt link x.0 40 $
        -- [the token; a `&` to the node; those to the nodes behind it; the pointer; the open borrow; obs; auth]
        assigns ! (of_opd ! (get ! refl)) (through ! refl (fld ! refl (stop !)))
        (store_in ! 3 (sub ! 0 refl (whole !)) (pointer_good link)) $
        sets ! (agg ! (and_then ! (lit ! tt) (and_then ! (get ! refl) (no_more !)))) refl (
          tt,
          (record { fits = lit< tt }, (tt, tt)),
        ) $
        move ! (2 ∷ []) $ rest_made ! life xs $ move ! (3 ∷ 0 ∷ 4 ∷ 5 ∷ 6 ∷ []) $
        closes ! tt Row (rest xs) (rest_val xs ∷ []) rb ro $
        returns ! (look_at ! 0 refl) $ free_all ! refl $
        move ! (4 ∷ []) $ node_lent ! x link $ feq_i ! (List Val) (vptr x.0 0 ∷ []) (vptr x.0 0 ∷ []) refl $ fjoin ! $
        use1 𝓛 (‵ (Out.own_val (Some found) (some ∷ []))) (Some-of 𝓛 Ref found (vptr x.0 0)) $
        move ! (1 ∷ 2 ∷ 3 ∷ 4 ∷ 0 ∷ []) $
        by ! (exits (rest xs) (Some found) some (ap all_fields is))))

pub next_spec : {M : Type 1} → statement M
next_spec 𝓤 𝓛 𝓜 𝓡 wired =
    let 𝓣 = tables 𝓤 𝓛.H 𝓜 𝓡 𝓡.env in
    let S = plain (λ (κs : Lfts 2). Rest (named_lft 2 1 tt κs)) in
    proved 𝓛 f.ended stayed (f.clauses 𝓛 𝓜.mem 𝓡.returns) 𝓜 𝓡 (Goes-ref 𝓛 2 0 tt S, tt)
    f.Key.name code.function (code.unfolded 𝓤 𝓛.H 𝓜 𝓡 wired) (λ κs. (mut_vals, tt))
    (λ κs. (mut_Tells (named 0) κs.0 (Rest (named_lft 2 1 tt κs)), tt)) (λ κs qs bounds a g are.
    let κ = κs.0 in let μ = κs.1.0 in let self = a.0 in let row = Rest (named_lft 2 1 tt κs) in
    let b = self.ref_ptr.0 in let o = self.ref_ptr.1 in
    qed 𝓛 (((‵ (flft κ qs.0) ⊛ ‵ (flft μ qs.1.0) ⊛ ‵ ftrue)
    ⊛ ‵ (owns (MutRef (named 0) κ row ∷ []) (self, tt) (mut_vals self, tt))) ∷ ‵ ftrue ∷ []) ∵
    split ! $ split3 ! $ move ! (3 ∷ []) $ fsplit ! $ fsplit3 ! $ keep ! (1 ∷ 2 ∷ 4 ∷ 5 ∷ []) $
    enter ! _ _ _ _ _ $ alloc_all ! (λ l. pass_all ! refl ((tt, tt), tt) $
    opens ! tt row b o (λ us. move ! (1 ∷ []) $ rest_had ! (named_lft 2 1 tt κs) self.now us (λ is.
    rewrite ! 1 (λ (ws : List Val). ‵ (cell_at full_share row.mir ws b o)) is refl $
    walk 𝓛 𝓜.mem 𝓡.returns 𝓣.C 𝓣.Λ κs qs.0 qs.1.0 bounds b o self.ghost_name self.now l self.now.nodes refl))))
