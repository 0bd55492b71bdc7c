-- `append` links the last node of one queue to the first of the other. Assumes `Logic`.
use mathlib.Core.Path.{◌≡◌, refl, sym, ap, ◌∙◌}
use mathlib.Core.List.{List, [], ◌∷◌, ◌++◌, map-append, append-nil}
use Prim.Native.Nat.{ℕ}
use lib.Dec.{lit<}
use seplogic.Ra.Ura.{Ura}
use base.Fraction.{full_share}
use base.Logic.{SProp, ent}
use base.Fml.{Lft, GName, Share, ftrue, flft, fobs, fbor, fobor, fauth}
use contract.Monad.{Fun}
use mir.Syntax.{named}
use mir.Val.{Val, vptr, vunit, vstruct, vcons, vnil}
use prog.Memory.{Memory}
use prog.Routine.{Routine}
use prog.Wp.{Env, Calls, Loops}
use types.Logic.{Logic}
use contract.Running.{tables}
use types.Kit.{Item, Sq, ⋆, ‵, ◌⊛◌, runs, at_ret, ◌$◌, ◌∵◌, !, qed, by, move, keep, use1, use2, split, split3, join}
use types.Kit.{rewrite, fsplit, fsplit3, fjoin, fjoin3, feq_i, suffices, frame, done}
use types.Part.{whole, sub, look_in, store_in}
use types.Run.{enter, stop, fld, hop, load, lit, unit_lit, of_opd, bin, assigns, assigns_last, first, blocks, branches}
use types.Run.{skips, exec, returns, returns_within}
use types.ByLocal.{holding, alloc_all, pass_all, free_all, look_at, get, through, sets, env}
use types.SemTy.{Body as Borrowed}
use denote.Memory.{cell_at, mem}
use denote.RattleType.{owns}
use denote.RawPtr.{Ptr, block_ptr, null_ptr, ptr_val, tests_null}
use denote.Ref.{MutBor, MutRef, mut_vals, mut_Tells}
use denote.Signature.{plain}
use denote.Steps.{nothing}
use denote.Triple.Walked.{Stays, stay_ref, walk_of, ends_at, Goes-ref}
use Rattle.std.proofs.raw_atomic.Walks.{proved}
use Rattle.lot_base.specs.NodeFields.{NodeFields}
use Rattle.lot_base.specs.Chain.{Placed, all_fields, last_place, nodes_own}
use Rattle.lot_base.specs.contracts.queue.Queue.{the_row as Queue}
use Rattle.lot_base.specs.contracts.queue.Queue.append as f
use Rattle.lot_base.proofs.QueueSteps.{words, Held, node_opens, node_closes, last_of, last_place-append, cuts, joins}
use Rattle.lot_base.proofs.QueueSteps.{pointer_good, after, queue_opens, queue_closes, says_both}
use Rattle.lot_base.proofs.queue.Queue.append.Statement.{statement}
use Rattle.lot_base.proofs.queue.Queue.append.Code as code

abbrev stayed : Stays f.ended.signature.params f.ended.kept
stayed = (stay_ref (0 ∷ []) tt (plain (λ _. Queue)), (stay_ref (1 ∷ []) tt (plain (λ _. Queue)), tt))

module _ {M : Type 1} {𝓤 : Ura M} (𝓛 : Logic 𝓤) (at_mem : Memory → SProp 𝓤) (run : Routine
    → Fun 𝓤) (C : Calls 𝓤 𝓛.H) (Λ : Loops 𝓤 𝓛.H)
    (κ μ : Lft) (q s : Share) (rb ro sb so : ℕ) (γ δ : GName) (us vs : List NodeFields) where
  open 𝓛 use {H}

  abbrev self : MutBor (List NodeFields)
  self = record { ref_ptr = (rb, ro); ghost_name = γ; now = us }

  abbrev other : MutBor (List NodeFields)
  other = record { ref_ptr = (sb, so); ghost_name = δ; now = vs }

  abbrev bound : (walk_of 𝓛 f.ended stayed (f.clauses 𝓛 at_mem run)).Ghost
  bound = (((κ, (μ, tt)), (q, (s, tt)), tt, (self, (other, tt)), (mut_vals self, (mut_vals other, tt))), tt)

  abbrev Post : Val → SProp 𝓤
  Post = (walk_of 𝓛 f.ended stayed (f.clauses 𝓛 at_mem run)).post bound

  abbrev Had : List NodeFields → List NodeFields → List (Item 𝓤)
  Had u v = ‵ (fobs γ (Queue.coded.code u)) ∷ ‵ (fbor κ (Borrowed (mem Queue) rb ro γ)) ∷ ‵ (flft κ q)
      ∷ ‵ (fobs δ (Queue.coded.code v)) ∷ ‵ (fbor μ (Borrowed (mem Queue) sb so δ)) ∷ ‵ (flft μ s) ∷ []

  exits : (u v : List NodeFields) → u ≡ us ++ vs → v ≡ [] → ent 𝓤 (⋆ 𝓛 (Had u v)) (Post vunit)
  exits u v nodes emptied =
      qed 𝓛 (Had u v) ∵ suffices ! _
      (ends_at 𝓛 f.ended stayed (f.clauses 𝓛 at_mem run) bound vunit tt (u, (v, tt)) (tt, (tt, tt))) $
      says_both ! nodes emptied $
      nothing ! $ move ! (6 ∷ 0 ∷ []) $ join ! $ move ! (3 ∷ 0 ∷ []) $ join ! $ frame ! $
      feq_i ! (List Val) (vptr rb ro ∷ []) (vptr rb ro ∷ []) refl $ fjoin3 ! $
      move ! (1 ∷ 2 ∷ []) $ feq_i ! (List Val) (vptr sb so ∷ []) (vptr sb so ∷ []) refl $ fjoin3 ! $ nothing ! $
      move ! (1 ∷ 0 ∷ []) $ fjoin ! $ move ! (1 ∷ 0 ∷ []) $ fjoin ! $
      feq_i ! (List Val) (vunit ∷ []) (vunit ∷ []) refl $ move ! (1 ∷ 0 ∷ []) $ done !

  module _ (l : ℕ → ℕ) where
    abbrev E : Env 𝓤 H
    E = env code.function.locals l

    -- both queues, taken apart
    abbrev Opened : List Placed → List Placed → List (Item 𝓤)
    Opened xs ys = ‵ (Held ys) ∷ ‵ (cell_at full_share Queue.mir (words ys ∷ []) sb so)
        ∷ ‵ (fobor μ s (Borrowed (mem Queue) sb so δ)) ∷ ‵ (fobs δ (Queue.coded.code vs))
        ∷ ‵ (fauth δ (Queue.coded.code vs))
        ∷ ‵ (Held xs) ∷ ‵ (cell_at full_share Queue.mir (words xs ∷ []) rb ro)
        ∷ ‵ (fobor κ q (Borrowed (mem Queue) rb ro γ)) ∷ ‵ (fobs γ (Queue.coded.code us))
        ∷ ‵ (fauth γ (Queue.coded.code us))
        ∷ holding 𝓛 E ((2, vptr sb so) ∷ (1, vptr rb ro) ∷ [])

    told : (xs ys : List Placed) → all_fields xs ≡ us → all_fields ys ≡ vs → all_fields (xs ++ ys) ≡ us ++ vs
    told xs ys at_self at_other = map-append (λ n. n.1) xs ys ∙ (λ i. at_self i ++ at_other i)

    walk : (xs ys : List Placed) → all_fields xs ≡ us → all_fields ys ≡ vs
        → Sq 𝓛 (Opened xs ys) (runs C Λ E code.function.body (at_ret E Post))
    walk xs [] at_self at_other =
        sets ! (of_opd ! (load ! (through ! refl (fld ! refl (stop !)))
        (look_in ! 1 (sub ! 0 refl (whole !))))) refl (tt, record { fits = lit< tt }) $
        sets ! (bin ! (get ! refl) (lit ! tt) tt) refl (tt, tt) $ first ! $
        branches ! (get ! refl) (λ _. sets ! (of_opd ! (unit_lit !)) refl (tt, tt) $
        queue_closes ! tt [] sb so $ move ! (3 ∷ 4 ∷ 5 ∷ 6 ∷ 7 ∷ []) $ queue_closes ! tt xs rb ro $
        returns_within ! Post refl (look_at ! 0 refl) $ free_all ! refl $
        by ! (exits (all_fields xs) [] (ap all_fields (sym (append-nil xs))
        ∙ told xs [] at_self at_other) refl)) (λ wrong. absurd wrong)
    walk [] (y ∷ ys) at_self at_other =
        let new = y ∷ ys in
        sets ! (of_opd ! (load ! (through ! refl (fld ! refl (stop !)))
        (look_in ! 1 (sub ! 0 refl (whole !))))) refl (tt, tt) $
        sets ! (bin ! (get ! refl) (lit ! tt) (tests_null (block_ptr y.0 0) (lit< tt))) refl (tt, tt) $
        first ! $ branches ! (get ! refl) (λ wrong. absurd wrong) (λ _. skips ! $
        exec ! C Λ E (after 3 code.function.body) (at_ret E Post) $
        sets ! (of_opd ! (load ! (through ! refl (fld ! refl (stop !)))
        (look_in ! 6 (sub ! 1 refl (whole !))))) refl (tt, record { fits = lit< tt }) $
        sets ! (bin ! (get ! refl) (lit ! tt) tt) refl (tt, tt) $
        first ! $ branches ! (get ! refl) (λ _.
        sets ! (of_opd ! (load ! (through ! refl (fld ! refl (stop !)))
        (look_in ! 1 (sub ! 0 refl (whole !))))) refl (tt, tt) $
        assigns_last ! (of_opd ! (get ! refl)) (through ! refl (fld ! refl (stop !)))
        (store_in ! 6 (sub ! 0 refl (whole !)) (tt, tt)) $
        exec ! C Λ E (after 6 code.function.body) (at_ret E Post) $
        sets ! (of_opd ! (load ! (through ! refl (fld ! refl (stop !)))
        (look_in ! 1 (sub ! 1 refl (whole !))))) refl (pointer_good (last_place null_ptr new)) $
        assigns ! (of_opd ! (get ! refl)) (through ! refl (fld ! refl (stop !)))
        (store_in ! 6 (sub ! 1 refl (whole !)) (pointer_good (last_place null_ptr new))) $
        assigns ! (of_opd ! (lit ! tt)) (through ! refl (fld ! refl (stop !)))
        (store_in ! 1 (sub ! 0 refl (whole !)) (tt, record { fits = lit< tt })) $
        assigns ! (of_opd ! (lit ! tt)) (through ! refl (fld ! refl (stop !)))
        (store_in ! 1 (sub ! 1 refl (whole !)) (tt, record { fits = lit< tt })) $
        sets ! (of_opd ! (unit_lit !)) refl (tt, tt) $
        move ! (5 ∷ 1 ∷ 2 ∷ 3 ∷ 4 ∷ []) $ queue_closes ! tt [] sb so $ move ! (3 ∷ 4 ∷ 5 ∷ 6 ∷ 7 ∷ []) $
        queue_closes ! tt new rb ro $
        returns ! (look_at ! 0 refl) $ free_all ! refl $
        by ! (exits (all_fields new) [] (told [] new at_self at_other) refl)) (λ wrong. absurd wrong))
    walk (x ∷ xs) (y ∷ ys) at_self at_other =
        let old = x ∷ xs in
        let more = y ∷ ys in
        let place = block_ptr y.0 0 in
        let on = last_of x xs in
        let init = on.0 in
        let last = on.1 in
        move ! (5 ∷ []) $ rewrite ! 0 (λ (zs : List Placed). ‵ (Held zs)) on.2 refl $
        use1 𝓛 (‵ (nodes_own init (block_ptr last.0 0)) ⊛ ‵ (nodes_own (last ∷ []) null_ptr))
        (cuts 𝓛 init (last ∷ []) null_ptr) $ split ! $ move ! (1 ∷ []) $ fsplit ! $
        node_opens ! last null_ptr (λ fit.
        rewrite ! 9 (λ (p : Ptr). ‵ (cell_at full_share Queue.mir
        (vstruct (vcons (vptr x.0 0) (vcons (ptr_val p) vnil)) ∷ []) rb ro)) on.3 refl $
        -- [the last node's cell; the right to free it; nothing; the nodes before it; the other queue's nodes, pointers,
        -- borrow, obs and auth; this one's but for its nodes]
        sets ! (of_opd ! (load ! (through ! refl (fld ! refl (stop !)))
        (look_in ! 5 (sub ! 0 refl (whole !))))) refl (tt, tt) $
        sets ! (bin ! (get ! refl) (lit ! tt) (tests_null place (lit< tt))) refl (tt, tt) $
        first ! $ branches ! (get ! refl) (λ wrong. absurd wrong) (λ _. skips ! $
        exec ! C Λ E (after 3 code.function.body) (at_ret E Post) $
        sets ! (of_opd ! (load ! (through ! refl (fld ! refl (stop !)))
        (look_in ! 9 (sub ! 1 refl (whole !))))) refl (tt, tt) $
        sets ! (bin ! (get ! refl) (lit ! tt) (tests_null (block_ptr last.0 0) (lit< tt))) refl (tt, tt) $
        first ! $ branches ! (get ! refl) (λ wrong. absurd wrong) (λ _. blocks ! $
        sets ! (of_opd ! (load ! (through ! refl (fld ! refl (stop !)))
        (look_in ! 5 (sub ! 0 refl (whole !))))) refl (tt, tt) $
        assigns_last ! (of_opd ! (get ! refl)) (through ! refl (fld ! refl (hop !
        (look_in ! 9 (sub ! 1 refl (whole !))) (fld ! refl (stop !)))))
        (store_in ! 0 (sub ! 5 refl (whole !)) (tt, tt)) $
        exec ! C Λ E (after 6 code.function.body) (at_ret E Post) $
        sets ! (of_opd ! (load ! (through ! refl (fld ! refl (stop !)))
        (look_in ! 5 (sub ! 1 refl (whole !))))) refl (pointer_good (last_place null_ptr more)) $
        assigns ! (of_opd ! (get ! refl)) (through ! refl (fld ! refl (stop !)))
        (store_in ! 9 (sub ! 1 refl (whole !)) (pointer_good (last_place null_ptr more))) $
        assigns ! (of_opd ! (lit ! tt)) (through ! refl (fld ! refl (stop !)))
        (store_in ! 5 (sub ! 0 refl (whole !)) (tt, record { fits = lit< tt })) $
        assigns ! (of_opd ! (lit ! tt)) (through ! refl (fld ! refl (stop !)))
        (store_in ! 5 (sub ! 1 refl (whole !)) (tt, record { fits = lit< tt })) $
        sets ! (of_opd ! (unit_lit !)) refl (tt, tt) $
        node_closes ! last place fit $ fjoin ! $ move ! (1 ∷ 0 ∷ []) $
        use2 𝓛 (‵ (nodes_own (init ++ last ∷ []) place)) (joins 𝓛 init (last ∷ []) place) $
        rewrite ! 0 (λ (zs : List Placed). ‵ (nodes_own zs place)) (sym on.2) refl $
        use2 𝓛 (‵ (Held (old ++ more))) (joins 𝓛 old more null_ptr) $
        nothing ! $ move ! (0 ∷ 2 ∷ 3 ∷ 4 ∷ 5 ∷ []) $ queue_closes ! tt [] sb so $ move ! (3 ∷ 4 ∷ 5 ∷ 6 ∷ 7 ∷ []) $
        rewrite ! 1 (λ (p : Ptr). ‵ (cell_at full_share Queue.mir
        (vstruct (vcons (vptr x.0 0) (vcons (ptr_val p) vnil)) ∷ []) rb ro)) (sym (last_place-append
        (block_ptr x.0 0) xs y ys)) refl $
        queue_closes ! tt (old ++ more) rb ro $
        returns ! (look_at ! 0 refl) $ free_all ! refl $
        by ! (exits (all_fields (old ++ more)) [] (told old more at_self at_other) refl))))

pub append_spec : {M : Type 1} → statement M
append_spec 𝓤 𝓛 𝓜 𝓡 wired =
    let 𝓣 = tables 𝓤 𝓛.H 𝓜 𝓡 𝓡.env in
    proved 𝓛 f.ended stayed (f.clauses 𝓛 𝓜.mem 𝓡.returns) 𝓜 𝓡 (
      Goes-ref 𝓛 2 0 tt (plain
          (λ _. Queue)),
      (Goes-ref 𝓛 2 1 tt (plain (λ _. Queue)), tt),
    )
    f.Key.name code.function (code.unfolded 𝓤 𝓛.H 𝓜 𝓡 wired)
    (λ κs. (mut_vals, (mut_vals, tt)))
    (λ κs. (mut_Tells (named 0) κs.0 Queue, (mut_Tells (named 1) κs.1.0 Queue, tt))) (λ κs qs bounds a g are.
    let κ = κs.0 in let μ = κs.1.0 in let self = a.0 in let other = a.1.0 in
    qed 𝓛 (((‵ (flft κ qs.0) ⊛ ‵ (flft μ qs.1.0) ⊛ ‵ ftrue)
    ⊛ ‵ (owns (MutRef (named 0) κ Queue ∷ MutRef (named 1) μ Queue ∷ []) (self, (other, tt)) (
      mut_vals self,
      (mut_vals other, tt),
    ))) ∷ ‵ ftrue ∷ []) ∵
    split ! $ split3 ! $ move ! (3 ∷ []) $ fsplit3 ! $ fsplit3 ! $ move ! (3 ∷ []) $ fsplit3 ! $
    keep ! (4 ∷ 5 ∷ 7 ∷ 1 ∷ 2 ∷ 8 ∷ []) $
    enter ! _ _ _ _ _ $ alloc_all ! (λ l. pass_all ! refl ((tt, tt), ((tt, tt), tt)) $
    queue_opens ! tt self.now self.ref_ptr.0 self.ref_ptr.1 (λ xs at_self. move ! (5 ∷ 6 ∷ 7 ∷ []) $
    queue_opens ! tt other.now other.ref_ptr.0 other.ref_ptr.1 (λ ys at_other.
    walk 𝓛 𝓜.mem 𝓡.returns 𝓣.C 𝓣.Λ κ μ qs.0 qs.1.0 self.ref_ptr.0 self.ref_ptr.1 other.ref_ptr.0 other.ref_ptr.1
    self.ghost_name other.ghost_name self.now other.now l xs ys at_self at_other))))
