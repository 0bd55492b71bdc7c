-- `pop_front` takes the first node out of the row, and makes its pointer a box again. Assumes `Logic`.
use mathlib.Core.Path.{◌≡◌, refl, sym, ap, subst, ◌∙◌}
use mathlib.Core.List.{List, [], ◌∷◌, ◌++◌}
use Prim.Native.Nat.{ℕ}
use lib.Dec.{T, lit<}
use seplogic.Ra.Ura.{Ura}
use base.Fraction.{full_share}
use base.Logic.{SProp, ent, emp, id⊢}
use base.Fml.{fat, Lft, GName, Share, ftrue, flft, fobs, fbor, fobor, fauth}
use contract.BorrowLft.{◌⊑◌, ⊑_refl}
use contract.Monad.{fact, fact_i}
use contract.Running.{Running, MachineTables, tables}
use prog.Model.{Model}
use prog.Wired.{Wired}
use mir.Syntax.{named}
use mir.Val.{Val, has_ty, WT, vptr, vcons, vnil}
use prog.Wp.{Env, Calls, Loops}
use types.Kit.{Item, Sq, ⋆, ‵, raw, some, later, ◌⊛◌, runs, at_ret, ◌$◌, ◌∵◌, !, qed, by, await, pick, group, move}
use types.Kit.{keep, drop, use0, use1, split, join, fsplit, fsplit3, fjoin, fjoin3, feq_i, suffices, frame, done}
use types.Logic.{Logic}
use types.Match.{live}
use types.Part.{whole, sub, agg, look_in, store_in}
use types.Run.{enter, stop, fld, load, lit, of_opd, bin, and_then, no_more, assigns, assigns_last, first, blocks}
use types.Run.{branches, skips, exec, returns, returns_within}
use types.ByLocal.{holding, forget_but, alloc_all, pass_all, free_all, look_at, get, through, sets, sets_last}
use types.ByLocal.{lands_last, env}
use types.SemTy.{Body as Borrowed}
use denote.Memory.{cell_at, lone, mem}
use denote.RattleType.{RattleType, owns}
use denote.RawPtr.{block_ptr, null_ptr, tests_null}
use denote.Ref.{MutBor, MutRef, mut_vals, mut_Tells}
use denote.Signature.{plain}
use denote.Laws.{Is, shows}
use denote.Steps.{nothing, only, heard, peeks}
use denote.Param.NoDrop
use denote.Triple.Call.{calls_at_last}
use denote.Triple.Clauses.{Ended, Lasts, lasts}
use denote.Triple.Spec.{triple_of}
use denote.Triple.Table.{framed}
use denote.Triple.Walked.{Stays, stay_ref, walk_of, ends_at, Goes-ref}
use Rattle.std.proofs.option.Made.{Some-of, none_of}
use Rattle.std.proofs.raw_atomic.Walks.{proved}
use Rattle.std.specs.Prelude.{IsNone, ◌↔◌, Some, None}
use Rattle.std.specs.contracts.option.Option.{the_row as Opt}
use Rattle.lot_base.specs.NodeFields.{NodeFields}
use Rattle.lot_base.specs.Node.{fields, option_nodes}
use Rattle.lot_base.specs.Chain.{Placed, all_fields, first_place, node_of}
use Rattle.std.proofs.boxed.Box.from_raw.Met as from_raw_met
use Rattle.std.proofs.impls.GlobalAllocator.TheImpl.Met as global_met
use Rattle.std.specs.contracts.alloc.Global.{the_row as Global}
use Rattle.std.specs.contracts.boxed.Box.from_raw as from_raw
use Rattle.std.specs.contracts.impls.GlobalAllocator.TheImpl.{ghosts, dict}
use Rattle.lot_base.specs.contracts.queue.Node.{the_row as Node}
use Rattle.lot_base.specs.contracts.queue.Queue.{the_row as Queue}
use Rattle.lot_base.specs.contracts.queue.Queue.pop_front as f
use Rattle.lot_base.proofs.QueueSteps.{box_tells, box_good, some_good, no_drop, Fit, node_val, may_free, handle}
use Rattle.lot_base.proofs.QueueSteps.{handle_val, handle_good, Boxed, words, Held, node_opens, node_closes, after}
use Rattle.lot_base.proofs.QueueSteps.{queue_opens, queue_closes, says_both, Nodes, Heap, Nodes-laws, Heap-laws, drops}
use Rattle.lot_base.proofs.QueueSteps.{handle_made}
use Rattle.lot_base.proofs.queue.Queue.pop_front.Statement.{statement}
use Rattle.lot_base.proofs.queue.Queue.pop_front.Code as code

abbrev stayed : Stays f.ended.signature.params f.ended.kept
stayed = (stay_ref (0 ∷ []) tt (plain (λ _. Queue)), tt)

abbrev Out : RattleType
Out = Opt Boxed

abbrev called : Ended
called = from_raw.ended Nodes Heap ghosts dict (drops Heap)

module _ {M : Type 1} {𝓤 : Ura M} (𝓛 : Logic 𝓤) (𝓜 : Model 𝓤 𝓛.H) (𝓡 : Running 𝓤 𝓛.H 𝓜) (wired : Wired 𝓡.env code.code)
    (κ : Lft) (q : Share) (rb ro : ℕ) (γ : GName) (us : List NodeFields) where
  open 𝓛 use {H}

  abbrev 𝓣 : MachineTables 𝓤 H 𝓜
  𝓣 = tables 𝓤 H 𝓜 𝓡 𝓡.env

  abbrev C : Calls 𝓤 H
  C = 𝓣.C

  abbrev Λ : Loops 𝓤 H
  Λ = 𝓣.Λ

  abbrev self : MutBor (List NodeFields)
  self = record { ref_ptr = (rb, ro); ghost_name = γ; now = us }

  abbrev bound : (walk_of 𝓛 f.ended stayed (f.clauses 𝓛 𝓜.mem 𝓡.returns)).Ghost
  bound = (((κ, tt), (q, tt), tt, (self, tt), (mut_vals self, tt)), tt)

  abbrev Post : Val → SProp 𝓤
  Post = (walk_of 𝓛 f.ended stayed (f.clauses 𝓛 𝓜.mem 𝓡.returns)).post bound

  abbrev Had : List NodeFields → Out.Denot → Val → List (Item 𝓤)
  Had u r v = ‵ (fobs γ (Queue.coded.code u)) ∷ ‵ (fbor κ (Borrowed (mem Queue) rb ro γ)) ∷ ‵ (flft κ q)
      ∷ ‵ (Out.own_val r (v ∷ [])) ∷ []

  exits : (u : List NodeFields) (r : Out.Denot) (v : Val) → us ≡ option_nodes r ++ u → (IsNone r ↔ (us ≡ []))
      → ent 𝓤 (⋆ 𝓛 (Had u r v)) (Post v)
  exits u r v nodes none =
      qed 𝓛 (Had u r v) ∵ suffices ! _
      (ends_at 𝓛 f.ended stayed (f.clauses 𝓛 𝓜.mem 𝓡.returns) bound v r (u, tt) (tt, tt)) $
      says_both ! nodes none $
      nothing ! $ move ! (3 ∷ 0 ∷ []) $ join ! $ frame ! $
      feq_i ! (List Val) (vptr rb ro ∷ []) (vptr rb ro ∷ []) refl $ fjoin3 ! $ nothing ! $ move ! (1 ∷ 0 ∷ []) $
      fjoin ! $
      done !

  module _ (l : ℕ → ℕ) where
    abbrev E : Env 𝓤 H
    E = env code.function.locals l

    abbrev Opened : List Placed → List (Item 𝓤)
    Opened xs = ‵ (Held xs) ∷ ‵ (cell_at full_share Queue.mir (words xs ∷ []) rb ro)
        ∷ ‵ (fobor κ q (Borrowed (mem Queue) rb ro γ)) ∷ ‵ (fobs γ (Queue.coded.code us))
        ∷ ‵ (fauth γ (Queue.coded.code us))
        ∷ holding 𝓛 E ((1, vptr rb ro) ∷ [])

    not_none : (r : Boxed.Denot) (x : Placed) (xs : List Placed) → all_fields (x ∷ xs) ≡ us
        → IsNone (Some r) ↔ (us ≡ [])
    not_none r x xs seen = (λ e. absurd (cc e), λ e. absurd (cc (seen, e)))

    -- the first node, behind the queue that it has left
    abbrev Left : Placed → List Placed → List (Item 𝓤)
    Left x xs = ‵ (fat full_share (lone Node.mir) x.0 0 (node_val x.1 (first_place xs null_ptr))) ∷ ‵ (may_free x.0)
        ∷ ‵ (Held xs) ∷ ‵ (cell_at full_share Queue.mir (words xs ∷ []) rb ro)
        ∷ ‵ (fobor κ q (Borrowed (mem Queue) rb ro γ)) ∷ ‵ (fobs γ (Queue.coded.code us))
        ∷ ‵ (fauth γ (Queue.coded.code us))
        ∷ holding 𝓛 E ((2, vptr x.0 0) ∷ (1, vptr rb ro) ∷ [])

    leaves : (x : Placed) (xs : List Placed) → Fit x.1 → all_fields (x ∷ xs) ≡ us
        → Sq 𝓛 (Left x xs) (runs C Λ E (after 9 code.function.body) (at_ret E Post))
    leaves x xs fit seen =
        let link = first_place xs null_ptr in
        let node = node_of x.1 link in
        let G = triple_of 𝓛 (from_raw.signature Nodes Heap ghosts dict (drops Heap))
        (from_raw.spec Nodes Heap ghosts dict (drops Heap) 𝓛 𝓜.mem 𝓡.returns) in
        let z : G.Ghost = (
          (
            ([], ([], tt)),
            (full_share, (full_share, tt)),
            tt,
            (handle, (block_ptr x.0 0, tt)),
            (handle_val ∷ [], (vptr x.0 0 ∷ [], tt)),
          ),
          node,
        ) in
        first ! $ blocks ! $
        sets ! (of_opd ! (load ! (through ! refl (fld ! refl (stop !)))
        (look_in ! 0 (sub ! 6 refl (whole !))))) refl handle_good $ sets ! (of_opd ! (get ! refl)) refl (tt, tt) $
        node_closes ! x link fit $
        use0 𝓛 (raw (fact 𝓤 ([] ⊑ []))) (fact_i 𝓤 ([] ⊑ []) (emp 𝓤) (⊑_refl [])) $
        use0 𝓛 (raw (fact 𝓤 ([] ⊑ []))) (fact_i 𝓤 ([] ⊑ []) (emp 𝓤) (⊑_refl [])) $ group ! 3 $
        nothing ! $ feq_i ! (List Val) (vptr x.0 0 ∷ []) (vptr x.0 0 ∷ []) refl $ fjoin ! $
        use0 𝓛 (‵ (Global.own_val handle (handle_val ∷ []))) (handle_made 𝓛) $ fjoin ! $
        nothing ! $ use0 𝓛 (‵ (flft [] full_share)) (𝓛.lfts.lft-nil full_share) $
        use0 𝓛 (‵ (flft [] full_share)) (𝓛.lfts.lft-nil full_share) $ group ! 3 $ join ! $ join ! $
        use1 𝓛 (raw (G.pre z)) (id⊢ 𝓤 _) $
        calls_at_last ! (framed 𝓤 H 𝓜 𝓣) G
        (from_raw_met.met 𝓤 𝓛 𝓜 𝓡
        (code.calls-std_alloc::boxed::Box::from_raw 𝓡.env wired) Nodes Heap Nodes-laws Heap-laws ghosts dict
        (drops Heap)
        (global_met.passed 𝓡.env (code.calls-std_heap::GlobalAllocator::allocate 𝓡.env wired)
        (code.calls-std_heap::GlobalAllocator::deallocate 𝓡.env wired)
        (code.calls-std_heap::GlobalAllocator::grow 𝓡.env wired)
        (code.calls-std_heap::GlobalAllocator::shrink 𝓡.env wired) M 𝓤 𝓛 𝓜 𝓡)
        (NoDrop.glues "lot_base::Destruct++none::drop" 𝓡.env (no_drop 𝓡.env
        (code.calls-lot_base::Destruct++none::drop 𝓡.env wired)) Heap Heap-laws M 𝓤 𝓛 𝓜 𝓡)) z
        (and_then ! (get ! refl) (and_then ! (get ! refl) (no_more !))) (λ v.
        use1 𝓛 (later (some (λ (r : Boxed.Denot). ((‵ (flft [] full_share) ⊛ ‵ (flft [] full_share) ⊛ ‵ ftrue)
        ⊛ ‵ (Boxed.own_val r (v ∷ []))) ⊛
        some (λ (ws : Lasts called ([], ([], tt)) (handle, (block_ptr x.0 0, tt))). ‵ (lasts called (
          [],
          ([], tt),
        ) (handle, (block_ptr x.0 0, tt)) ws) ⊛ (raw (fact 𝓤 (r.value ≡ node)) ⊛ raw (fact 𝓤
        (r.alloc ≡ handle))))))) (id⊢ 𝓤 _) $
        await ! tt $ pick ! (λ r. split ! $ move ! (1 ∷ []) $ pick ! (λ _. split ! $ drop ! $ split ! $
        heard ! (r.value ≡ node) (λ same. drop ! $ split ! $ drop ! $
        peeks ! Boxed (Is Boxed) (shows 𝓛 Boxed) r (v ∷ []) (λ is.
        let good : T (has_ty (lone Boxed.mir) v) × WT v = subst
        (λ (w : Val). T (has_ty (lone Boxed.mir) w) × WT w) (sym (ap only (box_tells r (v ∷ []) is)))
        (box_good r.ptr) in
        let some : Val = live 1 (vcons v vnil) in
        lands_last ! refl good $ exec ! C Λ E (after 10 code.function.body) (at_ret E Post) $
        sets ! (of_opd ! (get ! refl)) refl good $
        sets ! (agg ! (and_then ! (lit ! tt) (and_then ! (get ! refl) (no_more !)))) refl (some_good v good) $
        use1 𝓛 (‵ (Out.own_val (Some r) (some ∷ []))) (Some-of 𝓛 Boxed r v) $ move ! (1 ∷ 2 ∷ 3 ∷ 4 ∷ 5 ∷ []) $
        queue_closes ! tt xs rb ro $
        returns ! (look_at ! 0 refl) $ free_all ! refl $
        by ! (exits (all_fields xs) (Some r) some (sym seen
        ∙ ap (λ (n : Node.Denot). fields n ∷ all_fields xs) (sym same)) (not_none r x xs seen)))))))

    walk : (xs : List Placed) → all_fields xs ≡ us → Sq 𝓛 (Opened xs) (runs C Λ E code.function.body (at_ret E Post))
    walk [] seen =
        let none : Val = live 0 vnil in
        sets ! (of_opd ! (load ! (through ! refl (fld ! refl (stop !)))
        (look_in ! 1 (sub ! 0 refl (whole !))))) refl (tt, record { fits = lit< tt }) $
        sets ! (of_opd ! (get ! refl)) refl (tt, record { fits = lit< tt }) $
        sets ! (bin ! (get ! refl) (lit ! tt) tt) refl (tt, tt) $ first ! $ branches ! (get ! refl)
        (λ _. sets ! (agg ! (and_then ! (lit ! tt) (no_more !))) refl (tt, (record { fits = lit< tt }, tt)) $
        use0 𝓛 (‵ (Out.own_val None (none ∷ []))) (none_of 𝓛 Boxed) $ move ! (1 ∷ 2 ∷ 3 ∷ 4 ∷ 5 ∷ []) $
        queue_closes ! tt [] rb ro $
        returns_within ! Post refl (look_at ! 0 refl) $ free_all ! refl $
        by ! (exits [] None none (sym seen) ((λ _. sym seen), (λ _. refl)))) (λ wrong. absurd wrong)
    walk (x ∷ []) seen =
        fsplit ! $ node_opens ! x null_ptr (λ fit.
        sets ! (of_opd ! (load ! (through ! refl (fld ! refl (stop !)))
        (look_in ! 3 (sub ! 0 refl (whole !))))) refl (tt, tt) $
        sets ! (of_opd ! (get ! refl)) refl (tt, tt) $
        sets ! (bin ! (get ! refl) (lit ! tt) (tests_null (block_ptr x.0 0) (lit< tt))) refl (tt, tt) $
        first ! $ branches ! (get ! refl) (λ wrong. absurd wrong) (λ _. skips ! $
        exec ! C Λ E (after 4 code.function.body) (at_ret E Post) $
        first ! $ blocks ! $ sets_last ! (of_opd ! (load ! (through ! refl (fld ! refl (stop !)))
        (look_in ! 0 (sub ! 5 refl (whole !))))) refl (tt, record { fits = lit< tt }) $
        exec ! C Λ E (after 5 code.function.body) (at_ret E Post) $
        assigns ! (of_opd ! (get ! refl)) (through ! refl (fld ! refl (stop !)))
        (store_in ! 3 (sub ! 0 refl (whole !)) (tt, record { fits = lit< tt })) $
        sets ! (of_opd ! (load ! (through ! refl (fld ! refl (stop !)))
        (look_in ! 3 (sub ! 0 refl (whole !))))) refl (tt, record { fits = lit< tt }) $
        sets ! (bin ! (get ! refl) (lit ! tt) tt) refl (tt, tt) $ first ! $ branches ! (get ! refl)
        (λ _. assigns_last ! (of_opd ! (lit ! tt)) (through ! refl (fld ! refl (stop !)))
        (store_in ! 3 (sub ! 1 refl (whole !)) (tt, record { fits = lit< tt })) $
        exec ! C Λ E (after 9 code.function.body) (at_ret E Post) $ forget_but ! E (1 ∷ 2 ∷ []) refl $
        leaves x [] fit seen) (λ wrong. absurd wrong)))
    walk (x ∷ y ∷ ys) seen =
        let place = block_ptr y.0 0 in
        fsplit ! $ node_opens ! x place (λ fit.
        sets ! (of_opd ! (load ! (through ! refl (fld ! refl (stop !)))
        (look_in ! 3 (sub ! 0 refl (whole !))))) refl (tt, tt) $
        sets ! (of_opd ! (get ! refl)) refl (tt, tt) $
        sets ! (bin ! (get ! refl) (lit ! tt) (tests_null (block_ptr x.0 0) (lit< tt))) refl (tt, tt) $
        first ! $ branches ! (get ! refl) (λ wrong. absurd wrong) (λ _. skips ! $
        exec ! C Λ E (after 4 code.function.body) (at_ret E Post) $
        first ! $ blocks ! $ sets_last ! (of_opd ! (load ! (through ! refl (fld ! refl (stop !)))
        (look_in ! 0 (sub ! 5 refl (whole !))))) refl (tt, tt) $
        exec ! C Λ E (after 5 code.function.body) (at_ret E Post) $
        assigns ! (of_opd ! (get ! refl)) (through ! refl (fld ! refl (stop !)))
        (store_in ! 3 (sub ! 0 refl (whole !)) (tt, tt)) $
        sets ! (of_opd ! (load ! (through ! refl (fld ! refl (stop !)))
        (look_in ! 3 (sub ! 0 refl (whole !))))) refl (tt, tt) $
        sets ! (bin ! (get ! refl) (lit ! tt) (tests_null place (lit< tt))) refl (tt, tt) $
        first ! $ branches ! (get ! refl) (λ wrong. absurd wrong)
        (λ _. skips ! $ exec ! C Λ E (after 9 code.function.body) (at_ret E Post) $
        forget_but ! E (1 ∷ 2 ∷ []) refl $ leaves x (y ∷ ys) fit seen)))

pub pop_front_spec : {M : Type 1} → statement M
pop_front_spec 𝓤 𝓛 𝓜 𝓡 wired =
    proved 𝓛 f.ended stayed (f.clauses 𝓛 𝓜.mem 𝓡.returns) 𝓜 𝓡 (Goes-ref 𝓛 1 0 tt (plain (λ _. Queue)), tt)
    f.Key.name code.function (code.unfolded 𝓤 𝓛.H 𝓜 𝓡 wired) (λ κs. (mut_vals, tt))
    (λ κs. (mut_Tells (named 0) κs.0 Queue, tt)) (λ κs qs bounds a g are.
    let κ = κs.0 in let self = a.0 in
    qed 𝓛 (((‵ (flft κ qs.0) ⊛ ‵ ftrue) ⊛ ‵ (owns (MutRef (named 0) κ Queue ∷ []) (self, tt) (mut_vals self, tt)))
    ∷ ‵ ftrue ∷ []) ∵
    split ! $ split ! $ move ! (2 ∷ []) $ fsplit ! $ fsplit3 ! $ keep ! (1 ∷ 2 ∷ 4 ∷ []) $
    enter ! _ _ _ _ _ $ alloc_all ! (λ l. pass_all ! refl ((tt, tt), tt) $
    queue_opens ! tt self.now self.ref_ptr.0 self.ref_ptr.1 (λ xs seen.
    walk 𝓛 𝓜 𝓡 wired κ qs.0 self.ref_ptr.0 self.ref_ptr.1 self.ghost_name self.now l xs seen)))
