-- `of` keeps the box as its pointer. Assumes `Logic`.
use mathlib.Core.Path.{refl, ap, ◌∙◌}
use mathlib.Core.List.{[], ◌∷◌}
use lib.Dec.{lit<}
use base.Fraction.{full_share}
use base.Fml.{ftrue, flft}
use base.Logic.{emp, id⊢}
use contract.BorrowLft.{◌⊑◌, ⊑_refl}
use contract.Monad.{fact, fact_i}
use contract.Running.{tables}
use types.Kit.{‵, raw, some, later, ◌⊛◌, ◌$◌, ◌∵◌, !, qed, await, pick, group, split, move, join, keep, drop, use0}
use types.Kit.{use1, fjoin, feq_l, at_ret, suffices, done}
use types.Part.{agg, whole, sub, store_in}
use types.Run.{enter, of_opd, lit, stop, fld, first, blocks, exec, assigns_last, and_then, no_more, returns}
use types.ByLocal.{alloc_all, pass_all, free_all, look_at, get, through, sets, lands_as, env}
use denote.Exit.{yes}
use denote.Param.NoDrop
use denote.RattleType.{owns}
use denote.Signature.{plain}
use denote.Steps.{nothing, only}
use denote.Triple.Call.{calls_at}
use denote.Triple.Clauses.{Ended, Lasts, lasts}
use denote.RawPtr.{Ptr, RawPtr, null_ptr, ptr_val}
use Rattle.std.specs.Box.Ownership.{box_owns}
use denote.Triple.Spec.{triple_of}
use denote.Triple.Table.{framed}
use denote.Triple.Walked.{Stays, walk_of, says, ends_at, stay_dropped, Goes-dropped}
use Rattle.std.proofs.raw_atomic.Walks.{proved}
use Rattle.std.proofs.boxed.Box.into_raw.Met as raw_met
use Rattle.std.proofs.impls.GlobalAllocator.TheImpl.Met as global_met
use Rattle.std.specs.contracts.boxed.Box.into_raw as into_raw
use Rattle.std.specs.contracts.impls.GlobalAllocator.TheImpl.{ghosts, dict}
use Rattle.lot_base.specs.contracts.queue.Node.{the_row as Node}
use Rattle.lot_base.specs.contracts.queue.Queue.of as f
use Rattle.lot_base.proofs.queue.Queue.of.Statement.{statement}
use Rattle.lot_base.proofs.queue.Queue.of.Code as code
use Rattle.lot_base.specs.Node.{fields}
use Rattle.lot_base.proofs.QueueSteps.{no_drop, Nodes, Heap, Nodes-laws, Heap-laws, drops, node_taken, node_closes}
use Rattle.lot_base.proofs.QueueSteps.{after, Boxed, words, queue_made, box_val, box_tells, box_good}

abbrev stayed : Stays f.ended.signature.params f.ended.kept
stayed = (stay_dropped (plain (λ _. Boxed)) yes, tt)

abbrev called : Ended
called = into_raw.ended Nodes Heap ghosts dict (drops Heap) (drops Nodes)

pub of_spec : {M : Type 1} → statement M
of_spec 𝓤 𝓛 𝓜 𝓡 wired =
    let c = f.clauses 𝓛 𝓜.mem 𝓡.returns in let 𝓣 = tables 𝓤 𝓛.H 𝓜 𝓡 𝓡.env in
    proved 𝓛 f.ended stayed c 𝓜 𝓡 (Goes-dropped 𝓛 0 (plain (λ _. Boxed)) yes (λ κs x w. refl), tt)
    f.Key.name code.function (code.unfolded 𝓤 𝓛.H 𝓜 𝓡 wired) (λ κs. ((λ d. box_val d.ptr ∷ []), tt))
    (λ κs. (box_tells, tt)) (λ κs qs bounds a g are.
    let node = a.0 in
    let W = walk_of 𝓛 f.ended stayed c in
    let y : W.Ghost = ((κs, qs, bounds, a, (box_val node.ptr ∷ [], tt)), g) in
    qed 𝓛 ((‵ ftrue ⊛ ‵ (owns (Boxed ∷ []) a (box_val node.ptr ∷ [], tt))) ∷ ‵ ftrue ∷ []) ∵ split ! $ keep ! (1 ∷ []) $
    enter ! _ _ _ _ _ $ alloc_all ! (λ l. pass_all ! refl (box_good node.ptr, tt) $
    sets ! (of_opd ! (get ! refl)) refl (box_good node.ptr) $
    let G = triple_of 𝓛 (into_raw.signature Nodes Heap ghosts dict (drops Heap) (drops Nodes))
    (into_raw.spec Nodes Heap ghosts dict (drops Heap) (drops Nodes) 𝓛 𝓜.mem 𝓡.returns) in
    let z : G.Ghost = (
      (
        ([], ([], tt)),
        (full_share, (full_share, tt)),
        tt,
        (node, tt),
        (box_val node.ptr ∷ [], tt),
      ),
      tt,
    ) in
    nothing ! $ use0 𝓛 (‵ (flft [] full_share)) (𝓛.lfts.lft-nil full_share) $
    use0 𝓛 (‵ (flft [] full_share)) (𝓛.lfts.lft-nil full_share) $ group ! 3 $ join ! $
    nothing ! $ use0 𝓛 (raw (fact 𝓤 ([] ⊑ []))) (fact_i 𝓤 ([] ⊑ []) (emp 𝓤) (⊑_refl [])) $
    use0 𝓛 (raw (fact 𝓤 ([] ⊑ []))) (fact_i 𝓤 ([] ⊑ []) (emp 𝓤) (⊑_refl [])) $ group ! 3 $
    move ! (1 ∷ 0 ∷ []) $ join ! $ use1 𝓛 (raw (G.pre z)) (id⊢ 𝓤 _) $
    calls_at ! (framed 𝓤 𝓛.H 𝓜 𝓣) G
    (raw_met.met 𝓤 𝓛 𝓜 𝓡 (code.calls-std_alloc::boxed::Box::into_raw 𝓡.env wired) Nodes Heap Nodes-laws Heap-laws ghosts
    dict (drops Heap) (drops Nodes)
    (global_met.passed 𝓡.env (code.calls-std_heap::GlobalAllocator::allocate 𝓡.env wired)
    (code.calls-std_heap::GlobalAllocator::deallocate 𝓡.env wired)
    (code.calls-std_heap::GlobalAllocator::grow 𝓡.env wired)
    (code.calls-std_heap::GlobalAllocator::shrink 𝓡.env wired) _ 𝓤 𝓛 𝓜 𝓡)
    (NoDrop.glues "lot_base::Destruct++none::drop" 𝓡.env (no_drop 𝓡.env
    (code.calls-lot_base::Destruct++none::drop 𝓡.env wired)) Heap Heap-laws _ 𝓤 𝓛 𝓜 𝓡)
    (NoDrop.glues "lot_base::Destruct++none::drop" 𝓡.env (no_drop 𝓡.env
    (code.calls-lot_base::Destruct++none::drop 𝓡.env wired)) Nodes Nodes-laws _ 𝓤 𝓛 𝓜 𝓡)) z
    (and_then ! (get ! refl) (no_more !)) (λ v.
    use1 𝓛 (later (some (λ (r : Ptr). ((‵ (flft [] full_share) ⊛ ‵ (flft [] full_share) ⊛ ‵ ftrue)
    ⊛ ‵ (RawPtr.own_val r (v ∷ []))) ⊛
    some (λ (ws : Lasts called ([], ([], tt)) (node, tt)). ‵ (lasts called ([], ([], tt)) (node, tt) ws)
    ⊛ ‵ (box_owns (λ τ p. ghosts.dealloc_token node.alloc τ p) Node r node.value))))) (id⊢ 𝓤 _) $
    await ! tt $ pick ! (λ r. split ! $ move ! (1 ∷ []) $ pick ! (λ _. split ! $ drop ! $ move ! (1 ∷ []) $
    split ! $ drop ! $ feq_l ! (λ e.
    node_taken ! node.value r (λ b at fit.
    lands_as ! (ap only e ∙ ap ptr_val at) refl (tt, tt) $
    first ! $ blocks ! $ assigns_last ! (of_opd ! (lit ! tt)) (through ! refl (fld ! refl (stop !)))
    (store_in ! 0 (sub ! 5 refl (whole !)) (tt, record { fits = lit< tt })) $
    exec ! 𝓣.C 𝓣.Λ (env code.function.locals l) (after 3 code.function.body) (at_ret _ (W.post y)) $
    sets ! (agg ! (and_then ! (get ! refl) (and_then ! (get ! refl) (no_more !)))) refl (tt, (tt, (tt, tt))) $
    node_closes ! (b, fields node.value) null_ptr fit $ nothing ! $ move ! (1 ∷ 0 ∷ []) $ fjoin ! $
    returns ! (look_at ! 0 refl) $ free_all ! refl $ queue_made ! ((b, fields node.value) ∷ []) $
    suffices ! _ (ends_at 𝓛 f.ended stayed c y (words ((b, fields node.value) ∷ [])) (fields node.value ∷ [])
    (tt, tt) (tt, tt)) $ says ! refl $
    nothing ! $ nothing ! $ fjoin ! $ join ! $ nothing ! $ join ! $ done !)))))))
