-- `nodes` copies the head. Assumes `Logic`.
use mathlib.Core.Path.{refl}
use mathlib.Core.List.{[], ◌∷◌}
use Prim.Native.Nat.{◌+◌}
use base.Fml.{ftrue, flft}
use mir.Syntax.{named}
use types.Kit.{‵, ◌⊛◌, ◌$◌, ◌∵◌, !, qed, move, keep, split, join, fsplit, fjoin, suffices, done}
use types.Part.{agg}
use types.Run.{enter, of_opd, load, look, stop, fld, and_then, no_more, returns}
use types.ByLocal.{alloc_all, pass_all, free_all, look_at, get, through, sets}
use denote.Builtin.{RefOf}
use denote.Exit.{yes}
use denote.RattleType.{owns}
use denote.Ref.{ShrRef, shr_vals, shr_Tells}
use denote.Signature.{plain, named_lft}
use denote.Steps.{nothing}
use denote.Triple.Walked.{Stays, walk_of, says, ends_at, stay_dropped, Goes-dropped}
use Rattle.std.proofs.raw_atomic.Walks.{proved}
use denote.RawPtr.{null_ptr}
use Rattle.lot_base.specs.Chain.{first_place}
use Rattle.lot_base.specs.contracts.queue.Queue.{the_row as Queue}
use Rattle.lot_base.specs.contracts.queue.Queue.nodes as f
use Rattle.lot_base.proofs.QueueSteps.{pointer_good}
use Rattle.lot_base.proofs.QueueShows.{pointer_in, pointer_out, queue_shows, rest, rest_val, rest_good, rest_made}
use Rattle.lot_base.proofs.queue.Queue.nodes.Statement.{statement}
use Rattle.lot_base.proofs.queue.Queue.nodes.Code as code

abbrev stayed : Stays f.ended.signature.params f.ended.kept
stayed = (stay_dropped (RefOf (0 ∷ []) tt (plain (λ _. Queue)) (λ _. tt)) yes, tt)

pub nodes_spec : {M : Type 1} → statement M
nodes_spec 𝓤 𝓛 𝓜 𝓡 wired =
    let c = f.clauses 𝓛 𝓜.mem 𝓡.returns in
    let W = walk_of 𝓛 f.ended stayed c in
    proved 𝓛 f.ended stayed c 𝓜 𝓡 (
      Goes-dropped 𝓛 1 (RefOf (0 ∷ []) tt (plain (λ _. Queue))
          (λ _. tt)) yes (λ κs x f. refl),
      tt,
    )
    f.Key.name code.function (code.unfolded 𝓤 𝓛.H 𝓜 𝓡 wired) (λ κs. (shr_vals, tt))
    (λ κs. (shr_Tells (named 0) κs.0 Queue, tt)) (λ κs qs bounds a g are.
    let κ = κs.0 in let self = a.0 in let b = self.ref_ptr.0 in let o = self.ref_ptr.1 in
    let y : W.Ghost = ((κs, qs, bounds, a, (shr_vals self, tt)), g) in
    qed 𝓛 (((‵ (flft κ qs.0) ⊛ ‵ ftrue) ⊛ ‵ (owns (ShrRef (named 0) κ Queue ∷ []) (self, tt) (shr_vals self, tt)))
    ∷ ‵ ftrue ∷ []) ∵
    split ! $ split ! $ move ! (2 ∷ []) $ fsplit ! $ fsplit ! $ keep ! (1 ∷ 3 ∷ []) $
    enter ! _ _ _ _ _ $ alloc_all ! (λ l. pass_all ! refl ((tt, tt), tt) $
    queue_shows ! self.now b o (λ ns seen. move ! (0 ∷ 2 ∷ []) $
    let head = first_place ns null_ptr in
    pointer_in ! tt head b (o + 0) (λ s.
    sets ! (of_opd ! (load ! (through ! refl (fld ! refl (stop !))) (look ! 0 refl))) refl (pointer_good head) $
    sets ! (agg ! (no_more !)) refl (tt, tt) $
    sets ! (agg ! (and_then ! (get ! refl) (and_then ! (get ! refl) (no_more !)))) refl (rest_good
    (named_lft 1 0 tt κs) ns) $
    pointer_out ! tt head b (o + 0) $ returns ! (look_at ! 0 refl) $ free_all ! refl $ move ! (1 ∷ []) $
    rest_made ! (named_lft 1 0 tt κs) ns $
    suffices ! _ (ends_at 𝓛 f.ended stayed c y (rest_val ns) (rest ns) (tt, tt) (tt, tt)) $ says ! seen $
    nothing ! $ nothing ! $ fjoin ! $ join ! $ nothing ! $ move ! (2 ∷ 0 ∷ []) $ join ! $ join ! $ done !))))
