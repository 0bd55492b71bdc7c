-- `new` owns nothing, and both pointers are null. Assumes `Logic`.
use mathlib.Core.Path.{refl}
use mathlib.Core.List.{[], ◌∷◌}
use lib.Dec.{lit<}
use base.Fml.{ftrue}
use types.Kit.{‵, ◌⊛◌, ◌$◌, ◌∵◌, !, qed, keep, join, suffices, done}
use types.Part.{agg}
use types.Run.{enter, lit, and_then, no_more, returns}
use types.ByLocal.{alloc_all, pass_all, free_all, look_at, sets}
use denote.Steps.{nothing}
use denote.Triple.Walked.{says, ends_at}
use Rattle.std.proofs.raw_atomic.Walks.{proved}
use Rattle.lot_base.specs.contracts.queue.Queue.new as f
use Rattle.lot_base.proofs.queue.Queue.new.Statement.{statement}
use Rattle.lot_base.proofs.queue.Queue.new.Code as code
use Rattle.lot_base.proofs.QueueSteps.{words, queue_made}

pub new_spec : {M : Type 1} → statement M
new_spec 𝓤 𝓛 𝓜 𝓡 wired =
    let c = f.clauses 𝓛 𝓜.mem 𝓡.returns in
    proved 𝓛 f.ended tt c 𝓜 𝓡 tt f.Key.name code.function (code.unfolded 𝓤 𝓛.H 𝓜 𝓡 wired) (λ κs. tt) (λ κs. tt)
    (λ κs qs bounds a g are.
    qed 𝓛 ((‵ ftrue ⊛ ‵ ftrue) ∷ ‵ ftrue ∷ []) ∵ keep ! [] $ enter ! _ _ _ _ _ $ alloc_all ! (λ l. pass_all ! refl tt $
    sets ! (agg ! (and_then ! (lit ! tt) (and_then ! (lit ! tt) (no_more !)))) refl (
      tt,
      (
        record { fits = lit< tt },
        (record { fits = lit< tt }, tt),
      ),
    ) $
    returns ! (look_at ! 0 refl) $ free_all ! refl $ nothing ! $ queue_made ! [] $
    suffices ! _ (ends_at 𝓛 f.ended tt c ((κs, qs, bounds, a, tt), g) (words []) [] tt tt) $ says ! refl $
    nothing ! $ join ! $ nothing ! $ join ! $ done !))
