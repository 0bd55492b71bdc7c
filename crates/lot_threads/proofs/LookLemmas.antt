-- What a look at the history, with a bucket's piece in hand, tells of a step that is still to be made; and that such a
-- step was made after all that was known before the look.
use Rattle.std.proofs.Common.{◌≡◌, ℕ, List, [], ◌∷◌, ◌++◌, append_assoc, sym, ap, ◌∙◌, subst}
use mathlib.Core.List.{IsPrefix}
use Rattle.lot_base.specs.BucketState.{BucketState}
use Rattle.lot_base.specs.Filter.{park_tokens}
use Rattle.lot_base.specs.NodeLists.{lists_of}
use Rattle.lot_base.specs.Place.{place_of}
use Rattle.lot_machine.specs.declared.step.Answer.{Answer}
use Rattle.lot_machine.specs.declared.step.Step.{Step}
use Rattle.lot_history.specs.declared.event.Event.{Event}
use Rattle.lot_history.specs.declared.history.History.{History}
use Rattle.lot_history.specs.declared.history.Witness.{Witness}
use Rattle.lot_history.specs.declared.view.Piece.{Piece}
use Rattle.lot_history.specs.declared.view.View.{View}
use Rattle.lot_history.specs.Pieces.{AllSo}
use Rattle.lot_history.specs.Tells.{Extends, event}
use Rattle.lot_history.specs.Tells as tells
use Rattle.lot_history.specs.Witness.{Looks, limit_of, pieces_of, seen_by}
use Rattle.lot_threads.specs.Cells.{lists_in}
use Rattle.lot_threads.specs.Filters.{MayFind, tokens_in}
use Rattle.lot_threads.proofs.ListLemmas.{tokens_at}

pub prefix_trans : {A : Type 0} (xs ys zs : List A) → IsPrefix xs ys → IsPrefix ys zs → IsPrefix xs zs
prefix_trans xs ys zs p q = (
  p.0 ++ q.0,
  sym (append_assoc xs p.0 q.0) ∙ (ap (λ w. w ++ q.0) p.1 ∙ q.1),
)

module _ (max_threads number : ℕ) (old between new : View) (looks : tells.Looks max_threads number old between) where
  pub extends_after : (step : Step) (answer : Answer) → Extends max_threads number between step answer new
      → Extends max_threads number old step answer new
  extends_after step answer extends =
      let last = event number step answer ∷ [] in
      record {
        between = looks.seen.0 ++ extends.between;
        seen = extends.seen ∙ ap (λ (es : List Event). es ++ last)
            (ap (λ (es : List Event). es ++ extends.between) (sym looks.seen.1)
            ∙ append_assoc old.seen looks.seen.0 extends.between);
        mine = extends.mine ∙ ap (λ (es : List Event). es ++ last) looks.mine;
        all_mine = extends.all_mine;
        history = extends.history;
      }

module _ (history : History) (old took looked : Witness) (bucket : BucketState) (key : ℕ)
    (here : place_of key bucket.size ≡ bucket.place) (same : seen_by took ≡ seen_by old)
    (taken : pieces_of took ≡ lists_in (limit_of history) bucket ∷ []) (looks : Looks history took looked) where
  pub finds : MayFind history old looks.machine
  finds = record {
    seen = seen_by looked;
    begins = subst (λ (es : List Event). IsPrefix es (seen_by looked)) same looks.seen;
    leads = looks.history;
  }

  so : AllSo looks.machine (lists_in (limit_of history) bucket ∷ [])
  so = subst (λ (ps : List Piece). AllSo looks.machine ps) (looks.pieces ∙ taken) looks.so

  pub same_tokens : park_tokens (lists_of bucket.nodes key) ≡ tokens_in looks.machine key
  same_tokens = tokens_at looks.machine (limit_of history) bucket.size bucket.place key bucket.nodes here so
