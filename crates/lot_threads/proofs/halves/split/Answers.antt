use Rattle.std.proofs.Common.{◌≡◌, ◌+◌, ◌*◌, List, [], ◌∷◌, ◌++◌, sym, ap, ◌∙◌, subst, refl}
use Rattle.lot_base.specs.BucketState.{BucketState, IsBucketAt}
use Rattle.lot_base.specs.Place.{IsTableSize}
use Rattle.lot_history.specs.Moves.{Regroups}
use Rattle.lot_history.specs.Witness.{limit_of, max_threads_of, pieces_in, pieces_of}
use Rattle.lot_history.specs.declared.view.Piece.{Piece}
use Rattle.lot_threads.specs.Cells.{lists_in}
use Rattle.lot_threads.proofs.HalfLemmas.{cut_regroups, double_table}
use Rattle.lot_threads.proofs.halves.split.Goals as goal

pub new-low-requires-clause-size : goal.new-low-requires-clause-size
new-low-requires-clause-size c =
    subst (λ n. IsTableSize (2 * n)) (sym c.size-size.ensures.value) (double_table c.args.cell.bucket.size c.requires.size)

pub regroup_split-requires-clause-regroups : goal.regroup_split-requires-clause-regroups
regroup_split-requires-clause-regroups c =
    let bound = max_threads_of c.args.history.now in
    let bucket = c.args.cell.bucket in
    let low = c.spread.new.low in
    let high = c.spread.new.high in
    let first = c.place-first.ensures.value in
    let size = c.size-size.ensures.value in
    let before : pieces_of c.take.new.me ≡ lists_in (limit_of c.args.history.now) bucket ∷ [] =
    c.take.ensures.pieces
    ∙ (ap (λ (ps : List Piece). ps ++ pieces_in c.args.cell.part) c.requires.idle.no_pieces ∙ c.requires.cell.part.pieces) in
    let low_at : IsBucketAt (2 * bucket.place) (2 * bucket.size) low = record {
      place = c.spread.ensures.low.place
          ∙ (ap (λ (b : BucketState). b.place) c.new-low.ensures ∙ ap (λ n. 2 * n) first);
      size = c.spread.ensures.low.size ∙ (ap (λ (b : BucketState). b.size) c.new-low.ensures ∙ ap (λ n. 2 * n) size);
    } in
    let high_at : IsBucketAt (2 * bucket.place + 1) (2 * bucket.size) high = record {
      place = c.spread.ensures.high.place
          ∙ (ap (λ (b : BucketState). b.place) c.new-high.ensures ∙ ap (λ n. 2 * n + 1) first);
      size = c.spread.ensures.high.size ∙ (ap (λ (b : BucketState). b.size) c.new-high.ensures ∙ ap (λ n. 2 * n) size);
    } in
    subst (λ (ps : List Piece). Regroups bound ps (lists_in (limit_of c.args.history.now) low ∷ lists_in (limit_of c.args.history.now) high ∷ [])) (sym before)
    (cut_regroups bound (limit_of c.args.history.now) bucket.size bucket.place bucket low high c.requires.size (record { place = refl; size = refl })
    low_at high_at c.spread.ensures.halves)
