use Rattle.std.proofs.Common.{◌≡◌, List, [], ◌∷◌, ◌++◌, All, sym, ap, ◌∙◌, subst}
use Rattle.std.proofs.lemmas.List.Elements.{All-append}
use Rattle.lot_base.specs.BucketState.{BucketState, IsBucketAt}
use Rattle.lot_base.specs.NodeFields.{NodeFields}
use Rattle.lot_history.specs.Moves.{Regroups}
use Rattle.lot_history.specs.Views.{first_of}
use Rattle.lot_history.specs.Witness.{limit_of, max_threads_of, pieces_in, pieces_of}
use Rattle.lot_history.specs.declared.view.Piece.{Piece}
use Rattle.lot_threads.specs.Cells.{IsBelow, lists_in}
use Rattle.lot_threads.proofs.HalfLemmas.{joined_halves, joined_regroups}
use Rattle.lot_threads.proofs.halves.join.Goals as goal

pub regroup_joined-requires-clause-regroups : goal.regroup_joined-requires-clause-regroups
regroup_joined-requires-clause-regroups c =
    let bound = max_threads_of c.args.history.now in
    let low = c.args.low in
    let high = c.args.high in
    let bucket = c.pour-2.new.into in
    let first : pieces_of c.take.new.me ≡ lists_in (limit_of c.args.history.now) low.bucket ∷ [] =
    c.take.ensures.pieces
    ∙ (ap (λ (ps : List Piece). ps ++ pieces_in low.part) c.requires.idle.no_pieces ∙ c.requires.low.part.pieces) in
    let before : pieces_of c.take-2.new.me ≡ lists_in (limit_of c.args.history.now) low.bucket ∷ lists_in (limit_of c.args.history.now) high.bucket ∷ [] =
    c.take-2.ensures.pieces
    ∙ (ap (λ (ps : List Piece). ps ++ pieces_in high.part) first
    ∙ ap (λ (ps : List Piece). lists_in (limit_of c.args.history.now) low.bucket ∷ ps) c.requires.high.part.pieces) in
    let at : IsBucketAt c.args.place c.args.size bucket = record {
      place = c.pour-2.ensures.place.place
          ∙ (c.pour.ensures.place.place ∙ ap (λ (b : BucketState). b.place) c.new-bucket.ensures);
      size = c.pour-2.ensures.place.size
          ∙ (c.pour.ensures.place.size ∙ ap (λ (b : BucketState). b.size) c.new-bucket.ensures);
    } in
    let nodes : bucket.nodes ≡ low.bucket.nodes ++ high.bucket.nodes =
    c.pour-2.ensures.nodes
    ∙ ap (λ (l : List NodeFields). l ++ high.bucket.nodes)
    (c.pour.ensures.nodes ∙ ap (λ (b : BucketState). b.nodes ++ low.bucket.nodes) c.new-bucket.ensures) in
    subst (λ (ps : List Piece). Regroups bound ps (lists_in (limit_of c.args.history.now) bucket ∷ [])) (sym before)
    (joined_regroups bound (limit_of c.args.history.now) c.args.size c.args.place bucket low.bucket high.bucket c.requires.size at c.requires.low_place
    c.requires.high_place
    (joined_halves c.args.size c.args.place bucket.nodes low.bucket high.bucket nodes c.requires.low_place
    c.requires.high_place c.pour.ensures.in_place c.pour-2.ensures.in_place))

pub returns-clause-cell : goal.returns-clause-cell
returns-clause-cell c =
    let low = c.args.low.bucket.nodes in
    let high = c.args.high.bucket.nodes in
    let Below = IsBelow (max_threads_of c.args.history.now) in
    let nodes : c.pour-2.new.into.nodes ≡ low ++ high =
    c.pour-2.ensures.nodes
    ∙ ap (λ (l : List NodeFields). l ++ high)
    (c.pour.ensures.nodes ∙ ap (λ (b : BucketState). b.nodes ++ low) c.new-bucket.ensures) in
    record {
      part = record {
        of_history = c.give-part.ensures.part;
        pieces = c.give-part.ensures.first ∙ ap first_of c.regroup_joined.ensures.pieces;
      };
      below = subst (λ (l : List NodeFields). All Below l) (sym nodes)
          (All-append Below low high c.requires.low.below c.requires.high.below);
    }
