use Rattle.std.proofs.Common.{◌≡◌, ◌<◌, List, [], ◌∷◌, refl, subst, sym}
use Rattle.lot_base.specs.Place.{IsTableSize}
use Rattle.lot_history.specs.Moves.{Moves}
use Rattle.lot_history.specs.Witness.{limit_of, max_threads_of, pieces_of}
use Rattle.lot_history.specs.declared.view.Piece.{Piece}
use Rattle.lot_threads.specs.Cells.{lists_in}
use Rattle.lot_threads.proofs.OncePlaceLemmas.{none_twice}
use Rattle.lot_threads.proofs.told.refuse_two.Goals as goal

pub find_two-requires-clause-moves : goal.find_two-requires-clause-moves
find_two-requires-clause-moves c =
    let bound = max_threads_of c.args.history.now in
    let one = c.args.one.bucket in
    let other = c.args.other.bucket in
    let pieces : pieces_of c.take-2.new.me ≡ lists_in (limit_of c.args.history.now) one ∷ lists_in (limit_of c.args.history.now) other ∷ [] =
    rw (
      c.take-2.ensures.pieces,
      c.take.ensures.pieces,
      c.requires.idle.no_pieces,
      c.requires.one.part.pieces,
      c.requires.other.part.pieces,
    ) refl in
    let table = subst IsTableSize c.size-size.ensures.value c.size-size.ensures.table in
    let below = subst (λ n. n < one.size) c.place-place.ensures.value c.place-place.ensures.below in
    subst (λ (before : List Piece). Moves bound (λ s t. ⊥) before
    (lists_in (limit_of c.args.history.now) one ∷ lists_in (limit_of c.args.history.now) other ∷ [])) (sym pieces)
    (record {
      cover = λ name. refl;
      step = λ m finds. absurd (none_twice bound (limit_of c.args.history.now) one other table below
          c.requires.same_place.size c.requires.same_place.place m finds);
    })
