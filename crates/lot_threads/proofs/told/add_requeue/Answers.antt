use Rattle.std.proofs.Common.{◌≡◌, List, ◌∷◌, ◌++◌, ap, ◌∙◌, rules, sym, subst}
use Rattle.lot_history.specs.Moves.{Moves}
use Rattle.lot_history.specs.Pieces.{AllSo}
use Rattle.lot_history.specs.Witness.{limit_of, max_threads_of, pieces_in, pieces_of}
use Rattle.lot_history.specs.declared.view.Piece.{Piece}
use Rattle.lot_threads.specs.Cells.{lists_in, threads_in}
use Rattle.lot_threads.proofs.told.add_requeue.Goals as goal

pub add_requeued-requires-clause-moves : goal.add_requeued-requires-clause-moves
add_requeued-requires-clause-moves g c =
    let bound = max_threads_of c.args.history.now in
    let source = c.args.source.now in
    let target = c.args.target.now in
    let first : pieces_of c.take.new.me ≡ pieces_in source.part =
    c.take.ensures.pieces ∙ (ap (λ (ps : List Piece). ps ++ pieces_in c.replace-part.result) c.requires.idle.no_pieces
    ∙ ap (λ part. pieces_in part) c.replace-part.ensures.value) in
    let before : pieces_of c.take-2.new.me ≡ pieces_in source.part ++ pieces_in target.part =
    c.take-2.ensures.pieces ∙ (ap (λ (ps : List Piece). ps ++ pieces_in c.replace-other.result) first
    ∙ ap (λ part. pieces_in source.part ++ pieces_in part) c.replace-other.ensures.value) in
    subst (λ (pieces : List Piece). Moves bound (λ s t. g.E.Told.said s t × (t ≡ c.args.answer)) pieces
    (lists_in (limit_of c.args.history.now) source.bucket ∷ lists_in (limit_of c.args.history.now) target.bucket
    ∷ threads_in c.args.taken.now)) (sym before) c.requires.moves

pub returns-clause-found : goal.returns-clause-found
returns-clause-found g c =
    let found = c.add_requeued.ensures.found in
    let source = c.args.source.now in
    let target = c.args.target.now in
    let first : pieces_of c.take.new.me ≡ pieces_in source.part =
    c.take.ensures.pieces ∙ (ap (λ (ps : List Piece). ps ++ pieces_in c.replace-part.result) c.requires.idle.no_pieces
    ∙ ap (λ part. pieces_in part) c.replace-part.ensures.value) in
    let before : pieces_of c.take-2.new.me ≡ pieces_in source.part ++ pieces_in target.part =
    c.take-2.ensures.pieces ∙ (ap (λ (ps : List Piece). ps ++ pieces_in c.replace-other.result) first
    ∙ ap (λ part. pieces_in source.part ++ pieces_in part) c.replace-other.ensures.value) in
    record {
      found = record {
        before = found.before;
        last = found.last;
        machine = found.machine;
        begins = search rules;
        seen = search rules;
        leads = found.leads;
        so = subst (λ (ps : List Piece). AllSo found.machine ps) (sym c.requires.idle.no_pieces) tt;
      };
      so = subst (λ (ps : List Piece). AllSo found.machine ps) before found.so;
    }
