use Rattle.std.proofs.Common.{◌≡◌, None, List, [], ◌∷◌, length, refl, sym, subst, rules}
use Rattle.lot_base.specs.BucketState.{BucketState}
use Rattle.lot_base.specs.NodeLists.{lists_of, saturated}
use Rattle.lot_base.specs.Waiting.{split_all}
use Rattle.lot_machine.specs.declared.step.Answer.TheVariants as answer
use Rattle.lot_machine.specs.declared.step.Op.TheVariants as op
use Rattle.lot_history.specs.Moves.{Moves}
use Rattle.lot_history.specs.Witness.{id_of, limit_of, max_threads_of}
use Rattle.lot_history.specs.declared.view.Piece.{Piece}
use Rattle.lot_history.proofs.NodeLemmas.{takes_all}
use Rattle.lot_threads.specs.Cells.{Has, lists_in, threads_in}
use Rattle.lot_threads.proofs.BelowLemmas.{all_parts, below-left, below-taken}
use Rattle.lot_threads.proofs.TakingLemmas.{taking_moves}
use Rattle.lot_threads.proofs.cell_steps.take_all_of.Goals as goal

pub add_taking-requires-clause-moves : goal.add_taking-requires-clause-moves
add_taking-requires-clause-moves g c =
    let bound = max_threads_of c.args.history.now in
    let key = c.args.key in
    let token = c.args.token in
    let old = c.args.cell.now.bucket in
    let new = c.take_all-count.new.self in
    let told = c.take_all-count.ensures in
    let found = c.take_all-count.result.0 in
    let waiting = lists_of old.nodes key in
    subst (λ (pieces : List Piece). Moves bound (λ s a. g.E.Told.said s a × (a ≡ answer.Count found)) pieces
    (lists_in (limit_of c.args.history.now) new ∷ threads_in c.take_all-count.result.1)) (sym c.requires.cell.own.part.pieces)
    (taking_moves bound (limit_of c.args.history.now) old new token waiting c.take_all-count.result.1 told.place told.taken
    key None c.requires.above c.requires.cell.here [] told.lists (op.All key token)
    (answer.Count (saturated (length waiting))) (λ s a. g.E.Told.said s a × (a ≡ answer.Count found))
    (c.requires.said (saturated (length waiting)), rw told.answer refl)
    (takes_all bound old.size old.place key old.nodes new.nodes token [] c.requires.cell.here told.lists))

pub returns-clause-taken : goal.returns-clause-taken
returns-clause-taken g c = record {
  pieces = search rules;
  cell = (
      let bound = max_threads_of c.args.history.now in
      let same = c.add_taking.ensures.bucket in
      let nodes = c.args.cell.now.bucket.nodes in
      record {
        part = subst (λ (bucket : BucketState). Has (id_of c.args.history.now) (lists_in (limit_of c.args.history.now) bucket ∷ []) c.add_taking.new.cell.part)
            (sym same) c.add_taking.ensures.part;
        below = rw same (below-left bound c.args.key nodes (split_all (lists_of nodes c.args.key))
            (all_parts (lists_of nodes c.args.key)) c.requires.cell.own.below
            c.take_all-count.new.self.nodes c.take_all-count.ensures.lists);
      }
      );
  place = search rules;
  below = (
      let nodes = c.args.cell.now.bucket.nodes in
      below-taken (max_threads_of c.args.history.now) c.args.key nodes (split_all (lists_of nodes c.args.key))
      (all_parts (lists_of nodes c.args.key)) c.requires.cell.own.below c.args.token c.take_all-count.result.1
      c.take_all-count.ensures.taken
      );
}
