use Rattle.std.proofs.Common.{◌≡◌, None, List, [], ◌∷◌, refl, sym, subst, rules}
use Rattle.lot_base.specs.BucketState.{BucketState}
use Rattle.lot_base.specs.NodeLists.{lists_of}
use Rattle.lot_base.specs.Waiting.{result_of, split_first}
use Rattle.lot_base.specs.declared.token.UnparkResult.{UnparkResult}
use Rattle.lot_machine.specs.declared.step.Answer.TheVariants as answer
use Rattle.lot_machine.specs.declared.step.Op.TheVariants as op
use Rattle.lot_machine.specs.declared.step.Step.TheVariants as step
use Rattle.lot_history.specs.Moves.{Moves}
use Rattle.lot_history.specs.Witness.{id_of, limit_of, max_threads_of, pieces_of}
use Rattle.lot_history.specs.declared.view.Piece.{Piece}
use Rattle.lot_history.specs.Pieces.{AllSo}
use Rattle.lot_history.proofs.NodeLemmas.{takes_one}
use Rattle.lot_threads.specs.Cells.{Has, lists_in, threads_in}
use Rattle.lot_threads.proofs.BelowLemmas.{below-left, below-taken, first_parts}
use Rattle.lot_threads.proofs.TakingLemmas.{taking_moves}
use Rattle.lot_threads.proofs.cell_steps.take_one_of.Goals as goal

pub add_taken-requires-clause-moves : goal.add_taken-requires-clause-moves
add_taken-requires-clause-moves g c =
    let bound = max_threads_of c.args.history.now in
    let old = c.args.cell.now.bucket in
    let new = c.take_one-taken.new.self in
    let told = c.take_one-taken.ensures in
    let token = told.taken.0 in
    let found = c.take_one-taken.result.0 in
    let called = told.taken.1 in
    let pieces : pieces_of c.take.new.me ≡ lists_in (limit_of c.args.history.now) old ∷ [] =
    rw (
      c.take.ensures.pieces,
      c.requires.idle.no_pieces,
      c.replace-part.ensures.value,
    ) c.requires.cell.own.part.pieces in
    subst (λ (pieces : List Piece). Moves bound (λ s a. g.E.Told.said s a × (a ≡ answer.Unpark found)) pieces
    (lists_in (limit_of c.args.history.now) new ∷ threads_in c.take_one-taken.result.1)) (sym pieces)
    (taking_moves bound (limit_of c.args.history.now) old new token (split_first (lists_of old.nodes c.args.key)).taken
    c.take_one-taken.result.1 told.place told.taken.2 c.args.key None c.requires.above c.requires.cell.here
    (split_first (lists_of old.nodes c.args.key)).left told.lists (op.One c.args.key token)
    (answer.Unpark (result_of (split_first (lists_of old.nodes c.args.key))))
    (λ s a. g.E.Told.said s a × (a ≡ answer.Unpark found))
    (subst (λ (given : UnparkResult). g.E.Told.said (step.Unpark (op.One c.args.key token)) (answer.Unpark given)
    × (answer.Unpark given ≡ answer.Unpark found)) told.answer (
      c.requires.said called.1.0 found token
          (rw (called.1.1, c.replace-part.ensures.value) c.requires.cell.own.part) called.1.2,
      refl,
    ))
    (takes_one bound old.size old.place c.args.key old.nodes new.nodes token [] c.requires.cell.here told.lists))

pub take_one-taken-requires : goal.take_one-taken-requires
take_one-taken-requires g c = λ lent is.
    c.requires.callable lent (rw (is, c.replace-part.ensures.value) c.requires.cell.own.part)

pub returns-clause-found : goal.returns-clause-found
returns-clause-found g c = record {
  found = record {
    before = c.add_taken.ensures.found.before;
    last = c.add_taken.ensures.found.last;
    machine = c.add_taken.ensures.found.machine;
    begins = search rules;
    seen = search rules;
    leads = search rules;
    so = search rules;
  };
  so = (
      let old = c.args.cell.now.bucket in
      let pieces : pieces_of c.take.new.me ≡ lists_in (limit_of c.args.history.now) old ∷ [] =
      rw (
        c.take.ensures.pieces,
        c.requires.idle.no_pieces,
        c.replace-part.ensures.value,
      ) c.requires.cell.own.part.pieces in
      subst (λ (ps : List Piece). AllSo c.add_taken.ensures.found.machine ps) pieces c.add_taken.ensures.found.so
      );
}

pub returns-clause-taken : goal.returns-clause-taken
returns-clause-taken g c = record {
  pieces = search rules;
  cell = (
      let bound = max_threads_of c.args.history.now in
      let same = c.add_taken.ensures.bucket in
      let nodes = c.args.cell.now.bucket.nodes in
      record {
        part = subst (λ (bucket : BucketState). Has (id_of c.args.history.now) (lists_in (limit_of c.args.history.now) bucket ∷ []) c.add_taken.new.cell.part)
            (sym same) c.add_taken.ensures.part;
        below = rw same (below-left bound c.args.key nodes (split_first (lists_of nodes c.args.key))
            (first_parts (lists_of nodes c.args.key)) c.requires.cell.own.below
            c.take_one-taken.new.self.nodes c.take_one-taken.ensures.lists);
      }
      );
  place = search rules;
  below = (
      let told = c.take_one-taken.ensures.taken in
      let nodes = c.args.cell.now.bucket.nodes in
      below-taken (max_threads_of c.args.history.now) c.args.key nodes (split_first (lists_of nodes c.args.key))
      (first_parts (lists_of nodes c.args.key)) c.requires.cell.own.below told.0 c.take_one-taken.result.1 told.2
      );
}
