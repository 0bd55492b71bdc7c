use Rattle.std.proofs.Common.{◌≡◌, List, [], ◌∷◌, refl, sym, ◌∙◌, subst, rules, ℕ, ap}
use Rattle.lot_base.specs.BucketState.{BucketState}
use Rattle.lot_base.specs.NodeFields.{NodeFields}
use Rattle.lot_base.specs.NodeLists.{lists_of, with_saturated_counts}
use Rattle.lot_base.specs.Waiting.{requeue_result, split_by}
use Rattle.lot_base.specs.declared.token.UnparkResult.{UnparkResult}
use Rattle.lot_machine.specs.declared.step.Answer.TheVariants as answer
use Rattle.lot_machine.specs.declared.step.Op.TheVariants as op
use Rattle.lot_machine.specs.declared.step.Step.TheVariants as step
use Rattle.lot_history.specs.Moves.{Moves}
use Rattle.lot_history.specs.Witness.{id_of, max_threads_of, pieces_of, limit_of}
use Rattle.lot_history.specs.Pieces.{AllSo}
use Rattle.lot_history.specs.declared.history.History.{History}
use Rattle.lot_history.specs.declared.view.Piece.{Piece}
use Rattle.lot_history.proofs.NodeLemmas.{requeues_one}
use Rattle.lot_threads.specs.Cells.{Has, lists_in, threads_in}
use Rattle.lot_threads.proofs.BelowLemmas.{below-taken}
use Rattle.lot_threads.proofs.RequeueLemmas.{below-requeued, one_taken, requeue_parts}
use Rattle.lot_threads.proofs.TakingLemmas.{requeuing_moves}
use Rattle.lot_threads.proofs.WithinLemmas.{is_section}
use Rattle.lot_threads.proofs.shared_lot.SharedLot.requeue_in_one.Goals as goal

pub requeue_one-taken-requires-clause-validate : goal.requeue_one-taken-requires-clause-validate
requeue_one-taken-requires-clause-validate g c =
    let history = c.args.self.now in
    let bucket = c.args.cell.now.bucket in
    λ lent is. c.requires.callable.may_choose lent
    (is_section history bucket c.args.from c.requires.cell.here lent.now
    (rw (is, c.replace-part.ensures.value) c.requires.cell.own.part))

pub requeue_one-taken-requires-clause-callable : goal.requeue_one-taken-requires-clause-callable
requeue_one-taken-requires-clause-callable g c =
    let history = c.args.self.now in
    let bucket = c.args.cell.now.bucket in
    λ op chosen. record {
      may_move = search rules;
      may_call_back = λ goes_on last moved. λ lent is. c.requires.callable.may_call_back chosen.0 lent
          (is_section history bucket c.args.from c.requires.cell.here chosen.0.now
          (rw (chosen.1, c.replace-part.ensures.value) c.requires.cell.own.part))
          (is ∙ sym chosen.1) op chosen.2 goes_on (lists_of bucket.nodes c.args.from);
    }

pub add_taken-requires-clause-moves : goal.add_taken-requires-clause-moves
add_taken-requires-clause-moves g c =
    let bound = max_threads_of c.self.inside.history in
    let limit = limit_of c.args.self.now in
    let old = c.args.cell.now.bucket in
    let new = c.requeue_one-taken.new.self in
    let from = c.args.from in
    let to = c.args.to in
    let told = c.requeue_one-taken.ensures.requeued in
    let token = told.called.token in
    let found = c.requeue_one-taken.result.0 in
    let split = split_by told.op (lists_of old.nodes from) in
    let pieces : pieces_of c.take.new.me ≡ lists_in (limit_of c.args.self.now) old ∷ [] =
    rw (
      c.take.ensures.pieces,
      c.requires.idle.no_pieces,
      c.replace-part.ensures.value,
    ) c.requires.cell.own.part.pieces in
    subst (λ (pieces : List Piece). Moves bound (λ s a. g.E.Told.said s a × (a ≡ answer.Unpark found)) pieces
    (lists_in (limit_of c.self.inside.history) new ∷ threads_in c.requeue_one-taken.result.1)) (sym pieces)
    (subst (λ (n : ℕ). Moves bound (λ s a. g.E.Told.said s a × (a ≡ answer.Unpark found)) (lists_in limit old ∷ [])
    (lists_in n new ∷ threads_in c.requeue_one-taken.result.1)) (sym (ap limit_of c.self.view_is))
    (requeuing_moves bound limit old new token split.taken c.requeue_one-taken.result.1
    c.requeue_one-taken.ensures.place told.called.takes from to c.requires.above c.requires.to_above
    c.requires.cell.here c.requires.to split told.lists (op.Requeue from to told.op token)
    (answer.Unpark (with_saturated_counts (requeue_result told.op split)))
    (λ s a. g.E.Told.said s a × (a ≡ answer.Unpark found))
    (subst (λ (given : UnparkResult).
    g.E.Told.said (step.Unpark (op.Requeue from to told.op token)) (answer.Unpark given)
    × (answer.Unpark given ≡ answer.Unpark found)) told.called.results (
      c.requires.said found (step.Unpark (op.Requeue from to told.op token)) (answer.Unpark found) (record {
        section = record { part = c.replace-part.result };
        has = rw c.replace-part.ensures.value c.requires.cell.own.part;
        op = told.op;
        token = token;
        calls = record {
          asked = told.chosen.0;
          is_asked_there = told.chosen.1;
          chosen = told.chosen.2;
          called = λ goes_on. (told.called.calls_back goes_on).2;
        };
        step = refl;
        answer = refl;
      }),
      refl,
    ))
    (requeues_one bound old.size old.place from to old.nodes new.nodes told.op token [] c.requires.cell.here c.requires.to
    told.lists)))

pub returns-clause-found : goal.returns-clause-found
returns-clause-found g c = record {
  found = record {
    before = c.add_taken.ensures.found.before;
    last = c.add_taken.ensures.found.last;
    machine = c.add_taken.ensures.found.machine;
    begins = search rules;
    seen = search rules;
    leads = search rules;
    so = search rules;
  };
  so = (
      let old = c.args.cell.now.bucket in
      let pieces : pieces_of c.take.new.me ≡ lists_in (limit_of c.args.self.now) old ∷ [] =
      rw (
        c.take.ensures.pieces,
        c.requires.idle.no_pieces,
        c.replace-part.ensures.value,
      ) c.requires.cell.own.part.pieces in
      subst (λ (ps : List Piece). AllSo c.add_taken.ensures.found.machine ps) pieces c.add_taken.ensures.found.so
      );
}

pub returns-clause-taken : goal.returns-clause-taken
returns-clause-taken g c = record {
  pieces = search rules;
  cell = (
      let told = c.requeue_one-taken.ensures.requeued in
      let same = c.add_taken.ensures.bucket in
      let part = c.add_taken.new.cell.part in
      let bound = max_threads_of c.args.self.now in
      record {
        part = subst (λ (history : History). Has (id_of history) (lists_in (limit_of history) c.add_taken.new.cell.bucket ∷ []) part)
            c.self.view_is
            (subst (λ (bucket : BucketState). Has (id_of c.self.inside.history) (lists_in (limit_of c.self.inside.history) bucket ∷ []) part) (sym same)
            c.add_taken.ensures.part);
        below = rw same (below-requeued bound c.args.from c.args.to told.op c.args.cell.now.bucket.nodes
            c.requires.cell.own.below c.requeue_one-taken.new.self.nodes told.lists);
      }
      );
  place = search rules;
  below = (
      let told = c.requeue_one-taken.ensures.requeued in
      let nodes = c.args.cell.now.bucket.nodes in
      let waiting : List NodeFields = lists_of nodes c.args.from in
      below-taken (max_threads_of c.args.self.now) c.args.from nodes (split_by told.op waiting)
      (requeue_parts told.op waiting) c.requires.cell.own.below told.called.token c.requeue_one-taken.result.1
      told.called.takes
      );
}

pub returns-clause-one : goal.returns-clause-one
returns-clause-one g c =
    let told = c.requeue_one-taken.ensures.requeued in
    one_taken told.op (lists_of c.args.cell.now.bucket.nodes c.args.from) c.requeue_one-taken.result.1
    told.called.token told.called.takes
