use Rattle.std.proofs.Common.{◌≡◌, List, [], ◌∷◌, ◌++◌, refl, sym, ◌∙◌, subst, rules, ℕ, ap}
use Rattle.lot_base.specs.BucketState.{BucketState}
use Rattle.lot_base.specs.NodeFields.{NodeFields}
use Rattle.lot_base.specs.NodeLists.{lists_of}
use Rattle.lot_base.specs.Waiting.{split_by}
use Rattle.lot_base.specs.declared.token.UnparkResult.{UnparkResult}
use Rattle.lot_machine.specs.declared.step.Answer.TheVariants as answer
use Rattle.lot_machine.specs.declared.step.Op.TheVariants as op
use Rattle.lot_machine.specs.declared.step.Step.TheVariants as step
use Rattle.lot_history.specs.Moves.{Moves}
use Rattle.lot_history.specs.Pieces.{AllSo}
use Rattle.lot_history.specs.Witness.{id_of, max_threads_of, pieces_in, limit_of}
use Rattle.lot_history.specs.declared.history.History.{History}
use Rattle.lot_history.specs.declared.view.Piece.{Piece}
use Rattle.lot_threads.specs.Cells.{Has, lists_in, threads_in}
use Rattle.lot_threads.proofs.BelowLemmas.{below-left, below-taken}
use Rattle.lot_threads.proofs.RequeueLemmas.{across_moves, below-target, one_taken, requeue_parts}
use Rattle.lot_threads.proofs.WithinLemmas.{is_section}
use Rattle.lot_threads.proofs.shared_lot.SharedLot.requeue_across.Goals as goal

pub requeue_two-taken-requires-clause-validate : goal.requeue_two-taken-requires-clause-validate
requeue_two-taken-requires-clause-validate g c =
    let history = c.args.self.now in
    let bucket = c.args.source.now.bucket in
    λ lent is. c.requires.callable.may_choose lent
    (is_section history bucket c.args.from c.requires.source.here lent.now
    (rw (is, c.replace-part.ensures.value) c.requires.source.own.part))

pub requeue_two-taken-requires-clause-callable : goal.requeue_two-taken-requires-clause-callable
requeue_two-taken-requires-clause-callable g c =
    let history = c.args.self.now in
    let bucket = c.args.source.now.bucket in
    λ op chosen. record {
      may_move = search rules;
      may_call_back = λ goes_on last moved. λ lent is. c.requires.callable.may_call_back chosen.0 lent
          (is_section history bucket c.args.from c.requires.source.here chosen.0.now
          (rw (chosen.1, c.replace-part.ensures.value) c.requires.source.own.part))
          (is ∙ sym chosen.1) op chosen.2 goes_on (lists_of bucket.nodes c.args.from);
    }

pub add_requeue-requires-clause-moves : goal.add_requeue-requires-clause-moves
add_requeue-requires-clause-moves g c =
    let bound = max_threads_of c.self.inside.history in
    let limit = limit_of c.args.self.now in
    let own = limit_of c.self.inside.history in
    let source = c.args.source.now.bucket in
    let target = c.args.target.now.bucket in
    let source_new = c.requeue_two-taken.new.self in
    let target_new = c.requeue_two-taken.new.target in
    let from = c.args.from in
    let to = c.args.to in
    let taken = c.requeue_two-taken.result.1 in
    let keeps = c.requeue_two-taken.ensures.place in
    let told = c.requeue_two-taken.ensures.requeued in
    let token = told.called.token in
    let found = c.requeue_two-taken.result.0 in
    let source_pieces : pieces_in c.replace-part.result ≡ lists_in limit source ∷ [] =
    rw c.replace-part.ensures.value c.requires.source.own.part.pieces in
    subst (λ (pieces : List Piece). Moves bound (λ s a. g.E.Told.said s a × (a ≡ answer.Unpark found))
    (pieces ++ pieces_in c.args.target.now.part) (lists_in own source_new ∷ lists_in own target_new ∷ threads_in taken))
    (sym source_pieces)
    (subst (λ (pieces : List Piece). Moves bound (λ s a. g.E.Told.said s a × (a ≡ answer.Unpark found))
    (lists_in limit source ∷ pieces) (lists_in own source_new ∷ lists_in own target_new ∷ threads_in taken))
    (sym c.requires.target.own.part.pieces)
    (subst (λ (n : ℕ). Moves bound (λ s a. g.E.Told.said s a × (a ≡ answer.Unpark found))
    (lists_in limit source ∷ lists_in limit target ∷ []) (lists_in n source_new ∷ lists_in n target_new ∷ threads_in taken))
    (sym (ap limit_of c.self.view_is))
    (across_moves bound limit from to told.op token source target source_new target_new keeps.0 keeps.1 c.requires.size
    c.requires.places c.requires.source.here c.requires.target.here c.requires.above c.requires.to_above taken
    (λ s a. g.E.Told.said s a × (a ≡ answer.Unpark found)) told.called.takes
    (subst (λ (given : UnparkResult).
    g.E.Told.said (step.Unpark (op.Requeue from to told.op token)) (answer.Unpark given)
    × (answer.Unpark given ≡ answer.Unpark found)) told.called.results (
      c.requires.said found (step.Unpark (op.Requeue from to told.op token)) (answer.Unpark found) (record {
        section = record { part = c.replace-part.result };
        has = rw c.replace-part.ensures.value c.requires.source.own.part;
        op = told.op;
        token = token;
        calls = record {
          asked = told.chosen.0;
          is_asked_there = told.chosen.1;
          chosen = told.chosen.2;
          called = λ goes_on. (told.called.calls_back goes_on).2;
        };
        step = refl;
        answer = refl;
      }),
      refl,
    )) told.lists told.targets)))

pub returns-clause-found : goal.returns-clause-found
returns-clause-found g c =
    let source = c.args.source.now.bucket in
    let target = c.args.target.now.bucket in
    let found = c.add_requeue.ensures.found in
    let pieces : pieces_in c.replace-part.result ++ pieces_in c.args.target.now.part
    ≡ lists_in (limit_of c.args.self.now) source ∷ lists_in (limit_of c.args.self.now) target ∷ [] =
    rw (
      c.replace-part.ensures.value,
      c.requires.source.own.part.pieces,
      c.requires.target.own.part.pieces,
    ) refl in
    record {
      found = record {
        before = found.found.before;
        last = found.found.last;
        machine = found.found.machine;
        begins = search rules;
        seen = search rules;
        leads = search rules;
        so = search rules;
      };
      so = subst (λ (ps : List Piece). AllSo found.found.machine ps) pieces found.so;
    }

pub returns-clause-taken : goal.returns-clause-taken
returns-clause-taken g c = record {
  pieces = search rules;
  cell = (
      let told = c.requeue_two-taken.ensures.requeued in
      let same = c.add_requeue.ensures.buckets.0 in
      let part = c.add_requeue.new.source.part in
      let bound = max_threads_of c.args.self.now in
      let nodes = c.args.source.now.bucket.nodes in
      let waiting : List NodeFields = lists_of nodes c.args.from in
      record {
        part = subst (λ (history : History). Has (id_of history) (lists_in (limit_of history) c.add_requeue.new.source.bucket ∷ []) part)
            c.self.view_is
            (subst (λ (bucket : BucketState). Has (id_of c.self.inside.history) (lists_in (limit_of c.self.inside.history) bucket ∷ []) part) (sym same)
            c.add_requeue.ensures.source);
        below = rw same (below-left bound c.args.from nodes (split_by told.op waiting) (requeue_parts told.op waiting)
            c.requires.source.own.below c.requeue_two-taken.new.self.nodes told.lists);
      }
      );
  place = search rules;
  below = (
      let told = c.requeue_two-taken.ensures.requeued in
      let nodes = c.args.source.now.bucket.nodes in
      let waiting : List NodeFields = lists_of nodes c.args.from in
      below-taken (max_threads_of c.args.self.now) c.args.from nodes (split_by told.op waiting)
      (requeue_parts told.op waiting) c.requires.source.own.below told.called.token c.requeue_two-taken.result.1
      told.called.takes
      );
}

pub returns-clause-target : goal.returns-clause-target
returns-clause-target g c =
    let told = c.requeue_two-taken.ensures.requeued in
    let same = c.add_requeue.ensures.buckets.1 in
    let part = c.add_requeue.new.target.part in
    let bound = max_threads_of c.args.self.now in
    record {
      part = subst (λ (history : History). Has (id_of history) (lists_in (limit_of history) c.add_requeue.new.target.bucket ∷ []) part)
          c.self.view_is
          (subst (λ (bucket : BucketState). Has (id_of c.self.inside.history) (lists_in (limit_of c.self.inside.history) bucket ∷ []) part) (sym same)
          c.add_requeue.ensures.target);
      below = rw same (below-target bound c.args.from c.args.to told.op c.args.source.now.bucket.nodes
          c.requires.source.own.below c.args.target.now.bucket.nodes c.requeue_two-taken.new.target.nodes
          c.requires.target.own.below told.targets);
    }

pub returns-clause-one : goal.returns-clause-one
returns-clause-one g c =
    let told = c.requeue_two-taken.ensures.requeued in
    one_taken told.op (lists_of c.args.source.now.bucket.nodes c.args.from) c.requeue_two-taken.result.1
    told.called.token told.called.takes
