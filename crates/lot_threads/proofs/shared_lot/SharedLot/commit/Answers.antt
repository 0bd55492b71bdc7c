use Rattle.std.proofs.Common.{◌∙◌, All, List, ap, rules, subst}
use Rattle.std.proofs.lemmas.List.Elements.{All-head, All-tail}
use Rattle.lot_base.specs.Node.{fields}
use Rattle.lot_base.specs.NodeFields.{NodeFields}
use Rattle.lot_history.specs.Views.{rest_of}
use Rattle.lot_history.specs.Witness.{IsWitnessOf, max_threads_of}
use Rattle.lot_history.specs.declared.history.History.{History}
use Rattle.lot_threads.specs.Cells.{IsBelow, threads_in}
use Rattle.lot_threads.proofs.shared_lot.SharedLot.commit.Goals as goal

pub hand_over-handle-requires-clause-below : goal.hand_over-handle-requires-clause-below
hand_over-handle-requires-clause-below g c κs within =
    let Below = IsBelow (max_threads_of c.args.self.now) in
    All-head Below (fields c.in-Some.node.value) c.pop_front.new.self
    (subst (λ (nodes : List NodeFields). All Below nodes) c.in-Some.ensures.nodes c.loop-node.invariant.below)

pub loop-node-preserved : goal.loop-node-preserved
loop-node-preserved g c =
    let so_far = c.loop-node.invariant in
    let given = c.give-part.ensures in
    let popped = c.in-Some.ensures.nodes in
    let Below = IsBelow (max_threads_of c.args.self.now) in
    record {
      still = record {
        witness = subst (λ (history : History). IsWitnessOf history c.give-part.new.me) c.self.view_is
            given.still.witness;
        number = given.still.number ∙ so_far.still.number;
      };
      seen = given.seen ∙ so_far.seen;
      nothing_added = given.nothing_added ∙ so_far.nothing_added;
      pieces = given.rest ∙ ap rest_of (so_far.pieces ∙ ap threads_in popped);
      below = All-tail Below (fields c.in-Some.node.value) c.pop_front.new.self
          (subst (λ (nodes : List NodeFields). All Below nodes) popped so_far.below);
      handles = search rules;
    }
