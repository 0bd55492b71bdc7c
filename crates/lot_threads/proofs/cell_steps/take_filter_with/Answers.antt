use Rattle.std.proofs.Common.{◌≡◌, ◌≤◌, None, List, [], ◌∷◌, length, sym, ap, ◌∙◌, subst, arith, rules}
use Rattle.std.proofs.lemmas.List.{length-map}
use Rattle.lot_base.specs.BucketState.{BucketState}
use Rattle.lot_base.specs.Filter.{IsFiltered, park_tokens}
use Rattle.lot_base.specs.NodeFields.{NodeFields}
use Rattle.lot_base.specs.NodeLists.{lists_of, with_saturated_counts}
use Rattle.lot_base.specs.Waiting.{result_of, split_filter}
use Rattle.lot_base.specs.declared.token.FilterOp.{FilterOp}
use Rattle.lot_machine.specs.declared.step.Answer.TheVariants as answer
use Rattle.lot_history.specs.Moves.{IsFilter, Moves}
use Rattle.lot_history.specs.Pieces.{AllSo}
use Rattle.lot_history.specs.Views.{first_of}
use Rattle.lot_history.specs.Witness.{id_of, limit_of, max_threads_of, pieces_of}
use Rattle.lot_history.specs.declared.view.Piece.{Piece}
use Rattle.lot_history.proofs.NodeLemmas.{filtered_length, takes_filter}
use Rattle.lot_threads.specs.Cells.{Has, lists_in, threads_in}
use Rattle.lot_threads.proofs.BelowLemmas.{below-left, below-taken, filter_parts}
use Rattle.lot_threads.proofs.TakingLemmas.{taking_said}
use Rattle.lot_threads.proofs.cell_steps.take_filter_with.Goals as goal

pub add_taken-requires-clause-moves : goal.add_taken-requires-clause-moves
add_taken-requires-clause-moves g c =
    let bound = max_threads_of c.args.history.now in
    let key = c.args.key in
    let filter = c.args.filter in
    let old = c.args.cell.now.bucket in
    let new = c.take_filter-taken.new.self in
    let told = c.take_filter-taken.ensures.filtered in
    let token = told.taken.0 in
    let found = c.take_filter-taken.result.0 in
    let waiting : List NodeFields = lists_of old.nodes key in
    let decisions : List FilterOp = told.decisions in
    let all = length-map waiting (λ (node : NodeFields). node.park_token) in
    let asked = filtered_length g.F.FnMut filter (park_tokens waiting) decisions told.decided in
    let called = told.taken.1.1 in
    let given = c.give.ensures in
    let part : Has (id_of c.args.history.now) (lists_in (limit_of c.args.history.now) old ∷ []) c.give.result =
    record { of_history = given.part; pieces = given.first ∙ ap first_of c.requires.piece } in
    let pieces : pieces_of c.take.new.me ≡ lists_in (limit_of c.args.history.now) old ∷ [] =
    rw (c.take.ensures.pieces, given.rest, c.requires.piece) part.pieces in
    let has : Has (id_of c.args.history.now) (lists_in (limit_of c.args.history.now) old ∷ []) called.0.now.part =
    rw called.1 part in
    let short : length decisions ≤ length waiting = omega (arith, asked, all) in
    subst (λ (pieces : List Piece). Moves bound (λ s a. g.E.Told.said s a × (a ≡ answer.Unpark found)) pieces
    (lists_in (limit_of c.args.history.now) new ∷ threads_in c.take_filter-taken.result.1)) (sym pieces)
    (taking_said bound (limit_of c.args.history.now) old new token (split_filter decisions waiting).taken
    c.take_filter-taken.result.1 c.take_filter-taken.ensures.place told.taken.2 key None c.requires.above
    c.requires.place (split_filter decisions waiting).left told.lists
    (IsFilter key decisions token (with_saturated_counts (result_of (split_filter decisions waiting))))
    (λ s a. g.E.Told.said s a × (a ≡ answer.Unpark found))
    (λ s a is.
    let given_answer : a ≡ answer.Unpark found = is.3 ∙ ap answer.Unpark (sym told.answer) in (
      c.requires.said found s a (record {
        decisions = is.0;
        token = token;
        decided = subst (λ (made : List FilterOp). IsFiltered g.F.FnMut filter (park_tokens waiting) made) (sym is.1)
            told.decided;
        section = called.0;
        has = has;
        called = called.2;
        step = is.2;
        answer = given_answer;
      }),
      given_answer,
    ))
    (takes_filter bound old.size old.place key old.nodes new.nodes token [] c.requires.place decisions c.requires.few
    short told.lists))

-- the filter's callback may be called in the section that has the bucket's part
pub take_filter-taken-requires-clause-callback : goal.take_filter-taken-requires-clause-callback
take_filter-taken-requires-clause-callback g c =
    let given = c.give.ensures in
    let part : Has (id_of c.args.history.now) (lists_in (limit_of c.args.history.now) c.args.cell.now.bucket ∷ []) c.give.result =
    record { of_history = given.part; pieces = given.first ∙ ap first_of c.requires.piece } in
    λ decisions decided lent is. c.requires.callback decisions decided lent (rw is part)

pub returns-clause-found : goal.returns-clause-found
returns-clause-found g c =
    let found = c.add_taken.ensures.found in
    let given = c.give.ensures in
    let pieces : pieces_of c.take.new.me ≡ pieces_of c.args.me.now =
    rw (c.take.ensures.pieces, given.rest, c.requires.piece)
    (given.first ∙ ap first_of c.requires.piece) in
    record {
      before = found.before;
      last = found.last;
      machine = found.machine;
      begins = search rules;
      seen = search rules;
      leads = search rules;
      so = subst (λ (ps : List Piece). AllSo found.machine ps) pieces found.so;
    }

pub returns-clause-taken : goal.returns-clause-taken
returns-clause-taken g c = record {
  pieces = search rules;
  cell = (
      let bound = max_threads_of c.args.history.now in
      let same = c.add_taken.ensures.bucket in
      let nodes = c.args.cell.now.bucket.nodes in
      let told = c.take_filter-taken.ensures.filtered in
      let waiting : List NodeFields = lists_of nodes c.args.key in
      record {
        part = subst (λ (bucket : BucketState). Has (id_of c.args.history.now) (lists_in (limit_of c.args.history.now) bucket ∷ []) c.add_taken.new.cell.part)
            (sym same) c.add_taken.ensures.part;
        below = rw same (below-left bound c.args.key nodes (split_filter told.decisions waiting)
            (filter_parts told.decisions waiting) c.requires.below c.take_filter-taken.new.self.nodes told.lists);
      }
      );
  place = search rules;
  below = (
      let told = c.take_filter-taken.ensures.filtered in
      let nodes = c.args.cell.now.bucket.nodes in
      let waiting : List NodeFields = lists_of nodes c.args.key in
      below-taken (max_threads_of c.args.history.now) c.args.key nodes (split_filter told.decisions waiting)
      (filter_parts told.decisions waiting) c.requires.below told.taken.0 c.take_filter-taken.result.1 told.taken.2
      );
}
