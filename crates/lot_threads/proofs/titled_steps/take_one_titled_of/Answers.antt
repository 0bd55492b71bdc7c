use Rattle.std.specs.Prelude.{Contains}
use Rattle.std.proofs.Common.{◌≡◌, List, [], ◌∷◌, ◌++◌, Some, sym, ap, ◌∙◌, subst, rules}
use Rattle.std.proofs.lemmas.List.Elements.{Contains-append_right}
use Rattle.lot_base.specs.BucketState.{BucketState}
use Rattle.lot_base.specs.NodeLists.{lists_of}
use Rattle.lot_base.specs.Waiting.{result_of, split_first}
use Rattle.lot_machine.specs.declared.step.Answer.TheVariants as answer
use Rattle.lot_machine.specs.declared.step.Op.TheVariants as op
use Rattle.lot_machine.specs.declared.step.Step.TheVariants as step
use Rattle.lot_machine.specs.Machine.{Machine}
use Rattle.lot_history.specs.Moves.{Moves}
use Rattle.lot_history.specs.Pieces.{AllSo}
use Rattle.lot_history.specs.Titles.{deal}
use Rattle.lot_history.specs.Witness.{deals_in, deals_of, id_of, limit_of, max_threads_of, pieces_in, pieces_of}
use Rattle.lot_history.specs.declared.deal.Deal.{Deal}
use Rattle.lot_history.specs.declared.view.Piece.{Piece}
use Rattle.lot_history.specs.declared.view.Piece.TheVariants as piece
use Rattle.lot_history.proofs.NodeLemmas.{takes_one}
use Rattle.lot_threads.specs.Cells.{Has, lists_in, threads_in}
use Rattle.lot_threads.specs.Members.{Is}
use Rattle.lot_threads.specs.Titled.{title_in, told_by, without_next}
use Rattle.lot_threads.proofs.BelowLemmas.{below-left, below-taken, first_parts}
use Rattle.lot_threads.proofs.TakingLemmas.{taking_moves}
use Rattle.lot_threads.proofs.ToldLemmas.{numbers_at, retells, told_after, told_before, told_next, told_result}
use Rattle.lot_threads.proofs.titled_steps.take_one_titled_of.Goals as goal
use Rattle.lot_threads.proofs.titled_steps.take_one_titled_of.Goals.{After-take-2}

-- what the witness has before the step
both : (c : After-take-2)
    → pieces_of c.take-2.new.me
    ≡ lists_in (limit_of c.args.history.now) c.args.cell.now.bucket
    ∷ piece.Title c.args.key (told_by c.args.title) ∷ []
both c =
    let lists = lists_in (limit_of c.args.history.now) c.args.cell.now.bucket in
    let first : pieces_of c.take.new.me ≡ lists ∷ [] =
    rw (c.take.ensures.pieces, c.requires.idle.no_pieces, c.replace-part.ensures.value) c.requires.cell.own.part.pieces in
    c.take-2.ensures.pieces ∙ (ap (λ (ps : List Piece). ps ++ pieces_in c.args.title.part) first
    ∙ ap (λ (ps : List Piece). lists ∷ ps) c.requires.title.has.pieces)

pub add_taken_titled-title-requires-clause-moves : goal.add_taken_titled-title-requires-clause-moves
add_taken_titled-title-requires-clause-moves c =
    let bound = max_threads_of c.args.history.now in
    let limit = limit_of c.args.history.now in
    let key = c.args.key in
    let old = c.args.cell.now.bucket in
    let new = c.take_one-taken.new.self in
    let told = c.take_one-taken.ensures in
    let token = told.taken.0 in
    let same : token ≡ c.args.token = told.taken.1.1 in
    let found = c.take_one-taken.result.0 in
    let split = split_first (lists_of old.nodes key) in
    let said = Is (step.Unpark (op.One key c.args.token)) (answer.Unpark found) in
    subst (λ (pieces : List Piece). Moves bound said pieces
    (lists_in limit new ∷ title_in key new ∷ threads_in c.take_one-taken.result.1))
    (sym (both (goal.at.add_taken_titled-title-requires-clause-moves c).After-take-2))
    (taking_moves bound limit old new token split.taken c.take_one-taken.result.1 told.place told.taken.2 key
    (Some (told_by c.args.title)) tt c.requires.cell.here split.left told.lists (op.One key token)
    (answer.Unpark (result_of split)) said
    (ap (λ t. step.Unpark (op.One key t)) same, ap answer.Unpark (sym told.answer))
    (takes_one bound old.size old.place key old.nodes new.nodes token [] c.requires.cell.here told.lists))

-- what the title told as the step was made
was : (c : After-take-2) (m : Machine) → AllSo m (pieces_of c.take-2.new.me)
    → told_by c.args.title ≡ numbers_at c.args.cell.now.bucket.nodes c.args.key
was c m so =
    let old = c.args.cell.now.bucket in
    told_before m (limit_of c.args.history.now) old.size old.place c.args.key old.nodes (told_by c.args.title) []
    c.requires.cell.here (subst (λ (ps : List Piece). AllSo m ps) (both c) so)

pub returns-clause-taken : goal.returns-clause-taken
returns-clause-taken c = record {
  pieces = search rules;
  cell = (
      let bound = max_threads_of c.args.history.now in
      let same = c.add_taken_titled-title.ensures.bucket in
      let nodes = c.args.cell.now.bucket.nodes in
      record {
        part = subst (λ (bucket : BucketState). Has (id_of c.args.history.now)
            (lists_in (limit_of c.args.history.now) bucket ∷ []) c.add_taken_titled-title.new.cell.part)
            (sym same) c.add_taken_titled-title.ensures.part;
        below = rw same (below-left bound c.args.key nodes (split_first (lists_of nodes c.args.key))
            (first_parts (lists_of nodes c.args.key)) c.requires.cell.own.below
            c.take_one-taken.new.self.nodes c.take_one-taken.ensures.lists);
      }
      );
  place = search rules;
  below = (
      let told = c.take_one-taken.ensures.taken in
      let nodes = c.args.cell.now.bucket.nodes in
      below-taken (max_threads_of c.args.history.now) c.args.key nodes (split_first (lists_of nodes c.args.key))
      (first_parts (lists_of nodes c.args.key)) c.requires.cell.own.below told.0 c.take_one-taken.result.1 told.2
      );
}

-- the result is what the title told
pub returns-clause-told : goal.returns-clause-told
returns-clause-told c =
    let found = c.add_taken_titled-title.ensures.found in
    c.take_one-taken.ensures.answer ∙ told_result c.args.key c.args.cell.now.bucket.nodes (told_by c.args.title)
    (was (goal.at.returns-clause-told c).After-take-2 found.machine found.so)

-- the title told of those that stood there, and tells of those that are left
pub returns-clause-title : goal.returns-clause-title
returns-clause-title c =
    let history = c.args.history.now in
    let key = c.args.key in
    let new = c.take_one-taken.new.self in
    let told = told_by c.args.title in
    let found = c.add_taken_titled-title.ensures.found in
    retells history key c.args.title c.add_taken_titled-title.result _ (without_next told) c.add_taken_titled-title.ensures.title
    (told_after key new.nodes ∙ told_next key c.args.cell.now.bucket.nodes new.nodes told
    (was (goal.at.returns-clause-title c).After-take-2 found.machine found.so) c.take_one-taken.ensures.lists)
    (λ home dealt. subst (λ (deals : List Deal). Contains deals (deal key home))
    (sym (c.add_taken_titled-title.ensures.deals ∙ c.take-2.ensures.deals))
    (Contains-append_right (deals_of c.take.new.me) (deals_in c.args.title.part) (deal key home) dealt))
