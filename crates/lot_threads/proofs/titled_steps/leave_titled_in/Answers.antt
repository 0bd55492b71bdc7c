use Rattle.std.specs.Prelude.{Contains}
use Rattle.std.proofs.Common.{◌≡◌, List, [], ◌∷◌, ◌++◌, Some, not, rules, sym, ap, ◌∙◌, subst}
use Rattle.std.proofs.lemmas.List.Elements.{Contains-append_right}
use Rattle.lot_base.specs.BucketState.{BucketState}
use Rattle.lot_base.specs.Node.{fields}
use Rattle.lot_base.specs.NodeLists.{has_number, lists_of}
use Rattle.lot_base.specs.Waiting.{has_any, without_first}
use Rattle.lot_base.proofs.RemoveLemmas.{find-number}
use Rattle.lot_machine.specs.declared.status.Status.TheVariants as status
use Rattle.lot_machine.specs.declared.step.Answer.TheVariants as answer
use Rattle.lot_machine.specs.declared.step.Step.TheVariants as step
use Rattle.lot_machine.specs.Machine.{Machine}
use Rattle.lot_history.specs.Moves.{Moves}
use Rattle.lot_history.specs.Pieces.{AllSo, standing_in}
use Rattle.lot_history.specs.Titles.{deal}
use Rattle.lot_history.specs.Views.{first_of}
use Rattle.lot_history.specs.Witness.{deals_in, deals_of, id_of, limit_of, max_threads_of, pieces_in, pieces_of}
use Rattle.lot_history.specs.declared.deal.Deal.{Deal}
use Rattle.lot_history.specs.declared.view.Piece.{Piece}
use Rattle.lot_history.specs.declared.view.Piece.TheVariants as piece
use Rattle.lot_history.proofs.KeyedLemmas.{late_titled, leaves_keyed}
use Rattle.lot_history.proofs.RemoveLemmas.{removes, removes_late}
use Rattle.lot_threads.specs.Cells.{Has, lists_in}
use Rattle.lot_threads.specs.Late.{late_pieces}
use Rattle.lot_threads.specs.Members.{Is}
use Rattle.lot_threads.specs.Titled.{title_in, told_by, without_one}
use Rattle.lot_threads.proofs.BelowLemmas.{below-left, split_without, without_parts}
use Rattle.lot_threads.proofs.ToldLemmas.{numbers_at, retells, told_after, told_last, told_late, told_left}
use Rattle.lot_threads.proofs.titled_steps.leave_titled_in.Goals as goal
use Rattle.lot_threads.proofs.titled_steps.leave_titled_in.Goals.{After-take-2}

-- what the witness has before the thread leaves
both : (c : After-take-2)
    → pieces_of c.take-2.new.me
    ≡ late_pieces c.args.number (lists_in (limit_of c.args.history.now) c.args.cell.now.bucket ∷ [])
    ++ piece.Title c.args.key (told_by c.args.title) ∷ []
both c =
    let late = late_pieces c.args.number (lists_in (limit_of c.args.history.now) c.args.cell.now.bucket ∷ []) in
    let first : pieces_of c.take.new.me ≡ lists_in (limit_of c.args.history.now) c.args.cell.now.bucket ∷ [] =
    rw (c.take.ensures.pieces, c.requires.idle.no_pieces, c.replace-part.ensures.value) c.requires.cell.own.part.pieces in
    c.take-2.ensures.pieces ∙ (ap (λ (ps : List Piece). ps ++ pieces_in c.args.title.part)
    (c.add_late.ensures.pieces ∙ ap (λ (ps : List Piece). late_pieces c.args.number ps) first)
    ∙ ap (λ (ps : List Piece). late ++ ps) c.requires.title.has.pieces)

pub add_late-requires-clause-moves : goal.add_late-requires-clause-moves
add_late-requires-clause-moves c =
    let bound = max_threads_of c.args.history.now in
    let old = c.args.cell.now.bucket in
    let node = fields c.in-Some.node.value in
    let first : pieces_of c.take.new.me ≡ lists_in (limit_of c.args.history.now) old ∷ [] =
    rw (c.take.ensures.pieces, c.requires.idle.no_pieces, c.replace-part.ensures.value) c.requires.cell.own.part.pieces in
    subst (λ (pieces : List Piece). Moves bound (Is (step.Deadline c.args.number) answer.Late) pieces
    (late_pieces c.args.number pieces)) (sym first)
    (late_titled bound (limit_of c.args.history.now) old.size old.place c.args.number (standing_in old.nodes)
    (Is (step.Deadline c.args.number) answer.Late)
    (removes_late bound old.size old.place c.args.key c.args.number old.nodes node [] c.requires.cell.here
    c.in-Some.ensures.removed.0 c.in-Some.ensures.removed.1))

pub add_left_titled-title-requires-clause-moves : goal.add_left_titled-title-requires-clause-moves
add_left_titled-title-requires-clause-moves c =
    let bound = max_threads_of c.args.history.now in
    let limit = limit_of c.args.history.now in
    let number = c.args.number in
    let key = c.args.key in
    let old = c.args.cell.now.bucket in
    let new = c.remove_timed.new.self in
    let told = c.remove_timed.ensures in
    let removed = c.in-Some.ensures.removed in
    let left = without_first (has_number number) (lists_of old.nodes key) in
    subst (λ (pieces : List Piece). Moves bound (Is (step.Resolve number) (answer.TimedOut key c.in-Some.last)) pieces
    (lists_in limit new ∷ title_in key new ∷ piece.Thread number status.Running ∷ []))
    (sym (both (goal.at.add_left_titled-title-requires-clause-moves c).After-take-2))
    (rw (told.place.place, told.place.size, removed.2)
    (leaves_keyed bound limit old.size old.place key (Some (told_by c.args.title)) tt c.requires.cell.here
    old.nodes new.nodes left number (Is (step.Resolve number) (answer.TimedOut key (not (has_any left)))) removed.3
    (removes bound old.size old.place key number old.nodes (fields c.in-Some.node.value) [] c.requires.cell.here
    removed.0 new.nodes removed.3)))

pub returns-clause-cell : goal.returns-clause-cell
returns-clause-cell c =
    let bound = max_threads_of c.args.history.now in
    let same = c.add_left_titled-title.ensures.bucket in
    let nodes = c.args.cell.now.bucket.nodes in
    let waiting = lists_of nodes c.args.key in
    record {
      part = subst (λ (bucket : BucketState). Has (id_of c.args.history.now)
          (lists_in (limit_of c.args.history.now) bucket ∷ []) c.add_left_titled-title.new.cell.part)
          (sym same) c.add_left_titled-title.ensures.part;
      below = rw same (below-left bound c.args.key nodes (split_without c.args.number waiting)
          (without_parts c.args.number waiting) c.requires.cell.own.below c.remove_timed.new.self.nodes
          c.in-Some.ensures.removed.3);
    }

-- what the title told as the thread left
was : (c : After-take-2) (m : Machine) → AllSo m (pieces_of c.take-2.new.me)
    → told_by c.args.title ≡ numbers_at c.args.cell.now.bucket.nodes c.args.key
was c m so =
    let old = c.args.cell.now.bucket in
    told_late m (limit_of c.args.history.now) old.size old.place c.args.key old.nodes (told_by c.args.title) []
    c.requires.cell.here c.args.number (subst (λ (ps : List Piece). AllSo m ps) (both c) so)

-- the thread's deadline passed, and it left the list
pub returns-clause-left : goal.returns-clause-left
returns-clause-left c = record {
  late = c.add_late.new.me;
  still = search rules;
  passes = search rules;
  resolves = search rules;
}

-- the title told of those that stood there, the thread among them, and tells of the others
pub returns-clause-title : goal.returns-clause-title
returns-clause-title c =
    let history = c.args.history.now in
    let key = c.args.key in
    let number = c.args.number in
    let new = c.remove_timed.new.self in
    let told = told_by c.args.title in
    let found = c.add_left_titled-title.ensures.found in
    retells history key c.args.title c.add_left_titled-title.result _ (without_one number told)
    c.add_left_titled-title.ensures.title
    (told_after key new.nodes ∙ told_left key c.args.cell.now.bucket.nodes new.nodes told
    (was (goal.at.returns-clause-title c).After-take-2 found.machine found.so) number c.in-Some.ensures.removed.3)
    (λ home dealt. subst (λ (deals : List Deal). Contains deals (deal key home))
    (sym (c.add_left_titled-title.ensures.deals ∙ c.take-2.ensures.deals))
    (Contains-append_right (deals_of c.add_late.new.me) (deals_in c.args.title.part) (deal key home)
    dealt))

pub returns-clause-last : goal.returns-clause-last
returns-clause-last c =
    let found = c.add_left_titled-title.ensures.found in
    c.in-Some.ensures.removed.2 ∙ ap not (told_last c.args.key c.args.cell.now.bucket.nodes [] (told_by c.args.title)
    (was (goal.at.returns-clause-last c).After-take-2 found.machine found.so) c.args.number)

pub returns-clause-returned : goal.returns-clause-returned
returns-clause-returned c = (
  find-number c.args.number (lists_of c.args.cell.now.bucket.nodes c.args.key) (fields c.in-Some.node.value)
      c.in-Some.ensures.removed.0,
  record {
    of_history = c.give.ensures.part;
    pieces = c.give.ensures.first ∙ ap first_of c.add_left_titled-title.ensures.pieces;
  },
)
