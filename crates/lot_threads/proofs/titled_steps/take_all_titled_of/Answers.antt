use Rattle.std.specs.Prelude.{Contains}
use Rattle.std.proofs.Common.{◌≡◌, ℕ, List, [], ◌∷◌, ◌++◌, length, refl, Some, sym, ap, ◌∙◌, subst, rules}
use Rattle.std.proofs.lemmas.List.{length-map}
use Rattle.std.proofs.lemmas.List.Elements.{Contains-append_right}
use Rattle.lot_base.specs.BucketState.{BucketState}
use Rattle.lot_base.specs.NodeFields.{NodeFields}
use Rattle.lot_base.specs.NodeLists.{lists_of, saturated}
use Rattle.lot_base.specs.Waiting.{split_all}
use Rattle.lot_machine.specs.declared.step.Answer.TheVariants as answer
use Rattle.lot_machine.specs.declared.step.Op.TheVariants as op
use Rattle.lot_machine.specs.declared.step.Step.TheVariants as step
use Rattle.lot_history.specs.Moves.{Moves}
use Rattle.lot_history.specs.Pieces.{AllSo}
use Rattle.lot_history.specs.Titles.{deal}
use Rattle.lot_history.specs.Witness.{deals_in, deals_of, id_of, limit_of, max_threads_of, pieces_in, pieces_of}
use Rattle.lot_history.specs.declared.deal.Deal.{Deal}
use Rattle.lot_history.specs.declared.view.Piece.{Piece}
use Rattle.lot_history.specs.declared.view.Piece.TheVariants as piece
use Rattle.lot_history.proofs.NodeLemmas.{takes_all}
use Rattle.lot_threads.specs.Cells.{Has, lists_in, threads_in}
use Rattle.lot_threads.specs.Members.{Is}
use Rattle.lot_threads.specs.Titled.{title_in, told_by}
use Rattle.lot_threads.proofs.BelowLemmas.{all_parts, below-left, below-taken}
use Rattle.lot_threads.proofs.TakingLemmas.{taking_moves}
use Rattle.lot_threads.proofs.ToldLemmas.{numbers_at, retells, told_after, told_before, told_none}
use Rattle.lot_threads.proofs.titled_steps.take_all_titled_of.Goals as goal
use Rattle.lot_threads.proofs.titled_steps.take_all_titled_of.Goals.{After-take-2}

-- what the witness has before the step
both : (c : After-take-2)
    → pieces_of c.take-2.new.me
    ≡ lists_in (limit_of c.args.history.now) c.args.cell.now.bucket
    ∷ piece.Title c.args.key (told_by c.args.title) ∷ []
both c =
    let lists = lists_in (limit_of c.args.history.now) c.args.cell.now.bucket in
    let first : pieces_of c.take.new.me ≡ lists ∷ [] =
    rw (c.take.ensures.pieces, c.requires.idle.no_pieces, c.replace-part.ensures.value) c.requires.cell.own.part.pieces in
    c.take-2.ensures.pieces ∙ (ap (λ (ps : List Piece). ps ++ pieces_in c.args.title.part) first
    ∙ ap (λ (ps : List Piece). lists ∷ ps) c.requires.title.has.pieces)

pub add_all_titled-title-requires-clause-moves : goal.add_all_titled-title-requires-clause-moves
add_all_titled-title-requires-clause-moves c =
    let bound = max_threads_of c.args.history.now in
    let limit = limit_of c.args.history.now in
    let key = c.args.key in
    let token = c.args.token in
    let old = c.args.cell.now.bucket in
    let new = c.take_all-count.new.self in
    let told = c.take_all-count.ensures in
    let found = c.take_all-count.result.0 in
    let waiting = lists_of old.nodes key in
    let said = Is (step.Unpark (op.All key token)) (answer.Count found) in
    subst (λ (pieces : List Piece). Moves bound said pieces
    (lists_in limit new ∷ title_in key new ∷ threads_in c.take_all-count.result.1))
    (sym (both (goal.at.add_all_titled-title-requires-clause-moves c).After-take-2))
    (taking_moves bound limit old new token waiting c.take_all-count.result.1 told.place told.taken key
    (Some (told_by c.args.title)) tt c.requires.cell.here [] told.lists (op.All key token)
    (answer.Count (saturated (length waiting))) said (refl, ap answer.Count (sym told.answer))
    (takes_all bound old.size old.place key old.nodes new.nodes token [] c.requires.cell.here told.lists))

pub returns-clause-taken : goal.returns-clause-taken
returns-clause-taken c = record {
  pieces = search rules;
  cell = (
      let bound = max_threads_of c.args.history.now in
      let same = c.add_all_titled-title.ensures.bucket in
      let nodes = c.args.cell.now.bucket.nodes in
      record {
        part = subst (λ (bucket : BucketState). Has (id_of c.args.history.now)
            (lists_in (limit_of c.args.history.now) bucket ∷ []) c.add_all_titled-title.new.cell.part)
            (sym same) c.add_all_titled-title.ensures.part;
        below = rw same (below-left bound c.args.key nodes (split_all (lists_of nodes c.args.key))
            (all_parts (lists_of nodes c.args.key)) c.requires.cell.own.below
            c.take_all-count.new.self.nodes c.take_all-count.ensures.lists);
      }
      );
  place = search rules;
  below = (
      let nodes = c.args.cell.now.bucket.nodes in
      below-taken (max_threads_of c.args.history.now) c.args.key nodes (split_all (lists_of nodes c.args.key))
      (all_parts (lists_of nodes c.args.key)) c.requires.cell.own.below c.args.token c.take_all-count.result.1
      c.take_all-count.ensures.taken
      );
}

-- as many as the title told were taken
pub returns-clause-told : goal.returns-clause-told
returns-clause-told c =
    let old = c.args.cell.now.bucket in
    let key = c.args.key in
    let found = c.add_all_titled-title.ensures.found in
    let both_there = both (goal.at.returns-clause-told c).After-take-2 in
    let was : told_by c.args.title ≡ numbers_at old.nodes key =
    told_before found.machine (limit_of c.args.history.now) old.size old.place key old.nodes (told_by c.args.title) []
    c.requires.cell.here (subst (λ (ps : List Piece). AllSo found.machine ps) both_there found.so) in
    c.take_all-count.ensures.answer
    ∙ ap saturated (sym (ap (λ (ns : List ℕ). length ns) was ∙ length-map (lists_of old.nodes key) (λ (node : NodeFields). node.number)))

-- the title tells of nobody
pub returns-clause-title : goal.returns-clause-title
returns-clause-title c =
    let key = c.args.key in
    let new = c.take_all-count.new.self in
    retells c.args.history.now key c.args.title c.add_all_titled-title.result _ [] c.add_all_titled-title.ensures.title
    (told_after key new.nodes ∙ told_none key c.args.cell.now.bucket.nodes new.nodes c.take_all-count.ensures.lists)
    (λ home dealt. subst (λ (deals : List Deal). Contains deals (deal key home))
    (sym (c.add_all_titled-title.ensures.deals ∙ c.take-2.ensures.deals))
    (Contains-append_right (deals_of c.take.new.me) (deals_in c.args.title.part) (deal key home) dealt))
