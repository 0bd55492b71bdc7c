use Rattle.std.specs.Prelude.{Contains}
use Rattle.std.proofs.Common.{◌≡◌, List, [], ◌∷◌, ◌++◌, Some, true, refl, rules, sym, ap, ◌∙◌, subst}
use Rattle.std.proofs.lemmas.List.Elements.{Contains-append_left, Contains-append_right}
use Rattle.lot_base.specs.BucketState.{BucketState}
use Rattle.lot_base.specs.Node.{fields}
use Rattle.lot_machine.specs.declared.status.Status.TheVariants.{Running}
use Rattle.lot_machine.specs.declared.step.Answer.TheVariants as answer
use Rattle.lot_history.specs.Moves.{Moves}
use Rattle.lot_history.specs.Pieces.{AllSo}
use Rattle.lot_history.specs.Titles.{deal}
use Rattle.lot_history.specs.Witness.{deals_in, deals_of, id_of, limit_of, max_threads_of, pieces_in, pieces_of}
use Rattle.lot_history.specs.declared.deal.Deal.{Deal}
use Rattle.lot_history.specs.declared.view.Piece.{Piece}
use Rattle.lot_history.specs.declared.view.Piece.TheVariants as piece
use Rattle.lot_history.proofs.KeyedLemmas.{enters_keyed}
use Rattle.lot_history.proofs.NodeLemmas.{enters_node}
use Rattle.lot_threads.specs.declared.told.Entry.{Entry}
use Rattle.lot_threads.specs.Cells.{Has, lists_in}
use Rattle.lot_threads.specs.Members.{Is, entry_of, entry_step}
use Rattle.lot_threads.specs.Titled.{title_in, told_by}
use Rattle.lot_threads.proofs.BelowLemmas.{below-entered}
use Rattle.lot_threads.proofs.ToldLemmas.{numbers_at, retells, told_after, told_before, told_more}
use Rattle.lot_threads.proofs.titled_steps.enter_titled_in.Goals as goal
use Rattle.lot_threads.proofs.titled_steps.enter_titled_in.Goals.{After-take-4}

-- what the witness has before the step
all : (c : After-take-4)
    → pieces_of c.take-4.new.me
    ≡ lists_in (limit_of c.args.history.now) c.args.cell.now.bucket
    ∷ piece.Title (fields c.args.node.value).key (told_by c.args.title)
    ∷ piece.Thread (fields c.args.node.value).number Running
    ∷ piece.Timing (fields c.args.node.value).number c.requires.timing.timed ∷ []
all c =
    let lists = lists_in (limit_of c.args.history.now) c.args.cell.now.bucket in
    let title = piece.Title (fields c.args.node.value).key (told_by c.args.title) in
    let first : pieces_of c.take.new.me ≡ lists ∷ [] =
    rw (c.take.ensures.pieces, c.requires.idle.no_pieces, c.replace-part.ensures.value) c.requires.cell.own.part.pieces in
    let both : pieces_of c.take-2.new.me ≡ lists ∷ title ∷ [] =
    c.take-2.ensures.pieces ∙ (ap (λ (ps : List Piece). ps ++ pieces_in c.args.title.part) first
    ∙ ap (λ (ps : List Piece). lists ∷ ps) c.requires.title.has.pieces) in
    let thread : pieces_of c.take-3.new.me
    ≡ lists ∷ title ∷ piece.Thread (fields c.args.node.value).number Running ∷ [] =
    c.take-3.ensures.pieces ∙ (ap (λ (ps : List Piece). ps ++ pieces_in c.args.thread) both
    ∙ ap (λ (ps : List Piece). lists ∷ title ∷ ps) c.requires.thread.pieces) in
    c.take-4.ensures.pieces ∙ (ap (λ (ps : List Piece). ps ++ pieces_in c.replace-part-2.result) thread
    ∙ ap (λ (ps : List Piece). lists ∷ title ∷ piece.Thread (fields c.args.node.value).number Running ∷ ps)
    (ap pieces_in c.replace-part-2.ensures.value ∙ c.requires.timing.has.pieces))

pub add_entered_titled-title-requires-clause-moves : goal.add_entered_titled-title-requires-clause-moves
add_entered_titled-title-requires-clause-moves c =
    let bound = max_threads_of c.args.history.now in
    let limit = limit_of c.args.history.now in
    let node = fields c.args.node.value in
    let old = c.args.cell.now.bucket in
    let new : BucketState = record old { nodes = old.nodes ++ node ∷ [] } in
    let entered : c.put_last.new.bucket ≡ new = c.put_last.ensures in
    let same : c.entry_for-entry.result ≡ entry_of node = search rules in
    let timed = c.requires.timing.timed in
    subst (λ (entry : Entry). Moves bound (Is (entry_step entry true) answer.Entered) (pieces_of c.take-4.new.me)
    (lists_in limit c.put_last.new.bucket ∷ title_in entry.key c.put_last.new.bucket
    ∷ piece.Timing entry.number entry.timed ∷ [])) (sym same)
    (subst (λ (pieces : List Piece). Moves bound (Is (entry_step (entry_of node) true) answer.Entered) pieces
    (lists_in limit c.put_last.new.bucket ∷ title_in node.key c.put_last.new.bucket
    ∷ piece.Timing node.number node.timed ∷ []))
    (sym (all (goal.at.add_entered_titled-title-requires-clause-moves c).After-take-4))
    (subst (λ (bucket : BucketState). Moves bound (Is (entry_step (entry_of node) true) answer.Entered)
    (lists_in limit old ∷ piece.Title node.key (told_by c.args.title) ∷ piece.Thread node.number Running
    ∷ piece.Timing node.number timed ∷ [])
    (lists_in limit bucket ∷ title_in node.key bucket ∷ piece.Timing node.number node.timed ∷ [])) (sym entered)
    (enters_keyed bound limit old.size old.place node.key (Some (told_by c.args.title)) tt c.requires.cell.here
    old.nodes node timed (Is (entry_step (entry_of node) true) answer.Entered) refl
    (enters_node bound old.size old.place old.nodes node timed [] c.requires.cell.here))))

pub returns-clause-cell : goal.returns-clause-cell
returns-clause-cell c =
    let bound = max_threads_of c.args.history.now in
    let same = c.add_entered_titled-title.ensures.bucket in
    let node = fields c.args.node.value in
    let old = c.args.cell.now.bucket in
    record {
      part = subst (λ (bucket : BucketState). Has (id_of c.args.history.now)
          (lists_in (limit_of c.args.history.now) bucket ∷ []) c.add_entered_titled-title.new.cell.part) (sym same)
          c.add_entered_titled-title.ensures.part;
      below = rw (same, c.put_last.ensures)
          (below-entered bound old.nodes node c.requires.cell.own.below c.requires.below);
    }

-- the title told of those that stood there, and tells of the thread too
pub returns-clause-title : goal.returns-clause-title
returns-clause-title c =
    let history = c.args.history.now in
    let node = fields c.args.node.value in
    let old = c.args.cell.now.bucket in
    let told = told_by c.args.title in
    let found = c.add_entered_titled-title.ensures.found in
    let so = subst (λ (ps : List Piece). AllSo found.machine ps)
    (all (goal.at.returns-clause-title c).After-take-4) found.so in
    let was = told_before found.machine (limit_of history) old.size old.place node.key old.nodes told
    (piece.Thread node.number Running ∷ piece.Timing node.number c.requires.timing.timed ∷ []) c.requires.cell.here so in
    let same : c.entry_for-entry.result ≡ entry_of node = search rules in
    let title : Has (id_of history) (title_in node.key c.put_last.new.bucket ∷ []) c.add_entered_titled-title.result.part =
    subst (λ (entry : Entry). Has (id_of history) (title_in entry.key c.put_last.new.bucket ∷ []) c.add_entered_titled-title.result.part)
    same c.add_entered_titled-title.ensures.title in
    retells history node.key c.args.title c.add_entered_titled-title.result _ (told ++ node.number ∷ []) title
    (told_after node.key c.put_last.new.bucket.nodes
    ∙ (ap (λ (bucket : BucketState). numbers_at bucket.nodes node.key) c.put_last.ensures
    ∙ told_more old.nodes node told was))
    (λ home dealt. subst (λ (deals : List Deal). Contains deals (deal node.key home))
    (sym (c.add_entered_titled-title.ensures.deals ∙ c.take-4.ensures.deals))
    (Contains-append_left (deals_of c.take-3.new.me) (deals_in c.replace-part-2.result) (deal node.key home)
    (subst (λ (deals : List Deal). Contains deals (deal node.key home)) (sym c.take-3.ensures.deals)
    (Contains-append_left (deals_of c.take-2.new.me) (deals_in c.args.thread) (deal node.key home)
    (subst (λ (deals : List Deal). Contains deals (deal node.key home)) (sym c.take-2.ensures.deals)
    (Contains-append_right (deals_of c.take.new.me) (deals_in c.args.title.part) (deal node.key home) dealt))))))
