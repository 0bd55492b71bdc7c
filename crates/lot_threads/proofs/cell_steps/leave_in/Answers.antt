use denote.Ref.{Bor}
use Rattle.std.proofs.Common.{◌≡◌, None, List, [], ◌∷◌, ◌++◌, true, not, refl, sym, ap, ◌∙◌, subst}
use Rattle.lot_base.specs.BucketState.{BucketState}
use Rattle.lot_base.specs.Node.{fields}
use Rattle.lot_base.specs.NodeLists.{lists_of, has_number}
use Rattle.lot_base.specs.Waiting.{has_any, without_first}
use Rattle.lot_machine.specs.declared.status.Status.TheVariants as status
use Rattle.lot_machine.specs.declared.step.Answer.TheVariants as answer
use Rattle.lot_machine.specs.declared.step.Step.TheVariants as step
use Rattle.lot_base.proofs.RemoveLemmas.{find-number}
use Rattle.lot_history.specs.Moves.{Moves}
use Rattle.lot_history.specs.Witness.{id_of, limit_of, max_threads_of, pieces_in}
use Rattle.lot_history.specs.declared.view.Piece.{Piece}
use Rattle.lot_history.specs.declared.view.Piece.TheVariants.{Thread, Timing, TitledLists}
use Rattle.lot_history.proofs.FrameLemmas.{framed}
use Rattle.lot_history.proofs.KeyedLemmas.{leaves_keyed}
use Rattle.lot_history.proofs.RemoveLemmas.{removes, removes_timed}
use Rattle.lot_threads.specs.Cells.{Has, lists_in}
use Rattle.lot_threads.specs.Late.{late_pieces}
use Rattle.lot_threads.specs.Members.{Is}
use Rattle.lot_history.specs.Pieces.{AllSo, standing_in}
use Rattle.lot_threads.specs.declared.critical_section.CriticalSection.{CriticalSection}
use Rattle.lot_threads.proofs.WithinLemmas.{finds_late, is_section}
use Rattle.lot_threads.proofs.BelowLemmas.{below-left, split_without, without_parts}
use Rattle.lot_threads.proofs.cell_steps.leave_in.Goals as goal

pub add_timeout-thread-requires-clause-deadline : goal.add_timeout-thread-requires-clause-deadline
add_timeout-thread-requires-clause-deadline g c =
    let bound = max_threads_of c.args.history.now in
    let old = c.args.cell.now.bucket in
    let node = fields c.in-Some.node.value in
    let part = pieces_in c.replace-part.result in
    subst (λ (others : List Piece). Moves bound (Is (step.Deadline c.args.number) answer.Late) (part ++ others)
    (late_pieces c.args.number (part ++ others))) (sym c.requires.timing.pieces)
    (subst (λ (pieces : List Piece). Moves bound (Is (step.Deadline c.args.number) answer.Late)
    (pieces ++ Timing c.args.number true ∷ []) (late_pieces c.args.number (pieces ++ Timing c.args.number true ∷ [])))
    (sym (ap pieces_in c.replace-part.ensures.value ∙ c.requires.cell.own.part.pieces))
    (removes_timed bound (limit_of c.args.history.now) old.size old.place c.args.key c.args.number old.nodes node
    c.requires.cell.here c.in-Some.ensures.removed.0))

pub add_timeout-thread-requires-clause-resolve : goal.add_timeout-thread-requires-clause-resolve
add_timeout-thread-requires-clause-resolve g c =
    let bound = max_threads_of c.args.history.now in
    let number = c.args.number in
    let key = c.args.key in
    let old = c.args.cell.now.bucket in
    let limit = limit_of c.args.history.now in
    let new = c.remove.new.self in
    let told = c.remove.ensures in
    let removed = c.in-Some.ensures.removed in
    let part = pieces_in c.replace-part.result in
    let left = without_first (has_number number) (lists_of old.nodes key) in
    let given = Is (step.Resolve number) (answer.TimedOut key (not (has_any left))) in
    subst (λ (others : List Piece). Moves bound (Is (step.Resolve number) (answer.TimedOut key c.in-Some.last))
    (late_pieces number (part ++ others))
    (lists_in limit new ∷ Thread number status.Running ∷ Timing number true ∷ [])) (sym c.requires.timing.pieces)
    (subst (λ (pieces : List Piece). Moves bound (Is (step.Resolve number) (answer.TimedOut key c.in-Some.last))
    (late_pieces number (pieces ++ Timing number true ∷ []))
    (lists_in limit new ∷ Thread number status.Running ∷ Timing number true ∷ []))
    (sym (ap pieces_in c.replace-part.ensures.value ∙ c.requires.cell.own.part.pieces))
    (rw (told.place.place, told.place.size, removed.1)
    (framed bound given (late_pieces number (lists_in limit old ∷ []))
    (TitledLists limit old.size old.place (standing_in new.nodes) ∷ Thread number status.Running ∷ [])
    (Timing number true ∷ [])
    (leaves_keyed bound limit old.size old.place key None c.requires.above c.requires.cell.here old.nodes new.nodes left
    number given told.lists
    (removes bound old.size old.place key number old.nodes (fields c.in-Some.node.value) [] c.requires.cell.here
    removed.0 new.nodes told.lists)))))

pub returns-clause-cell : goal.returns-clause-cell
returns-clause-cell g c =
    let bound = max_threads_of c.args.history.now in
    let same = c.add_timeout-thread.ensures.bucket in
    let nodes = c.args.cell.now.bucket.nodes in
    let waiting = lists_of nodes c.args.key in
    record {
      part = subst (λ (bucket : BucketState).
          Has (id_of c.args.history.now) (lists_in (limit_of c.args.history.now) bucket ∷ []) c.add_timeout-thread.new.cell.part)
          (sym same) c.add_timeout-thread.ensures.part;
      below = rw same (below-left bound c.args.key nodes (split_without c.args.number waiting)
          (without_parts c.args.number waiting) c.requires.cell.own.below c.remove.new.self.nodes c.remove.ensures.lists);
    }

-- the section in which `timed_out` was told has the bucket as the step found it
pub returns-clause-left : goal.returns-clause-left
returns-clause-left g c =
    let history = c.args.history.now in
    let bucket = c.args.cell.now.bucket in
    let key = c.args.key in
    let here = c.requires.cell.here in
    let left = c.add_timeout-thread.ensures.leaves in
    let m = left.finds.found.machine in
    let part : c.replace-part.result ≡ c.args.cell.now.part =
    c.replace-part.ensures.value in
    let told : (section : Bor CriticalSection) × (section.now ≡ record { part = c.replace-part.result })
    × g.T.FnOnce.post c.args.timed_out (section, (key, (c.in-Some.last, tt))) tt = (_, refl, c.timed_out.ensures) in
    let section = told.0 in
    let has : Has (id_of history) (lists_in (limit_of c.args.history.now) bucket ∷ []) section.now.part =
    rw c.replace-part.ensures.value c.requires.cell.own.part in
    let others = pieces_in c.args.timing.now in
    let so : AllSo m (late_pieces c.args.number (lists_in (limit_of c.args.history.now) bucket ∷ others)) =
    subst (λ (pieces : List Piece). AllSo m (late_pieces c.args.number (pieces ++ others)))
    (ap pieces_in part ∙ c.requires.cell.own.part.pieces) left.finds.so in (
      c.in-Some.last,
      record {
        section = section;
        within = is_section history bucket key here section.now has;
        told = told.2;
        leaves = left.leaves;
        finds = record {
          found = left.finds.found;
          waiters = finds_late history bucket key here section.now has c.args.number m (so.0, tt);
        };
      },
    )

pub returns-clause-returned : goal.returns-clause-returned
returns-clause-returned g c = (
  find-number c.args.number (lists_of c.args.cell.now.bucket.nodes c.args.key) (fields c.in-Some.node.value)
      c.in-Some.ensures.removed.0,
  c.add_timeout-thread.ensures.thread,
)
