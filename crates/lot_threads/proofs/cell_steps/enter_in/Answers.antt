use Rattle.std.proofs.Common.{◌≡◌, None, List, [], ◌∷◌, ◌++◌, true, rules, refl, sym, ap, ◌∙◌, subst, false}
use Rattle.lot_base.specs.BucketState.{BucketState}
use Rattle.lot_base.specs.Node.{fields}
use Rattle.lot_machine.specs.declared.status.Status.TheVariants.{Running}
use Rattle.lot_machine.specs.declared.step.Answer.TheVariants as answer
use Rattle.lot_history.specs.Moves.{Moves}
use Rattle.lot_history.specs.Pieces.{AllSo}
use Rattle.lot_history.specs.Witness.{id_of, limit_of, max_threads_of, pieces_in, Extends}
use Rattle.lot_history.specs.declared.view.Piece.{Piece}
use Rattle.lot_history.specs.declared.view.Piece.TheVariants.{Thread, Timing}
use Rattle.lot_history.proofs.KeyedLemmas.{enters_keyed}
use Rattle.lot_history.proofs.NodeLemmas.{enters_node}
use Rattle.lot_threads.specs.declared.told.Entry.{Entry}
use Rattle.lot_threads.specs.Cells.{Has, lists_in}
use Rattle.lot_threads.specs.Members.{Is, entry_of, entry_step}
use Rattle.lot_threads.proofs.BelowLemmas.{below-entered}
use Rattle.lot_threads.proofs.WithinLemmas.{finds, is_section}
use Rattle.lot_threads.proofs.cell_steps.enter_in.Goals as goal

pub add_entered-requires-clause-moves : goal.add_entered-requires-clause-moves
add_entered-requires-clause-moves g c =
    let bound = max_threads_of c.args.history.now in
    let limit = limit_of c.args.history.now in
    let node = fields c.args.node.value in
    let old = c.args.cell.now.bucket in
    let timing = c.requires.timing in
    let same : c.entry_for-entry.result ≡ entry_of node = search rules in
    let part_pieces : pieces_in c.replace-part.result ≡ pieces_in c.args.cell.now.part =
    ap pieces_in c.replace-part.ensures.value in
    subst (λ (entry : Entry). Moves bound (Is (entry_step entry true) answer.Entered)
    ((pieces_in c.replace-part.result ++ Thread entry.number Running ∷ []) ++ pieces_in c.args.timing.now)
    (lists_in limit c.enter-entered.new.self ∷ Timing entry.number entry.timed ∷ []))
    (sym same)
    (subst (λ (others : List Piece). Moves bound (Is (entry_step (entry_of node) true) answer.Entered)
    ((pieces_in c.replace-part.result ++ Thread node.number Running ∷ []) ++ others)
    (lists_in limit c.enter-entered.new.self ∷ Timing node.number node.timed ∷ []))
    (sym timing.has.pieces)
    (subst (λ (pieces : List Piece). Moves bound (Is (entry_step (entry_of node) true) answer.Entered)
    ((pieces ++ Thread node.number Running ∷ []) ++ Timing node.number timing.timed ∷ [])
    (lists_in limit c.enter-entered.new.self ∷ Timing node.number node.timed ∷ []))
    (sym (part_pieces ∙ c.requires.cell.own.part.pieces))
    (subst (λ (new : BucketState). Moves bound (Is (entry_step (entry_of node) true) answer.Entered)
    (lists_in limit old ∷ Thread node.number Running ∷ Timing node.number timing.timed ∷ [])
    (lists_in limit new ∷ Timing node.number node.timed ∷ []))
    (sym c.in-Ok.ensures.entered)
    (enters_keyed bound limit old.size old.place node.key None c.requires.above c.requires.cell.here old.nodes node
    timing.timed (Is (entry_step (entry_of node) true) answer.Entered) refl
    (enters_node bound old.size old.place old.nodes node timing.timed [] c.requires.cell.here)))))

pub returns-in-Ok-clause-cell : goal.returns-in-Ok-clause-cell
returns-in-Ok-clause-cell g c =
    let bound = max_threads_of c.args.history.now in
    let same = c.add_entered.ensures.bucket in
    record {
      part = subst (λ (bucket : BucketState). Has (id_of c.args.history.now) (lists_in (limit_of c.args.history.now) bucket ∷ []) c.add_entered.new.cell.part)
          (sym same) c.add_entered.ensures.part;
      below = rw (same, c.in-Ok.ensures.entered)
          (below-entered bound c.args.cell.now.bucket.nodes (fields c.args.node.value) c.requires.cell.own.below
          c.requires.below);
    }

-- the section in which `validate` was asked has the bucket as the entry found it
pub returns-in-Ok-clause-entered : goal.returns-in-Ok-clause-entered
returns-in-Ok-clause-entered g c =
    let history = c.args.history.now in
    let bucket = c.args.cell.now.bucket in
    let node = fields c.args.node.value in
    let here = c.requires.cell.here in
    let asked = c.in-Ok.ensures.asked in
    let section = asked.0 in
    let found = c.add_entered.ensures.found in
    let m = found.found.machine in
    let same : c.entry_for-entry.result ≡ entry_of node = search rules in
    let part : c.replace-part.result ≡ c.args.cell.now.part =
    c.replace-part.ensures.value in
    let has : Has (id_of history) (lists_in (limit_of c.args.history.now) bucket ∷ []) section.now.part =
    rw (asked.1, c.replace-part.ensures.value) c.requires.cell.own.part in
    let others = pieces_in c.args.timing.now in
    let so : AllSo m (lists_in (limit_of c.args.history.now) bucket ∷ Thread c.entry_for-entry.result.number Running ∷ others) =
    subst (λ (pieces : List Piece). AllSo m ((pieces ++ Thread c.entry_for-entry.result.number Running ∷ []) ++ others))
    (ap pieces_in part ∙ c.requires.cell.own.part.pieces) found.so in
    record {
      asks = record {
        section = section;
        within = is_section history bucket node.key here section.now has;
        answers = asked.2;
      };
      finds = record {
        found = found.found;
        waiters = finds history bucket node.key here section.now has m (so.0, tt);
      };
      extends = subst (λ (entry : Entry).
          Extends history c.args.me.now (entry_step entry true) answer.Entered c.add_entered.new.me) same
          c.add_entered.ensures.extends;
    }

pub enter-entered-requires-clause-callable : goal.enter-entered-requires-clause-callable
enter-entered-requires-clause-callable g c = λ lent is.
    c.requires.callable lent (is_section c.args.history.now c.args.cell.now.bucket (fields c.args.node.value).key
    c.requires.cell.here lent.now (rw (is, c.replace-part.ensures.value) c.requires.cell.own.part))

pub returns-in-Err-clause-refused : goal.returns-in-Err-clause-refused
returns-in-Err-clause-refused g c =
    let history = c.args.history.now in
    let bucket = c.args.cell.now.bucket in
    let node = fields c.args.node.value in
    let asked = c.in-Err.ensures.asked in
    let same : c.entry_for-entry.result ≡ entry_of node = search rules in
    record {
      asks = record {
        section = asked.0;
        within = is_section history bucket node.key c.requires.cell.here asked.0.now
            (rw (asked.1, c.replace-part.ensures.value) c.requires.cell.own.part);
        answers = asked.2;
      };
      extends = subst (λ (entry : Entry).
          Extends history c.args.me.now (entry_step entry false) answer.Invalid c.add_invalid.new.me) same
          c.add_invalid.ensures.extends;
    }
