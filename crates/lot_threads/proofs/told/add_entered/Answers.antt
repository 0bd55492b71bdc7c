use Rattle.std.proofs.Common.{◌≡◌, List, [], ◌∷◌, ◌++◌, refl, rules, sym, subst}
use Rattle.lot_machine.specs.declared.status.Status.TheVariants.{Running}
use Rattle.lot_history.specs.Pieces.{AllSo}
use Rattle.lot_history.specs.Witness.{pieces_in, pieces_of}
use Rattle.lot_history.specs.declared.view.Piece.{Piece}
use Rattle.lot_history.specs.declared.view.Piece.TheVariants.{Thread}
use Rattle.lot_threads.proofs.told.add_entered.Goals as goal

pub returns-clause-found : goal.returns-clause-found
returns-clause-found c =
    let found = c.add_with.ensures.found in
    let m = found.machine in
    let pieces : pieces_of c.take-3.new.me
    ≡ (pieces_in c.args.cell.now.part ++ Thread c.args.entry.number Running ∷ []) ++ pieces_in c.args.timing.now =
    rw (
      c.take-3.ensures.pieces,
      c.take-2.ensures.pieces,
      c.take.ensures.pieces,
      c.requires.none,
      c.replace-part.ensures.value,
      c.requires.thread.pieces,
      c.replace-part-2.ensures.value,
    ) refl in
    record {
      found = record {
        before = found.before;
        last = found.last;
        machine = found.machine;
        begins = search rules;
        seen = search rules;
        leads = found.leads;
        so = subst (λ (ps : List Piece). AllSo m ps) (sym c.requires.none) tt;
      };
      so = subst (λ (ps : List Piece). AllSo m ps) pieces found.so;
    }
