use Rattle.std.proofs.Common.{◌≡◌, List, ◌++◌, refl, ap, ◌∙◌, subst, rules}
use Rattle.lot_history.specs.Pieces.{AllSo}
use Rattle.lot_history.specs.Witness.{pieces_in, pieces_of}
use Rattle.lot_history.specs.declared.view.Piece.{Piece}
use Rattle.lot_threads.specs.Late.{late_pieces}
use Rattle.lot_threads.proofs.told.add_timeout.Goals as goal

pub returns-clause-leaves : goal.returns-clause-leaves
returns-clause-leaves c =
    let found = c.add_resolved.ensures.found in
    let pieces : pieces_of c.take-2.new.me ≡ pieces_in c.args.cell.now.part ++ pieces_in c.args.timing.now =
    rw (
      c.take-2.ensures.pieces,
      c.take.ensures.pieces,
      c.requires.idle.no_pieces,
      c.replace-part.ensures.value,
      c.replace-part-2.ensures.value,
    ) refl in
    record {
      leaves = record {
        late = c.add_late.new.me;
        still = search rules;
        passes = search rules;
        resolves = search rules;
      };
      finds = record {
        found = record {
          before = found.before;
          last = found.last;
          machine = found.machine;
          begins = search rules;
          seen = search rules;
          leads = search rules;
          so = search rules;
        };
        so = subst (λ (ps : List Piece). AllSo found.machine ps)
            (c.add_late.ensures.pieces ∙ ap (λ (ps : List Piece). late_pieces c.args.number ps) pieces) found.so;
      };
    }
