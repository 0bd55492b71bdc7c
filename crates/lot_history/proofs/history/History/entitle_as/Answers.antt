use Rattle.std.proofs.Common.{List, sym, subst}
use Rattle.lot_history.specs.declared.view.Piece.{Piece}
use Rattle.lot_history.specs.Moves.{Regroups}
use Rattle.lot_history.specs.Views.{all_pieces}
use Rattle.lot_history.proofs.DealLemmas.{entitles}
use Rattle.lot_history.proofs.history.History.entitle_as.Goals as goal

pub regroup-requires : goal.regroup-requires
regroup-requires g c =
    let threads = c.args.self.now.table.shared.key.max_threads in (
      c.requires.0,
      subst (λ (ps : List Piece). Regroups threads ps g.after) (sym c.requires.1.0)
          (subst (Regroups threads all_pieces) (sym c.requires.1.1) (entitles threads c.args.limit)),
    )
