use Rattle.std.proofs.Common.{◌∷◌, [], List, false}
use Rattle.lot_machine.specs.declared.status.Status.TheVariants as status
use Rattle.lot_machine.specs.declared.step.Answer.TheVariants as answer
use Rattle.lot_machine.specs.declared.step.Step.TheVariants as step
use Rattle.lot_history.specs.declared.view.Piece.{Piece}
use Rattle.lot_history.specs.declared.view.Piece.TheVariants.{Numbers, Records, Thread, Timing}
use Rattle.lot_history.specs.Views.{rest_of}
use Rattle.lot_history.proofs.NumberLemmas.{registers}
use Rattle.lot_history.proofs.ThreadLemmas.{said_moves}
use Rattle.lot_history.proofs.history.History.register_as.Goals as goal

pub add-requires : goal.add-requires
add-requires g c = λ lifetimes within.
    let rest : List Piece = rest_of c.args.me.now.seat.me.0.pieces in
    let threads = c.args.self.now.table.shared.key.max_threads in
    let own = c.requires.1.1.1.0 in (
      within,
      (
        c.requires.1.0,
        said_moves threads step.Register (answer.Registered c.args.number) g.E.Told.said
            (Numbers own.uses ∷ rest)
            (Numbers g.after.0 ∷ Thread c.args.number status.Running ∷ Records c.args.number []
            ∷ Timing c.args.number false ∷ rest)
            c.args.me.now.seat.me.0.pieces g.after.1 own.pieces c.requires.1.1.1.1.0 c.requires.1.1.1.1.1
            (registers threads own.uses rest c.args.number g.after.0 c.requires.1.1.0 own.more own.least),
      ),
    )
