use Rattle.std.proofs.Common.{◌∷◌, List}
use Rattle.lot_machine.specs.declared.status.Status.TheVariants as status
use Rattle.lot_machine.specs.declared.step.Answer.TheVariants as answer
use Rattle.lot_machine.specs.declared.step.Step.TheVariants as step
use Rattle.lot_history.specs.declared.view.Piece.{Piece}
use Rattle.lot_history.specs.declared.view.Piece.TheVariants.{Thread}
use Rattle.lot_history.specs.Views.{rest_of}
use Rattle.lot_history.proofs.ThreadLemmas.{said_moves, returns}
use Rattle.lot_history.proofs.history.History.give_back_as.Goals as goal

pub add-requires : goal.add-requires
add-requires g c = λ lifetimes within.
    let rest : List Piece = rest_of c.args.me.now.seat.me.0.pieces in
    let threads = c.args.self.now.table.shared.key.max_threads in (
      within,
      (
        c.requires.1.0,
        said_moves threads (step.Return c.args.number) (answer.Unparked c.args.token) g.E.Told.said
            (Thread c.args.number (status.Taken c.args.token) ∷ rest) (Thread c.args.number status.Running ∷ rest)
            c.args.me.now.seat.me.0.pieces g.after c.requires.1.1.0 c.requires.1.1.1.0 c.requires.1.1.1.1
            (returns threads c.args.number c.args.token rest),
      ),
    )
