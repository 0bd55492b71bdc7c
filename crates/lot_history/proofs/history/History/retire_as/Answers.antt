use Rattle.std.proofs.Common.{◌∷◌, [], List}
use Rattle.lot_machine.specs.declared.status.Status.TheVariants as status
use Rattle.lot_machine.specs.declared.step.Answer.TheVariants as answer
use Rattle.lot_machine.specs.declared.step.Step.TheVariants as step
use Rattle.lot_history.specs.declared.view.Piece.{Piece}
use Rattle.lot_history.specs.declared.view.Piece.TheVariants.{Numbers, Records, Thread, Timing}
use Rattle.lot_history.specs.Views.{rest_of}
use Rattle.lot_history.proofs.FrameLemmas.{framed}
use Rattle.lot_history.proofs.NumberLemmas.{retires}
use Rattle.lot_history.proofs.ThreadLemmas.{Is, said_moves}
use Rattle.lot_history.proofs.history.History.retire_as.Goals as goal

pub add-requires : goal.add-requires
add-requires g c = λ lifetimes within.
    let rest : List Piece = rest_of (rest_of (rest_of (rest_of c.args.me.now.seat.me.0.pieces))) in
    let threads = c.args.self.now.table.shared.key.max_threads in
    let own = c.requires.1.1.0 in (
      within,
      (
        c.requires.1.0,
        said_moves threads (step.Retire c.args.number) answer.Retired g.E.Told.said
            (Thread c.args.number status.Running ∷ Records c.args.number own.keys ∷ Timing c.args.number own.timed
            ∷ Numbers own.uses ∷ rest)
            (Numbers g.after.0 ∷ rest)
            c.args.me.now.seat.me.0.pieces g.after.1 own.pieces c.requires.1.1.1.0 c.requires.1.1.1.1
            (framed threads (Is (step.Retire c.args.number) answer.Retired)
            (Thread c.args.number status.Running ∷ Records c.args.number own.keys ∷ Timing c.args.number own.timed
            ∷ Numbers own.uses ∷ [])
            (Numbers g.after.0 ∷ []) rest (retires threads c.args.number own.keys own.timed own.uses g.after.0 own.more)),
      ),
    )
