use Rattle.std.proofs.Common.{◌∷◌, ◌++◌, [], List, true, ap, ◌∙◌}
use Rattle.lot_machine.specs.declared.status.Status.TheVariants as status
use Rattle.lot_machine.specs.declared.step.Answer.TheVariants as answer
use Rattle.lot_machine.specs.declared.step.Step.TheVariants as step
use Rattle.lot_history.specs.declared.view.Piece.{Piece}
use Rattle.lot_history.specs.declared.view.Piece.TheVariants.{Thread, Title, TitledLists, Timing}
use Rattle.lot_history.specs.Titles.{entering, title_of, with_entry}
use Rattle.lot_history.specs.Views.{rest_of}
use Rattle.lot_history.proofs.FrameLemmas.{framed}
use Rattle.lot_history.proofs.ThreadLemmas.{Is, said_moves}
use Rattle.lot_history.proofs.TitledLemmas.{enters_titled}
use Rattle.lot_history.proofs.history.History.enter_titled_as.Goals as goal

pub add-requires : goal.add-requires
add-requires g c = λ lifetimes within.
    let rest : List Piece = rest_of (rest_of (rest_of (rest_of c.args.me.now.seat.me.0.pieces))) in
    let threads = c.args.self.now.table.shared.key.max_threads in
    let own = c.requires.1.1.0 in
    let each = entering c.args.number c.args.key c.args.park_token c.args.timed in
    let after = own.standing ++ each ∷ [] in
    let enter = step.Enter c.args.number c.args.key true c.args.park_token c.args.timed in (
      within,
      (
        c.requires.1.0,
        said_moves threads enter answer.Entered g.E.Told.said
            (TitledLists own.limit own.size own.place own.standing ∷ Title c.args.key own.numbers
            ∷ Thread c.args.number status.Running ∷ Timing c.args.number own.timed ∷ rest)
            (TitledLists own.limit own.size own.place after ∷ title_of c.args.key after
            ∷ Timing c.args.number c.args.timed ∷ rest)
            c.args.me.now.seat.me.0.pieces g.after own.are
            (c.requires.1.1.1.0 ∙ ap (λ (ps : List Piece). with_entry each ps) own.are) c.requires.1.1.1.1
            (framed threads (Is enter answer.Entered)
            (TitledLists own.limit own.size own.place own.standing ∷ Title c.args.key own.numbers
            ∷ Thread c.args.number status.Running ∷ Timing c.args.number own.timed ∷ [])
            (TitledLists own.limit own.size own.place after ∷ title_of c.args.key after
            ∷ Timing c.args.number c.args.timed ∷ []) rest
            (enters_titled threads own.limit own.size own.place own.standing own.numbers c.args.number c.args.key
            c.args.park_token own.timed c.args.timed own.here)),
      ),
    )
