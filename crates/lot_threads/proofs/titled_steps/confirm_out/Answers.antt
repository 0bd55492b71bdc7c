use Rattle.std.specs.Prelude.{Contains}
use Rattle.std.proofs.Common.{◌≡◌, List, [], ◌∷◌, ◌++◌, refl, rules, sym, ap, ◌∙◌, subst}
use Rattle.std.proofs.lemmas.List.Elements.{Contains-append_right}
use Rattle.lot_machine.specs.declared.status.Status.TheVariants as status
use Rattle.lot_history.specs.Pieces.{AllSo}
use Rattle.lot_history.specs.Titles.{deal}
use Rattle.lot_history.specs.Views.{first_of, rest_of}
use Rattle.lot_history.specs.Witness.{deals_in, deals_of, max_threads_of, pieces_in, pieces_of, seen_by}
use Rattle.lot_history.specs.declared.deal.Deal.{Deal}
use Rattle.lot_history.specs.declared.view.Piece.{Piece}
use Rattle.lot_history.specs.declared.view.Piece.TheVariants as piece
use Rattle.lot_threads.specs.Titled.{told_by}
use Rattle.lot_threads.proofs.OutLemmas.{runs_outside}
use Rattle.lot_threads.proofs.ToldLemmas.{retells}
use Rattle.lot_threads.proofs.titled_steps.confirm_out.Goals as goal
use Rattle.lot_threads.proofs.titled_steps.confirm_out.Goals.{After-look}

-- what the witness has as it looks
both : (c : After-look) → pieces_of c.look.new.me
    ≡ piece.Thread c.args.number status.Running ∷ piece.Title c.args.key (told_by c.args.title) ∷ []
both c =
    let first : pieces_of c.take.new.me ≡ piece.Thread c.args.number status.Running ∷ [] =
    rw (c.take.ensures.pieces, c.requires.idle.no_pieces) c.requires.thread.pieces in
    c.look.ensures.looks.pieces ∙ (c.take-2.ensures.pieces
    ∙ (ap (λ (ps : List Piece). ps ++ pieces_in c.args.title.part) first
    ∙ ap (λ (ps : List Piece). piece.Thread c.args.number status.Running ∷ ps) c.requires.title.has.pieces))

pub returns-clause-thread : goal.returns-clause-thread
returns-clause-thread c = record {
  of_history = c.give-thread.ensures.part;
  pieces = c.give-thread.ensures.first ∙ ap first_of (both (goal.at.returns-clause-thread c).After-look);
}

pub returns-clause-idle : goal.returns-clause-idle
returns-clause-idle c = record {
  still = search rules;
  no_pieces = c.give.ensures.rest ∙ ap rest_of (c.give-thread.ensures.rest
      ∙ ap rest_of (both (goal.at.returns-clause-idle c).After-look));
}

-- the title that was taken apart is the one that was given
pub returns-clause-title : goal.returns-clause-title
returns-clause-title c =
    retells c.args.history.now c.args.key c.args.title _ _ (told_by c.args.title) (record {
      of_history = c.give.ensures.part;
      pieces = c.give.ensures.first ∙ ap first_of (c.give-thread.ensures.rest
          ∙ ap rest_of (both (goal.at.returns-clause-title c).After-look));
    }) refl
    (λ home dealt. subst (λ (deals : List Deal). Contains deals (deal c.args.key home))
    (sym (c.give.ensures.dealt ∙ (c.give-thread.ensures.deals ∙ (c.look.ensures.deals ∙ c.take-2.ensures.deals))))
    (Contains-append_right (deals_of c.take.new.me) (deals_in c.args.title.part) (deal c.args.key home) dealt))

pub returns-clause-out : goal.returns-clause-out
returns-clause-out c =
    let looks = c.look.ensures.looks in
    let so = subst (λ (ps : List Piece). AllSo looks.machine ps) (both (goal.at.returns-clause-out c).After-look) looks.so in
    runs_outside (max_threads_of c.args.history.now) (seen_by c.look.new.me) looks.machine looks.history c.args.number
    c.args.key (told_by c.args.title) so.0 so.1.0
