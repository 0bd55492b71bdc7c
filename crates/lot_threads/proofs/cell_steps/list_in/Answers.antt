use Rattle.std.proofs.Common.{◌≡◌, Bool, IfOk, IsTrue, List, [], ◌∷◌, ◌++◌, OnErr, ap, rules, ℕ, ◌∙◌, subst}
use Rattle.lot_history.specs.Pieces.{AllSo}
use Rattle.lot_history.specs.Witness.{limit_of, pieces_in, pieces_of}
use Rattle.lot_history.specs.declared.view.Piece.{Piece}
use Rattle.lot_threads.specs.Cells.{lists_in}
use Rattle.lot_threads.proofs.ListLemmas.{any_at, numbers_at}
use Rattle.lot_threads.proofs.cell_steps.list_in.Goals as goal

-- the machine that was seen is as the bucket's part says
pub returns-clause-listed : goal.returns-clause-listed
returns-clause-listed c =
    let bucket = c.args.cell.now.bucket in
    let key = c.args.key in
    let given = c.list.result in
    let looks = c.look.ensures.looks in
    let m = looks.machine in
    let taken : pieces_of c.take.new.me ≡ lists_in (limit_of c.args.history.now) bucket ∷ [] =
    c.take.ensures.pieces ∙ (ap (λ (ps : List Piece). ps ++ pieces_in c.replace-part.result) c.requires.idle.no_pieces
    ∙ (ap (λ part. pieces_in part) c.replace-part.ensures.value ∙ c.requires.cell.own.part.pieces)) in
    let so : AllSo m (lists_in (limit_of c.args.history.now) bucket ∷ []) =
    subst (λ (ps : List Piece). AllSo m ps) (looks.pieces ∙ taken) looks.so in
    record {
      looks = record {
        machine = m;
        seen = search rules;
        mine = c.give.ensures.nothing_added ∙ (looks.mine ∙ c.take.ensures.nothing_added);
        all_mine = search rules;
        history = search rules;
        so = search rules;
        pieces = search rules;
      };
      numbers = subst (λ (numbers : List ℕ). IfOk given (λ list. list.items ≡ numbers))
          (numbers_at m (limit_of c.args.history.now) bucket.size bucket.place key bucket.nodes c.requires.cell.here so) c.list.ensures.numbers;
      refused = subst (λ (any : Bool). OnErr given (IsTrue any))
          (any_at m (limit_of c.args.history.now) bucket.size bucket.place key bucket.nodes c.requires.cell.here so) c.list.ensures.refused;
    }
