use Rattle.std.proofs.Common.{◌∷◌, [], refl}
use Rattle.std.specs.Prelude.{decimal}
use Rattle.lot_script.specs.Command.{requeue_text}
use Rattle.lot_script.specs.Private.Parsing.{texts_left}
use Rattle.lot_script.proofs.ParseLemmas.{only_requeue}
use Rattle.lot_script.proofs.script.parse.parse_requeue.Goals as goal

pub returns-in_err-to-clause-none : goal.returns-in_err-to-clause-none
returns-in_err-to-clause-none c =
    rw c.from_residual-in_err-to.ensures
    (only_requeue (texts_left c.args.left) (λ from to token which h.
    c.in_err-to.ensures.none to (requeue_text which ∷ decimal token ∷ []) h.numbers.1.0
    (cc (h.texts, c.in_ok-from.ensures.found.1))))

pub returns-clause-found : goal.returns-clause-found
returns-clause-found c =
    let from = c.in_ok-from.ensures.found in
    let to = c.in_ok-to.ensures.found in
    let token = c.in_ok-last_number.ensures.found in
    record {
      keyword = refl;
      words = record {
        numbers = (from.0, (to.0, (tt, (token.numbers.0, tt))));
        texts = cc (from.1, to.1, c.in_ok-word.ensures, c.in_ok-op.ensures.found, token.texts);
      };
    }
