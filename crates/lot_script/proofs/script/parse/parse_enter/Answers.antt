use Rattle.std.proofs.Common.{◌∷◌, [], if◌then◌else◌}
use Rattle.std.specs.Prelude.{codes, decimal}
use Rattle.lot_script.specs.Private.Parsing.{texts_left}
use Rattle.lot_script.proofs.ParseLemmas.{only_enter}
use Rattle.lot_script.proofs.script.parse.parse_enter.Goals as goal

pub returns-in_err-key-clause-none : goal.returns-in_err-key-clause-none
returns-in_err-key-clause-none c =
    rw c.from_residual-in_err-key.ensures
    (only_enter (texts_left c.args.left) (λ thread key token valid timed h.
    c.in_err-key.ensures.none key
    ((if valid then codes "yes" else codes "no") ∷ decimal token ∷
    (if timed then codes "timed" else codes "untimed") ∷ [])
    h.numbers.1.0 (cc (h.texts, c.in_ok-thread.ensures.found.1))))

pub returns-in_err-park_token-clause-none : goal.returns-in_err-park_token-clause-none
returns-in_err-park_token-clause-none c =
    rw c.from_residual-in_err-park_token.ensures
    (only_enter (texts_left c.args.left) (λ thread key token valid timed h.
    c.in_err-park_token.ensures.none token ((if timed then codes "timed" else codes "untimed") ∷ [])
    h.numbers.1.1.1.0
    (cc (h.texts, c.in_ok-thread.ensures.found.1, c.in_ok-key.ensures.found.1, c.in_ok-valid.ensures.found))))

pub returns-in_err-timed-clause-none : goal.returns-in_err-timed-clause-none
returns-in_err-timed-clause-none c =
    rw c.from_residual-in_err-timed.ensures
    (only_enter (texts_left c.args.left) (λ thread key token valid timed h.
    c.in_err-timed.ensures.none timed []
    (cc (
      h.texts,
      c.in_ok-thread.ensures.found.1,
      c.in_ok-key.ensures.found.1,
      c.in_ok-valid.ensures.found,
      c.in_ok-park_token.ensures.found.1,
    ))))
