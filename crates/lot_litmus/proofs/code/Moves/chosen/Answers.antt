use Rattle.std.proofs.Common.{◌∙◌, sym, ap}
use Rattle.lot_base.specs.Waiting.{split_by}
use Rattle.lot_litmus.specs.Steps.{requeue_of}
use Rattle.lot_litmus.proofs.PartLemmas.{parted-none, parted-first, parted-first_moved, parted-rest_moved}
use Rattle.lot_litmus.proofs.PartLemmas.{parted-all_moved}
use Rattle.lot_litmus.proofs.code.Moves.chosen.Goals as goal

pub returns-in-Nobody : goal.returns-in-Nobody
returns-in-Nobody c = λ waiters short. parted-none waiters ∙ sym (ap (λ moves. split_by (requeue_of moves) waiters) c.in-Nobody.is)

pub returns-in-OneUnparkedRestMoved : goal.returns-in-OneUnparkedRestMoved
returns-in-OneUnparkedRestMoved c = λ waiters short. parted-rest_moved waiters short
    ∙ sym (ap (λ moves. split_by (requeue_of moves) waiters) c.in-OneUnparkedRestMoved.is)

pub returns-in-AllMoved : goal.returns-in-AllMoved
returns-in-AllMoved c = λ waiters short. parted-all_moved waiters short ∙ sym (ap (λ moves. split_by (requeue_of moves) waiters) c.in-AllMoved.is)

pub returns-in-OneUnparked : goal.returns-in-OneUnparked
returns-in-OneUnparked c = λ waiters short. parted-first waiters ∙ sym (ap (λ moves. split_by (requeue_of moves) waiters) c.in-OneUnparked.is)

pub returns-in-OneMoved : goal.returns-in-OneMoved
returns-in-OneMoved c = λ waiters short. parted-first_moved waiters ∙ sym (ap (λ moves. split_by (requeue_of moves) waiters) c.in-OneMoved.is)
