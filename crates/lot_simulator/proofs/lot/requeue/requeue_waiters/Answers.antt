use Rattle.std.proofs.Common.{rules, ◌∙◌, sym, ap, refl, Vec}
use Rattle.lot_simulator.specs.Private.Commit.{threads_with_key, threads_with_keys}
use Rattle.lot_simulator.proofs.RequeuedLemmas.{keys_set, all_kept}
use Rattle.lot_simulator.proofs.lot.requeue.requeue_waiters.Goals as goal

pub returns-clause-requeued : goal.returns-clause-requeued
returns-clause-requeued g c =
    let done = c.requeue.ensures.requeued in
    let moves = done.called.moves in
    let same = all_kept threads_with_key threads_with_keys (λ key threads. refl) (λ key number numbers threads. refl) _
    (λ moved. moved.0.now.items) (λ moved. (moved.1.now, moved.0.ghost_name))
    (λ now next number timed called. (search rules, search rules)) _ _ _ moves in
    let keys = keys_set threads_with_key threads_with_keys (λ key threads. refl) (λ key number numbers threads. refl) _
    (λ moved. moved.0.now.items) (λ moved. (moved.1.now, moved.0.ghost_name))
    (λ now next number timed called. (search rules, search rules)) _ _ _ moves in
    record {
      op = done.op;
      chosen = done.chosen;
      lists = done.lists;
      answer = done.called.results;
      threads = ap (λ (threads : Vec _ _). threads.items) (c.threads-1.given.1 (sym (ap (λ kept. kept.1) same))) ∙ keys;
      taken = (done.called.token, done.called.calls_back, done.called.takes);
    }
