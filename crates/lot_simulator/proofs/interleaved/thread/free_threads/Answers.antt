use Rattle.std.proofs.Common.{◌∙◌, ap, sym, arith, ◌∷◌, [], ◌++◌}
use Rattle.std.proofs.lemmas.List.FromFn.{map-range_with_len_more}
use Rattle.lot_simulator.specs.FineLot.{free_fine_thread}
use Rattle.lot_simulator.proofs.interleaved.thread.free_threads.Goals as goal

pub loop-number-preserved : goal.loop-number-preserved
loop-number-preserved c =
    c.in_ok-push.ensures.items
    ∙ ap (λ thread. c.loop-number.threads.items ++ thread ∷ []) c.new.ensures
    ∙ ap (λ threads. threads ++ free_fine_thread c.loop-number.number ∷ []) c.loop-number.invariant
    ∙ sym (map-range_with_len_more free_fine_thread 0 c.loop-number.number c.loop-number.number (omega arith))
