-- The result in an answer.
use Rattle.std.proofs.Common.{◌≡◌, false, ap}
use Rattle.lot_base.specs.declared.token.UnparkResult.{UnparkResult}
use Rattle.lot_machine.specs.declared.step.Answer.{Answer}
use Rattle.lot_machine.specs.declared.step.Answer.TheVariants.{Unpark}

result_in : Answer → UnparkResult
result_in (Unpark result) = result
result_in _ = record { unparked_threads = 0; requeued_threads = 0; have_more_threads = false }

pub same_result : (one other : UnparkResult) → Unpark one ≡ Unpark other → one ≡ other
unfolding result_in
same_result one other same = ap result_in same
