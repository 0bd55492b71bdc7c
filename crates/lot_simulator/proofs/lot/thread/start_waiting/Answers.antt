use Rattle.std.proofs.Common.{◌≡◌, ◌∙◌, ap, slice_set}
use Rattle.lot_machine.specs.declared.status.Status.TheVariants.{Waiting}
use Rattle.lot_simulator.specs.LotState.{ThreadState}
use Rattle.lot_simulator.specs.Lot.{thread_at}
use Rattle.lot_simulator.proofs.lot.thread.start_waiting.Goals as goal

is_thread : (c : goal.After-threads-2-1) → c.in_ok-thread.thread.now ≡ thread_at c.args.threads.now.items c.args.number
is_thread c = (rw c.in_ok-thread.ensures.ok_part at c.get_mut.ensures.item).3.1 _

pub returns-clause-node : goal.returns-clause-node
returns-clause-node c = c.in_ok-node.ensures.ok.0 ∙ ap (λ thread. thread.number) (is_thread c) ∙ c.requires

pub returns-clause-ok : goal.returns-clause-ok
returns-clause-ok c =
    ap (λ thread. slice_set c.args.threads.now.items c.args.number thread)
    (c.set_key.ensures
    ∙ ap (λ (thread : ThreadState). record thread { key = c.args.key })
    (c.in_ok-node.ensures.ok.1
    ∙ ap (λ (thread : ThreadState). record thread { status = Waiting c.args.timed }) (is_thread c)))
