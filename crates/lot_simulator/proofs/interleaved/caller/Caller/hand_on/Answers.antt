use Rattle.std.proofs.Common.{◌∙◌, ◌+◌, sym, ap, Some}
use Rattle.lot_simulator.specs.Private.FineCaller.{taken_threads}
use Rattle.lot_simulator.proofs.interleaved.caller.Caller.hand_on.Goals as goal

pub returns-clause-some : goal.returns-clause-some
returns-clause-some c =
    rw (← c.self.view_is) (
      c.in_ok-section.section.now,
      taken_threads c.pop_front.new.self,
      sym c.in_ok-section.ensures.value,
      ap (λ section. section.taken) (sym c.section.view_is) ∙ ap taken_threads c.in_ok-node.ensures.nodes,
      λ i. record {
        section = Some (record { held = (c.section.view_is i).held; taken = taken_threads c.pop_front.new.self });
        wakes = c.self.inside.wakes + 1;
      },
    )
