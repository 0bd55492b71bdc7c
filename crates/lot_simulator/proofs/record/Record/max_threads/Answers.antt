use Rattle.std.proofs.Common.{◌∙◌, ap, length}
use Rattle.lot_simulator.specs.Lot.{machine}
use Rattle.lot_simulator.proofs.JournalRecordLemmas.{IsRecord-backing}
use Rattle.lot_simulator.proofs.record.Record.max_threads.Goals as goal

pub returns : goal.returns
returns c =
    let backing = IsRecord-backing (record {
      lot = c.self.inside.lot;
      journal = c.self.inside.journal.items;
      capacity = c.self.inside.capacity;
    }) c.self.invariant.0 in
    c.threads.ensures ∙ ap length c.self.invariant.1 ∙ backing.long
    ∙ ap (λ state. (machine state.lot).max_threads) c.self.view_is
