use Rattle.std.proofs.Common.{rules}
use Rattle.lot_machine.proofs.RecordLemmas.{times_recorded-removed, times_recorded-none}
use Rattle.lot_machine.proofs.records.Records.release.Goals as goal

pub returns-in-Some : goal.returns-in-Some
returns-in-Some c =
    rw (c.swap_remove.ensures.items, ← c.self.view_is)
    (times_recorded-removed c.self.inside.keys.items c.in-Some.index c.args.key c.swap_remove.result (search rules)
    (search rules))

pub returns-in_default : goal.returns-in_default
returns-in_default c =
    rw (← c.self.view_is) (times_recorded-none c.self.inside.keys.items c.args.key (search rules))
