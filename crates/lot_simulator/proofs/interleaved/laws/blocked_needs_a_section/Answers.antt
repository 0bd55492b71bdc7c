use Rattle.lot_simulator.proofs.BlockedLemmas.{blocked-by_section, blocked-none}
use Rattle.lot_simulator.proofs.interleaved.laws.blocked_needs_a_section.Goals as goal

pub returns : goal.returns
returns c = record { section = blocked-by_section; none = blocked-none }
