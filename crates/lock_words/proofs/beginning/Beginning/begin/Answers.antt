use Rattle.std.proofs.Common.{rules, []}
use Rattle.std.specs.Prelude.{false}
use Rattle.lock_words.proofs.OnceLemmas.{arrives, begins}
use Rattle.lock_words.proofs.beginning.Beginning.begin.Goals as goal

pub load_new_seat-seat-requires : goal.load_new_seat-seat-requires
load_new_seat-seat-requires c = (search rules, arrives c.args.self.now.table.shared.table_id.slots 0 (false, []))

pub compare_exchange-word-requires : goal.compare_exchange-word-requires
compare_exchange-word-requires c =
    let seat = c.load_new_seat-seat.result.1 in (
      search rules,
      search rules,
      begins c.args.self.now.table.shared.table_id.slots seat.id seat.me,
    )
