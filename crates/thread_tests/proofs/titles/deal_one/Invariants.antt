use Rattle.thread_tests.proofs.titles.deal_one.Given as goal

-- for the table of the history itself
abbrev pub ghost-deal : goal.ghost-deal
ghost-deal a = a.self.now.table.shared.table_id
