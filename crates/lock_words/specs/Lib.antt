-- The word of a `Once`: its rule, with the law, and what clauses say of it.
pub mod OnceRule
pub mod Onces
-- Then the table of a titled lock, in the order of reading: what a thread knows beside the key that it carries, as a
-- word lock's callers do (`WordKey` of lot_word_lock); the rule that holds between any two steps; what each step tells;
-- hands as contracts see them; and what follows from the rule.
pub mod StockView
pub mod StockRule
pub mod StockSteps
pub mod Stock
pub mod StockLaws
-- Then that of a word with phases, in the same order.
pub mod PhaseRule
pub mod PhaseSteps
pub mod Phases
pub mod PhaseLaws
