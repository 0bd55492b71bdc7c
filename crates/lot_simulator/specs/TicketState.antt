-- A ticket as contracts see it, and what an answer adds to its totals.
use Rattle.std.specs.Prelude.{ℕ, ◌+◌, Result, Ok, Err}
use Rattle.lot_machine.specs.declared.step.Answer.{Answer}
use Rattle.lot_machine.specs.declared.step.Answer.TheVariants as answer
use Rattle.lot_machine.specs.Totals.{unparked_by, returned_by}
use Rattle.lot_simulator.specs.declared.record.RecordError.{RecordError}
use Rattle.lot_simulator.specs.declared.record.RecordError.TheVariants as refused

-- how many of its steps were journalled, how many of them told a thread that it was unparked, and how many threads its
-- unparks unparked
pub record TicketState : Type 0 where
  pub count : ℕ
  pub woken : ℕ
  pub unparked : ℕ

abbrev pub new_ticket : TicketState
new_ticket = record { count = 0; woken = 0; unparked = 0 }

-- how many entries a step has in the journal whose caller was told this
abbrev pub count_of : Result Answer RecordError → ℕ
count_of (Ok answer.Misfit) = 0
count_of (Ok _) = 1
count_of (Err refused.NoMemory) = 1
count_of (Err refused.JournalFull) = 0

abbrev pub woken_of : Result Answer RecordError → ℕ
woken_of (Ok given) = returned_by given
woken_of (Err _) = 0

abbrev pub unparked_of : Result Answer RecordError → ℕ
unparked_of (Ok given) = unparked_by given
unparked_of (Err _) = 0

abbrev pub after_answer : TicketState → Result Answer RecordError → TicketState
after_answer ticket result = record {
  count = ticket.count + count_of result;
  woken = ticket.woken + woken_of result;
  unparked = ticket.unparked + unparked_of result;
}
