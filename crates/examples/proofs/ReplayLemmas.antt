-- What is left of a journal, and its next entry.
use Rattle.std.proofs.Common.{◌≡◌, ℕ, ◌+◌, ◌<◌, ◌∷◌, List, length, sym, ap, ◌∙◌, subst}
use Rattle.std.proofs.Common.{drop, slice_index_or}
use Rattle.std.proofs.lemmas.List.{drop_more}
use Rattle.lot_machine.specs.Machine.{Machine}
use Rattle.lot_machine.specs.Steps.{IsStep}
use Rattle.lot_machine.specs.Run.{IsRun}
use Rattle.lot_simulator.specs.Journal.{Entry, journal_steps, journal_answers}

-- a run of what is left begins with the next entry
pub next_entry : (m last : Machine) (journal : List Entry) (i : ℕ) (entry : Entry) → i < length journal
    → entry ≡ slice_index_or journal i entry
    → IsRun IsStep m (journal_steps (drop i journal)) (journal_answers (drop i journal)) last
    → (next : Machine) × IsStep m entry.0 entry.1 next
    × IsRun IsStep next (journal_steps (drop (i + 1) journal)) (journal_answers (drop (i + 1) journal)) last
next_entry m last journal i entry low is ran =
    subst (λ rest. IsRun IsStep m (journal_steps rest) (journal_answers rest) last)
    (drop_more journal i entry low ∙ ap (λ first. first ∷ drop (i + 1) journal) (sym is)) ran
