use Rattle.examples.proofs.recording.record_two.Given as goal

abbrev pub ghosts-record_by-C-Ledger : goal.ghosts-record_by-C-Ledger
ghosts-record_by-C-Ledger g a = record { name = a.blanks.0.name; parts = a.blanks.0.parts }

abbrev pub ghosts-record_by-W-Ledger : goal.ghosts-record_by-W-Ledger
ghosts-record_by-W-Ledger g a = record { name = a.blanks.1.name; parts = a.blanks.1.parts }

abbrev pub ghosts-record_by-U-Ledger : goal.ghosts-record_by-U-Ledger
ghosts-record_by-U-Ledger g a = record { name = a.blanks.2.name; parts = a.blanks.2.parts }
