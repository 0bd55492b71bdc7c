use Rattle.simulator_tests.proofs.recording_lot.what_four_threads_did_replays.Given as goal

abbrev pub ghosts-call_from_four_threads-C-Ledger : goal.ghosts-call_from_four_threads-C-Ledger
ghosts-call_from_four_threads-C-Ledger g a = record { name = a.blanks.0.name; parts = a.blanks.0.parts }

abbrev pub ghosts-call_from_four_threads-W-Ledger : goal.ghosts-call_from_four_threads-W-Ledger
ghosts-call_from_four_threads-W-Ledger g a = record { name = a.blanks.1.name; parts = a.blanks.1.parts }

abbrev pub ghosts-call_from_four_threads-U-Ledger : goal.ghosts-call_from_four_threads-U-Ledger
ghosts-call_from_four_threads-U-Ledger g a = record { name = a.blanks.2.name; parts = a.blanks.2.parts }
