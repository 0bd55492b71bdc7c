use Rattle.lot_threads.proofs.CommitLemmas.{IsOne}
use Rattle.lot_threads.proofs.section.Section.take_one.Given as goal

-- the unpark has the token that the callback answered in a section that has the bucket's part
abbrev pub ghosts-take_one_of : goal.ghosts-take_one_of
ghosts-take_one_of g a = record { said = IsOne g.C.FnOnce a.callback a.history.now a.cell.now.bucket a.key }
