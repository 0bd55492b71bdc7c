use Rattle.std.proofs.Common.{rules, ◌≡◌, refl}
use Rattle.lot_base.proofs.FoldLemmas.{Folds-same}
use Rattle.lot_base.specs.Node.{fields}
use Rattle.lot_simulator.specs.Private.FineCaller.{taken_threads}
use Rattle.lot_simulator.proofs.HandedLemmas.{is_among}
use Rattle.lot_simulator.proofs.ToldLemmas.{is_among-next}
use Rattle.lot_simulator.proofs.interleaved.caller.Caller.has_taken.Goals as goal

pub returns-in-Some : goal.returns-in-Some
returns-in-Some c =
    let among = Folds-same _ (λ seen found. found ≡ is_among c.args.number (taken_threads seen)) _
    (λ seen found shown next f' at_seen call.
    (is_among-next c.args.number seen (fields shown.now) found next at_seen (search rules), search rules)) _ _ _ _ refl
    c.fold.ensures.1 in
    rw (← c.self.view_is, c.in-Some.is, ← c.section.view_is) among
