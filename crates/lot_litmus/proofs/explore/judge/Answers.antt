use Rattle.std.proofs.Common.{◌≡◌, ℕ, ◌<◌, List, Bool, true, length, subst}
use Rattle.std.specs.Prelude.{slice_get, Some}
use Rattle.lot_litmus.proofs.SearchLemmas.{safe}
use Rattle.lot_litmus.proofs.explore.judge.Goals as goal

pub returns-in_default : goal.returns-in_default
returns-in_default c =
    safe c.args.test.now c.args.search.now c.requires.search c.requires.complete c.in_ok-marks.marks.items
    c.in_ok-marks.ensures.length (c.in_ok-marks.ensures.hopeful c.requires.search)
    (subst (λ (marks : List Bool). (i : ℕ) → i < length marks → slice_get marks i ≡ Some true) c.as_slice.ensures.value
    c.in_default.ensures.none)
