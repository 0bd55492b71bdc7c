use Rattle.std.proofs.Common.{◌≡◌, subst}
use Rattle.std.specs.Prelude.{IfSome}
use Rattle.std.specs.Io.Buffered.{reader_remaining}
use Rattle.lot_script.specs.Lines.{lines_of}
use Rattle.lot_script.specs.Script.{IsScriptEnd}
use Rattle.lot_script.proofs.BufferedLemmas.{written-end, unread-end, buffered-remaining}
use Rattle.lot_script.proofs.script.buffered.buffered_script.Goals as goal

pub returns-in_default : goal.returns-in_default
returns-in_default g c = unread-end _ c.no_memory.result c.no_memory.ensures

pub returns-in_default-new : goal.returns-in_default-new
returns-in_default-new g c = unread-end _ c.no_memory-in_default-new.result c.no_memory-in_default-new.ensures

pub returns : goal.returns
returns g c =
    let same : reader_remaining g.R.Read.remaining c.in-Ok.input ≡ g.R.Read.remaining c.args.input
    = subst (λ inner. reader_remaining g.R.Read.remaining c.in-Ok.input ≡ g.R.Read.remaining inner)
    c.in-Ok.ensures.inner (buffered-remaining _ _ (g.R.Read.remaining c.in-Ok.input.inner) c.in-Ok.ensures.capacity
    c.in-Ok.ensures.empty) in
    subst (λ start. IfSome start (λ bytes. IsScriptEnd (lines_of bytes) c.at_first_lost.result)) same
    (written-end _ _ _ c.answer_lines-ended.result c.at_first_lost.result c.answer_lines-ended.ensures.ended
    c.at_first_lost.ensures.same)
