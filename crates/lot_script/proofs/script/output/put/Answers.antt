use Rattle.std.proofs.Common.{◌++◌, take, drop, sym, ap, ◌∙◌, append_assoc, take-append-drop}
use Rattle.std.proofs.lemmas.List.{take_rest}
use Rattle.std.proofs.KnownBytes.{Appends-trans}
use Rattle.lot_script.proofs.script.output.put.Goals as goal

pub loop-rest-preserved : goal.loop-rest-preserved
loop-rest-preserved g c =
    let (front, cut, written) = c.loop-rest.invariant in
    let rest = c.loop-rest.rest.now in
    let taken = c.in-Ok.taken in
    let whole = cut ∙ ap (λ t. front ++ t) (sym (take-append-drop taken rest)) ∙ sym (append_assoc front
    (take taken rest) (drop taken rest)) in (
      front ++ take taken rest,
      whole ∙ ap (λ t. (front ++ take taken rest) ++ t) (sym (take_rest rest taken)),
      Appends-trans _ _ _ front (take taken rest) written c.in-Ok.ensures.bytes,
    )
