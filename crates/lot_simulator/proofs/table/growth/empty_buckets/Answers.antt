use Rattle.std.proofs.Common.{◌∙◌, ap, sym, arith, length-append, ◌∷◌, []}
use Rattle.lot_simulator.proofs.TableLemmas.{AreEmpty-push}
use Rattle.lot_simulator.proofs.table.growth.empty_buckets.Goals as goal

pub loop-place-preserved : goal.loop-place-preserved
loop-place-preserved c =
    rw c.in_ok-push.ensures.items
    (record {
      count = omega (arith, c.loop-place.invariant.count, length-append c.loop-place.row.items (c.new.result ∷ []));
      empty = AreEmpty-push c.args.size c.loop-place.row.items c.new.result
          (c.new.ensures ∙ ap (λ place. record { place = place; size = c.args.size; nodes = [] })
          (sym c.loop-place.invariant.count)) c.loop-place.invariant.empty;
    })
