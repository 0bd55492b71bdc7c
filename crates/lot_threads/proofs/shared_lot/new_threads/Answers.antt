use Rattle.std.proofs.Common.{◌≡◌, ◌+◌, arith, length, length-append, ap, ◌∙◌}
use Rattle.lot_history.specs.Witness.{id_of}
use Rattle.lot_threads.specs.Cells.{home_of}
use Rattle.lot_threads.proofs.RowLemmas.{EachAt-push}
use Rattle.lot_threads.proofs.shared_lot.new_threads.Goals as goal

pub loop-number-preserved : goal.loop-number-preserved
loop-number-preserved g c =
    let so_far = c.loop-number.invariant in
    let threads = c.loop-number.threads.items in
    let number = c.loop-number.number in
    let pushed = c.in_ok-push.ensures.items in
    let made = c.in_ok-new.ensures in
    let same : number ≡ 0 + length threads = omega (arith, so_far.count) in
    record {
      home = so_far.home;
      count = omega (arith, simp length-append at (ap length pushed), so_far.count);
      threads = rw pushed (EachAt-push (λ n thread. (g.P.ParkerT.owner thread.parker ≡ n)
          × (home_of (g.P.ParkerT.home thread.parker) ≡ id_of c.args.history.now)) 0 threads _
          (made.owner ∙ same, ap home_of made.home ∙ so_far.home.table) so_far.threads);
    }
