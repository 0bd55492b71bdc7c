use Rattle.std.proofs.Common.{◌≡◌, ◌+◌, ◌<◌, length, arith, ap, ◌∙◌}
use Rattle.lot_history.specs.declared.history.History.{History}
use Rattle.lot_history.specs.Witness.{id_of, max_threads_of}
use Rattle.lot_threads.specs.Cells.{home_of}
use Rattle.lot_threads.proofs.RowLemmas.{item_at}
use Rattle.lot_threads.proofs.shared_lot.SharedLot.parker.Goals as goal

pub returns-clause-owner : goal.returns-clause-owner
returns-clause-owner g c =
    let history = c.self.inside.history in
    let threads = c.self.inside.threads.items in
    let number = c.args.number in
    let most = ap (λ (found : History). max_threads_of found) c.self.view_is in
    let below : number < length threads = omega (arith, most, c.requires, c.self.invariant.1) in
    let own = item_at (λ n thread. (g.P.ParkerT.owner thread.parker ≡ n)
    × (home_of (g.P.ParkerT.home thread.parker) ≡ id_of history))
    0 threads number c.index.result.now below c.index.ensures c.self.invariant.2 in
    let same : 0 + number ≡ number = omega arith in
    own.0 ∙ same

pub returns-clause-home : goal.returns-clause-home
returns-clause-home g c =
    let history = c.self.inside.history in
    let threads = c.self.inside.threads.items in
    let number = c.args.number in
    let most = ap (λ (found : History). max_threads_of found) c.self.view_is in
    let below : number < length threads = omega (arith, most, c.requires, c.self.invariant.1) in
    let own = item_at (λ n thread. (g.P.ParkerT.owner thread.parker ≡ n)
    × (home_of (g.P.ParkerT.home thread.parker) ≡ id_of history))
    0 threads number c.index.result.now below c.index.ensures c.self.invariant.2 in
    own.1 ∙ ap (λ (found : History). id_of found) c.self.view_is
