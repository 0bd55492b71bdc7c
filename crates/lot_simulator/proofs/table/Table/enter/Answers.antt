use Rattle.std.proofs.Common.{◌≡◌, sym, ap}
use Rattle.std.proofs.lemmas.Result.{on_ok_weaker, on_err_weaker}
use Rattle.lot_base.specs.Node.{fields}
use Rattle.lot_simulator.proofs.RowLemmas.{put_with_node, put_back}
use Rattle.lot_simulator.proofs.table.Table.enter.Goals as goal

pub returns-clause-entered : goal.returns-clause-entered
returns-clause-entered g c =
    let take = c.take-bucket.ensures in
    let key : (fields c.args.node.value).key ≡ c.deref.result.now.key =
    ap (λ node. node.key) (sym c.deref.ensures) in
    rw (c.put.ensures, take.left)
    (on_ok_weaker c.enter-entered.result
    (put_with_node c.args.self.now.cells c.deref.result.now.key c.take-bucket.result _
    c.enter-entered.new.self (fields c.args.node.value) take.taken take.place key) c.enter-entered.ensures.entered)

pub returns-clause-refused : goal.returns-clause-refused
returns-clause-refused g c =
    let take = c.take-bucket.ensures in
    rw (c.put.ensures, take.left)
    (on_err_weaker c.enter-entered.result
    (put_back c.args.self.now.cells c.deref.result.now.key c.take-bucket.result _ c.enter-entered.new.self
    take.taken take.place) c.enter-entered.ensures.refused)
