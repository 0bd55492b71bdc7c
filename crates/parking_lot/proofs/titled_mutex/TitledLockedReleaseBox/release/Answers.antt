use Rattle.parking_lot.proofs.GateLemmas.{held}
use Rattle.parking_lot.proofs.TitledMutexLemmas.{filled}
use Rattle.std.proofs.Common.{None}
use Rattle.parking_lot.proofs.titled_mutex.TitledLockedReleaseBox.release.Goals as goal

pub release-requires-clause-holds : goal.release-requires-clause-holds
release-requires-clause-holds g c =
    let mutex = c.args.self.mutex.now in
    filled mutex.gate.stock mutex.guarding c.put_value.new.hand c.args.self.hand c.args.held c.args.self.own.empty
    c.put_value.ensures.back

pub release-requires-else-release : goal.release-requires-else-release
release-requires-else-release g c =
    let mutex = c.args.self.mutex.now in
    record {
      of_stock = c.release.ensures.stock;
      permit = held mutex.gate.stock c.release.new.hand c.release.ensures.stock c.put_value.new.hand None
          (filled mutex.gate.stock mutex.guarding c.put_value.new.hand c.args.self.hand c.args.held c.args.self.own.empty
          c.put_value.ensures.back) (c.release.ensures.unchanged c.if-release.false);
    }
