use denote.Ref.{Bor}
use Rattle.std.proofs.Common.{◌≡◌, refl, rules}
use Rattle.std.specs.Option.{is_some}
use Rattle.lot_base.specs.declared.token.ParkResult.{ParkResult}
use Rattle.lot_history.specs.declared.history.Witness.{Witness}
use Rattle.lot_threads.specs.Members.{MemberState, member_of}
use Rattle.lot_threads.specs.Within.{EndsWithin, Enters, entry_for}
use Rattle.lot_threads.proofs.ParkLemmas.{ends_within}
use Rattle.lot_threads.proofs.parking_lot.park_within.Goals as goal

pub returns-clause-parked : goal.returns-clause-parked
returns-clause-parked g c =
    let old : MemberState = member_of c.args.lot.now c.args.thread_data.now in
    let new : MemberState = record {
      history = c.args.lot.now;
      number = c.thread_data.inside.number;
      records = c.thread_data.inside.keys;
      witness = c.wait-result.new.me;
    } in
    let timed = is_some c.args.timeout in
    let ended : ParkResult = c.wait-result.result.0 in
    let slept : (entered : Bor Witness) × (entered.now ≡ c.enter-entered.new.me)
    × g.B.FnOnce.post c.args.before_sleep (entered, tt) tt = (_, refl, c.before_sleep.ensures) in
    let enters : Enters g.V.FnOnce c.args.validate old.history (entry_for old c.args.key c.args.park_token timed)
    old.witness c.enter-entered.new.me = search rules in
    let ends : EndsWithin g.T.FnOnce c.args.timed_out old.history old.number timed ended c.enter-entered.new.me new.witness =
    search rules in
    ends_within g.V.FnOnce g.B.FnOnce g.T.FnOnce c.args.validate c.args.before_sleep c.args.timed_out old c.args.key
    c.args.park_token timed slept.0 (search rules) enters slept.2 ended new ends
