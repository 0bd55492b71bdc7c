use Rattle.std.proofs.Common.{ℕ, Bool}
use Rattle.std.specs.Option.{is_some}
use Rattle.lot_threads.specs.Members.{MemberState, member_of}
use Rattle.lot_threads.proofs.ParkLemmas.{parked_alone}
use Rattle.lot_threads.proofs.parking_lot.park.Goals as goal

pub returns-clause-parked : goal.returns-clause-parked
returns-clause-parked g c =
    let old : MemberState = member_of c.args.lot.now c.args.thread_data.now in
    let new : MemberState = member_of c.args.lot.now c.park_within.new.thread_data in
    let asked : Bool → Type 0 = λ valid. g.V.FnOnce.post c.args.validate tt valid in
    let called : Type 0 = g.B.FnOnce.post c.args.before_sleep tt tt in
    let told : ℕ → Bool → Type 0 = λ left last. g.T.FnOnce.post c.args.timed_out (left, (last, tt)) tt in
    parked_alone _ _ _ _ _ _ old c.args.key c.args.park_token (is_some c.args.timeout) asked called told
    (λ section valid post. post) (λ witness post. post) (λ section left last post. post) c.park_within.result new
    c.park_within.ensures.parked
