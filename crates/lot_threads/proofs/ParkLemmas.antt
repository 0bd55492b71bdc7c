-- How a park ends, by how its wait does, and what is known of it by whoever lent its closures nothing.
use denote.Ref.{Bor}
use Rattle.std.proofs.Common.{ℕ, Bool, true, subst}
use Rattle.std.specs.Fn.{Once}
use Rattle.lot_base.specs.declared.token.ParkResult.{ParkResult}
use Rattle.lot_base.specs.declared.token.ParkResult.TheVariants as result
use Rattle.lot_base.specs.declared.token.ParkToken.{ParkToken}
use Rattle.lot_machine.specs.declared.step.Answer.TheVariants.{Entered}
use Rattle.lot_history.specs.declared.history.Witness.{Witness}
use Rattle.lot_history.specs.Witness.{Extends, IsStill}
use Rattle.lot_threads.specs.Members.{IsParked, MemberState, park_step}
use Rattle.lot_threads.specs.Within.{EndsWithin, Enters, IsParkedWithin, Parks, entry_for}
use Rattle.lot_threads.specs.declared.critical_section.CriticalSection.{CriticalSection}

module _ {V B T : Type 0} (v : Once V (Bor CriticalSection × Unit {0}) Bool) (b : Once B (Bor Witness × Unit {0}) (Unit {0}))
    (t : Once T (Bor CriticalSection × (ℕ × (Bool × Unit {0}))) (Unit {0})) (validate : V) (before_sleep : B) (timed_out : T)
    (old : MemberState) (key : ℕ) (park_token : ParkToken) (timed : Bool) where
  module _ (entered : Bor Witness) (still : IsStill old.history old.witness entered.now)
      (enters : Enters v validate old.history (entry_for old key park_token timed) old.witness entered.now)
      (slept : b.post before_sleep (entered, tt) tt) where
    parks : (ended : ParkResult) (new : MemberState)
        → EndsWithin t timed_out old.history old.number timed ended entered.now new.witness
        → Parks v b t validate before_sleep timed_out old key park_token timed ended new
    parks ended new ends =
        record { entered = entered; still = still; enters = enters; slept = slept; ends = ends }

    pub ends_within : (ended : ParkResult) (new : MemberState)
        → EndsWithin t timed_out old.history old.number timed ended entered.now new.witness
        → IsParkedWithin v b t validate before_sleep timed_out old key park_token timed ended new
    ends_within result.Invalid new ends = absurd ends
    ends_within (result.Unparked token) new ends = parks (result.Unparked token) new ends
    ends_within result.TimedOut new ends = parks result.TimedOut new ends

  -- what the closures answered, and no word of when they were called
  module _ (asked : Bool → Type 0) (called : Type 0) (told : ℕ → Bool → Type 0)
      (asks : (section : Bor CriticalSection) (valid : Bool) → v.post validate (section, tt) valid → asked valid)
      (calls : (witness : Bor Witness) → b.post before_sleep (witness, tt) tt → called)
      (tells : (section : Bor CriticalSection) (left : ℕ) (last : Bool)
      → t.post timed_out (section, (left, (last, tt))) tt → told left last) where
    pub parked_alone : (ended : ParkResult) (new : MemberState)
        → IsParkedWithin v b t validate before_sleep timed_out old key park_token timed ended new
        → IsParked asked called told old key park_token timed ended new
    parked_alone result.Invalid new refused =
        (asks refused.asks.section _ refused.asks.answers, refused.extends)
    parked_alone (result.Unparked token) new parks = (
      asks parks.enters.asks.section true parks.enters.asks.answers,
      calls parks.entered parks.slept,
      record { entered = parks.entered.now; still = parks.still; enters = parks.enters.extends; returns = parks.ends },
    )
    parked_alone result.TimedOut new parks =
        let left = parks.ends.1.2 in (
          parks.ends.0,
          asks parks.enters.asks.section true parks.enters.asks.answers,
          calls parks.entered parks.slept,
          (
            parks.ends.1.0,
            parks.ends.1.1,
            tells left.section parks.ends.1.0 parks.ends.1.1 left.told,
            record {
              entered = parks.entered.now;
              still = parks.still;
              enters = subst (λ (each : Bool). Extends old.history old.witness (park_step old key park_token each true) Entered
                  parks.entered.now) parks.ends.0 parks.enters.extends;
              leaves = left.leaves;
            },
          ),
        )
