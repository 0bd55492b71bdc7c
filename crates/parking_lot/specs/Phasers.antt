-- What the contracts of a titled phaser say.
use Rattle.std.specs.Prelude.{◌≡◌, ℕ, [], Some}
use Rattle.lot_history.specs.declared.history.History.{History}
use Rattle.lot_threads.specs.Titled.{EnteredState, IsEnteredIn}
use Rattle.lock_words.specs.PhaseRule.{being}
use Rattle.lock_words.specs.Phases.{IsFollowing, IsHandOf, IsLeading, IsResting, MayWaitFor, seat_of, waits_of}
use Rattle.lock_words.specs.declared.phases.Hand.{Hand}
use Rattle.lock_words.specs.declared.phases.Phases.{Phases}
use Rattle.parking_lot.specs.Queues.{MayBe}
use Rattle.parking_lot.specs.declared.queue_title.QueueKey.{QueueKey}
use Rattle.parking_lot.specs.declared.queue_title.QueueTitle.{QueueTitle}

-- a thread that neither waits nor leads the phase
pub record Rests (phases : Phases QueueTitle QueueKey) (hand : Hand QueueTitle QueueKey) : Type 0 where
  pub own : IsHandOf phases hand
  pub rests : IsResting hand

-- one that leads the phase
pub record Leads (phases : Phases QueueTitle QueueKey) (hand : Hand QueueTitle QueueKey) : Type 0 where
  pub own : IsHandOf phases hand
  pub leads : IsLeading hand

-- one that may wait as this number for the end of this phase
pub record MayWait (phases : Phases QueueTitle QueueKey) (number phase : ℕ) (hand : Hand QueueTitle QueueKey) : Type 0 where
  pub own : IsHandOf phases hand
  pub follows : IsFollowing hand
  pub for_phase : MayWaitFor phase hand
  pub as_number : MayBe number (waits_of hand)

-- one that entered the list of the key as this thread
pub record IsInQueue (history : History) (key : ℕ) (phases : Phases QueueTitle QueueKey) (entered : EnteredState)
    (phase : ℕ) (hand : Hand QueueTitle QueueKey) : Type 0 where
  pub own : IsEnteredIn history entered
  pub on_key : entered.key ≡ key
  pub of_phases : IsHandOf phases hand
  pub waits : seat_of hand ≡ (being (Some entered.number) phase, [])
