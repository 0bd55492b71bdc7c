-- What a visitor of a lot has heard of a thread that waits, and what a word lock carries of it from one to another.
use Rattle.std.specs.Prelude.{◌≡◌, ℕ, List, [], ◌∷◌, ◌++◌, map, IfSome}
use mathlib.Core.List.{IsPrefix}
use Rattle.lot_base.specs.declared.token.UnparkResult.{UnparkResult}
use Rattle.lot_base.specs.declared.token.UnparkToken.{UnparkToken}
use Rattle.lot_machine.specs.Machine.{Machine}
use Rattle.lot_machine.specs.Steps.{IsStep}
use Rattle.lot_machine.specs.declared.status.Status.TheVariants.{Taken}
use Rattle.lot_machine.specs.declared.step.Answer.TheVariants as answer
use Rattle.lot_machine.specs.declared.step.Op.TheVariants.{One}
use Rattle.lot_machine.specs.declared.step.Step.TheVariants.{Unpark}
use Rattle.lot_history.specs.History.{LeadsTo}
use Rattle.lot_history.specs.Tells.{event}
use Rattle.lot_history.specs.Witness.{IsWitnessOf, max_threads_of, number_of, seen_by}
use Rattle.lot_history.specs.declared.event.Event.{Event}
use Rattle.lot_history.specs.declared.history.History.{History}
use Rattle.lot_history.specs.declared.history.Witness.{Witness}
use Rattle.lot_word_lock.specs.WordLock.{key_of}
use Rattle.lot_word_lock.specs.declared.word_lock.WordLock.{WordLock}
use Rattle.examples.specs.declared.heard.Mailbox.{Mailbox}
use Rattle.examples.specs.declared.heard.Message.{Message}
use Rattle.examples.specs.declared.heard.Subject.{Subject}

-- of what the witness has seen, a beginning after which this thread alone stands in the list of the key
pub record HasHeard (history : History) (key thread : ℕ) (witness : Witness) : Type 0 where
  pub heard : List Event
  pub begins : IsPrefix heard (seen_by witness)
  pub machine : Machine
  pub leads : LeadsTo (max_threads_of history) heard machine
  pub alone : map (λ waiter. waiter.number) (machine.lists key) ≡ thread ∷ []

-- if the unpark came right after what was heard, then it took the thread, and handed it the token
abbrev pub TookAfter : (history : History) (key thread : ℕ) (old : Witness) → HasHeard history key thread old → UnparkToken
    → UnparkResult → Witness → Type 0
TookAfter history key thread old hears token result new =
    seen_by new ≡ hears.heard ++ event (number_of new) (Unpark (One key token)) (answer.Unpark result) ∷ []
    → (after : Machine) → IsStep hears.machine (Unpark (One key token)) (answer.Unpark result) after
    → (after.status thread ≡ Taken token) × LeadsTo (max_threads_of history) (seen_by new) after

-- a message is of the history that its subject is of, and its witness has heard that its thread stands on the subject's
-- key
pub record IsMessage (subject : Subject) (message : Message) (history : History) : Type 0 where
  pub of_history : IsWitnessOf history message.witness
  pub hears : HasHeard history subject.key message.thread message.witness

abbrev pub IsMessageAbout : Subject → Message → Type 0
IsMessageAbout subject message = (history : History) → IsWitnessOf history subject.witness
    → max_threads_of history ≡ subject.max_threads → IsMessage subject message history

abbrev pub FitsSubject : Subject → Mailbox → Type 0
FitsSubject subject mailbox = IfSome mailbox.message (λ message. IsMessageAbout subject message)

-- the mailbox is one for messages of this history and this key
pub record IsMailboxOf (history : History) (key : ℕ) (mailbox : WordLock Mailbox Subject) : Type 0 where
  pub of_history : IsWitnessOf history (key_of mailbox).witness
  pub for_threads : max_threads_of history ≡ (key_of mailbox).max_threads
  pub of_key : (key_of mailbox).key ≡ key
