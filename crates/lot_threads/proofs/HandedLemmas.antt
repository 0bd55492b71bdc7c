-- The tokens of parks come from unparks.
use Rattle.std.proofs.Common.{List, ◌++◌, refl, subst}
use Rattle.std.proofs.lemmas.Bool.{eq-eqb}
use Rattle.lot_machine.specs.declared.step.Answer.TheVariants as answer
use Rattle.lot_machine.specs.declared.step.Step.TheVariants as step
use Rattle.lot_history.specs.declared.event.Event.{Event}
use Rattle.lot_history.specs.History.{IsHistory}
use Rattle.lot_history.specs.Tells.{event}
use Rattle.lot_history.specs.Witness.{max_threads_of, number_of, seen_by}
use Rattle.lot_history.proofs.LawLemmas.{from_unparks}
use Rattle.lot_threads.specs.Laws.{ParksGetTokensOfUnparks}

pub handed_over : ParksGetTokensOfUnparks
handed_over old new key park_token timed token ends =
    let told = ends.returns in
    let bound = max_threads_of old.history in
    let events : List Event = seen_by ends.entered ++ told.between in
    let last : Event = event (number_of ends.entered) (step.Return old.number) (answer.Unparked token) in
    record {
      events = events;
      last = last;
      seen = told.seen;
      handed = from_unparks bound old.number token events last
          (subst (λ (seen : List Event). IsHistory bound seen) told.seen told.history)
          (eq-eqb old.number old.number refl) refl;
    }
