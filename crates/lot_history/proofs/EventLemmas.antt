-- Lists of events, of which one begins another.
use Rattle.std.proofs.Common.{◌≡◌, ◌≢◌, ℕ, ◌==◌, List, [], ◌∷◌, ◌++◌, refl, sym, ap, ◌∙◌, append_assoc, append-nil, map}
use Rattle.std.proofs.Common.{cond}
use Rattle.std.proofs.lemmas.Bool.{eq-eqb, ne_eqb}
use Rattle.std.proofs.lemmas.List.{map-append}
use Rattle.std.proofs.lemmas.List.Elements.{filter-append}
use mathlib.Core.List.{IsPrefix}
use Rattle.lot_machine.specs.Machine.{Machine, new_machine}
use Rattle.lot_machine.specs.Steps.{IsStep}
use Rattle.lot_machine.proofs.RunLemmas.{IsRun-push}
use Rattle.lot_history.specs.declared.event.Event.{Event}
use Rattle.lot_history.specs.History.{LeadsTo, events_by}

-- beginnings

pub prefix_self : {A : Type 0} (xs : List A) → IsPrefix xs xs
prefix_self xs = ([], append-nil xs)

pub prefix_nil : {A : Type 0} (xs : List A) → IsPrefix [] xs
prefix_nil xs = (xs, refl)

pub prefix_longer : {A : Type 0} (xs ys zs : List A) → IsPrefix xs ys → IsPrefix xs (ys ++ zs)
prefix_longer xs ys zs p = (p.0 ++ zs, sym (append_assoc xs p.0 zs) ∙ ap (λ w. w ++ zs) p.1)

-- events of one witness

pub events_by-own : (id : ℕ) (events : List Event) (event : Event) → event.by ≡ id
    → events_by id (events ++ event ∷ []) ≡ events_by id events ++ event ∷ []
events_by-own id events event own =
    filter-append (λ (e : Event). e.by == id) events (event ∷ [])
    ∙ ap (λ b. events_by id events ++ cond b (event ∷ []) []) (eq-eqb event.by id own)

pub events_by-other : (id : ℕ) (events : List Event) (event : Event) → event.by ≢ id
    → events_by id (events ++ event ∷ []) ≡ events_by id events
events_by-other id events event other =
    filter-append (λ (e : Event). e.by == id) events (event ∷ [])
    ∙ (ap (λ b. events_by id events ++ cond b (event ∷ []) []) (ne_eqb event.by id other)
    ∙ append-nil (events_by id events))

-- a history, and one step more
pub LeadsTo-push : (max_threads : ℕ) (events : List Event) (event : Event) (now next : Machine)
    → LeadsTo max_threads events now → IsStep now event.step event.answer next
    → LeadsTo max_threads (events ++ event ∷ []) next
LeadsTo-push max_threads events event now next run does =
    rw (map-append (λ (e : Event). e.step) events (event ∷ []), map-append (λ (e : Event). e.answer) events (event ∷ []))
    (IsRun-push IsStep (new_machine max_threads) (map (λ (e : Event). e.step) events)
    (map (λ (e : Event). e.answer) events) now next event.step event.answer run does)
