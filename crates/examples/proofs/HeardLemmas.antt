-- What was heard of a thread that waits: whoever hears more has heard it too, and an unpark right after it takes that
-- thread.
use Rattle.std.proofs.Common.{◌≡◌, ◌≢◌, ℕ, List, [], ◌∷◌, ◌++◌, length, map, take, refl, sym, ap, ◌∙◌, subst, append_assoc, arith}
use mathlib.Core.List.{IsPrefix}
use Rattle.lot_base.specs.Waiting.{split_first}
use Rattle.lot_base.specs.declared.token.UnparkResult.{UnparkResult}
use Rattle.lot_base.specs.declared.token.UnparkToken.{UnparkToken}
use Rattle.lot_machine.specs.Machine.{Machine, Waiter, after_unpark, new_machine, times_in}
use Rattle.lot_machine.specs.declared.step.Answer.TheVariants as answer
use Rattle.lot_machine.specs.declared.step.Op.TheVariants.{One}
use Rattle.lot_machine.specs.declared.step.Step.TheVariants.{Unpark}
use Rattle.lot_machine.proofs.WaiterLemmas.{statuses_with_taken-among, times_in-own}
use Rattle.lot_history.specs.History.{LeadsTo}
use Rattle.lot_history.specs.Tells.{event}
use Rattle.lot_history.specs.Witness.{max_threads_of, number_of, seen_by}
use Rattle.lot_history.specs.declared.event.Event.{Event}
use Rattle.lot_history.specs.declared.history.History.{History}
use Rattle.lot_history.specs.declared.history.Witness.{Witness}
use Rattle.lot_history.proofs.RunLemmas.{joined}
use Rattle.examples.specs.Heard.{HasHeard, TookAfter}

-- the first of some numbers, and the only one
abbrev pub first_of : List ℕ → ℕ
first_of [] = 0
first_of (n ∷ _) = n

pub only_one : (numbers : List ℕ) (n : ℕ) → length numbers ≡ 1 → first_of numbers ≡ n → numbers ≡ n ∷ []
only_one [] n one first = absurd (omega (arith, one))
only_one (m ∷ []) n one first = ap (λ k. k ∷ []) first
only_one (m ∷ k ∷ rest) n one first = absurd (omega (arith, one))

-- a thread that stands alone in a list is among its first
alone_first : (waiters : List Waiter) (thread : ℕ) → map (λ (waiter : Waiter). waiter.number) waiters ≡ thread ∷ []
    → times_in thread (take 1 waiters) ≢ 0
alone_first [] thread alone = absurd (cc (alone))
alone_first (waiter ∷ rest) thread alone =
    λ none. absurd (omega (arith, none, times_in-own waiter thread (sym (ap first_of alone))))

pub hears_more : (history : History) (key thread : ℕ) (told more : Witness) → HasHeard history key thread told
    → IsPrefix (seen_by told) (seen_by more) → HasHeard history key thread more
hears_more history key thread told more hears longer = record {
  heard = hears.heard;
  begins = (
    hears.begins.0 ++ longer.0,
    sym (append_assoc hears.heard hears.begins.0 longer.0) ∙ (ap (λ w. w ++ longer.0) hears.begins.1 ∙ longer.1),
  );
  machine = hears.machine;
  leads = hears.leads;
  alone = hears.alone;
}

pub took : (history : History) (key thread : ℕ) (old new : Witness) (hears : HasHeard history key thread old)
    (token : UnparkToken) (result : UnparkResult) → TookAfter history key thread old hears token result new
took history key thread old new hears token result seen after step =
    let bound = max_threads_of history in
    let m = hears.machine in
    let last = event (number_of new) (Unpark (One key token)) (answer.Unpark result) ∷ [] in
    let is : after ≡ after_unpark m key (split_first (m.lists key)) token = step.1 in (
      ap (λ (n : Machine). n.status thread) is
          ∙ statuses_with_taken-among token (take 1 (m.lists key)) m.status thread (alone_first (m.lists key) thread hears.alone),
      subst (λ (events : List Event). LeadsTo bound events after) (sym seen)
          (joined (new_machine bound) hears.heard last m after hears.leads (after, step, refl)),
    )
