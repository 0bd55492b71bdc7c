-- A thread that runs stands in no list, so no title tells of it.
use Rattle.std.specs.Prelude.{Contains}
use Rattle.std.proofs.Common.{◌≡◌, ◌≢◌, ℕ, List, [], ◌∷◌, false, arith, sym, ap, subst, ⊎_elim}
use Rattle.std.proofs.lemmas.Bool.{cases_eq, MatchBool-at_false}
use Rattle.std.proofs.lemmas.Map.Made.{Contains-tail}
use Rattle.lot_machine.specs.declared.status.Status.TheVariants.{Running}
use Rattle.lot_machine.specs.Machine.{Machine, Waiter, new_machine, times_in}
use Rattle.lot_machine.specs.Status.{is_queued}
use Rattle.lot_machine.proofs.StepLemmas.{IsConsistent-new}
use Rattle.lot_machine.proofs.WaiterLemmas.{times_in-append, times_in-own}
use Rattle.lot_history.specs.declared.event.Event.{Event}
use Rattle.lot_history.specs.History.{LeadsTo}
use Rattle.lot_history.specs.Pieces.{numbers_of}
use Rattle.lot_history.proofs.RunLemmas.{IsConsistent-run}

not_told : (number : ℕ) (waiters : List Waiter) → times_in number waiters ≡ 0 → ¬ Contains (numbers_of waiters) number
not_told number [] none has = let within = has.1 in absurd (omega arith)
not_told number (waiter ∷ waiters) none has =
    let both = times_in-append number (waiter ∷ []) waiters in
    ⊎_elim
    (λ (own : number ≡ waiter.number). let one = times_in-own waiter number own in absurd (omega arith))
    (λ (other : number ≢ waiter.number). not_told number waiters (omega arith)
    (Contains-tail waiter.number (numbers_of waiters) number (λ same. other (sym same)) has))
    (cases_eq number waiter.number)

pub runs_outside : (max_threads : ℕ) (events : List Event) (m : Machine) → LeadsTo max_threads events m
    → (number key : ℕ) (told : List ℕ) → m.status number ≡ Running → numbers_of (m.lists key) ≡ told
    → ¬ Contains told number
runs_outside max_threads events m leads number key told runs tells =
    let consistent = IsConsistent-run (new_machine max_threads) events m (IsConsistent-new max_threads) leads in
    let queued : is_queued (m.status number) ≡ false = ap is_queued runs in
    let none = MatchBool-at_false _ _ queued (consistent.1.standing number) in
    subst (λ (numbers : List ℕ). ¬ Contains numbers number) tells (not_told number (m.lists key) (none key))
