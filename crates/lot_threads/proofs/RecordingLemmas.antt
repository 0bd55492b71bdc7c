-- A running thread records a key once more, or not, where memory is wanting; or once less.
use Rattle.std.proofs.Common.{◌≡◌, ℕ, true, false, List, [], ◌∷◌, Result, Ok, Err, OnOk, OnErr, is_ok, sym}
use Rattle.std.proofs.Common.{subst}
use Rattle.std.proofs.lemmas.Bool.{false≢true, true≢false}
use Rattle.lot_machine.specs.Records.{times_recorded, one_more}
use Rattle.lot_machine.specs.declared.status.Status.TheVariants.{Running}
use Rattle.lot_machine.specs.declared.step.Answer.{Answer}
use Rattle.lot_machine.specs.declared.step.Answer.TheVariants as answer
use Rattle.lot_machine.specs.declared.step.Step.TheVariants as step
use Rattle.lot_history.specs.Moves.{Moves}
use Rattle.lot_history.specs.declared.view.Piece.TheVariants.{Records, Thread}
use Rattle.lot_history.proofs.RecordLemmas.{acquires, acquires_nothing}
use Rattle.lot_threads.specs.Members.{Is}

-- what holds on one answer
on_ok : {A E P : Type 0} (given : Result A E) → is_ok given ≡ true → OnOk given P → P
on_ok (Ok _) is holds = holds
on_ok (Err _) is holds = absurd (false≢true is)

on_err : {A E P : Type 0} (given : Result A E) → is_ok given ≡ false → OnErr given P → P
on_err (Ok _) is holds = absurd (true≢false is)
on_err (Err _) is holds = holds

module _ (bound number key : ℕ) (keys after : List ℕ) where
  abbrev pub Acquires : Answer → Type 0
  Acquires given = Moves bound (Is (step.Acquire number key) given)
      (Thread number Running ∷ Records number keys ∷ []) (Thread number Running ∷ Records number after ∷ [])

  module _ {A E : Type 0} (found : Result A E) (ok : OnOk found (times_recorded after ≡ one_more (times_recorded keys) key))
      (err : OnErr found (after ≡ keys)) where
    pub acquires_on : (given : Answer) → is_ok found ≡ true → given ≡ answer.Recorded → Acquires given
    acquires_on given is same = subst Acquires (sym same)
        (acquires bound number key keys after (on_ok found is ok))

    pub refuses_on : (given : Answer) → is_ok found ≡ false → given ≡ answer.NoMemory → Acquires given
    refuses_on given is same = subst Acquires (sym same)
        (subst (λ (found : List ℕ). Moves bound (Is (step.Acquire number key) answer.NoMemory)
        (Thread number Running ∷ Records number keys ∷ []) (Thread number Running ∷ Records number found ∷ []))
        (sym (on_err found is err)) (acquires_nothing bound number key (Records number keys ∷ [])))
