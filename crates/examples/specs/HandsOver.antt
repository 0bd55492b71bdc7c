-- What the member who hands over a token has told the history.
use Rattle.std.specs.Prelude.{ℕ}
use Rattle.lot_base.specs.declared.token.UnparkResult.{UnparkResult}
use Rattle.lot_base.specs.declared.token.UnparkToken.{UnparkToken}
use Rattle.lot_machine.specs.declared.step.Answer.TheVariants as answer
use Rattle.lot_machine.specs.declared.step.Op.TheVariants.{One}
use Rattle.lot_machine.specs.declared.step.Step.TheVariants.{Unpark}
use Rattle.lot_history.specs.Witness.{Looks}
use Rattle.lot_threads.specs.Members.{Makes, MemberState, Stays}

-- it unparked the first thread of the key, if there was one, with the token
abbrev pub HandsOver : MemberState → ℕ → UnparkToken → MemberState → Type 0
HandsOver old key token new = (counted : UnparkResult) × Makes old (Unpark (One key token)) (answer.Unpark counted) new

-- and then it saw the history as it was
pub record HandsOverAndSees (old : MemberState) (key : ℕ) (token : UnparkToken) (new : MemberState) : Type 0 where
  pub told : MemberState
  pub stays : Stays old told
  pub hands : HandsOver old key token told
  pub looks : Looks old.history told.witness new.witness
