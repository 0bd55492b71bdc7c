-- Members who hear one another have still done what they did.
use Rattle.std.proofs.Common.{◌≡◌, ℕ, Bool, sym, subst}
use Rattle.lot_base.specs.declared.token.ParkToken.{ParkToken}
use Rattle.lot_base.specs.declared.token.UnparkToken.{UnparkToken}
use Rattle.lot_machine.specs.declared.step.Answer.TheVariants as answer
use Rattle.lot_machine.specs.declared.step.Step.TheVariants as step
use Rattle.lot_history.specs.declared.history.History.{History}
use Rattle.lot_history.specs.declared.view.View.{View}
use Rattle.lot_history.specs.Tells.{Extends}
use Rattle.lot_history.specs.Witness.{Looks, max_threads_of, number_of, view_of}
use Rattle.lot_threads.specs.Members.{ComesBack, MemberState, Stays}
use Rattle.examples.specs.HandsOver.{HandsOver, HandsOverAndSees}

-- who came back did so also where another has heard it
pub comes_back_still : (old new later : MemberState) (key : ℕ) (park_token : ParkToken) (timed : Bool)
    (token : UnparkToken) → ComesBack old key park_token timed token new
    → view_of later.witness ≡ view_of new.witness → ComesBack old key park_token timed token later
comes_back_still old new later key park_token timed token ends same = record {
  entered = ends.entered;
  still = ends.still;
  enters = ends.enters;
  returns = subst (λ (view : View). Extends (max_threads_of old.history) (number_of ends.entered) (view_of ends.entered)
      (step.Return old.number) (answer.Unparked token) view) (sym same) ends.returns;
}

-- who handed over a token and then looked
pub sees_after : (old told new : MemberState) (key : ℕ) (token : UnparkToken) → Stays old told
    → HandsOver old key token told → Looks told.history told.witness new.witness → HandsOverAndSees old key token new
sees_after old told new key token stays hands looks = record {
  told = told;
  stays = stays;
  hands = hands;
  looks = subst (λ (history : History). Looks history told.witness new.witness) stays.history looks;
}
