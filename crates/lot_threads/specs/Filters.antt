-- Unparks by a filter: how they call their closures, and what they add to the history.
use Rattle.std.specs.Prelude.{◌≡◌, ℕ, List, Vec, map}
use Rattle.std.specs.Fn.{Once, Mut}
use mathlib.Core.List.{IsPrefix}
use Rattle.std.specs.declared.alloc.Global.{Global}
use Rattle.lot_base.specs.Filter.{IsFilterCallable, IsFiltered, park_tokens}
use Rattle.lot_base.specs.NodeFields.{NodeFields}
use Rattle.lot_base.specs.NodeLists.{with_saturated_counts}
use Rattle.lot_base.specs.Waiting.{split_filter, result_of}
use Rattle.lot_base.specs.declared.token.FilterOp.{FilterOp}
use Rattle.lot_base.specs.declared.token.ParkToken.{ParkToken}
use Rattle.lot_base.specs.declared.token.UnparkResult.{UnparkResult}
use Rattle.lot_base.specs.declared.token.UnparkToken.{UnparkToken}
use Rattle.lot_machine.specs.declared.step.Answer.TheVariants as answer
use Rattle.lot_machine.specs.declared.step.Op.TheVariants.{Filter}
use Rattle.lot_machine.specs.declared.step.Step.TheVariants.{Unpark}
use Rattle.lot_machine.specs.Machine.{Machine}
use Rattle.lot_history.specs.declared.history.History.{History}
use Rattle.lot_history.specs.declared.history.Witness.{Witness}
use Rattle.lot_history.specs.declared.event.Event.{Event}
use Rattle.lot_history.specs.History.{LeadsTo}
use Rattle.lot_history.specs.Witness.{Extends, Found, max_threads_of, seen_by}

-- the park tokens of the threads that stand in the list of the key, in order
abbrev pub tokens_in : Machine → ℕ → List ParkToken
tokens_in m key = map (λ waiter. waiter.park_token) (m.lists key)

-- a machine to which the history may have led, once the witness has seen what it has
pub record MayFind (history : History) (me : Witness) (m : Machine) : Type 0 where
  pub seen : List Event
  pub begins : IsPrefix (seen_by me) seen
  pub leads : LeadsTo (max_threads_of history) seen m

module _ {F C : Type 0} (f : Mut F (ParkToken × Unit {0}) FilterOp) (c : Once C (UnparkResult × Unit {0}) UnparkToken)
  where
    -- the filter may be called with any park tokens, and after that the callback with the result of what it decided
    pub record AreCallable (filter : F) (callback : C) : Type 0 where
      pub may_filter : (tokens : List ParkToken) → IsFilterCallable f filter tokens
      pub may_call_back : (waiters : List NodeFields) (decisions : List FilterOp)
          → IsFiltered f filter (park_tokens waiters) decisions
          → c.pre callback (with_saturated_counts (result_of (split_filter decisions waiters)), tt)

    -- in whatever machine the step finds, the filter may be called with the park tokens of the threads in the list of the
    -- key, in order, and after that the callback with the result of what it decided
    pub record MayFilter (filter : F) (callback : C) (key : ℕ) (history : History) (me : Witness) : Type 0 where
      pub may_filter : (m : Machine) → MayFind history me m → IsFilterCallable f filter (tokens_in m key)
      pub may_call_back : (m : Machine) → MayFind history me m → (waiters : List NodeFields)
          → park_tokens waiters ≡ tokens_in m key → (decisions : List FilterOp)
          → IsFiltered f filter (park_tokens waiters) decisions
          → c.pre callback (with_saturated_counts (result_of (split_filter decisions waiters)), tt)

    -- with these park tokens the filter decided so, and then the callback was handed the result, and answered the token
    pub record AreCalled (filter : F) (callback : C) (tokens : List ParkToken) (decisions : List FilterOp)
        (result : UnparkResult) (token : UnparkToken) : Type 0 where
      pub decided : IsFiltered f filter tokens decisions
      pub called : c.post callback (result, tt) token

    -- on some park tokens the filter decided, and then the callback was handed this result
    pub record WereCalled (filter : F) (callback : C) (result : UnparkResult) : Type 0 where
      pub tokens : List ParkToken
      pub decisions : List FilterOp
      pub token : UnparkToken
      pub calls : AreCalled filter callback tokens decisions result token

    -- the step was added, and the filter decided on the park tokens of the threads that stand in the list of the key, in
    -- order, in the machine that it found
    pub record Unparks (filter : F) (callback : C) (key : ℕ) (history : History) (old : Witness) (result : UnparkResult)
        (new : Witness) : Type 0 where
      pub decisions : Vec FilterOp Global
      pub token : UnparkToken
      pub extends : Extends history old (Unpark (Filter key decisions token)) (answer.Unpark result) new
      pub found : Found history old new
      pub calls : AreCalled filter callback (tokens_in found.machine key) decisions.items result token
