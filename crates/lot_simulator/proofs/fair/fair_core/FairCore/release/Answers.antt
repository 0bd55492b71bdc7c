use Rattle.std.proofs.Common.{rules, ◌≡◌, ℕ, ◌<◌, true, false, List, [], ◌∷◌, length, take, map, refl, ap}
use Rattle.std.proofs.Common.{subst, sym, ◌∙◌, arith}
use Rattle.lot_base.specs.Waiting.{split_first, has_any}
use Rattle.lot_base.specs.declared.token.TheConstants.{DEFAULT_UNPARK_TOKEN}
use Rattle.lot_base.specs.declared.token.UnparkResult.{UnparkResult}
use Rattle.lot_base.specs.declared.token.UnparkToken.{UnparkToken}
use Rattle.lot_simulator.specs.LotState.{LotState}
use Rattle.lot_simulator.specs.Lot.{machine}
use Rattle.lot_machine.specs.Machine.{Waiter, after_unpark}
use Rattle.lot_simulator.specs.declared.fair.fair_core.Holder.{Holder}
use Rattle.lot_simulator.specs.declared.fair.fair_core.Holder.TheVariants.{Nobody, Taken, Thread}
use Rattle.lot_simulator.specs.declared.fair.fair_core.TheConstants.{MUTEX_KEY}
use Rattle.lot_simulator.specs.declared.fair.schedule.FairAnswer.TheVariants.{Unlocked}
use Rattle.lot_simulator.specs.FairCoreState.{FairCoreState}
use Rattle.lot_simulator.specs.FairCore.{fair_state, IsFairCore}
use Rattle.lot_simulator.specs.FairSteps.{IsRelease}
use Rattle.lot_simulator.proofs.FairStepLemmas.{Leaves-handed, Leaves-freed}
use Rattle.lot_simulator.proofs.fair.fair_core.FairCore.release.Goals as goal

-- the first waiter, if there is one, is counted
some_waits : (waiters : List Waiter) → 0 < length (take 1 waiters)
    → true ≡ has_any (map (λ waiter. waiter.number) waiters)
some_waits [] some = absurd (omega arith)
some_waits (waiter ∷ waiters) some = refl

none_waits : (waiters : List Waiter) → length (take 1 waiters) ≡ 0
    → false ≡ has_any (map (λ waiter. waiter.number) waiters)
none_waits [] none = refl
none_waits (waiter ∷ waiters) none = absurd (omega arith)

-- what the step leaves is a core, and is one step on
module _ (lot new : LotState) (noted : Holder) (core : FairCoreState)
    (same : record { lot = lot; holder = noted } ≡ core) (right : IsFairCore (record { lot = lot; holder = noted }))
    (thread : ℕ) (token : UnparkToken)
    (new_is : machine new ≡ after_unpark (machine lot) MUTEX_KEY (split_first ((machine lot).lists MUTEX_KEY)) token)
  where
    handed : noted ≡ Thread thread → 0 < length (take 1 ((machine lot).lists MUTEX_KEY))
        → IsFairCore (record { lot = new; holder = Taken })
        × IsRelease (fair_state core) thread (Unlocked true) (fair_state (record { lot = new; holder = Taken }))
    handed noted_is some =
        subst (λ (c : FairCoreState). IsFairCore (record { lot = new; holder = Taken })
        × IsRelease (fair_state c) thread (Unlocked true) (fair_state (record { lot = new; holder = Taken }))) same
        (let left = Leaves-handed lot noted right new thread token noted_is new_is some in
        (left.kept, (ap Unlocked (some_waits ((machine lot).lists MUTEX_KEY) some), left.state)))

    freed : noted ≡ Thread thread → length (take 1 ((machine lot).lists MUTEX_KEY)) ≡ 0
        → IsFairCore (record { lot = new; holder = Nobody })
        × IsRelease (fair_state core) thread (Unlocked false) (fair_state (record { lot = new; holder = Nobody }))
    freed noted_is none =
        subst (λ (c : FairCoreState). IsFairCore (record { lot = new; holder = Nobody })
        × IsRelease (fair_state c) thread (Unlocked false) (fair_state (record { lot = new; holder = Nobody }))) same
        (let left = Leaves-freed lot noted right new thread token noted_is new_is none in
        (left.kept, (ap Unlocked (none_waits ((machine lot).lists MUTEX_KEY) none), left.state)))

pub returns-then-result-gt0 : goal.returns-then-result-gt0
returns-then-result-gt0 c =
    let counted : c.unpark_one-result.result.unparked_threads ≡ length (take 1 ((machine c.self.inside.lot).lists MUTEX_KEY)) =
    ap (λ (result : UnparkResult). result.unparked_threads) c.unpark_one-result.ensures.answer in
    (handed c.self.inside.lot c.unpark_one-result.new.self c.self.inside.holder c.args.self.now c.self.view_is
    c.self.invariant c.args.thread DEFAULT_UNPARK_TOKEN (search rules)
    (ap (λ (core : FairCoreState). core.holder) c.self.view_is ∙ c.requires)
    (subst (λ n. 0 < n) counted c.if-result-gt0.true)).1

pub returns-else-result-gt0 : goal.returns-else-result-gt0
returns-else-result-gt0 c =
    let counted : c.unpark_one-result.result.unparked_threads ≡ length (take 1 ((machine c.self.inside.lot).lists MUTEX_KEY)) =
    ap (λ (result : UnparkResult). result.unparked_threads) c.unpark_one-result.ensures.answer in
    (freed c.self.inside.lot c.unpark_one-result.new.self c.self.inside.holder c.args.self.now c.self.view_is
    c.self.invariant c.args.thread DEFAULT_UNPARK_TOKEN (search rules)
    (ap (λ (core : FairCoreState). core.holder) c.self.view_is ∙ c.requires)
    (sym counted ∙ (omega (arith, c.if-result-gt0.false)))).1

pub invariant_of-self : goal.invariant_of-self
invariant_of-self c =
    let counted : c.unpark_one-result.result.unparked_threads ≡ length (take 1 ((machine c.self.inside.lot).lists MUTEX_KEY)) =
    ap (λ (result : UnparkResult). result.unparked_threads) c.unpark_one-result.ensures.answer in
    (handed c.self.inside.lot c.unpark_one-result.new.self c.self.inside.holder c.args.self.now c.self.view_is
    c.self.invariant c.args.thread DEFAULT_UNPARK_TOKEN (search rules)
    (ap (λ (core : FairCoreState). core.holder) c.self.view_is ∙ c.requires)
    (subst (λ n. 0 < n) counted c.if-result-gt0.true)).0

pub invariant_of-self-else-result-gt0 : goal.invariant_of-self-else-result-gt0
invariant_of-self-else-result-gt0 c =
    let counted : c.unpark_one-result.result.unparked_threads ≡ length (take 1 ((machine c.self.inside.lot).lists MUTEX_KEY)) =
    ap (λ (result : UnparkResult). result.unparked_threads) c.unpark_one-result.ensures.answer in
    (freed c.self.inside.lot c.unpark_one-result.new.self c.self.inside.holder c.args.self.now c.self.view_is
    c.self.invariant c.args.thread DEFAULT_UNPARK_TOKEN (search rules)
    (ap (λ (core : FairCoreState). core.holder) c.self.view_is ∙ c.requires)
    (sym counted ∙ (omega (arith, c.if-result-gt0.false)))).0
