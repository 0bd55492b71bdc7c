-- Closures that answer from a step, and runs.
use Rattle.std.proofs.Common.{◌≡◌, ◌≢◌, ℕ, List, [], ◌∷◌, ◌++◌, length, map, refl, sym, ap, ◌∙◌, subst, arith}
use Rattle.std.proofs.lemmas.List.{length-map}
use Rattle.std.specs.Fn.{Mut, Called}
use Rattle.lot_base.specs.Filter.{IsFiltered}
use Rattle.lot_base.specs.Waiting.{Split, split_none, split_all, split_filter}
use Rattle.lot_base.specs.declared.token.FilterOp.{FilterOp}
use Rattle.lot_base.specs.declared.token.FilterOp.TheVariants.{Unpark, Skip, Stop}
use Rattle.lot_base.specs.declared.token.ParkToken.{ParkToken}
use Rattle.lot_base.proofs.FilterLemmas.{unpark≢stop, skip≢stop, IsFiltered-always_unpark}
use Rattle.lot_base.proofs.LawLemmas.{split_filter-unpark_each}
use Rattle.lot_machine.specs.Decisions.{AnswersNext}
use Rattle.lot_machine.specs.Machine.{Waiter, IsConsistent, threads_of}
use Rattle.lot_simulator.specs.Lot.{waiter_park_tokens}
use Rattle.lot_machine.specs.Size.{threads_after, IsSizeAfter, IsSizeAfterRun}
use Rattle.lot_simulator.specs.LotState.{LotState}
use Rattle.lot_simulator.specs.Lot.{machine}
use Rattle.lot_machine.proofs.ThreadCountLemmas.{threads_of-step}
use Rattle.lot_machine.proofs.StepLemmas.{IsConsistent-step}
use Rattle.lot_machine.specs.Run.{IsRun}
use Rattle.lot_machine.specs.Steps.{IsStep}
use Rattle.lot_machine.proofs.RunLemmas.{IsRun-push}
use Rattle.lot_machine.specs.declared.step.Answer.{Answer}
use Rattle.lot_machine.specs.declared.step.Step.{Step}

-- of no waiters nobody is taken or left
split_filter-nobody : {A : Type 0} (decisions : List FilterOp) → split_filter decisions [] ≡ split_none {A = A} []
split_filter-nobody [] = refl
split_filter-nobody (_ ∷ _) = refl

-- one decision more
split_filter-one_more : {A : Type 0} (decision : FilterOp) (some others : List FilterOp) (waiter : A) (waiters : List A)
    → (decision ≢ Stop → split_filter some waiters ≡ split_filter others waiters)
    → split_filter (decision ∷ some) (waiter ∷ waiters) ≡ split_filter (decision ∷ others) (waiter ∷ waiters)
split_filter-one_more Stop some others waiter waiters alike = refl
split_filter-one_more {A} Unpark some others waiter waiters alike =
    ap (λ (split : Split A). record split { taken = waiter ∷ split.taken }) (alike unpark≢stop)
split_filter-one_more {A} Skip some others waiter waiters alike =
    ap (λ (split : Split A). record split { left = waiter ∷ split.left }) (alike skip≢stop)

module _ {A F : Type 0} (park_token : A → ParkToken) (calls : Mut F (ParkToken × Unit {0}) FilterOp)
    (rest : F → List FilterOp)
    (decides : (filter next : F) (token : ParkToken) (decision : FilterOp)
    → Called calls filter (token, tt) decision next → AnswersNext (rest filter) decision (rest next)) where
  -- a filter that answers from a list splits the waiters as the list does, where decisions that
  -- are used up are as good as `Skip`
  pub split_filter-called : (filter : F) (waiters : List A) (given : List FilterOp)
      → IsFiltered calls filter (map park_token waiters) given
      → split_filter given waiters ≡ split_filter (rest filter) waiters
  split_filter-called filter [] given filtered = split_filter-nobody given ∙ sym (split_filter-nobody (rest filter))
  split_filter-called filter (waiter ∷ waiters) [] filtered = absurd filtered
  split_filter-called filter (waiter ∷ waiters) (decision ∷ given) (next, called, stops, goes_on) =
      by_rest (rest filter) (decides filter next (park_token waiter) decision called)
      (λ other. split_filter-called next waiters given (goes_on other))
    where
      by_rest : (decisions : List FilterOp) → AnswersNext decisions decision (rest next)
          → (decision ≢ Stop → split_filter given waiters ≡ split_filter (rest next) waiters)
          → split_filter (decision ∷ given) (waiter ∷ waiters) ≡ split_filter decisions (waiter ∷ waiters)
      by_rest [] (skips, none) alike =
          ap (λ d. split_filter (d ∷ given) (waiter ∷ waiters)) skips
          ∙ ap (λ (split : Split A). record split { left = waiter ∷ split.left })
          (alike (λ same. skip≢stop (sym skips ∙ same)) ∙ ap (λ decisions. split_filter decisions waiters) none)
      by_rest (first ∷ decisions) (same, left) alike =
          split_filter-one_more decision given decisions waiter waiters
          (λ other. alike other ∙ ap (λ decisions. split_filter decisions waiters) left)
          ∙ ap (λ d. split_filter (d ∷ decisions) (waiter ∷ waiters)) same

-- how many threads are registered after steps with these answers
abbrev threads_after_all : ℕ → List Answer → ℕ
threads_after_all threads [] = threads
threads_after_all threads (given ∷ answers) = threads_after_all (threads_after threads given) answers

threads_after_all-push : (threads : ℕ) (answers : List Answer) (given : Answer)
    → threads_after_all threads (answers ++ given ∷ []) ≡ threads_after (threads_after_all threads answers) given
threads_after_all-push threads [] given = refl
threads_after_all-push threads (first ∷ answers) given =
    threads_after_all-push (threads_after threads first) answers given

-- the size after a run, and one step more
IsSizeAfterRun-push : (threads : ℕ) (steps : List Step) (answers : List Answer) (old now new : ℕ) (step : Step)
    (given : Answer) → IsSizeAfterRun threads steps answers old now
    → IsSizeAfter step given (threads_after (threads_after_all threads answers) given) now new
    → IsSizeAfterRun threads (steps ++ step ∷ []) (answers ++ given ∷ []) old new
IsSizeAfterRun-push threads [] [] old now new step given same next =
    (new, subst (λ size. IsSizeAfter step given (threads_after threads given) size new) same next, refl)
IsSizeAfterRun-push threads [] (_ ∷ _) old now new step given none next = absurd none
IsSizeAfterRun-push threads (_ ∷ _) [] old now new step given none next = absurd none
IsSizeAfterRun-push threads (_ ∷ steps) (first ∷ answers) old now new step given (size, changes, rest) next =
    (size, changes, IsSizeAfterRun-push (threads_after threads first) steps answers size now new step given rest next)

-- what a list of steps did to a lot
pub record HasRun (before : LotState) (steps : List Step) (answers : List Answer) (now : LotState) : Type 0 where
  pub run : IsRun IsStep (machine before) steps answers (machine now)
  pub size : IsSizeAfterRun (threads_of (machine before)) steps answers (length before.buckets) (length now.buckets)
  pub threads : threads_of (machine now) ≡ threads_after_all (threads_of (machine before)) answers
  pub consistent : IsConsistent (machine now)

pub HasRun-push : (before : LotState) (steps : List Step) (answers : List Answer) (now next : LotState) (step : Step)
    (given : Answer) → HasRun before steps answers now → IsStep (machine now) step given (machine next)
    → IsSizeAfter step given (threads_of (machine next)) (length now.buckets) (length next.buckets)
    → HasRun before (steps ++ step ∷ []) (answers ++ given ∷ []) next
HasRun-push before steps answers now next step given ran does changes = record {
  run = IsRun-push IsStep (machine before) steps answers (machine now) (machine next) step given ran.run does;
  size = IsSizeAfterRun-push (threads_of (machine before)) steps answers (length before.buckets) (length now.buckets)
      (length next.buckets) step given ran.size
      (subst (λ threads. IsSizeAfter step given threads (length now.buckets) (length next.buckets)) counted changes);
  threads = counted ∙ sym (threads_after_all-push (threads_of (machine before)) answers given);
  consistent = IsConsistent-step (machine now) step given (machine next) ran.consistent does;
}
  where
    counted : threads_of (machine next) ≡ threads_after (threads_after_all (threads_of (machine before)) answers) given
    counted =
        threads_of-step (machine now) step given (machine next) ran.consistent does
        ∙ ap (λ threads. threads_after threads given) ran.threads

-- a filter that always answers `Unpark` takes what an unpark of all takes
pub split_filter-always_unpark : {F : Type 0} (calls : Mut F (ParkToken × Unit {0}) FilterOp)
    → ((filter : F) (token : ParkToken) (decision : FilterOp) (next : F) → Called calls filter (token, tt) decision next
    → decision ≡ Unpark) → (filter : F) (waiters : List Waiter) (decisions : List FilterOp)
    → IsFiltered calls filter (waiter_park_tokens waiters) decisions
    → split_filter decisions waiters ≡ split_all waiters
split_filter-always_unpark calls unparks filter waiters decisions filtered =
    ap (λ given. split_filter given waiters)
    (IsFiltered-always_unpark calls unparks filter (waiter_park_tokens waiters) decisions filtered)
    ∙ split_filter-unpark_each Waiter waiters (length (waiter_park_tokens waiters))
    (omega (arith, length-map waiters (λ waiter. waiter.park_token)))
