-- The parts of a queue that each unpark makes, and that what it leaves fits.
use Rattle.std.proofs.Common.{◌≡◌, ℕ, zero, suc, ◌<◌, ◌≤◌, ◌/◌, ◌%◌, ◌==◌, Bool, true, false, List, [], ◌∷◌, ◌++◌}
use Rattle.std.proofs.Common.{if◌then◌else◌, length, take, drop, refl, ap, length-append, arith}
use Rattle.lot_base.specs.declared.token.FilterOp.TheVariants as filter
use Rattle.lot_base.specs.declared.token.ParkToken.{ParkToken}
use Rattle.lot_base.specs.declared.token.RequeueOp.{RequeueOp}
use Rattle.lot_base.specs.declared.token.UnparkToken.{UnparkToken}
use Rattle.lot_base.specs.Waiting.{split_none, split_first, split_all, split_filter, split_by}
use Rattle.lot_base.specs.Waiting.{requeue_result}
use Rattle.lot_base.proofs.ValueLemmas.{with_value-same}
use Rattle.lot_machine.specs.declared.status.Status.TheVariants.{Running}
use Rattle.lot_machine.specs.declared.step.Answer.TheVariants as answer
use Rattle.lot_machine.specs.declared.step.Op.TheVariants.{Requeue}
use Rattle.lot_machine.specs.declared.step.Step.TheVariants.{Enter, Unpark}
use Rattle.lot_machine.specs.Machine.{Machine, Waiter, IsConsistent, after_enter, after_requeue}
use Rattle.lot_machine.proofs.AnswerLemmas.{length-le-lists}
use Rattle.lot_machine.proofs.StepLemmas.{IsConsistent-step}
use Rattle.lot_litmus.specs.Queues.{placed, parted}
use Rattle.lot_litmus.specs.Steps.{decisions_of}

pub parted-none : {A : Type 0} (xs : List A) → parted 0 0 xs ≡ split_none xs
parted-none [] = refl
parted-none (x ∷ xs) = ap (λ split. placed false false x split) (parted-none xs)

pub parted-first : {A : Type 0} (xs : List A) → parted 1 0 xs ≡ split_first xs
parted-first [] = refl
parted-first (x ∷ xs) = ap (λ split. placed true false x split) (parted-none xs)

pub parted-first_moved : {A : Type 0} (xs : List A)
    → parted 0 1 xs ≡ record { taken = []; moved = take 1 xs; left = drop 1 xs }
parted-first_moved [] = refl
parted-first_moved (x ∷ xs) = ap (λ split. placed false true x split) (parted-none xs)

pub parted-all : {A : Type 0} (xs : List A) → length xs ≤ 6 → parted 255 0 xs ≡ split_all xs
parted-all [] short = refl
parted-all (a ∷ []) short = refl
parted-all (a ∷ b ∷ []) short = refl
parted-all (a ∷ b ∷ c ∷ []) short = refl
parted-all (a ∷ b ∷ c ∷ d ∷ []) short = refl
parted-all (a ∷ b ∷ c ∷ d ∷ e ∷ []) short = refl
parted-all (a ∷ b ∷ c ∷ d ∷ e ∷ f ∷ []) short = refl
parted-all (a ∷ b ∷ c ∷ d ∷ e ∷ f ∷ g ∷ xs) short = absurd (omega (arith, short))

moved-all : {A : Type 0} (xs : List A) → length xs ≤ 6
    → parted 0 127 xs ≡ record { taken = []; moved = xs; left = [] }
moved-all [] short = refl
moved-all (a ∷ []) short = refl
moved-all (a ∷ b ∷ []) short = refl
moved-all (a ∷ b ∷ c ∷ []) short = refl
moved-all (a ∷ b ∷ c ∷ d ∷ []) short = refl
moved-all (a ∷ b ∷ c ∷ d ∷ e ∷ []) short = refl
moved-all (a ∷ b ∷ c ∷ d ∷ e ∷ f ∷ []) short = refl
moved-all (a ∷ b ∷ c ∷ d ∷ e ∷ f ∷ g ∷ xs) short = absurd (omega (arith, short))

pub parted-rest_moved : {A : Type 0} (xs : List A) → length xs ≤ 6
    → parted 1 254 xs ≡ record { taken = take 1 xs; moved = drop 1 xs; left = [] }
parted-rest_moved [] short = refl
parted-rest_moved (x ∷ xs) short = ap (λ split. placed true false x split) (moved-all xs (omega (arith, short)))

pub parted-all_moved : {A : Type 0} (xs : List A) → length xs ≤ 6
    → parted 0 255 xs ≡ record { taken = []; moved = xs; left = [] }
parted-all_moved [] short = refl
parted-all_moved (x ∷ xs) short = ap (λ split. placed false true x split) (moved-all xs (omega (arith, short)))

pub parted-filter : {A : Type 0} (more chosen : ℕ) (xs : List A) → length xs ≤ more
    → parted chosen 0 xs ≡ split_filter (decisions_of more chosen) xs
parted-filter zero chosen [] short = refl
parted-filter zero chosen (x ∷ xs) short = absurd (omega (arith, short))
parted-filter (suc more) chosen [] short = refl
parted-filter {A} (suc more) chosen (x ∷ xs) short =
    decided (chosen % 2 == 1) (parted-filter more (chosen / 2) xs (omega (arith, short)))
  where
    decided : (b : Bool) → parted (chosen / 2) 0 xs ≡ split_filter (decisions_of more (chosen / 2)) xs
        → placed b false x (parted (chosen / 2) 0 xs)
        ≡ split_filter ((if b then filter.Unpark else filter.Skip) ∷ decisions_of more (chosen / 2)) (x ∷ xs)
    decided true same = ap (λ split. placed true false x split) same
    decided false same = ap (λ split. placed false false x split) same

-- a thread that runs fits into any queue
pub length-enter : (m : Machine) (thread key : ℕ) → IsConsistent m → m.status thread ≡ Running
    → length (m.lists key) < m.max_threads
length-enter m thread key consistent running =
    let token : ParkToken = record { 0 = 0 } in
    let waiter : Waiter = record { number = thread; park_token = token; timed = false } in
    let after : Machine = after_enter m thread key token false in
    let kept = IsConsistent-step m (Enter thread key true token false) answer.Entered after consistent
    (rw running (refl, refl)) in
    let fits = length-le-lists after key kept in
    let same = ap length (with_value-same m.lists key (m.lists key ++ waiter ∷ []) key refl) in
    let one = length-append (m.lists key) (waiter ∷ []) in
    omega (arith, fits, same, one)

-- and so does whom a requeue moves
pub length-requeue : (m : Machine) (from to : ℕ) (op : RequeueOp) (token : UnparkToken) (key : ℕ) → IsConsistent m
    → length ((after_requeue m from to (split_by op (m.lists from)) token).lists key) ≤ m.max_threads
length-requeue m from to op token key consistent =
    length-le-lists (after_requeue m from to (split_by op (m.lists from)) token) key
    (IsConsistent-step m (Unpark (Requeue from to op token))
    (answer.Unpark (requeue_result op (split_by op (m.lists from))))
    (after_requeue m from to (split_by op (m.lists from)) token) consistent (refl, refl))
