-- Every step of a test is a step of the machine, or leaves it, and so keeps it consistent.
use Rattle.std.proofs.Common.{◌≡◌, ◌≢◌, ℕ, zero, suc, ◌+◌, ◌≤◌, ◌==◌, ◌&&◌, Bool, true, false, if◌then◌else◌, MatchBool, List, [], ◌∷◌}
use Rattle.std.proofs.Common.{refl, sym, ◌∙◌, subst, inl, inr, ⊎_elim, arith}
use Rattle.std.specs.Prelude.{slice_get, slice_index, length, nat_lt, Option, Some, None}
use Rattle.std.specs.Global.{Vec}
use Rattle.std.proofs.lemmas.List.Elements.{All-nil}
use Rattle.std.proofs.lemmas.Bool.{cases_eq, cases_Bool, cond-true, cond-false, eqb-false, le-ltb}
use Rattle.lot_base.specs.declared.token.ParkToken.{ParkToken}
use Rattle.lot_base.specs.Waiting.{Split, split_first, split_all, split_filter, split_by, result_of, requeue_result}
use Rattle.lot_machine.specs.declared.status.Status.{Status}
use Rattle.lot_machine.specs.declared.status.Status.TheVariants as status
use Rattle.lot_machine.specs.declared.step.Answer.TheVariants as answer
use Rattle.lot_base.specs.declared.token.FilterOp.{FilterOp}
use Rattle.lot_machine.specs.declared.step.Answer.{Answer}
use Rattle.lot_machine.specs.declared.step.Op.TheVariants.{One, All, Filter, Requeue}
use Rattle.lot_machine.specs.declared.step.Step.{Step}
use Rattle.lot_machine.specs.declared.step.Step.TheVariants.{Enter, Unpark, Deadline, Resolve, Return}
use Rattle.lot_machine.specs.Machine.{Machine, Waiter, IsConsistent, StandsAt, times_in, is_last}
use Rattle.lot_machine.specs.Steps.{IsStep}
use Rattle.lot_machine.specs.Status.{is_running, is_queued, is_timed}
use Rattle.lot_machine.specs.Machine.{after_unpark, after_requeue}
use Rattle.lot_machine.proofs.StepLemmas.{IsConsistent-step, Running-from}
use Rattle.lot_litmus.specs.declared.code.Code.{Code}
use Rattle.lot_litmus.specs.declared.code.Instruction.{Instruction}
use Rattle.lot_litmus.specs.declared.code.Instruction.TheVariants as instruction
use Rattle.lot_litmus.specs.declared.code.Key.{Key}
use Rattle.lot_litmus.specs.declared.code.Local.{Local}
use Rattle.lot_litmus.specs.declared.code.Operand.{Operand}
use Rattle.lot_litmus.specs.declared.code.Word.{Word}
use Rattle.lot_litmus.specs.declared.state.Progress.{Progress}
use Rattle.lot_litmus.specs.declared.test.Test.{Test}
use Rattle.lot_litmus.specs.Configuration.{Configuration, first_machine}
use Rattle.lot_litmus.specs.MachineSteps.{IsSameOrStep, IsMove, StepsAreOfTheMachine}
use Rattle.lot_litmus.specs.Schedule.{after_step, first_of, run}
use Rattle.lot_litmus.specs.Steps.{Outcome, Blocked, Goes, Fails, Performed, Cannot, Does, Mistakes, Locally, Rests}
use Rattle.lot_litmus.specs.Steps.{Advances, Errs, where_free, updated, parked, leaving, sleeping, left, giving_up}
use Rattle.lot_litmus.specs.Steps.{first_key, standing_key, performed, settled, settled_by, local_step, with_progress}
use Rattle.lot_litmus.specs.Steps.{then_settled, stepped_in, stepped, decisions_on, local_bound, requeue_of, value_of}
use Rattle.lot_litmus.specs.Steps.{is_free, is_set, is_valid, is_timed as is_timed_by, made_of, one_if, unended}
use Rattle.lot_litmus.specs.Steps.{advanced, at_target, locking, unlocked, with_local, with_machine}
use Rattle.lot_litmus.proofs.BoundLemmas.{length-decisions_on}

abbrev pub Performs : Machine → Performed → Type 0
Performs m Cannot = Unit {0}
Performs m (Does c p) = IsSameOrStep m c.machine
Performs m (Mistakes fault) = Unit {0}

where_free-performs : (m : Machine) (free : Bool) (does : Performed) → (free ≡ true → Performs m does)
    → Performs m (where_free free does)
where_free-performs m true does performs = performs refl
where_free-performs m false does performs = tt

right_of : (a b : Bool) → (a && b) ≡ true → b ≡ true
right_of true b both = both
right_of false b both = absurd (cc both)

-- a thread stands at the key that is found for it
first_key-found : (m : Machine) (thread key more found : ℕ) → first_key m thread key more ≡ Some found
    → times_in thread (m.lists found) ≢ 0
first_key-found m thread key zero found is = absurd (cc is)
first_key-found m thread key (suc more) found is =
    ⊎_elim
    (λ (none : (times_in thread (m.lists key) == 0) ≡ true). first_key-found m thread (key + 1) more found
    (sym (cond-true (times_in thread (m.lists key) == 0) (first_key m thread (key + 1) more) (Some key) none) ∙ is))
    (λ (some : (times_in thread (m.lists key) == 0) ≡ false).
    let here : Some key ≡ Some found =
    sym (cond-false (times_in thread (m.lists key) == 0) (first_key m thread (key + 1) more) (Some key) some) ∙ is in
    let same : key ≡ found = cc here in
    subst (λ k. times_in thread (m.lists k) ≢ 0) same (eqb-false (times_in thread (m.lists key)) 0 some))
    (cases_Bool (times_in thread (m.lists key) == 0))

stands : (m : Machine) (thread found : ℕ) → IsConsistent m → m.status thread ≡ status.Late
    → standing_key m thread ≡ Some found → StandsAt m thread found
stands m thread found (keys, right) late is =
    at (subst (λ s. MatchBool (is_queued s) (StandsAt m thread (keys thread)) ((k : ℕ) → times_in thread (m.lists k) ≡ 0))
    late (right.standing thread))
  where
    at : StandsAt m thread (keys thread) → StandsAt m thread found
    at here =
        ⊎_elim (λ (same : found ≡ keys thread). subst (StandsAt m thread) (sym same) here)
        (λ (other : found ≢ keys thread). absurd (first_key-found m thread 0 4 found is (here.nowhere_else found other)))
        (cases_eq found (keys thread))

-- the decisions of a filter, as a step has them; it is memory of this allocator that holds them
abbrev decisions : Vec Instruction → ℕ → Vec FilterOp
decisions like chosen =
    let eight = length-decisions_on chosen in
    record {
      ptr = like.ptr;
      len = length (decisions_on chosen);
      cap = length (decisions_on chosen);
      alloc = like.alloc;
      items = decisions_on chosen;
      ok = (refl, omega arith);
      small = omega (arith, eight);
    }

module _ (test : Test) (c : Configuration) (thread : ℕ) (p : Progress) (like : Vec Instruction)
    (consistent : IsConsistent c.machine) where
  parked-performs : (q : Progress) (key : Key) (valid : Bool) (token : ℕ) (timed : Bool) (target : ℕ)
      → is_running (c.machine.status thread) ≡ true → Performs c.machine (parked c thread q key valid token timed target)
  parked-performs q key true token timed target runs =
      let park_token : ParkToken = record { 0 = token } in
      let running = Running-from (c.machine.status thread) runs in
      inr (Enter thread key.number true park_token timed, answer.Entered, rw running (refl, refl))
  parked-performs q key false token timed target runs = inl refl

  updated-performs : (to : Local) (word : Word) (made : Option ℕ) → Performs c.machine (updated c p to word made)
  updated-performs to word None = tt
  updated-performs to word (Some n) = inl refl

  leaving-performs : (last : Local) (target : ℕ) (found : Option ℕ) → Performs c.machine (leaving test c thread p last target found)
  leaving-performs last target None = tt
  leaving-performs last target (Some key) =
      where_free-performs c.machine (is_free test c thread p key)
      (Does c (at_target (with_local (locking test key p) last (one_if (is_last c.machine thread key))) target))
      (λ _. inl refl)

  sleeping-performs : (to last : Local) (target : ℕ) (s : Status) → c.machine.status thread ≡ s
      → Performs c.machine (sleeping test c thread p to last target s)
  sleeping-performs to last target (status.Taken token) is =
      inr (Return thread, answer.Unparked token, rw is (refl, refl))
  sleeping-performs to last target (status.Waiting true) is =
      inr (Deadline thread, answer.Late, rw is (refl, refl))
  sleeping-performs to last target (status.Waiting false) is = tt
  sleeping-performs to last target status.Late is = leaving-performs last target (standing_key c.machine thread)
  sleeping-performs to last target status.Free is = tt
  sleeping-performs to last target status.Running is = tt

  left-performs : c.machine.status thread ≡ status.Late → (found : Option ℕ) → standing_key c.machine thread ≡ found
      → Performs c.machine (left c thread p found)
  left-performs late None is = tt
  left-performs late (Some key) is =
      inr (
        Resolve thread,
        answer.TimedOut key (is_last c.machine thread key),
        rw late (key, stands c.machine thread key consistent late is, (refl, refl)),
      )

  giving_up-performs : (s : Status) → c.machine.status thread ≡ s → Performs c.machine (giving_up c thread p s)
  giving_up-performs status.Late is = left-performs is (standing_key c.machine thread) refl
  giving_up-performs status.Free is = tt
  giving_up-performs status.Running is = tt
  giving_up-performs (status.Waiting timed) is = tt
  giving_up-performs (status.Taken token) is = tt

  abbrev free : Key → Bool
  free key = is_free test c thread p key.number

  abbrev unparked_by : Key → Split Waiter → Operand → Machine
  unparked_by key split token = after_unpark c.machine key.number split (record { 0 = value_of p token })

  pub performed-performs : (found : Option Instruction) → Performs c.machine (performed test c thread p found)
  performed-performs None = tt
  performed-performs (Some instruction.Pass) = inl refl
  performed-performs (Some instruction.Leave) = inl refl
  performed-performs (Some (instruction.Read to word)) = inl refl
  performed-performs (Some (instruction.Write word n)) = inl refl
  performed-performs (Some (instruction.Update to word op n)) =
      updated-performs to word (made_of op (slice_index c.words word.number) (value_of p n))
  performed-performs (Some (instruction.CompareExchange to word expected new)) =
      let old = slice_index c.words word.number in
      updated-performs to word (Some (if old == value_of p expected then value_of p new else old))
  performed-performs (Some (instruction.Await word op n)) =
      where_free-performs c.machine (is_set (made_of op (slice_index c.words word.number) (value_of p n))) (Does c (advanced p))
      (λ _. inl refl)
  performed-performs (Some instruction.AwaitOthers) =
      where_free-performs c.machine (unended test.codes c.threads == 1) (Does c (advanced p)) (λ _. inl refl)
  performed-performs (Some (instruction.Lock key other)) =
      where_free-performs c.machine (free key && free other)
      (Does c (advanced (locking test other.number (locking test key.number p)))) (λ _. inl refl)
  performed-performs (Some instruction.Unlock) = inl refl
  performed-performs (Some (instruction.Park key v token when target)) =
      where_free-performs c.machine (free key && is_running (c.machine.status thread))
      (parked c thread p key (is_valid c p v) (value_of p token) (is_timed_by when) target)
      (λ both. parked-performs p key (is_valid c p v) (value_of p token) (is_timed_by when) target
      (right_of (free key) (is_running (c.machine.status thread)) both))
  performed-performs (Some (instruction.Sleep to last target)) =
      sleeping-performs to last target (c.machine.status thread) refl
  performed-performs (Some instruction.GiveUp) = giving_up-performs (c.machine.status thread) refl
  performed-performs (Some (instruction.UnparkOne key token)) =
      let after = unparked_by key (split_first (c.machine.lists key.number)) token in
      where_free-performs c.machine (free key) (Does (with_machine c after) (advanced (unlocked p)))
      (λ _. inr (
        Unpark (One key.number (record { 0 = value_of p token })),
        answer.Unpark (result_of (split_first (c.machine.lists key.number))),
        (refl, refl),
      ))
  performed-performs (Some (instruction.UnparkAll key token)) =
      let after = unparked_by key (split_all (c.machine.lists key.number)) token in
      where_free-performs c.machine (free key) (Does (with_machine c after) (advanced (unlocked p)))
      (λ _. inr (
        Unpark (All key.number (record { 0 = value_of p token })),
        answer.Count (length (split_all (c.machine.lists key.number)).taken),
        (refl, refl),
      ))
  performed-performs (Some (instruction.UnparkFilter key chosen token)) =
      let after = unparked_by key (split_filter (decisions_on (value_of p chosen)) (c.machine.lists key.number)) token in
      where_free-performs c.machine (free key) (Does (with_machine c after) (advanced (unlocked p)))
      (λ _. inr (
        Unpark (Filter key.number (decisions like (value_of p chosen)) (record { 0 = value_of p token })),
        answer.Unpark (result_of (split_filter (decisions_on (value_of p chosen)) (c.machine.lists key.number))),
        (refl, refl),
      ))
  performed-performs (Some (instruction.Requeue key other move token)) =
      let after : Machine =
      after_requeue c.machine key.number other.number (split_by (requeue_of move) (c.machine.lists key.number))
      (record { 0 = value_of p token }) in
      where_free-performs c.machine (free key && free other) (Does (with_machine c after) (advanced (unlocked p)))
      (λ _. inr (
        Unpark (Requeue key.number other.number (requeue_of move) (record { 0 = value_of p token })),
        answer.Unpark (requeue_result (requeue_of move) (split_by (requeue_of move) (c.machine.lists key.number))),
        (refl, refl),
      ))
  performed-performs (Some (instruction.Compute to op first second)) = inl refl
  performed-performs (Some (instruction.Jump target)) = inl refl
  performed-performs (Some (instruction.JumpUnless n target)) = inl refl
  performed-performs (Some (instruction.Assert n)) = inl refl
  performed-performs (Some (instruction.Enter access)) = inl refl
  performed-performs (Some (instruction.Count to key)) = inl refl
  performed-performs (Some (instruction.Look to key index target)) = inl refl

-- local instructions do not touch the machine
settled_by-is : (m : Machine) (next : Progress → Outcome) (rest : Outcome) (does : Locally)
    → ((p : Progress) → IsMove m (next p)) → IsMove m rest → IsMove m (settled_by next rest does)
settled_by-is m next rest Rests goes stays = stays
settled_by-is m next rest (Advances p) goes stays = goes p
settled_by-is m next rest (Errs fault) goes stays = tt

settled-is : (m : Machine) (more : ℕ) (code : List Instruction) (c : Configuration) (thread : ℕ) (p : Progress)
    → IsSameOrStep m c.machine → IsMove m (settled more code c thread p)
settled-is m zero code c thread p moves = tt
settled-is m (suc more) code c thread p moves =
    settled_by-is m (settled more code (with_progress c thread p) thread) (Goes (with_progress c thread p))
    (local_step (with_progress c thread p) p (slice_get code p.at))
    (λ q. settled-is m more code (with_progress c thread p) thread q moves) moves

then_settled-is : (m : Machine) (code : List Instruction) (thread : ℕ) (does : Performed) → Performs m does
    → IsMove m (then_settled code thread does)
then_settled-is m code thread Cannot performs = tt
then_settled-is m code thread (Does c p) performs = settled-is m local_bound code c thread p performs
then_settled-is m code thread (Mistakes fault) performs = tt

pub stepped-is : (test : Test) (c : Configuration) (thread : ℕ) → IsConsistent c.machine
    → IsMove c.machine (stepped test c thread)
stepped-is test c thread consistent = each (slice_get test.codes thread) (slice_get c.threads thread)
  where
    each : (code : Option Code) (p : Option Progress) → IsMove c.machine (stepped_in test c thread code p)
    each (Some code) (Some p) =
        then_settled-is c.machine code.instructions.items thread _
        (performed-performs test c thread p code.instructions consistent (slice_get code.instructions.items p.at))
    each None p = tt
    each (Some code) None = tt

-- and steps keep the machine consistent
abbrev pub KeepsOutcome : Outcome → Type 0
KeepsOutcome Blocked = Unit {0}
KeepsOutcome (Goes c) = IsConsistent c.machine
KeepsOutcome (Fails fault) = Unit {0}

move-keeps : (m : Machine) (outcome : Outcome) → IsConsistent m → IsMove m outcome → KeepsOutcome outcome
move-keeps m Blocked consistent is = tt
move-keeps m (Goes c) consistent is =
    ⊎_elim (λ (same : c.machine ≡ m). subst IsConsistent (sym same) consistent)
    (λ (steps : (step : Step) × (given : Answer) × IsStep m step given c.machine).
    IsConsistent-step m steps.0 steps.1 c.machine consistent steps.2) is
move-keeps m (Fails fault) consistent is = tt

pub stepped-keeps : (test : Test) (c : Configuration) (thread : ℕ) → IsConsistent c.machine
    → KeepsOutcome (stepped test c thread)
stepped-keeps test c thread consistent =
    move-keeps c.machine (stepped test c thread) consistent (stepped-is test c thread consistent)

-- and so it is at the beginning, where six threads run
pub first_machine-consistent : IsConsistent (first_machine 6)
first_machine-consistent = (
  λ _. 0,
  record {
    standing = λ number. nowhere number (nat_lt number 6);
    timing = λ key. All-nil (λ waiter. waiter.timed ≡ is_timed ((first_machine 6).status waiter.number));
    others_free = λ number past. free number past;
    free_of_records = λ number key is_free. refl;
  },
)
  where
    nowhere : (number : ℕ) (b : Bool)
        → MatchBool (is_queued (if b then status.Running else status.Free)) (StandsAt (first_machine 6) number 0)
        ((k : ℕ) → times_in number ((first_machine 6).lists k) ≡ 0)
    nowhere number true = λ k. refl
    nowhere number false = λ k. refl

    free : (number : ℕ) → 6 ≤ number → (if nat_lt number 6 then status.Running else status.Free) ≡ status.Free
    free number past = cond-false (nat_lt number 6) status.Running status.Free (le-ltb number 6 past)

-- wherever a schedule leads, the machine is consistent, and the next step is one of its steps
ran-keeps : (test : Test) (c : Configuration) (schedule : List ℕ) → IsConsistent c.machine
    → KeepsOutcome (run test c schedule)
ran-keeps test c [] consistent = consistent
ran-keeps test c (thread ∷ threads) consistent =
    onward (λ next. ran-keeps test next threads) (stepped test c thread) (stepped-keeps test c thread consistent)
  where
    onward : ((next : Configuration) → IsConsistent next.machine → KeepsOutcome (run test next threads))
        → (outcome : Outcome) → KeepsOutcome outcome
        → KeepsOutcome (after_step (λ next. run test next threads) c outcome)
    onward later Blocked keeps = later c consistent
    onward later (Goes next) keeps = later next keeps
    onward later (Fails fault) keeps = tt

pub steps-are : StepsAreOfTheMachine
steps-are test schedule c thread ran =
    stepped-is test c thread
    (subst KeepsOutcome ran (ran-keeps test (first_of test) schedule first_machine-consistent))
