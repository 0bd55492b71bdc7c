-- The totals of a journal.
use Rattle.std.proofs.Common.{◌≡◌, ℕ, zero, suc, ◌+◌, ◌≤◌, Bool, true, false, cond, List, [], ◌∷◌, ◌++◌, length, refl}
use Rattle.std.proofs.Common.{sym, ap, ◌∙◌, subst, arith, ⊎_elim, slice_index_or}
use Rattle.std.proofs.lemmas.Bool.{cases_Bool, false≢true}
use Rattle.std.proofs.lemmas.List.{map-append, length-append}
use Rattle.std.proofs.lemmas.List.Sums.{sum_by-append, sum_by-cons}
use Rattle.std.specs.Prelude.{Result, Ok, Err}
use Rattle.std.specs.List.{count_by, range_with_len, sum, sum_by}
use Rattle.lot_machine.specs.declared.status.Status.{Status}
use Rattle.lot_machine.specs.declared.status.Status.TheVariants as status
use Rattle.lot_machine.specs.declared.step.Answer.{Answer}
use Rattle.lot_machine.specs.declared.step.Answer.TheVariants as answer
use Rattle.lot_machine.specs.declared.step.Step.{Step}
use Rattle.lot_simulator.specs.Lot.{machine}
use Rattle.lot_machine.specs.Machine.{Machine, new_machine}
use Rattle.lot_machine.specs.Status.{is_taken}
use Rattle.lot_machine.specs.Totals.{unparked_by, returned_by, taken_threads_of}
use Rattle.lot_machine.proofs.StepLemmas.{IsConsistent-new}
use Rattle.lot_machine.proofs.TotalLemmas.{IsRun-balances}
use Rattle.lot_simulator.specs.declared.record.RecordError.{RecordError}
use Rattle.lot_simulator.specs.declared.record.RecordError.TheVariants as refused
use Rattle.lot_simulator.specs.Journal.{Entry, journal_steps, journal_answers, asides_of, woken_in, unparked_total}
use Rattle.lot_simulator.specs.JournalLaws.{UnparkedAreWokenOrTaken, TotalsHaveRoom}
use Rattle.lot_simulator.specs.RecordState.{RecordState}
use Rattle.lot_simulator.specs.Record.{IsRecorded, result_for, entries_for}
use Rattle.lot_simulator.specs.TicketState.{count_of, woken_of, unparked_of}
use Rattle.lot_simulator.proofs.JournalLemmas.{IsBacked, Backing}
use Rattle.lot_simulator.proofs.JournalRecordLemmas.{IsRecord-backing}

count_by-none : (a n : ℕ) → count_by (λ _. false) (range_with_len a n) ≡ 0
count_by-none a zero = refl
count_by-none a (suc n) =
    let first = sum_by-cons (λ _. 0) a (range_with_len (a + 1) n) in
    omega (arith, first, count_by-none (a + 1) n)

pub unparked_are_woken_or_taken : UnparkedAreWokenOrTaken
unparked_are_woken_or_taken max_threads journal m ran =
    let balance = IsRun-balances (new_machine max_threads) (journal_steps journal) (journal_answers journal) m
    (IsConsistent-new max_threads) ran in
    let none = count_by-none 0 max_threads in
    omega (arith, balance, none)

woken_in-le : (journal : List Entry) → woken_in journal ≤ length journal
woken_in-le [] = omega arith
woken_in-le (entry ∷ journal) =
    let first = sum_by-cons returned_by entry.1 (journal_answers journal) in
    omega (arith, first, woken_in-le journal, one entry.1)
  where
    one : (given : Answer) → returned_by given ≤ 1
    one (answer.Unparked token) = omega arith
    one _ = omega arith

-- numbers that pass a test are at most a sum in which each of them has a share
count_by-le-sum : (p : ℕ → Bool) (a : ℕ) (xs : List ℕ)
    → ((j : ℕ) → p (a + j) ≡ true → 1 ≤ slice_index_or xs j 0)
    → count_by p (range_with_len a (length xs)) ≤ sum xs
count_by-le-sum p a [] shares = omega arith
count_by-le-sum p a (x ∷ xs) shares =
    let first = sum_by-cons (λ n. cond (p n) 1 0) a (range_with_len (a + 1) (length xs)) in
    let head = sum_by-cons (λ n. n) x xs in
    let behind = count_by-le-sum p (a + 1) xs (λ j passes.
    shares (suc j) (subst (λ n. p n ≡ true) (later j) passes)) in
    ⊎_elim (λ (passes : p a ≡ true).
    let own = shares zero (subst (λ n. p n ≡ true) first_of passes) in
    omega (arith, first, head, behind, own, ap {B = ℕ} (λ b. cond b 1 0) passes))
    (λ (fails : p a ≡ false). omega (arith, first, head, behind, ap {B = ℕ} (λ b. cond b 1 0) fails))
    (cases_Bool (p a))
  where
    later : (j : ℕ) → a + 1 + j ≡ a + suc j
    later j = omega arith

    first_of : a ≡ a + zero
    first_of = omega arith

taken_threads_of-le : (m : Machine) (asides : List ℕ) → Backing m asides → taken_threads_of m ≤ sum asides
taken_threads_of-le m asides backing =
    subst (λ n. count_by (λ number. is_taken (m.status number)) (range_with_len 0 n) ≤ sum asides) backing.long
    (count_by-le-sum (λ number. is_taken (m.status number)) 0 asides
    (λ j taken. shares (m.status j) (slice_index_or asides j 0) (backing.backed j)
    (subst (λ n. is_taken (m.status n) ≡ true) (from_zero j) taken)))
  where
    from_zero : (j : ℕ) → 0 + j ≡ j
    from_zero j = omega arith

    shares : (s : Status) (entries : ℕ) → IsBacked s entries → is_taken s ≡ true → 1 ≤ entries
    shares (status.Taken token) entries some taken = some
    shares status.Free entries any taken = absurd (false≢true taken)
    shares status.Running entries any taken = absurd (false≢true taken)
    shares (status.Waiting timed) entries any taken = absurd (false≢true taken)
    shares status.Late entries any taken = absurd (false≢true taken)

pub totals_have_room : TotalsHaveRoom
totals_have_room state is =
    let all = unparked_are_woken_or_taken (machine state.lot).max_threads state.journal (machine state.lot)
    is.replays in
    let taken = taken_threads_of-le (machine state.lot)
    (asides_of (machine state.lot).max_threads state.journal) (IsRecord-backing state is) in
    let woken = woken_in-le state.journal in
    let room = is.room in
    (omega (arith, room), omega (arith, woken, room), omega (arith, all, taken, woken, room))

-- what a step adds to the totals is what its caller is told
pub record AddsWhatIsTold (old : RecordState) (result : Result Answer RecordError) (new : RecordState) : Type 0 where
  pub count : length new.journal ≡ length old.journal + count_of result
  pub woken : woken_in new.journal ≡ woken_in old.journal + woken_of result
  pub unparked : unparked_total new.journal ≡ unparked_total old.journal + unparked_of result

length-entries_for : (step : Step) (given : Answer) → length (entries_for step given) ≡ count_of (result_for given)
length-entries_for step answer.Misfit = refl
length-entries_for step answer.NoMemory = refl
length-entries_for step _ = refl

woken-entries_for : (step : Step) (given : Answer) → woken_in (entries_for step given) ≡ woken_of (result_for given)
woken-entries_for step answer.Misfit = refl
woken-entries_for step answer.NoMemory = refl
woken-entries_for step _ = omega arith

unparked-entries_for : (step : Step) (given : Answer)
    → unparked_total (entries_for step given) ≡ unparked_of (result_for given)
unparked-entries_for step answer.Misfit = refl
unparked-entries_for step answer.NoMemory = refl
unparked-entries_for step _ = omega arith

sum-journal : (f : Answer → ℕ) (old more : List Entry)
    → sum_by f (journal_answers (old ++ more)) ≡ sum_by f (journal_answers old) + sum_by f (journal_answers more)
sum-journal f old more =
    ap (sum_by f) (map-append (λ entry. entry.1) old more)
    ∙ sum_by-append f (journal_answers old) (journal_answers more)

module _ (old : RecordState) (step : Step) (new : RecordState) where
  -- a step that was done
  AddsWhatIsTold-done : (given : Answer) → new.journal ≡ old.journal ++ entries_for step given
      → AddsWhatIsTold old (result_for given) new
  AddsWhatIsTold-done given journal = record {
    count =
        let longer = ap length journal ∙ length-append old.journal (entries_for step given) in
        omega (arith, longer, length-entries_for step given);
    woken =
        let more = ap woken_in journal ∙ sum-journal returned_by old.journal (entries_for step given) in
        omega (arith, more, woken-entries_for step given);
    unparked =
        let more = ap unparked_total journal ∙ sum-journal unparked_by old.journal (entries_for step given) in
        omega (arith, more, unparked-entries_for step given);
  }

  pub IsRecorded-adds : (result : Result Answer RecordError) → IsRecorded old step result new
      → AddsWhatIsTold old result new
  IsRecorded-adds (Err refused.JournalFull) (lacks, same) = record {
    count = ap (λ state. length state.journal) same ∙ omega arith;
    woken = ap (λ state. woken_in state.journal) same ∙ omega arith;
    unparked = ap (λ state. unparked_total state.journal) same ∙ omega arith;
  }
  IsRecorded-adds (Err refused.NoMemory) (roomy, given, is, does, journal, capacity, size) =
      subst (λ result. AddsWhatIsTold old result new) (sym is) (AddsWhatIsTold-done given journal)
  IsRecorded-adds (Ok answered) (roomy, given, is, does, journal, capacity, size) =
      subst (λ result. AddsWhatIsTold old result new) (sym is) (AddsWhatIsTold-done given journal)
