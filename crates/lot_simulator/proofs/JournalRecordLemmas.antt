-- A record before and after a step.
use Rattle.std.proofs.Common.{◌≡◌, ◌≢◌, ℕ, ◌+◌, ◌≤◌, ◌<◌, [], ◌∷◌, ◌++◌, length, List, refl, sym, ap, ◌∙◌, subst, arith}
use Rattle.std.specs.Prelude.{Ok}
use Rattle.std.proofs.Common.{replicate, ⊎_elim, length-append, append-nil, Bool, true, false, if◌then◌else◌}
use Rattle.std.proofs.lemmas.Bool.{cases_lt, false≢true}
use Rattle.std.proofs.lemmas.List.{map-append, length-replicate}
use Rattle.std.proofs.lemmas.List.Sums.{fold-append}
use Rattle.std.specs.List.{sum}
use Rattle.lot_machine.specs.declared.step.Answer.{Answer}
use Rattle.lot_machine.specs.declared.step.Answer.TheVariants as answer
use Rattle.lot_machine.specs.declared.step.Step.{Step}
use Rattle.lot_simulator.specs.LotState.{LotState}
use Rattle.lot_simulator.specs.Lot.{machine}
use Rattle.lot_machine.specs.Machine.{Machine, new_machine, threads_of}
use Rattle.lot_machine.specs.Size.{IsSizeAfter}
use Rattle.lot_machine.specs.Run.{IsRun}
use Rattle.lot_machine.specs.Steps.{IsStep}
use Rattle.lot_machine.proofs.RunLemmas.{IsRun-push}
use Rattle.lot_machine.proofs.StepLemmas.{IsConsistent-new}
use Rattle.lot_simulator.specs.Journal.{journal_steps, journal_answers, Entry, Replays, asides_of, set_aside_by}
use Rattle.lot_simulator.specs.Journal.{with_aside, room_for}
use Rattle.lot_simulator.specs.RecordState.{RecordState}
use Rattle.lot_simulator.specs.Record.{IsRecord, LacksRoom, IsRecorded, aside, result_for, entries_for}
use Rattle.lot_simulator.proofs.JournalLemmas.{Backing, Backing-run, Keeps, IsStep-keeps}

pub entries_for-fitting : (step : Step) (given : Answer) → given ≢ answer.Misfit
    → entries_for step given ≡ (step, given) ∷ []
entries_for-fitting step answer.Misfit fitting = absurd (fitting refl)
entries_for-fitting step _ fitting = refl

pub IsRecorded-result_for : (old : RecordState) (step : Step) (given : Answer) (new : RecordState)
    → (LacksRoom old step → ⊥) → IsStep (machine old.lot) step given (machine new.lot)
    → new.journal ≡ old.journal ++ entries_for step given → new.capacity ≡ old.capacity
    → IsSizeAfter step given (threads_of (machine new.lot)) (length old.lot.buckets) (length new.lot.buckets)
    → IsRecorded old step (result_for given) new
IsRecorded-result_for old step answer.NoMemory new roomy does journal capacity size =
    (roomy, answer.NoMemory, refl, does, journal, capacity, size)
IsRecorded-result_for old step given new roomy does journal capacity size =
    (roomy, given, refl, does, journal, capacity, size)

abbrev pub record_of : LotState → List Entry → ℕ → RecordState
record_of lot journal capacity = record { lot = lot; journal = journal; capacity = capacity }

-- a record of which the code answers that it does not lack room
pub has_room : (state seen : RecordState) (step : Step) → state ≡ seen → (LacksRoom seen step → false ≡ true)
    → LacksRoom state step → ⊥
has_room state seen step same answers lacks =
    false≢true (answers (subst (λ record_. LacksRoom record_ step) same lacks))

pub journal-pushed : (old new : List Entry) (entry : Entry) (is_done : Bool)
    → new ≡ (if is_done then old ++ entry ∷ [] else old) → is_done ≡ true → new ≡ old ++ entry ∷ []
journal-pushed old new entry is_done is done =
    is ∙ ap (λ b. if b then old ++ entry ∷ [] else old) done

-- what a journal sets aside covers what its threads may still do, and so does a record's
pub Replays-backing : (max_threads : ℕ) (journal : List Entry) (m : Machine) → Replays max_threads journal m
    → Backing m (asides_of max_threads journal)
Replays-backing max_threads journal m ran =
    Backing-run journal (new_machine max_threads) (replicate max_threads 0) m (record {
      consistent = IsConsistent-new max_threads;
      long = length-replicate max_threads 0;
      backed = λ _. tt;
    }) ran

pub IsRecord-backing : (state : RecordState) → IsRecord state
    → Backing (machine state.lot) (asides_of (machine state.lot).max_threads state.journal)
IsRecord-backing state is =
    Replays-backing (machine state.lot).max_threads state.journal (machine state.lot) is.replays

module _ (old : RecordState) (is : IsRecord old) (step : Step) (given : Answer) (lot : LotState)
    (does : IsStep (machine old.lot) step given (machine lot)) where
  abbrev backing : Backing (machine old.lot) (asides_of (machine old.lot).max_threads old.journal)
  backing = IsRecord-backing old is

  pub keeps : Keeps (machine old.lot) (asides_of (machine old.lot).max_threads old.journal) step (machine lot) given
  keeps = IsStep-keeps (machine old.lot) given (machine lot) (asides_of (machine old.lot).max_threads old.journal)
      backing.consistent.0 backing.consistent.1 backing.long backing.backed step does

  -- the record with the step's entry
  abbrev pub pushed : RecordState
  pushed = record_of lot (old.journal ++ (step, given) ∷ []) old.capacity

  pub asides_of-pushed : asides_of (machine lot).max_threads pushed.journal
      ≡ with_aside (asides_of (machine old.lot).max_threads old.journal) (set_aside_by step given)
  asides_of-pushed =
      ap (λ max. asides_of max pushed.journal) keeps.max_threads
      ∙ fold-append (λ now entry. with_aside now (set_aside_by entry.0 entry.1))
      (replicate (machine old.lot).max_threads 0) old.journal ((step, given) ∷ [])

  pub IsRecord-pushed : (LacksRoom old step → ⊥) → given ≢ answer.Misfit → IsRecord pushed
  IsRecord-pushed roomy fitting = record {
    replays = replays;
    room = room;
    capacity = is.capacity;
  }
    where
      max : ℕ
      max = (machine old.lot).max_threads

      replays : Replays (machine lot).max_threads pushed.journal (machine lot)
      replays =
          subst (λ n. Replays n pushed.journal (machine lot)) (sym keeps.max_threads)
          (subst (λ steps. IsRun IsStep (new_machine max) steps (journal_answers pushed.journal) (machine lot))
          (sym (map-append (λ entry. entry.0) old.journal ((step, given) ∷ [])))
          (subst (λ answers. IsRun IsStep (new_machine max) (journal_steps old.journal ++ step ∷ []) answers (machine lot))
          (sym (map-append (λ entry. entry.1) old.journal ((step, given) ∷ [])))
          (IsRun-push IsStep (new_machine max) (journal_steps old.journal) (journal_answers old.journal) (machine old.lot)
          (machine lot)
          step given is.replays does)))

      room : length pushed.journal + aside pushed ≤ old.capacity
      room =
          let fits : room_for step + (length old.journal + aside old) ≤ old.capacity =
          ⊎_elim (λ (lacks : old.capacity < length old.journal + aside old + room_for step).
          absurd (roomy (keeps.fitting fitting, lacks)))
          (λ (enough : length old.journal + aside old + room_for step ≤ old.capacity). omega (arith, enough))
          (cases_lt old.capacity (length old.journal + aside old + room_for step)) in
          let longer = length-append old.journal ((step, given) ∷ []) in
          let taken = keeps.room fitting in
          let left = ap sum asides_of-pushed in
          omega (arith, fits, longer, taken, left)

  -- the record that has this journal
  pub IsRecord-grown : (LacksRoom old step → ⊥) → given ≢ answer.Misfit → (journal : List Entry)
      → journal ≡ pushed.journal
      → IsRecord (record_of lot journal old.capacity)
  IsRecord-grown roomy fitting journal same =
      subst (λ entries. IsRecord (record_of lot entries old.capacity)) (sym same)
      (IsRecord-pushed roomy fitting)

  pub IsRecorded-grown : (LacksRoom old step → ⊥) → given ≢ answer.Misfit → (journal : List Entry)
      → journal ≡ pushed.journal
      → IsSizeAfter step given (threads_of (machine lot)) (length old.lot.buckets) (length lot.buckets)
      → IsRecorded old step (result_for given) (record_of lot journal old.capacity)
  IsRecorded-grown roomy fitting journal same size =
      IsRecorded-result_for old step given (record_of lot journal old.capacity) roomy does
      (same ∙ ap (λ entries. old.journal ++ entries) (sym (entries_for-fitting step given fitting))) refl size

  -- a step that does not fit leaves the record as it was
  pub IsRecord-misfit : given ≡ answer.Misfit → IsRecord (record_of lot old.journal old.capacity)
  IsRecord-misfit misfit = record {
    replays = subst (λ m. Replays m.max_threads old.journal m) (sym (keeps.same misfit)) is.replays;
    room = subst (λ m. length old.journal + sum (asides_of m.max_threads old.journal) ≤ old.capacity)
        (sym (keeps.same misfit)) is.room;
    capacity = is.capacity;
  }

  pub asides_of-misfit : given ≡ answer.Misfit
      → asides_of (machine old.lot).max_threads old.journal ≡ asides_of (machine lot).max_threads old.journal
  asides_of-misfit misfit = ap (λ m. asides_of m.max_threads old.journal) (sym (keeps.same misfit))

  pub IsRecorded-misfit : (LacksRoom old step → ⊥) → given ≡ answer.Misfit
      → IsSizeAfter step given (threads_of (machine lot)) (length old.lot.buckets) (length lot.buckets)
      → IsRecorded old step (Ok answer.Misfit) (record_of lot old.journal old.capacity)
  IsRecorded-misfit roomy misfit size = (
    roomy,
    answer.Misfit,
    refl,
    subst (λ told. IsStep (machine old.lot) step told (machine lot)) misfit does,
    sym (append-nil old.journal),
    refl,
    subst (λ told. IsSizeAfter step told (threads_of (machine lot)) (length old.lot.buckets) (length lot.buckets)) misfit
        size,
  )
