-- What a journal sets aside covers what its threads may still do.
use Rattle.std.proofs.Common.{◌≡◌, ◌≢◌, ℕ, ◌+◌, ◌<◌, ◌≤◌, Bool, true, false, MatchBool, List, [], ◌∷◌, length}
use Rattle.std.proofs.Common.{Some, None, refl, sym, ap, ◌∙◌, subst, arith, ⊎_elim}
use Rattle.std.proofs.Common.{slice_set, slice_index_or}
use Rattle.std.specs.Prelude.{⊤}
use Rattle.std.proofs.lemmas.Bool.{cases_eq, false≢true}
use Rattle.std.proofs.lemmas.List.{get_or-set_same, get_or-set_other, length-set}
use Rattle.std.proofs.lemmas.List.Sums.{sum_by-set}
use Rattle.std.specs.List.{fold, sum}
use Rattle.lot_base.specs.Waiting.{with_value, split_first, split_all, split_filter, split_by, Split}
use Rattle.lot_base.specs.declared.token.UnparkToken.{UnparkToken}
use Rattle.lot_base.proofs.ValueLemmas.{with_value-same, with_value-other}
use Rattle.lot_machine.specs.declared.status.Status.{Status}
use Rattle.lot_machine.specs.declared.status.Status.TheVariants as status
use Rattle.lot_machine.specs.declared.step.Answer.{Answer}
use Rattle.lot_machine.specs.declared.step.Answer.TheVariants as answer
use Rattle.lot_machine.specs.declared.step.Op.{Op}
use Rattle.lot_machine.specs.declared.step.Op.TheVariants.{One, All, Filter, Requeue}
use Rattle.lot_machine.specs.declared.step.Step.{Step}
use Rattle.lot_machine.specs.declared.step.Step.TheVariants.{Register, Retire, Enter, Unpark, Deadline}
use Rattle.lot_machine.specs.declared.step.Step.TheVariants.{Resolve, Return, Acquire, Release, Trim}
use Rattle.lot_machine.specs.Machine.{Machine, Waiter, MatchesStatus, IsConsistent, times_in, statuses_with_taken}
use Rattle.lot_machine.specs.Status.{is_queued, is_running, is_taken, awaits_deadline, can_resolve}
use Rattle.lot_machine.specs.Steps.{Gives, IsRegister, IsUnpark, IsReturn, IsResolve, IsAcquire, IsTrim, IsStep}
use Rattle.lot_machine.specs.Run.{IsRun}
use Rattle.lot_machine.proofs.StandingLemmas.{is_queued-standing}
use Rattle.lot_machine.proofs.MachineLemmas.{below_max_threads}
use Rattle.lot_machine.proofs.SplitLemmas.{AreParts, AreParts-first, AreParts-all, AreParts-filter, AreParts-by}
use Rattle.lot_machine.proofs.StepLemmas.{MatchBool-either, Running-from, Waiting-from, IsConsistent-step}
use Rattle.lot_machine.proofs.WaiterLemmas.{statuses_with_taken-other, statuses_with_taken-among}
use Rattle.lot_simulator.specs.Journal.{Entry, journal_steps, journal_answers, fits, set_aside_by, with_aside, room_for}

-- as much is set aside for a thread of this status as its park may still take
abbrev pub IsBacked : Status → ℕ → Type 0
IsBacked (status.Waiting timed) entries = MatchBool timed (entries ≡ 2) (1 ≤ entries)
IsBacked status.Late entries = 1 ≤ entries
IsBacked (status.Taken token) entries = 1 ≤ entries
IsBacked _ entries = ⊤

abbrev pub AreBacked : (ℕ → Status) → List ℕ → Type 0
AreBacked statuses asides = (number : ℕ) → IsBacked (statuses number) (slice_index_or asides number 0)

IsBacked-queued : (s : Status) (entries : ℕ) → is_queued s ≡ true → IsBacked s entries → 1 ≤ entries
IsBacked-queued (status.Waiting true) entries queued two = omega (arith, two)
IsBacked-queued (status.Waiting false) entries queued some = some
IsBacked-queued status.Late entries queued some = some
IsBacked-queued status.Free entries queued any = absurd (false≢true queued)
IsBacked-queued status.Running entries queued any = absurd (false≢true queued)
IsBacked-queued (status.Taken token) entries queued any = absurd (false≢true queued)

-- another status, for which this is set aside
AreBacked-set : (f : ℕ → Status) (asides : List ℕ) (thread : ℕ) (s : Status) (entries : ℕ) → thread < length asides
    → IsBacked s entries → AreBacked f asides → AreBacked (with_value f thread s) (slice_set asides thread entries)
AreBacked-set f asides thread s entries low own all j =
    ⊎_elim (λ (same : j ≡ thread).
    subst (λ k. IsBacked (with_value f thread s k) (slice_index_or (slice_set asides thread entries) k 0)) (sym same)
    (subst (λ st. IsBacked st (slice_index_or (slice_set asides thread entries) thread 0))
    (sym (with_value-same f thread s thread refl))
    (subst (IsBacked s) (sym (get_or-set_same asides thread entries 0 low)) own)))
    (λ (other : j ≢ thread).
    subst (λ st. IsBacked st (slice_index_or (slice_set asides thread entries) j 0))
    (sym (with_value-other f thread s j other))
    (subst (IsBacked (f j)) (sym (get_or-set_other asides thread j entries 0 other)) (all j)))
    (cases_eq j thread)

-- another status, for which nothing has to be set aside
AreBacked-free : (f : ℕ → Status) (asides : List ℕ) (thread : ℕ) (s : Status) → ((entries : ℕ) → IsBacked s entries)
    → AreBacked f asides → AreBacked (with_value f thread s) asides
AreBacked-free f asides thread s none all j =
    ⊎_elim (λ (same : j ≡ thread).
    subst (λ st. IsBacked st (slice_index_or asides j 0)) (sym (with_value-same f thread s j same)) (none _))
    (λ (other : j ≢ thread).
    subst (λ st. IsBacked st (slice_index_or asides j 0)) (sym (with_value-other f thread s j other)) (all j))
    (cases_eq j thread)

AreBacked-taken : (keys : ℕ → ℕ) (m : Machine) (asides : List ℕ) → MatchesStatus keys m → AreBacked m.status asides
    → (key : ℕ) (split : Split Waiter) (token : UnparkToken) → AreParts split (m.lists key)
    → AreBacked (statuses_with_taken token split.taken m.status) asides
AreBacked-taken keys m asides right all key split token parts j =
    ⊎_elim (λ (none : times_in j split.taken ≡ 0).
    subst (λ st. IsBacked st (slice_index_or asides j 0))
    (sym (statuses_with_taken-other token split.taken m.status j none)) (all j))
    (λ (some : times_in j split.taken ≢ 0).
    subst (λ st. IsBacked st (slice_index_or asides j 0))
    (sym (statuses_with_taken-among token split.taken m.status j some))
    (IsBacked-queued (m.status j) (slice_index_or asides j 0)
    (is_queued-standing keys m j key right.standing (let counted = parts.counts j in omega (arith, counted, some)))
    (all j)))
    (cases_eq (times_in j split.taken) 0)

can_resolve-taken : (s : Status) → is_taken s ≡ true → can_resolve s ≡ true
can_resolve-taken status.Late taken = refl
can_resolve-taken s taken = taken

sum-set : (asides : List ℕ) (thread entries : ℕ) → thread < length asides
    → sum (slice_set asides thread entries) + slice_index_or asides thread 0 ≡ sum asides + entries
sum-set asides thread entries low = sum_by-set (λ x. x) asides thread entries 0 low

-- what a step leaves: the machine and what is set aside fit as before, and there was room for the step's entry; only a
-- step that does not fit is answered so, and it changes nothing
pub record Keeps (m : Machine) (asides : List ℕ) (step : Step) (new : Machine) (given : Answer) : Type 0 where
  pub backed : AreBacked new.status (with_aside asides (set_aside_by step given))
  pub room : given ≢ answer.Misfit → 1 + sum (with_aside asides (set_aside_by step given)) ≤ sum asides + room_for step
  pub max_threads : new.max_threads ≡ m.max_threads
  pub fitting : given ≢ answer.Misfit → fits m step ≡ true
  pub same : given ≡ answer.Misfit → new ≡ m

module _ (m : Machine) (given : Answer) (new : Machine) (asides : List ℕ) (keys : ℕ → ℕ)
    (right : MatchesStatus keys m) (long : length asides ≡ m.max_threads) (backed : AreBacked m.status asides) where
  Keeps-gives : (step : Step) {left : Machine} {expected : Answer} → Keeps m asides step left expected
      → Gives left expected given new → Keeps m asides step new given
  Keeps-gives step {left} keeps (answers, new_is) =
      subst (λ n. Keeps m asides step n given) (sym new_is) (subst (Keeps m asides step left) (sym answers) keeps)

  -- a step that does not fit
  Keeps-misfit : (step : Step) → set_aside_by step answer.Misfit ≡ None → Keeps m asides step m answer.Misfit
  Keeps-misfit step none = record {
    backed = subst (λ change. AreBacked m.status (with_aside asides change)) (sym none) backed;
    room = λ fitting. absurd (fitting refl);
    max_threads = refl;
    fitting = λ fitting. absurd (fitting refl);
    same = λ _. refl;
  }

  below : (thread : ℕ) (s : Status) → m.status thread ≡ s → s ≢ status.Free → thread < length asides
  below thread s is some =
      subst (λ n. thread < n) (sym long) (below_max_threads keys m thread right (λ free. some (sym is ∙ free)))

  -- the end of a park
  Keeps-ended : (step : Step) (thread : ℕ) (told : Answer) (lists : ℕ → List Waiter)
      → set_aside_by step told ≡ Some (thread, 0) → thread < length asides
      → 1 ≤ slice_index_or asides thread 0 → fits m step ≡ true → told ≢ answer.Misfit
      → Keeps m asides step (record m { lists = lists; status = with_value m.status thread status.Running }) told
  Keeps-ended step thread told lists ends low some fitting answered =
      let left = sum-set asides thread 0 low in
      record {
        backed = subst (λ change. AreBacked (with_value m.status thread status.Running) (with_aside asides change))
            (sym ends) (AreBacked-set m.status asides thread status.Running 0 low tt backed);
        room = λ _. subst (λ change. 1 + sum (with_aside asides change) ≤ sum asides + room_for step) (sym ends)
            (omega (arith, left, some));
        max_threads = refl;
        fitting = λ _. fitting;
        same = λ misfit. absurd (answered misfit);
      }

  by_return : (step : Step) (thread : ℕ)
      → ((token : UnparkToken) → set_aside_by step (answer.Unparked token) ≡ Some (thread, 0))
      → set_aside_by step answer.Misfit ≡ None → (is_taken (m.status thread) ≡ true → fits m step ≡ true)
      → (now : Status) → m.status thread ≡ now → IsReturn m thread now given new → Keeps m asides step new given
  by_return step thread ends misfit fitting (status.Taken token) is =
      let some : 1 ≤ slice_index_or asides thread 0 =
      subst (λ st. IsBacked st (slice_index_or asides thread 0)) is (backed thread) in
      Keeps-gives step (Keeps-ended step thread (answer.Unparked token) m.lists (ends token)
      (below thread (status.Taken token) is (λ same. cc)) some (fitting (ap is_taken is)) (λ same. cc))
  by_return step thread ends misfit fitting _ is = Keeps-gives step (Keeps-misfit step misfit)

  by_resolve : (thread : ℕ) (now : Status) → m.status thread ≡ now → IsResolve m thread now given new
      → Keeps m asides (Resolve thread) new given
  by_resolve thread status.Late is = λ (key, stands, gives).
      let some : 1 ≤ slice_index_or asides thread 0 =
      subst (λ st. IsBacked st (slice_index_or asides thread 0)) is (backed thread) in
      Keeps-gives (Resolve thread) (Keeps-ended (Resolve thread) thread _ _ refl
      (below thread status.Late is (λ same. cc)) some (ap can_resolve is) (λ same. cc)) gives
  by_resolve thread now is = by_return (Resolve thread) thread (λ token. refl) refl
      (λ taken. can_resolve-taken (m.status thread) taken) now is

  -- a step that sets nothing aside, and leaves nobody who needs it
  Keeps-quiet : (step : Step) (left : Machine) (told : Answer) → set_aside_by step told ≡ None → room_for step ≡ 1
      → AreBacked left.status asides → left.max_threads ≡ m.max_threads → fits m step ≡ true → told ≢ answer.Misfit
      → Keeps m asides step left told
  Keeps-quiet step left told none one all same fitting answered = record {
    backed = subst (λ change. AreBacked left.status (with_aside asides change)) (sym none) all;
    room = λ _. subst (λ change. 1 + sum (with_aside asides change) ≤ sum asides + room_for step) (sym none)
        (omega (arith, one));
    max_threads = same;
    fitting = λ _. fitting;
    same = λ misfit. absurd (answered misfit);
  }

  by_register : (told : Answer) → IsRegister m told new → Keeps m asides Register new told
  by_register (answer.Registered number) (least, new_is) =
      subst (λ n. Keeps m asides Register n (answer.Registered number)) (sym new_is)
      (Keeps-quiet Register _ _ refl refl (AreBacked-free m.status asides number status.Running (λ _. tt) backed) refl
      refl (λ same. cc))
  by_register answer.Full (_, new_is) =
      subst (λ n. Keeps m asides Register n answer.Full) (sym new_is)
      (Keeps-quiet Register m _ refl refl backed refl refl (λ same. cc))
  by_register answer.NoMemory (_, new_is) =
      subst (λ n. Keeps m asides Register n answer.NoMemory) (sym new_is)
      (Keeps-quiet Register m _ refl refl backed refl refl (λ same. cc))
  by_register _ none = absurd none

  by_acquire : (thread key : ℕ) → is_running (m.status thread) ≡ true → (told : Answer)
      → IsAcquire m thread key told new
      → Keeps m asides (Acquire thread key) new told
  by_acquire thread key runs answer.Recorded new_is =
      subst (λ n. Keeps m asides (Acquire thread key) n answer.Recorded) (sym new_is)
      (Keeps-quiet (Acquire thread key) _ _ refl refl backed refl runs (λ same. cc))
  by_acquire thread key runs answer.NoMemory new_is =
      subst (λ n. Keeps m asides (Acquire thread key) n answer.NoMemory) (sym new_is)
      (Keeps-quiet (Acquire thread key) _ _ refl refl backed refl runs (λ same. cc))
  by_acquire thread key runs _ none = absurd none

  by_trim : (told : Answer) → IsTrim m told new → Keeps m asides Trim new told
  by_trim answer.Trimmed new_is =
      subst (λ n. Keeps m asides Trim n answer.Trimmed) (sym new_is)
      (Keeps-quiet Trim m _ refl refl backed refl refl (λ same. cc))
  by_trim answer.NoMemory new_is =
      subst (λ n. Keeps m asides Trim n answer.NoMemory) (sym new_is)
      (Keeps-quiet Trim m _ refl refl backed refl refl (λ same. cc))
  by_trim _ none = absurd none

  by_unpark : (op : Op) → IsUnpark m op given new → Keeps m asides (Unpark op) new given
  by_unpark (One key token) =
      Keeps-gives (Unpark (One key token)) (Keeps-quiet (Unpark (One key token)) _ _ refl refl
      (AreBacked-taken keys m asides right backed key (split_first (m.lists key)) token (AreParts-first (m.lists key)))
      refl refl (λ same. cc))
  by_unpark (All key token) =
      Keeps-gives (Unpark (All key token)) (Keeps-quiet (Unpark (All key token)) _ _ refl refl
      (AreBacked-taken keys m asides right backed key (split_all (m.lists key)) token (AreParts-all (m.lists key)))
      refl refl (λ same. cc))
  by_unpark (Filter key decisions token) =
      Keeps-gives (Unpark (Filter key decisions token)) (Keeps-quiet (Unpark (Filter key decisions token)) _ _ refl refl
      (AreBacked-taken keys m asides right backed key (split_filter decisions.items (m.lists key)) token
      (AreParts-filter decisions.items (m.lists key))) refl refl (λ same. cc))
  by_unpark (Requeue from to op token) =
      Keeps-gives (Unpark (Requeue from to op token)) (Keeps-quiet (Unpark (Requeue from to op token)) _ _ refl refl
      (AreBacked-taken keys m asides right backed from (split_by op (m.lists from)) token
      (AreParts-by op (m.lists from))) refl refl (λ same. cc))

  -- an entry
  Keeps-entered : (thread key : ℕ) (valid : Bool) (park_token : _) (timed : Bool) (lists : ℕ → List Waiter)
      → valid ≡ true → thread < length asides → is_running (m.status thread) ≡ true
      → Keeps m asides (Enter thread key valid park_token timed)
      (record m { lists = lists; status = with_value m.status thread (status.Waiting timed) }) answer.Entered
  Keeps-entered thread key true park_token true lists is low runs =
      let left = sum-set asides thread 2 low in
      record {
        backed = AreBacked-set m.status asides thread (status.Waiting true) 2 low refl backed;
        room = λ _. omega (arith, left);
        max_threads = refl;
        fitting = λ _. runs;
        same = λ misfit. absurd (let known : answer.Entered ≡ answer.Misfit = misfit in cc);
      }
  Keeps-entered thread key true park_token false lists is low runs =
      let left = sum-set asides thread 1 low in
      record {
        backed = AreBacked-set m.status asides thread (status.Waiting false) 1 low (omega arith) backed;
        room = λ _. omega (arith, left);
        max_threads = refl;
        fitting = λ _. runs;
        same = λ misfit. absurd (let known : answer.Entered ≡ answer.Misfit = misfit in cc);
      }
  Keeps-entered thread key false park_token timed lists is low runs = absurd (false≢true is)

  Keeps-invalid : (thread key : ℕ) (valid : Bool) (park_token : _) (timed : Bool) → valid ≡ false
      → is_running (m.status thread) ≡ true → Keeps m asides (Enter thread key valid park_token timed) m answer.Invalid
  Keeps-invalid thread key false park_token timed is runs =
      Keeps-quiet (Enter thread key false park_token timed) m answer.Invalid refl refl backed refl runs (λ same. cc)
  Keeps-invalid thread key true park_token timed is runs = absurd (false≢true (sym is))

  by_deadline : (thread : ℕ) → awaits_deadline (m.status thread) ≡ true
      → Gives (record m { status = with_value m.status thread status.Late }) answer.Late given new
      → Keeps m asides (Deadline thread) new given
  by_deadline thread waits =
      let is : m.status thread ≡ status.Waiting true = Waiting-from (m.status thread) waits in
      let low : thread < length asides = below thread (status.Waiting true) is (λ same. cc) in
      let two : slice_index_or asides thread 0 ≡ 2 =
      subst (λ st. IsBacked st (slice_index_or asides thread 0)) is (backed thread) in
      let left = sum-set asides thread 1 low in
      Keeps-gives (Deadline thread) (record {
        backed = AreBacked-set m.status asides thread status.Late 1 low (omega arith) backed;
        room = λ _. omega (arith, left, two);
        max_threads = refl;
        fitting = λ _. waits;
        same = λ misfit. absurd (let known : answer.Late ≡ answer.Misfit = misfit in cc);
      })

  pub IsStep-keeps : (step : Step) → IsStep m step given new → Keeps m asides step new given
  IsStep-keeps Register = by_register given
  IsStep-keeps (Retire thread) =
      MatchBool-either (is_running (m.status thread))
      (λ runs. Keeps-gives (Retire thread) (Keeps-quiet (Retire thread) _ _ refl refl
      (AreBacked-free m.status asides thread status.Free (λ _. tt) backed) refl runs (λ same. cc)))
      (λ _. Keeps-gives (Retire thread) (Keeps-misfit (Retire thread) refl))
  IsStep-keeps (Enter thread key valid park_token timed) =
      MatchBool-either (is_running (m.status thread))
      (λ runs. MatchBool-either valid
      (λ is. Keeps-gives (Enter thread key valid park_token timed)
      (Keeps-entered thread key valid park_token timed _ is
      (below thread status.Running (Running-from (m.status thread) runs) (λ same. cc)) runs))
      (λ is. Keeps-gives (Enter thread key valid park_token timed)
      (Keeps-invalid thread key valid park_token timed is runs)))
      (λ _. Keeps-gives (Enter thread key valid park_token timed)
      (Keeps-misfit (Enter thread key valid park_token timed) refl))
  IsStep-keeps (Unpark op) = by_unpark op
  IsStep-keeps (Deadline thread) =
      MatchBool-either (awaits_deadline (m.status thread)) (by_deadline thread)
      (λ _. Keeps-gives (Deadline thread) (Keeps-misfit (Deadline thread) refl))
  IsStep-keeps (Resolve thread) = by_resolve thread (m.status thread) refl
  IsStep-keeps (Return thread) = by_return (Return thread) thread (λ token. refl) refl (λ taken. taken)
      (m.status thread) refl
  IsStep-keeps (Acquire thread key) =
      MatchBool-either (is_running (m.status thread)) (λ runs. by_acquire thread key runs given)
      (λ _. Keeps-gives (Acquire thread key) (Keeps-misfit (Acquire thread key) refl))
  IsStep-keeps (Release thread key) =
      MatchBool-either (is_running (m.status thread))
      (λ runs. Keeps-gives (Release thread key)
      (Keeps-quiet (Release thread key) _ _ refl refl backed refl runs (λ same. cc)))
      (λ _. Keeps-gives (Release thread key) (Keeps-misfit (Release thread key) refl))
  IsStep-keeps Trim = by_trim given

length-with_aside : (asides : List ℕ) (change : _) → length (with_aside asides change) ≡ length asides
length-with_aside asides None = refl
length-with_aside asides (Some (thread, entries)) = length-set asides thread entries

-- a consistent machine, and what is set aside for its threads
pub record Backing (m : Machine) (asides : List ℕ) : Type 0 where
  pub consistent : IsConsistent m
  pub long : length asides ≡ m.max_threads
  pub backed : AreBacked m.status asides

pub Backing-run : (journal : List Entry) (m : Machine) (asides : List ℕ) (last : Machine) → Backing m asides
    → IsRun IsStep m (journal_steps journal) (journal_answers journal) last
    → Backing last (fold (λ now entry. with_aside now (set_aside_by entry.0 entry.1)) asides journal)
Backing-run [] m asides last backing ran = subst (λ n. Backing n asides) ran backing
Backing-run (entry ∷ journal) m asides last backing (next, does, ran) =
    let keeps = IsStep-keeps m entry.1 next asides backing.consistent.0 backing.consistent.1 backing.long
    backing.backed entry.0 does in
    Backing-run journal next (with_aside asides (set_aside_by entry.0 entry.1)) last (record {
      consistent = IsConsistent-step m entry.0 entry.1 next backing.consistent does;
      long = length-with_aside asides (set_aside_by entry.0 entry.1) ∙ backing.long ∙ sym keeps.max_threads;
      backed = keeps.backed;
    }) ran
