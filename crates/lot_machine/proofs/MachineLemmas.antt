-- That each rule keeps lists and records as the statuses say.
use Rattle.std.proofs.Common.{◌≡◌, ◌≢◌, ℕ, ◌==◌, ◌<◌, ◌≤◌, Bool, true, false, List, [], ◌∷◌}
use Rattle.std.proofs.Common.{◌++◌, length, get_or, All, refl, sym, ap, ◌∙◌, subst, ⊎_elim, ◌⊎◌, inl, arith}
use Rattle.std.proofs.lemmas.Bool.{cases_eq, cases_lt, MatchBool-at_false}
use Rattle.std.proofs.lemmas.Bool.{false≢true}
use Rattle.std.proofs.lemmas.List.Elements.{All-append, All-nil, All-cons}
use Rattle.lot_base.specs.declared.token.ParkToken.{ParkToken}
use Rattle.lot_base.specs.declared.token.UnparkToken.{UnparkToken}
use Rattle.lot_base.specs.Waiting.{with_value, Split}
use Rattle.lot_base.proofs.RemoveLemmas.{All-without_first}
use Rattle.lot_base.proofs.ValueLemmas.{with_value-same, with_value-other}
use Rattle.lot_machine.specs.declared.status.Status.{Status}
use Rattle.lot_machine.specs.declared.status.Status.TheVariants.{Free, Running, Waiting}
use Rattle.lot_machine.specs.Status.{is_queued, is_timed}
use Rattle.lot_machine.specs.Machine.{Waiter, Machine, StandsAt, MatchesStatus, times_in}
use Rattle.lot_machine.specs.Machine.{with_status, with_records, after_enter, after_requeue, after_unpark}
use Rattle.lot_machine.specs.Machine.{list_without, after_timeout}
use Rattle.lot_machine.proofs.SplitLemmas.{AreParts}
use Rattle.lot_machine.proofs.WaiterLemmas.{statuses_with_taken-other}
use Rattle.lot_machine.proofs.WaiterLemmas.{statuses_with_taken-among, All-among, length-le_from_numbers}
use Rattle.lot_machine.proofs.StandingLemmas.{with_thread, with_thread-status, with_thread-records, Standing}
use Rattle.lot_machine.proofs.StandingLemmas.{is_queued-standing, StandsAt-standing, StandsByStatus-same}
use Rattle.lot_machine.proofs.StandingLemmas.{Standing-with_status, Standing-after_enter, Standing-after_requeue}
use Rattle.lot_machine.proofs.StandingLemmas.{Standing-after_timeout, after_requeue-after_unpark}

-- a number that is not free is below the greatest number of threads
pub below_max_threads : (keys : ℕ → ℕ) (m : Machine) (number : ℕ) → MatchesStatus keys m → m.status number ≢ Free
    → number < m.max_threads
below_max_threads keys m number right registered =
    ⊎_elim (λ (low : number < m.max_threads). low)
    (λ (high : m.max_threads ≤ number). absurd (registered (right.others_free number high)))
    (cases_lt number m.max_threads)

-- a waiter is timed as its thread waits
abbrev IsTimedAs : (ℕ → Status) → Waiter → Type 0
IsTimedAs status waiter = waiter.timed ≡ is_timed (status waiter.number)

-- other statuses, by which each thread that stands in a list waits as before
All-timed : (keys : ℕ → ℕ) (m : Machine) (before after : ℕ → Status) → Standing keys m
    → ((j : ℕ) → is_queued (m.status j) ≡ true → is_timed (before j) ≡ is_timed (after j)) → (k : ℕ)
    → All (IsTimedAs before) (m.lists k) → All (IsTimedAs after) (m.lists k)
All-timed keys m before after right same k timed i d low =
    let waiter : Waiter = get_or (m.lists k) i d in
    timed i d low ∙ same waiter.number (is_queued-standing keys m waiter.number k right (All-among (m.lists k) i d low))

-- what holds of all waiters of all lists, one of which is another
All-with_value : (P : Waiter → Type 0) (lists : ℕ → List Waiter) (key : ℕ) (list : List Waiter)
    → ((k : ℕ) → All P (lists k)) → All P list → (k : ℕ) → All P (with_value lists key list k)
All-with_value P lists key list all here k =
    ⊎_elim (λ (same : k ≡ key). subst (All P) (sym (with_value-same lists key list k same)) here)
    (λ (other : k ≢ key). subst (All P) (sym (with_value-other lists key list k other)) (all k))
    (cases_eq k key)

-- a number that is free once one has another status was free before
free_before : (before : ℕ → Status) (number : ℕ) (status : Status) (j : ℕ) → status ≢ Free
    → with_value before number status j ≡ Free → before j ≡ Free
free_before before number status j other free =
    ⊎_elim (λ (same : j ≡ number). absurd (other (sym (with_value-same before number status j same) ∙ free)))
    (λ (apart : j ≢ number). sym (with_value-other before number status j apart) ∙ free)
    (cases_eq j number)

-- a number has another status, with which it stands and is timed as before, and other records
pub MatchesStatus-with_thread : (keys after : ℕ → ℕ) (m : Machine) (number : ℕ) (status : Status)
    (records : ℕ → ℕ) → number < m.max_threads → is_queued status ≡ is_queued (m.status number)
    → is_timed status ≡ is_timed (m.status number) → ((j : ℕ) → j ≢ number → after j ≡ keys j)
    → after number ≡ keys number ⊎ is_queued status ≡ false → (status ≡ Free → (key : ℕ) → records key ≡ 0)
    → MatchesStatus keys m → MatchesStatus after (with_thread m number status records)
MatchesStatus-with_thread keys after m number status records below queued timed others own none right = record {
  standing = standing;
  timing = λ k. All-timed after new m.status (with_value m.status number status) standing
      (λ j _. still j) k (right.timing k);
  others_free = λ j high. with_value-other m.status number status j (λ same. absurd (omega (arith, same, below, high)))
      ∙ right.others_free j high;
  free_of_records = λ j key free.
      ⊎_elim (λ (same : j ≡ number). ap (λ times. times key) (with_value-same m.records number records j same)
      ∙ none (sym (with_value-same m.status number status j same) ∙ free) key)
      (λ (other : j ≢ number). ap (λ times. times key) (with_value-other m.records number records j other)
      ∙ right.free_of_records j key (sym (with_value-other m.status number status j other) ∙ free))
      (cases_eq j number);
}
  where
    new : Machine
    new = with_thread m number status records

    standing : Standing after new
    standing j = StandsByStatus-same (with_status m number status) new (after j) j refl (λ k. refl)
        (Standing-with_status keys after m number status queued others own right.standing j)

    still : (j : ℕ) → is_timed (m.status j) ≡ is_timed (with_value m.status number status j)
    still j =
        ⊎_elim (λ (same : j ≡ number). ap (λ k. is_timed (m.status k)) same ∙ sym timed
        ∙ ap is_timed (sym (with_value-same m.status number status j same)))
        (λ (other : j ≢ number). ap is_timed (sym (with_value-other m.status number status j other)))
        (cases_eq j number)

-- a registered number has another status, with which it stands and is timed as before
pub MatchesStatus-with_status : (keys : ℕ → ℕ) (m : Machine) (number : ℕ) (status : Status) → number < m.max_threads
    → is_queued status ≡ is_queued (m.status number) → is_timed status ≡ is_timed (m.status number) → status ≢ Free
    → MatchesStatus keys m → MatchesStatus keys (with_status m number status)
MatchesStatus-with_status keys m number status below queued timed registered right =
    subst (MatchesStatus keys) (with_thread-status m number status)
    (MatchesStatus-with_thread keys keys m number status (m.records number) below queued timed (λ j other. refl)
    (inl refl) (λ free. absurd (registered free)) right)

-- a running thread has other records
pub MatchesStatus-with_records : (keys : ℕ → ℕ) (m : Machine) (number : ℕ) (records : ℕ → ℕ)
    → m.status number ≡ Running → MatchesStatus keys m → MatchesStatus keys (with_records m number records)
MatchesStatus-with_records keys m number records running right =
    subst (MatchesStatus keys) (with_thread-records m number records)
    (MatchesStatus-with_thread keys keys m number (m.status number) records
    (below_max_threads keys m number right registered) refl refl (λ j other. refl) (inl refl)
    (λ free. absurd (registered free)) right)
  where
    registered : m.status number ≢ Free
    registered free = let same : Running ≡ Free = sym running ∙ free in cc

-- a running thread enters the list of a key
pub MatchesStatus-after_enter : (keys after : ℕ → ℕ) (m : Machine) (number key : ℕ) (park_token : ParkToken)
    (timed : Bool) → m.status number ≡ Running → ((j : ℕ) → j ≢ number → after j ≡ keys j) → after number ≡ key
    → MatchesStatus keys m → MatchesStatus after (after_enter m number key park_token timed)
MatchesStatus-after_enter keys after m number key park_token timed running others own right = record {
  standing = Standing-after_enter keys after m number key park_token timed
      (ap is_queued running) others own right.standing;
  timing = All-with_value (IsTimedAs status) m.lists key (m.lists key ++ waiter ∷ []) kept
      (All-append (IsTimedAs status) (m.lists key) (waiter ∷ []) (kept key)
      (All-cons (IsTimedAs status) waiter []
      (ap is_timed (sym (with_value-same m.status number (Waiting timed) number refl))) (All-nil (IsTimedAs status))));
  others_free = λ j high. with_value-other m.status number (Waiting timed) j
      (λ same. absurd (omega (arith, same, below, high))) ∙ right.others_free j high;
  free_of_records = λ j key free. right.free_of_records j key
      (free_before m.status number (Waiting timed) j (λ same. cc) free);
}
  where
    waiter : Waiter
    waiter = record { number = number; park_token = park_token; timed = timed }

    status : ℕ → Status
    status = with_value m.status number (Waiting timed)

    below : number < m.max_threads
    below = below_max_threads keys m number right (λ free. let same : Running ≡ Free = sym running ∙ free in absurd cc)

    kept : (k : ℕ) → All (IsTimedAs status) (m.lists k)
    kept k =
        All-timed keys m m.status status right.standing
        (λ j queued. ap is_timed
        (sym (with_value-other m.status number (Waiting timed) j
        (λ same. false≢true (sym (ap is_queued (ap m.status same ∙ running)) ∙ queued)))))
        k (right.timing k)

-- waiters that left a list are taken or stand behind those of another key
pub MatchesStatus-after_requeue : (keys after : ℕ → ℕ) (m : Machine) (from to : ℕ) (split : Split Waiter)
    (token : UnparkToken) → AreParts split (m.lists from) → ((j : ℕ) → times_in j split.moved ≡ 0 → after j ≡ keys j)
    → ((j : ℕ) → times_in j split.moved ≢ 0 → after j ≡ to) → MatchesStatus keys m
    → MatchesStatus after (after_requeue m from to split token)
MatchesStatus-after_requeue keys after m from to split token parts others own right = record {
  standing = standing;
  timing = λ k. All-timed after new m.status new.status standing still k (lists k);
  others_free = λ j high. statuses_with_taken-other token split.taken m.status j (untaken j (right.others_free j high))
      ∙ right.others_free j high;
  free_of_records = λ j key free. right.free_of_records j key (was_free j free);
}
  where
    new : Machine
    new = after_requeue m from to split token

    standing : Standing after new
    standing = Standing-after_requeue keys after m from to split token parts others own right.standing

    still : (j : ℕ) → is_queued (new.status j) ≡ true → is_timed (m.status j) ≡ is_timed (new.status j)
    still j queued =
        ⊎_elim (λ (none : times_in j split.taken ≡ 0). ap is_timed
        (sym (statuses_with_taken-other token split.taken m.status j none)))
        (λ (some : times_in j split.taken ≢ 0). absurd
        (false≢true (sym (ap is_queued (statuses_with_taken-among token split.taken m.status j some)) ∙ queued)))
        (cases_eq (times_in j split.taken) 0)

    kept : (k : ℕ) → All (IsTimedAs m.status) (with_value m.lists from split.left k)
    kept = All-with_value (IsTimedAs m.status) m.lists from split.left right.timing
        (parts.left (IsTimedAs m.status) (right.timing from))

    lists : (k : ℕ) → All (IsTimedAs m.status) (new.lists k)
    lists =
        All-with_value (IsTimedAs m.status) (with_value m.lists from split.left) to _ kept
        (All-append (IsTimedAs m.status) (with_value m.lists from split.left to) split.moved (kept to)
        (parts.moved (IsTimedAs m.status) (right.timing from)))

    was_free : (j : ℕ) → new.status j ≡ Free → m.status j ≡ Free
    was_free j free =
        ⊎_elim (λ (none : times_in j split.taken ≡ 0). sym (statuses_with_taken-other token split.taken m.status j none)
        ∙ free)
        (λ (some : times_in j split.taken ≢ 0). absurd
        (let taken = sym (statuses_with_taken-among token split.taken m.status j some) ∙ free in cc))
        (cases_eq (times_in j split.taken) 0)

    untaken : (j : ℕ) → m.status j ≡ Free → times_in j split.taken ≡ 0
    untaken j free =
        let nowhere = MatchBool-at_false _ _ (ap is_queued free) (right.standing j) from in
        omega (arith, parts.counts j)

-- some are taken, and the others are left
pub MatchesStatus-after_unpark : (keys : ℕ → ℕ) (m : Machine) (key : ℕ) (split : Split Waiter) (token : UnparkToken)
    → split.moved ≡ [] → AreParts split (m.lists key) → MatchesStatus keys m
    → MatchesStatus keys (after_unpark m key split token)
MatchesStatus-after_unpark keys m key split token none parts right =
    subst (MatchesStatus keys) (after_requeue-after_unpark m key split token none)
    (MatchesStatus-after_requeue keys keys m key key split token parts (λ j _. refl)
    (λ j some. absurd (some (ap (times_in j) none))) right)

-- a late thread leaves the list where it stands, and runs
pub MatchesStatus-after_timeout : (keys after : ℕ → ℕ) (m : Machine) (number key : ℕ)
    → is_queued (m.status number) ≡ true → StandsAt m number key → ((j : ℕ) → j ≢ number → after j ≡ keys j)
    → MatchesStatus keys m → MatchesStatus after (after_timeout m number key)
MatchesStatus-after_timeout keys after m number key queued stands others right = record {
  standing = standing;
  timing = λ k. All-timed after new m.status new.status standing still k (lists k);
  others_free = λ j high. with_value-other m.status number Running j (λ same. absurd (omega (arith, same, below, high)))
      ∙ right.others_free j high;
  free_of_records = λ j key free. right.free_of_records j key
      (free_before m.status number Running j (λ same. cc) free);
}
  where
    new : Machine
    new = after_timeout m number key

    standing : Standing after new
    standing = Standing-after_timeout keys after m number key stands others right.standing

    below : number < m.max_threads
    below = below_max_threads keys m number right (λ free. false≢true (ap is_queued (sym free) ∙ queued))

    still : (j : ℕ) → is_queued (new.status j) ≡ true → is_timed (m.status j) ≡ is_timed (new.status j)
    still j waits =
        ⊎_elim (λ (same : j ≡ number). absurd
        (false≢true (sym (ap is_queued (with_value-same m.status number Running j same)) ∙ waits)))
        (λ (other : j ≢ number). ap is_timed (sym (with_value-other m.status number Running j other)))
        (cases_eq j number)

    lists : (k : ℕ) → All (IsTimedAs m.status) (new.lists k)
    lists =
        All-with_value (IsTimedAs m.status) m.lists key (list_without m number key) right.timing
        (All-without_first (IsTimedAs m.status) (λ waiter. waiter.number == number) (m.lists key) (right.timing key))

-- no list is longer than there are threads
pub length-le_from_MatchesStatus : (keys : ℕ → ℕ) (m : Machine) (key : ℕ) → MatchesStatus keys m
    → length (m.lists key) ≤ m.max_threads
length-le_from_MatchesStatus keys m key right = length-le_from_numbers m.max_threads (m.lists key) once none
  where
    none : (j : ℕ) → m.max_threads ≤ j → times_in j (m.lists key) ≡ 0
    none j high = MatchBool-at_false _ _ (ap is_queued (right.others_free j high)) (right.standing j) key

    once : (j : ℕ) → times_in j (m.lists key) ≤ 1
    once j =
        ⊎_elim (λ (gone : times_in j (m.lists key) ≡ 0). omega (arith, gone))
        (λ (some : times_in j (m.lists key) ≢ 0). let at = StandsAt-standing keys m j key right.standing
        (omega arith) in omega (arith, at.once))
        (cases_eq (times_in j (m.lists key)) 0)
