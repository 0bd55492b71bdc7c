-- Where every thread of a machine stands, and that each rule keeps it.
use Rattle.std.proofs.Common.{◌≡◌, ◌≢◌, ℕ, ◌+◌, ◌<◌, Bool, true, false, MatchBool, IsTrue, List, [], ◌∷◌}
use Rattle.std.proofs.Common.{◌++◌, append-nil, refl, sym, ap, ◌∙◌, subst, ⊎_elim, ◌⊎◌, arith}
use Rattle.std.proofs.lemmas.Bool.{cases_eq, cases_Bool, MatchBool-at_true, MatchBool-at_false, true≢false}
use Rattle.std.proofs.lemmas.Bool.{false≢true}
use Rattle.lot_base.specs.declared.token.ParkToken.{ParkToken}
use Rattle.lot_base.specs.declared.token.UnparkToken.{UnparkToken}
use Rattle.lot_base.specs.Waiting.{with_value, Split}
use Rattle.lot_base.proofs.ValueLemmas.{with_value-same, with_value-other, with_value-same_value}
use Rattle.lot_machine.specs.declared.status.Status.{Status}
use Rattle.lot_machine.specs.declared.status.Status.TheVariants.{Running, Waiting}
use Rattle.lot_machine.specs.Status.{is_queued}
use Rattle.lot_machine.specs.Machine.{Waiter, Machine, StandsAt, StandsByStatus, times_in}
use Rattle.lot_machine.specs.Machine.{with_status, with_records, after_enter, after_requeue, after_unpark}
use Rattle.lot_machine.specs.Machine.{list_without, after_timeout}
use Rattle.lot_machine.proofs.SplitLemmas.{AreParts}
use Rattle.lot_machine.proofs.WaiterLemmas.{times_in-append, times_in-own, times_in-not_own, times_in-without_own}
use Rattle.lot_machine.proofs.WaiterLemmas.{times_in-without_other, statuses_with_taken-other}
use Rattle.lot_machine.proofs.WaiterLemmas.{statuses_with_taken-among}

-- two machines that agree are one
pub same_machine : (m n : Machine) → ((k : ℕ) → m.lists k ≡ n.lists k) → ((j : ℕ) → m.status j ≡ n.status j)
    → ((j : ℕ) → m.records j ≡ n.records j) → m.max_threads ≡ n.max_threads → m ≡ n
same_machine m n lists status records max_threads =
    λ i.
    record { lists = λ k. lists k i; status = λ j. status j i; records = λ j. records j i; max_threads = max_threads i }

-- a number with another status and other records
abbrev pub with_thread : Machine → ℕ → Status → (ℕ → ℕ) → Machine
with_thread m number status records = with_records (with_status m number status) number records

-- one of them may be as it was
pub with_thread-status : (m : Machine) (number : ℕ) (status : Status)
    → with_thread m number status (m.records number) ≡ with_status m number status
with_thread-status m number status =
    same_machine _ _ (λ k. refl) (λ j. refl)
    (with_value-same_value m.records number (m.records number) refl) refl

pub with_thread-records : (m : Machine) (number : ℕ) (records : ℕ → ℕ)
    → with_thread m number (m.status number) records ≡ with_records m number records
with_thread-records m number records =
    same_machine _ _ (λ k. refl)
    (with_value-same_value m.status number (m.status number) refl) (λ j. refl) refl

-- where every thread stands
abbrev pub Standing : (ℕ → ℕ) → Machine → Type 0
Standing keys m = (number : ℕ) → StandsByStatus m number (keys number)

-- who stands in a list is queued
pub is_queued-standing : (keys : ℕ → ℕ) (m : Machine) (j key : ℕ) → Standing keys m → 0 < times_in j (m.lists key)
    → IsTrue (is_queued (m.status j))
is_queued-standing keys m j key right standing =
    ⊎_elim (λ (queued : is_queued (m.status j) ≡ true). queued)
    (λ (not_queued : is_queued (m.status j) ≡ false). absurd
    (let none = MatchBool-at_false _ _ not_queued (right j) key in omega arith))
    (cases_Bool (is_queued (m.status j)))

-- and stands there once, and in no other list
pub StandsAt-standing : (keys : ℕ → ℕ) (m : Machine) (j key : ℕ) → Standing keys m → 0 < times_in j (m.lists key)
    → StandsAt m j key
StandsAt-standing keys m j key right standing =
    let at : StandsAt m j (keys j) = MatchBool-at_true _ _ (is_queued-standing keys m j key right standing) (right j) in
    ⊎_elim (λ (same : key ≡ keys j). subst (StandsAt m j) (sym same) at)
    (λ (other : key ≢ keys j). absurd (let none = at.nowhere_else key other in omega arith))
    (cases_eq key (keys j))

pub MatchBool-from : (b : Bool) (P Q : Type 0) → (b ≡ true → P) → (b ≡ false → Q) → MatchBool b P Q
MatchBool-from true P Q p q = p refl
MatchBool-from false P Q p q = q refl

-- a step that does not concern a number
pub StandsByStatus-same : (m n : Machine) (key j : ℕ) → is_queued (n.status j) ≡ is_queued (m.status j)
    → ((k : ℕ) → times_in j (n.lists k) ≡ times_in j (m.lists k)) → StandsByStatus m j key → StandsByStatus n j key
StandsByStatus-same m n key j status lists right =
    MatchBool-from (is_queued (n.status j)) _ _
    (λ queued. let at : StandsAt m j key = MatchBool-at_true _ _ (sym status ∙ queued) right in record {
      once = lists key ∙ at.once;
      nowhere_else = λ k other. lists k ∙ at.nowhere_else k other;
    })
    (λ not_queued k. lists k ∙ MatchBool-at_false _ _ (sym status ∙ not_queued) right k)

-- one after which it stands in the list of a key
StandsByStatus-at : (n : Machine) (key j : ℕ) → is_queued (n.status j) ≡ true → StandsAt n j key
    → StandsByStatus n j key
StandsByStatus-at n key j queued at =
    MatchBool-from (is_queued (n.status j)) _ _ (λ _. at) (λ not_queued. absurd (true≢false (sym queued ∙ not_queued)))

-- one after which it stands in none
StandsByStatus-none : (n : Machine) (key j : ℕ) → is_queued (n.status j) ≡ false
    → ((k : ℕ) → times_in j (n.lists k) ≡ 0) → StandsByStatus n j key
StandsByStatus-none n key j not_queued none =
    MatchBool-from (is_queued (n.status j)) _ _ (λ queued. absurd (false≢true (sym not_queued ∙ queued))) (λ _. none)

-- a number is turned to a status that stands where the one before stood
pub Standing-with_status : (keys after : ℕ → ℕ) (m : Machine) (number : ℕ) (status : Status)
    → is_queued status ≡ is_queued (m.status number) → ((j : ℕ) → j ≢ number → after j ≡ keys j)
    → after number ≡ keys number ⊎ is_queued status ≡ false → Standing keys m
    → Standing after (with_status m number status)
Standing-with_status keys after m number status stays others own right j =
    ⊎_elim (λ (same : j ≡ number). subst (λ n. StandsByStatus (with_status m number status) n (after n))
    (sym same) at_number)
    (λ (other : j ≢ number). subst (λ key. StandsByStatus (with_status m number status) j key) (sym (others j other))
    (StandsByStatus-same m (with_status m number status) (keys j) j
    (ap is_queued (with_value-other m.status number status j other)) (λ k. refl) (right j)))
    (cases_eq j number)
  where
    now : is_queued (with_value m.status number status number) ≡ is_queued status
    now = ap is_queued (with_value-same m.status number status number refl)

    at_number : StandsByStatus (with_status m number status) number (after number)
    at_number =
        ⊎_elim (λ (same : after number ≡ keys number). subst
        (λ key. StandsByStatus (with_status m number status) number key) (sym same)
        (StandsByStatus-same m (with_status m number status) (keys number) number (now ∙ stays) (λ k. refl)
        (right number)))
        (λ (not_queued : is_queued status ≡ false). StandsByStatus-none (with_status m number status)
        (after number) number (now ∙ not_queued)
        (λ k. MatchBool-at_false _ _ (sym stays ∙ not_queued) (right number) k))
        own

-- a running thread enters the list of a key
pub Standing-after_enter : (keys after : ℕ → ℕ) (m : Machine) (number key : ℕ) (park_token : ParkToken) (timed : Bool)
    → is_queued (m.status number) ≡ false → ((j : ℕ) → j ≢ number → after j ≡ keys j) → after number ≡ key
    → Standing keys m → Standing after (after_enter m number key park_token timed)
Standing-after_enter keys after m number key park_token timed was others own right j =
    ⊎_elim (λ (same : j ≡ number). subst (λ n. StandsByStatus new n (after n)) (sym same)
    (subst (λ k. StandsByStatus new number k) (sym own)
    (StandsByStatus-at new key number (ap is_queued (with_value-same m.status number (Waiting timed) number refl)) at)))
    (λ (other : j ≢ number). subst (λ k. StandsByStatus new j k) (sym (others j other))
    (StandsByStatus-same m new (keys j) j (ap is_queued (with_value-other m.status number (Waiting timed) j other))
    (elsewhere j other) (right j)))
    (cases_eq j number)
  where
    new : Machine
    new = after_enter m number key park_token timed

    waiter : Waiter
    waiter = record { number = number; park_token = park_token; timed = timed }

    at_key : (j k : ℕ) → k ≡ key → times_in j (new.lists k) ≡ times_in j (m.lists k) + times_in j (waiter ∷ [])
    at_key j k same = ap (times_in j) (with_value-same m.lists key (m.lists key ++ waiter ∷ []) k same)
        ∙ times_in-append j (m.lists key) (waiter ∷ [])
        ∙ ap (λ q. times_in j (m.lists q) + times_in j (waiter ∷ [])) (sym same)

    not_at_key : (j k : ℕ) → k ≢ key → times_in j (new.lists k) ≡ times_in j (m.lists k)
    not_at_key j k other = ap (times_in j) (with_value-other m.lists key (m.lists key ++ waiter ∷ []) k other)

    nowhere : (k : ℕ) → times_in number (m.lists k) ≡ 0
    nowhere k = MatchBool-at_false _ _ was (right number) k

    at : StandsAt new number key
    at = record {
      once = omega (arith, at_key number key refl, nowhere key, times_in-own waiter number refl);
      nowhere_else = λ k other. not_at_key number k other ∙ nowhere k;
    }

    elsewhere : (j : ℕ) → j ≢ number → (k : ℕ) → times_in j (new.lists k) ≡ times_in j (m.lists k)
    elsewhere j other k =
        ⊎_elim (λ (same : k ≡ key). omega (arith, at_key j k same, times_in-not_own waiter j other)) (not_at_key j k)
        (cases_eq k key)

-- waiters that left a list are taken or stand behind those of another key
pub Standing-after_requeue : (keys after : ℕ → ℕ) (m : Machine) (from to : ℕ) (split : Split Waiter)
    (token : UnparkToken) → AreParts split (m.lists from) → ((j : ℕ) → times_in j split.moved ≡ 0 → after j ≡ keys j)
    → ((j : ℕ) → times_in j split.moved ≢ 0 → after j ≡ to) → Standing keys m
    → Standing after (after_requeue m from to split token)
Standing-after_requeue keys after m from to split token parts others own right j =
    ⊎_elim (λ (none : times_in j split.taken ≡ 0). ⊎_elim (stays none) (moves none)
    (cases_eq (times_in j split.moved) 0)) taken (cases_eq (times_in j split.taken) 0)
  where
    new : Machine
    new = after_requeue m from to split token

    kept : ℕ → List Waiter
    kept = with_value m.lists from split.left

    -- how often it stands in a list that keeps what is left, and in the same once some moved there
    at_from : (k : ℕ) → k ≡ from → times_in j (kept k) ≡ times_in j split.left
    at_from k same = ap (times_in j) (with_value-same m.lists from split.left k same)

    not_at_from : (k : ℕ) → k ≢ from → times_in j (kept k) ≡ times_in j (m.lists k)
    not_at_from k other = ap (times_in j) (with_value-other m.lists from split.left k other)

    at_to : (k : ℕ) → k ≡ to → times_in j (new.lists k) ≡ times_in j (kept k) + times_in j split.moved
    at_to k same = ap (times_in j) (with_value-same kept to (kept to ++ split.moved) k same)
        ∙ times_in-append j (kept to) split.moved ∙ ap (λ q. times_in j (kept q) + times_in j split.moved) (sym same)

    not_at_to : (k : ℕ) → k ≢ to → times_in j (new.lists k) ≡ times_in j (kept k)
    not_at_to k other = ap (times_in j) (with_value-other kept to (kept to ++ split.moved) k other)

    at : 0 < times_in j (m.lists from) → StandsAt m j from
    at some = StandsAt-standing keys m j from right some

    -- of one that was taken or moved nothing is kept
    gone : 0 < times_in j split.taken + times_in j split.moved → (k : ℕ) → times_in j (kept k) ≡ 0
    gone some k =
        let stood = at (omega (arith, parts.counts j)) in
        ⊎_elim (λ (same : k ≡ from). omega (arith, at_from k same, parts.counts j, stood.once))
        (λ (other : k ≢ from). not_at_from k other ∙ stood.nowhere_else k other) (cases_eq k from)

    taken : times_in j split.taken ≢ 0 → StandsByStatus new j (after j)
    taken some =
        StandsByStatus-none new (after j) j (ap is_queued (statuses_with_taken-among token split.taken m.status j some))
        (λ k. let stood = at (omega (arith, parts.counts j)) in
        ⊎_elim (λ (same : k ≡ to). omega (arith, at_to k same, gone (omega arith) k, parts.counts j, stood.once))
        (λ (other : k ≢ to). not_at_to k other ∙ gone (omega arith) k) (cases_eq k to))

    moves : times_in j split.taken ≡ 0 → times_in j split.moved ≢ 0 → StandsByStatus new j (after j)
    moves none some =
        let stood = at (omega (arith, parts.counts j)) in
        subst (λ key. StandsByStatus new j key) (sym (own j some))
        (StandsByStatus-at new to j
        (ap is_queued (statuses_with_taken-other token split.taken m.status j none)
        ∙ is_queued-standing keys m j from right (omega (arith, parts.counts j)))
        (record {
          once = omega (arith, at_to to refl, gone (omega arith) to, parts.counts j, stood.once);
          nowhere_else = λ k other. not_at_to k other ∙ gone (omega arith) k;
        }))

    stays : times_in j split.taken ≡ 0 → times_in j split.moved ≡ 0 → StandsByStatus new j (after j)
    stays none still =
        subst (λ key. StandsByStatus new j key) (sym (others j still))
        (StandsByStatus-same m new (keys j) j
        (ap is_queued (statuses_with_taken-other token split.taken m.status j none)) lists (right j))
      where
        kept_all : (k : ℕ) → times_in j (kept k) ≡ times_in j (m.lists k)
        kept_all k =
            ⊎_elim
            (λ (same : k ≡ from). omega (arith, at_from k same, parts.counts j, ap (λ q. times_in j (m.lists q)) same))
            (not_at_from k) (cases_eq k from)

        lists : (k : ℕ) → times_in j (new.lists k) ≡ times_in j (m.lists k)
        lists k = ⊎_elim (λ (same : k ≡ to). omega (arith, at_to k same, kept_all k))
            (λ (other : k ≢ to). not_at_to k other ∙ kept_all k) (cases_eq k to)

-- a thread leaves the list where it stands, and runs
pub Standing-after_timeout : (keys after : ℕ → ℕ) (m : Machine) (number key : ℕ) → StandsAt m number key
    → ((j : ℕ) → j ≢ number → after j ≡ keys j) → Standing keys m → Standing after (after_timeout m number key)
Standing-after_timeout keys after m number key stands others right j =
    ⊎_elim (λ (same : j ≡ number). subst (λ n. StandsByStatus new n (after n)) (sym same)
    (StandsByStatus-none new (after number) number
    (ap is_queued (with_value-same m.status number Running number refl)) nowhere))
    (λ (other : j ≢ number). subst (λ k. StandsByStatus new j k) (sym (others j other))
    (StandsByStatus-same m new (keys j) j (ap is_queued (with_value-other m.status number Running j other))
    (elsewhere j other) (right j)))
    (cases_eq j number)
  where
    new : Machine
    new = after_timeout m number key

    at_key : (j k : ℕ) → k ≡ key → times_in j (new.lists k) ≡ times_in j (list_without m number key)
    at_key j k same = ap (times_in j) (with_value-same m.lists key (list_without m number key) k same)

    not_at_key : (j k : ℕ) → k ≢ key → times_in j (new.lists k) ≡ times_in j (m.lists k)
    not_at_key j k other = ap (times_in j) (with_value-other m.lists key (list_without m number key) k other)

    nowhere : (k : ℕ) → times_in number (new.lists k) ≡ 0
    nowhere k =
        ⊎_elim (λ (same : k ≡ key). at_key number k same ∙ times_in-without_own number (m.lists key) stands.once)
        (λ (other : k ≢ key). not_at_key number k other ∙ stands.nowhere_else k other)
        (cases_eq k key)

    elsewhere : (j : ℕ) → j ≢ number → (k : ℕ) → times_in j (new.lists k) ≡ times_in j (m.lists k)
    elsewhere j other k =
        ⊎_elim (λ (same : k ≡ key). at_key j k same ∙ times_in-without_other number j (m.lists key) other
        ∙ ap (λ q. times_in j (m.lists q)) (sym same))
        (not_at_key j k)
        (cases_eq k key)

-- an unpark moves nobody
pub after_requeue-after_unpark : (m : Machine) (key : ℕ) (split : Split Waiter) (token : UnparkToken) → split.moved ≡ []
    → after_requeue m key key split token ≡ after_unpark m key split token
after_requeue-after_unpark m key split token none = same_machine _ _ lists (λ j. refl) (λ j. refl) refl
  where
    kept : ℕ → List Waiter
    kept = with_value m.lists key split.left

    lists : (k : ℕ) → with_value kept key (kept key ++ split.moved) k ≡ kept k
    lists k =
        ⊎_elim (λ (same : k ≡ key). with_value-same kept key (kept key ++ split.moved) k same
        ∙ ap (λ moved. kept key ++ moved) none ∙ append-nil (kept key) ∙ ap kept (sym same))
        (with_value-other kept key (kept key ++ split.moved) k)
        (cases_eq k key)
