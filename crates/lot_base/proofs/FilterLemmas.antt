-- The lists of waiters while a filter decides on those of one key.
use Rattle.std.proofs.Common.{◌≡◌, ◌≢◌, All, ℕ, true, false, ◌==◌, ◌+◌, ◌-◌, ◌^◌, min, length, replicate, List, [], ◌∷◌}
use Rattle.std.proofs.Common.{◌++◌}
use Rattle.std.proofs.Common.{⊎_elim, refl, sym, ◌∙◌, ap, arith}
use Rattle.std.proofs.lemmas.Bool.{ne_eqb, cases_eq, eq-eqb}
use Rattle.std.proofs.lemmas.List.{append_assoc, append-nil, length_push}
use Rattle.std.proofs.lemmas.List.Elements.{filter-append, All-nil, All-cons, All-head, All-tail}
use Rattle.std.specs.Fn.{Mut, Called}
use Rattle.lot_base.specs.declared.token.ParkToken.{ParkToken}
use Rattle.lot_base.specs.declared.token.UnparkResult.{UnparkResult}
use Rattle.lot_base.specs.declared.token.FilterOp.{FilterOp}
use Rattle.lot_base.specs.declared.token.FilterOp.TheVariants.{Unpark, Skip, Stop}
use Rattle.lot_base.specs.declared.queue.Node.{Node}
use Rattle.lot_base.specs.Node.{fields}
use Rattle.lot_base.specs.NodeFields.{NodeFields}
use Rattle.lot_base.specs.Waiting.{with_value, has_any, Split}
use Rattle.lot_base.specs.NodeLists.{lists_of, ChangesOnly, saturated, with_saturated_counts}
use Rattle.lot_base.specs.Waiting.{result_of, split_filter}
use Rattle.lot_base.specs.Filter.{IsFilterCallable, IsFiltered, park_tokens}

-- the waiters that a filter unparks, and those that it leaves; it moves none
abbrev pub taken_by : {A : Type 0} → List FilterOp → List A → List A
taken_by decisions waiters = (split_filter decisions waiters).taken

abbrev pub left_by : {A : Type 0} → List FilterOp → List A → List A
left_by decisions waiters = (split_filter decisions waiters).left

pub split_filter-moves_nobody : {A : Type 0} (decisions : List FilterOp) (waiters : List A)
    → (split_filter decisions waiters).moved ≡ []
split_filter-moves_nobody [] waiters = refl
split_filter-moves_nobody (_ ∷ _) [] = refl
split_filter-moves_nobody (Unpark ∷ decisions) (waiter ∷ waiters) = split_filter-moves_nobody decisions waiters
split_filter-moves_nobody (Skip ∷ decisions) (waiter ∷ waiters) = split_filter-moves_nobody decisions waiters
split_filter-moves_nobody (Stop ∷ _) (waiter ∷ waiters) = refl

pub unpark≢stop : Unpark ≢ Stop
unpark≢stop same = cc

pub skip≢stop : Skip ≢ Stop
skip≢stop same = cc

-- the lists of all keys but one are the same
pub record SameButAt (key : ℕ) (new old : List NodeFields) : Type 0 where
  pub same : (k : ℕ) → k ≢ key → lists_of new k ≡ lists_of old k

pub lists_of-append : (xs ys : List NodeFields) (k : ℕ) → lists_of (xs ++ ys) k ≡ lists_of xs k ++ lists_of ys k
lists_of-append xs ys k = filter-append (λ node. node.key == k) xs ys

-- a node of the key itself may go
pub SameButAt-without : (key : ℕ) (node : NodeFields) (xs ys old : List NodeFields) → node.key ≡ key
    → SameButAt key (xs ++ node ∷ [] ++ ys) old → SameButAt key (xs ++ ys) old
SameButAt-without key node xs ys old at_key kept =
    record { same = λ k other. sym (without k other) ∙ kept.same k other }
  where
    without : (k : ℕ) → k ≢ key → lists_of (xs ++ node ∷ [] ++ ys) k ≡ lists_of (xs ++ ys) k
    without k other =
        let e : (node.key == k) ≡ false = ne_eqb node.key k (λ h. other (sym h ∙ at_key)) in
        rw (append_assoc xs (node ∷ []) ys, lists_of-append xs (node ∷ ys) k, lists_of-append xs ys k, e) refl

-- the lists of all keys, where those of all keys but one are the same
pub lists_of-same_but : (key : ℕ) (new old left : List NodeFields) → SameButAt key new old → lists_of new key ≡ left
    → ChangesOnly old new key left
lists_of-same_but key new old left kept here k = ⊎_elim at_key at_other (cases_eq k key)
  where
    at_key : k ≡ key → lists_of new k ≡ with_value (lists_of old) key left k
    at_key e = rw (eq-eqb k key e) (ap (lists_of new) e ∙ here)

    at_other : (k ≡ key → ⊥) → lists_of new k ≡ with_value (lists_of old) key left k
    at_other other = rw (ne_eqb k key other) (kept.same k other)

saturated-push : (xs : List NodeFields) (x : NodeFields)
    → min (saturated (length xs) + 1) (2 ^ 64 - 1) ≡ saturated (length (xs ++ x ∷ []))
saturated-push xs x = omega (arith, length_push xs x)

has_any-append : (xs : List NodeFields) (x : NodeFields) (ys : List NodeFields) → has_any (xs ++ x ∷ ys) ≡ true
has_any-append [] x ys = refl
has_any-append (_ ∷ _) x ys = refl

-- a waiter of the key was put last
lists_of-push : (key : ℕ) (xs : List NodeFields) (waiter : NodeFields) → waiter.key ≡ key
    → lists_of (xs ++ waiter ∷ []) key ≡ lists_of xs key ++ waiter ∷ []
lists_of-push key xs waiter at_key = rw (lists_of-append xs (waiter ∷ []) key, eq-eqb waiter.key key at_key) refl

-- the answer of a bucket
abbrev pub counted : Split NodeFields → UnparkResult
counted split = with_saturated_counts (result_of split)

-- one more was taken
result_of-taken : (result : UnparkResult) (taken left : List NodeFields) (waiter : NodeFields)
    → result ≡ counted (record { taken = taken; moved = []; left = left })
    → record result { unparked_threads = min (result.unparked_threads + 1) (2 ^ 64 - 1) }
    ≡ counted (record { taken = taken ++ waiter ∷ []; moved = []; left = left })
result_of-taken result taken left waiter e = rw (e, saturated-push taken waiter) refl

-- one more was left
result_of-left : (result : UnparkResult) (taken left more : List NodeFields) (waiter : NodeFields)
    → result ≡ counted (record { taken = taken; moved = []; left = left })
    → record result { have_more_threads = true }
    ≡ counted (record { taken = taken; moved = []; left = left ++ waiter ∷ more })
result_of-left result taken left more waiter e = rw (e, has_any-append left waiter more) refl

module _ {F : Type 0} (calls : Mut F (ParkToken × Unit {0}) FilterOp) (key : ℕ) (first : F)
    (all : List NodeFields) where
  -- what the filter decides from here on ends as its decisions from the start do
  pub record Deciding (filter : F) (queue passed taken : List NodeFields) (result : UnparkResult) : Type 0 where
    pub callable : IsFilterCallable calls filter (park_tokens (lists_of queue key))
    pub ends : (to_come : List FilterOp) → IsFiltered calls filter (park_tokens (lists_of queue key)) to_come
        → (decisions : List FilterOp)
        × IsFiltered calls first (park_tokens (lists_of all key)) decisions
        × (taken_by decisions (lists_of all key) ≡ taken ++ taken_by to_come (lists_of queue key))
        × (left_by decisions (lists_of all key) ≡ lists_of passed key ++ left_by to_come (lists_of queue key))
    pub others : SameButAt key (passed ++ queue) all
    pub answer : result ≡ counted (record { taken = taken; moved = []; left = lists_of passed key })

  -- what all decisions did
  pub record Decided (new taken : List NodeFields) (result : UnparkResult) : Type 0 where
    pub decisions : List FilterOp
    pub decided : IsFiltered calls first (park_tokens (lists_of all key)) decisions
    pub lists : ChangesOnly all new key (left_by decisions (lists_of all key))
    pub answer : result ≡ counted (split_filter decisions (lists_of all key))
    pub takes : taken ≡ taken_by decisions (lists_of all key)

  -- the next waiter was found, and the filter decided on it
  pub record Asked (filter : F) (queue passed : List NodeFields) (waiter : NodeFields) (decision : FilterOp) (next : F)
      (rest kept : List NodeFields) : Type 0 where
    pub nodes : kept ++ waiter ∷ [] ++ rest ≡ passed ++ queue
    pub before : lists_of kept key ≡ lists_of passed key
    pub waiters : lists_of queue key ≡ waiter ∷ lists_of rest key
    pub at_key : waiter.key ≡ key
    pub called : Called calls filter (waiter.park_token, tt) decision next

  -- the same, where the token is read from the node as the code does it
  pub Asked-at_node : (filter next : F) (queue passed rest kept : List NodeFields) (node shown : Node)
      (decision : FilterOp) → kept ++ fields node ∷ [] ++ rest ≡ passed ++ queue
      → lists_of kept key ≡ lists_of passed key → lists_of queue key ≡ fields node ∷ lists_of rest key
      → (fields node).key ≡ key → shown ≡ node → Called calls filter (shown.park_token, tt) decision next
      → Asked filter queue passed (fields node) decision next rest kept
  Asked-at_node filter next queue passed rest kept node shown decision nodes before waiters at_key same called =
      record {
        nodes = nodes;
        before = before;
        waiters = waiters;
        at_key = at_key;
        called = rw same at called;
      }

  module _ (filter next : F) (queue passed taken rest kept : List NodeFields) (waiter : NodeFields)
      (result : UnparkResult) (so_far : Deciding filter queue passed taken result) where
    -- decisions behind this one
    more : (decision : FilterOp) (to_come : List FilterOp) → Asked filter queue passed waiter decision next rest kept
        → (decision ≡ Stop → to_come ≡ [])
        → (decision ≢ Stop → IsFiltered calls next (park_tokens (lists_of rest key)) to_come)
        → IsFiltered calls filter (park_tokens (lists_of queue key)) (decision ∷ to_come)
    more decision to_come asked stops behind = rw asked.waiters (next, asked.called, stops, behind)

    waiters_kept : (decision : FilterOp) (kept' : List NodeFields)
        → Asked filter queue passed waiter decision next rest kept → kept' ≡ kept ++ waiter ∷ []
        → lists_of kept' key ≡ lists_of passed key ++ waiter ∷ []
    waiters_kept decision kept' asked pushed =
        rw (pushed, lists_of-push key kept waiter asked.at_key, asked.before) refl

    pub Deciding-unpark : Asked filter queue passed waiter Unpark next rest kept
        → (taken' : List NodeFields) (count : ℕ) → taken' ≡ taken ++ waiter ∷ []
        → count ≡ min (result.unparked_threads + 1) (2 ^ 64 - 1)
        → Deciding next rest kept taken' (record result { unparked_threads = count })
    Deciding-unpark asked taken' count pushed counted = record {
      callable = (rw asked.waiters at so_far.callable).1 Unpark next asked.called unpark≢stop;
      ends = λ to_come behind.
          let found = so_far.ends (Unpark ∷ to_come)
          (more Unpark to_come asked (λ same. absurd (unpark≢stop same)) (λ _. behind)) in
          let takes : taken_by found.0 (lists_of all key) ≡ taken' ++ taken_by to_come (lists_of rest key) =
          found.2 ∙ rw (asked.waiters, pushed, append_assoc taken (waiter ∷ []) (taken_by to_come (lists_of rest key)))
          refl in
          let leaves : left_by found.0 (lists_of all key) ≡ lists_of kept key ++ left_by to_come (lists_of rest key) =
          found.3 ∙ rw (asked.waiters, asked.before) refl in
          (found.0, found.1, takes, leaves);
      others = SameButAt-without key waiter kept rest all asked.at_key (rw asked.nodes so_far.others);
      answer = rw (counted, pushed, asked.before)
          (result_of-taken result taken (lists_of passed key) waiter so_far.answer);
    }

    pub Deciding-skip : Asked filter queue passed waiter Skip next rest kept → (kept' : List NodeFields)
        → kept' ≡ kept ++ waiter ∷ [] → Deciding next rest kept' taken (record result { have_more_threads = true })
    Deciding-skip asked kept' pushed = record {
      callable = (rw asked.waiters at so_far.callable).1 Skip next asked.called skip≢stop;
      ends = λ to_come behind.
          let found = so_far.ends (Skip ∷ to_come)
          (more Skip to_come asked (λ same. absurd (skip≢stop same)) (λ _. behind)) in
          let takes : taken_by found.0 (lists_of all key) ≡ taken ++ taken_by to_come (lists_of rest key) =
          found.2 ∙ rw asked.waiters refl in
          let leaves : left_by found.0 (lists_of all key) ≡ lists_of kept' key ++ left_by to_come (lists_of rest key) =
          found.3 ∙ rw (
            asked.waiters,
            waiters_kept Skip kept' asked pushed,
            append_assoc (lists_of passed key) (waiter ∷ []) (left_by to_come (lists_of rest key)),
          ) refl in
          (found.0, found.1, takes, leaves);
      others = rw (pushed, asked.nodes) so_far.others;
      answer = rw (waiters_kept Skip kept' asked pushed)
          (result_of-left result taken (lists_of passed key) [] waiter so_far.answer);
    }

    pub Decided-stop : Asked filter queue passed waiter Stop next rest kept → (kept' : List NodeFields)
        → kept' ≡ kept ++ waiter ∷ [] → Decided (kept' ++ rest) taken (record result { have_more_threads = true })
    Decided-stop asked kept' pushed =
        let found = so_far.ends (Stop ∷ []) (more Stop [] asked (λ _. refl) (λ other. absurd (other refl))) in
        let takes : taken_by found.0 (lists_of all key) ≡ taken = found.2 ∙ rw (asked.waiters, append-nil taken) refl in
        let leaves : left_by found.0 (lists_of all key) ≡ lists_of passed key ++ waiter ∷ lists_of rest key =
        found.3 ∙ rw asked.waiters refl in
        let here : lists_of (kept' ++ rest) key ≡ left_by found.0 (lists_of all key) =
        rw (lists_of-append kept' rest key, waiters_kept Stop kept' asked pushed, leaves)
        (append_assoc (lists_of passed key) (waiter ∷ []) (lists_of rest key)) in
        record {
          decisions = found.0;
          decided = found.1;
          lists = lists_of-same_but key (kept' ++ rest) all (left_by found.0 (lists_of all key))
              (rw (pushed, asked.nodes) so_far.others) here;
          answer = rw (takes, leaves, split_filter-moves_nobody found.0 (lists_of all key))
              (result_of-left result taken (lists_of passed key) (lists_of rest key) waiter so_far.answer);
          takes = sym takes;
        }

  pub Decided-end : (filter : F) (queue passed taken rest kept : List NodeFields) (result : UnparkResult)
      → Deciding filter queue passed taken result → kept ++ [] ++ rest ≡ passed ++ queue
      → lists_of kept key ≡ lists_of passed key → lists_of queue key ≡ lists_of rest key → rest ≡ []
      → Decided (kept ++ rest) taken result
  Decided-end filter queue passed taken rest kept result so_far nodes before waiters none =
      let nobody : lists_of queue key ≡ [] = waiters ∙ ap (λ ns. lists_of ns key) none in
      let found = so_far.ends [] (rw nobody refl) in
      let takes : taken_by found.0 (lists_of all key) ≡ taken = found.2 ∙ append-nil taken in
      let leaves : left_by found.0 (lists_of all key) ≡ lists_of passed key =
      found.3 ∙ rw (nobody, append-nil (lists_of passed key)) refl in
      let here : lists_of (kept ++ rest) key ≡ left_by found.0 (lists_of all key) =
      rw (none, append-nil kept, leaves) before in
      record {
        decisions = found.0;
        decided = found.1;
        lists = lists_of-same_but key (kept ++ rest) all (left_by found.0 (lists_of all key))
            (rw (← append-nil kept, nodes) so_far.others) here;
        answer = rw (takes, leaves, split_filter-moves_nobody found.0 (lists_of all key)) so_far.answer;
        takes = sym takes;
      }

-- what holds of all waiters holds of those that are taken
pub All-taken_by : {A : Type 0} (P : A → Type 0) (decisions : List FilterOp) (waiters : List A) → All P waiters
    → All P (taken_by decisions waiters)
All-taken_by P [] waiters all = All-nil P
All-taken_by P (_ ∷ decisions) [] all = All-nil P
All-taken_by P (Unpark ∷ decisions) (waiter ∷ waiters) all =
    All-cons P waiter (taken_by decisions waiters) (All-head P waiter waiters all)
    (All-taken_by P decisions waiters (All-tail P waiter waiters all))
All-taken_by P (Skip ∷ decisions) (waiter ∷ waiters) all =
    All-taken_by P decisions waiters (All-tail P waiter waiters all)
All-taken_by P (Stop ∷ decisions) (waiter ∷ waiters) all = All-nil P

-- and of those that are left
pub All-left_by : {A : Type 0} (P : A → Type 0) (decisions : List FilterOp) (waiters : List A) → All P waiters
    → All P (left_by decisions waiters)
All-left_by P [] waiters all = all
All-left_by P (decision ∷ decisions) [] all = All-nil P
All-left_by P (Unpark ∷ decisions) (waiter ∷ waiters) all =
    All-left_by P decisions waiters (All-tail P waiter waiters all)
All-left_by P (Skip ∷ decisions) (waiter ∷ waiters) all =
    All-cons P waiter (left_by decisions waiters) (All-head P waiter waiters all)
    (All-left_by P decisions waiters (All-tail P waiter waiters all))
All-left_by P (Stop ∷ decisions) (waiter ∷ waiters) all = all

-- a filter that may be called while P holds of it, which each call keeps
pub IsFilterCallable-while : {F : Type 0} (calls : Mut F (ParkToken × Unit {0}) FilterOp) (P : F → Type 0)
    → ((filter : F) (token : ParkToken) → P filter → calls.pre filter (token, tt))
    → ((filter : F) (token : ParkToken) (decision : FilterOp) (next : F) → P filter
    → Called calls filter (token, tt) decision next → P next) → (filter : F) (tokens : List ParkToken) → P filter
    → IsFilterCallable calls filter tokens
IsFilterCallable-while calls P may keeps filter [] holds = tt
IsFilterCallable-while calls P may keeps filter (token ∷ tokens) holds = (
  may filter token holds,
  λ decision next called goes_on. IsFilterCallable-while calls P may keeps next tokens
      (keeps filter token decision next holds called),
)

-- a filter that may be called at any time
pub IsFilterCallable-always : {F : Type 0} (calls : Mut F (ParkToken × Unit {0}) FilterOp)
    → ((filter : F) (token : ParkToken) → calls.pre filter (token, tt)) → (filter : F) (tokens : List ParkToken)
    → IsFilterCallable calls filter tokens
IsFilterCallable-always {F} calls may filter tokens =
    IsFilterCallable-while calls (λ (f : F). Unit {0}) (λ f token holds. may f token)
    (λ f token decision next holds called. tt) filter tokens tt

-- a filter that always answers `Unpark`
pub IsFiltered-always_unpark : {F : Type 0} (calls : Mut F (ParkToken × Unit {0}) FilterOp)
    → ((filter : F) (token : ParkToken) (decision : FilterOp) (next : F) → Called calls filter (token, tt) decision next
    → decision ≡ Unpark) → (filter : F) (tokens : List ParkToken) (decisions : List FilterOp)
    → IsFiltered calls filter tokens decisions → decisions ≡ replicate (length tokens) Unpark
IsFiltered-always_unpark calls unparks filter [] decisions filtered = filtered
IsFiltered-always_unpark calls unparks filter (token ∷ tokens) [] filtered = absurd filtered
IsFiltered-always_unpark calls unparks filter (token ∷ tokens) (decision ∷ decisions) (next, called, stops, goes_on) =
    let same : decision ≡ Unpark = unparks filter token decision next called in
    let rest =
    IsFiltered-always_unpark calls unparks next tokens decisions
    (goes_on (λ stop. unpark≢stop (sym same ∙ stop))) in
    λ i. same i ∷ rest i
