-- Threads some of which have another key.
use Rattle.std.proofs.Common.{◌≡◌, ◌≢◌, ℕ, ◌<◌, ◌≤◌, List, [], ◌∷◌, length, map, refl, sym, ap, ◌∙◌, ⊎_elim, arith}
use Rattle.std.proofs.lemmas.Bool.{cases_eq, cases_lt}
use Rattle.std.proofs.lemmas.List.{length-set, set_past}
use Rattle.lot_base.specs.NodeFields.{NodeFields}
use Rattle.lot_base.specs.Requeue.{numbers}
use Rattle.lot_simulator.specs.Private.Commit.{threads_with_key, threads_with_keys}
use Rattle.lot_simulator.specs.Lot.{thread_at, statuses, thread_keys, thread_records, uses}
use Rattle.lot_simulator.specs.LotState.{ThreadState}
use Rattle.lot_machine.specs.Machine.{times_in}
use Rattle.lot_simulator.specs.Represents.{waiter_of}
use Rattle.lot_simulator.proofs.CommitLemmas.{statuses-set, keys-set_other, keys-set_same, numbers-set, uses-same}
use Rattle.lot_simulator.proofs.CommitLemmas.{records-kept}
use Rattle.lot_base.proofs.ValueLemmas.{with_value-same, with_value-other}
use Rattle.lot_machine.proofs.WaiterLemmas.{times_in-append, times_in-own, times_in-not_own}

-- a number that the lot does not have
threads_with_key-past : (threads : List ThreadState) (number key : ℕ) → length threads ≤ number
    → threads_with_key threads number key ≡ threads
threads_with_key-past threads number key past = set_past threads number _ past

-- one thread's key leaves its number, its status, its use and its records
numbers-threads_with_key : (threads : List ThreadState) (number key : ℕ) → ((j : ℕ) → (thread_at threads j).number ≡ j)
    → (j : ℕ) → (thread_at (threads_with_key threads number key) j).number ≡ j
numbers-threads_with_key threads number key own =
    ⊎_elim (λ (low : number < length threads). numbers-set threads number _ low (own number) own)
    (λ (past : length threads ≤ number) j. ap (λ all. (thread_at all j).number)
    (threads_with_key-past threads number key past) ∙ own j)
    (cases_lt number (length threads))

statuses-threads_with_key : (threads : List ThreadState) (number key j : ℕ)
    → statuses (threads_with_key threads number key) j ≡ statuses threads j
statuses-threads_with_key threads number key j =
    ⊎_elim (λ (low : number < length threads). statuses-set threads number _ low j
    ∙ ⊎_elim (λ (same : j ≡ number). with_value-same (statuses threads) number (statuses threads number) j same
    ∙ ap (statuses threads) (sym same)) (with_value-other (statuses threads) number (statuses threads number) j)
    (cases_eq j number))
    (λ (past : length threads ≤ number). ap (λ all. statuses all j) (threads_with_key-past threads number key past))
    (cases_lt number (length threads))

records-threads_with_key : (threads : List ThreadState) (number key j : ℕ)
    → thread_records (threads_with_key threads number key) j ≡ thread_records threads j
records-threads_with_key threads number key j =
    ⊎_elim (λ (low : number < length threads). records-kept threads number _ low refl j)
    (λ (past : length threads ≤ number). ap (λ all. thread_records all j)
    (threads_with_key-past threads number key past))
    (cases_lt number (length threads))

module _ (to : ℕ) where
  -- the threads once these nodes moved
  abbrev moved_threads : List NodeFields → List ThreadState → List ThreadState
  moved_threads moved threads = threads_with_keys to (numbers moved) threads

  pub length-moved : (moved : List NodeFields) (threads : List ThreadState)
      → length (moved_threads moved threads) ≡ length threads
  length-moved [] threads = refl
  length-moved (node ∷ moved) threads = length-moved moved (threads_with_key threads node.number to)
      ∙ length-set threads node.number _

  pub numbers-moved : (moved : List NodeFields) (threads : List ThreadState)
      → ((j : ℕ) → (thread_at threads j).number ≡ j) → (j : ℕ) → (thread_at (moved_threads moved threads) j).number ≡ j
  numbers-moved [] threads own = own
  numbers-moved (node ∷ moved) threads own =
      numbers-moved moved (threads_with_key threads node.number to)
      (numbers-threads_with_key threads node.number to own)

  pub statuses-moved : (moved : List NodeFields) (threads : List ThreadState) (j : ℕ)
      → statuses (moved_threads moved threads) j ≡ statuses threads j
  statuses-moved [] threads j = refl
  statuses-moved (node ∷ moved) threads j =
      statuses-moved moved (threads_with_key threads node.number to) j
      ∙ statuses-threads_with_key threads node.number to j

  pub records-moved : (moved : List NodeFields) (threads : List ThreadState) (j : ℕ)
      → thread_records (moved_threads moved threads) j ≡ thread_records threads j
  records-moved [] threads j = refl
  records-moved (node ∷ moved) threads j =
      records-moved moved (threads_with_key threads node.number to) j
      ∙ records-threads_with_key threads node.number to j

  pub uses-moved : (moved : List NodeFields) (threads : List ThreadState)
      → uses (moved_threads moved threads) ≡ uses threads
  uses-moved [] threads = refl
  uses-moved (node ∷ moved) threads =
      uses-moved moved (threads_with_key threads node.number to) ∙ uses-same threads node.number _ refl

  -- who did not move has the key that it had
  pub keys-not_moved : (moved : List NodeFields) (threads : List ThreadState) (j : ℕ)
      → times_in j (map waiter_of moved) ≡ 0 → thread_keys (moved_threads moved threads) j ≡ thread_keys threads j
  keys-not_moved [] threads j none = refl
  keys-not_moved (node ∷ moved) threads j none =
      let counted = times_in-append j (waiter_of node ∷ []) (map waiter_of moved) in
      let other : j ≢ node.number =
      λ same. absurd (omega (arith, none, counted, times_in-own (waiter_of node) j same)) in
      keys-not_moved moved (threads_with_key threads node.number to) j (omega (arith, none, counted))
      ∙ keys-set_other threads node.number _ j other

  -- and who moved has the new one
  pub keys-moved : (moved : List NodeFields) (threads : List ThreadState)
      → ((j : ℕ) → times_in j (map waiter_of moved) ≢ 0 → j < length threads) → (j : ℕ)
      → times_in j (map waiter_of moved) ≢ 0 → thread_keys (moved_threads moved threads) j ≡ to
  keys-moved [] threads below j some = absurd (some refl)
  keys-moved (node ∷ moved) threads below j some =
      let next = threads_with_key threads node.number to in
      let counted = λ (k : ℕ). times_in-append k (waiter_of node ∷ []) (map waiter_of moved) in
      let rest : (k : ℕ) → times_in k (map waiter_of moved) ≢ 0 → k < length next = λ k more. let low =
      below k (λ none. more (omega (arith, none, counted k))) in
      omega (arith, low, length-set threads node.number (record (thread_at threads node.number) { key = to })) in
      ⊎_elim (λ (none : times_in j (map waiter_of moved) ≡ 0).
      let same : j ≡ node.number = ⊎_elim (λ (e : j ≡ node.number). e)
      (λ (other : j ≢ node.number). absurd
      (some (omega (arith, none, counted j, times_in-not_own (waiter_of node) j other)))) (cases_eq j node.number) in
      keys-not_moved moved next j none ∙ ap (thread_keys next) same
      ∙ keys-set_same threads node.number _
      (below node.number
      (λ gone. absurd (omega (arith, gone, counted node.number, times_in-own (waiter_of node) node.number refl)))))
      (λ (more : times_in j (map waiter_of moved) ≢ 0). keys-moved moved next rest j more)
      (cases_eq (times_in j (map waiter_of moved)) 0)
