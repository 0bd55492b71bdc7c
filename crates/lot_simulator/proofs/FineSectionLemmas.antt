-- The beginning of a section of an interleaved lot.
use Rattle.std.proofs.Common.{◌≡◌, ◌≢◌, ℕ, ◌-◌, ◌^◌, ◌<◌, ◌≤◌, true, false, List, [], ◌∷◌, ◌++◌, map, length}
use Rattle.std.proofs.Common.{refl, sym, ap, ◌∙◌, subst, arith, slice_set, Some, ⊎_elim}
use Rattle.std.proofs.lemmas.Bool.{cases_eq, cases_lt, cond-true, cond-false}
use Rattle.std.proofs.lemmas.List.{length-map, length-set, map-append, set_past}
use Rattle.std.specs.List.{list_any}
use Rattle.lot_base.specs.BucketState.{BucketState}
use Rattle.lot_base.specs.NodeFields.{NodeFields}
use Rattle.lot_base.specs.NodeLists.{split_to, with_token}
use Rattle.lot_base.specs.Place.{place_of}
use Rattle.lot_base.specs.Requeue.{numbers}
use Rattle.lot_base.specs.Waiting.{Split, has_any, lists_after_requeue, split_all, split_by}
use Rattle.lot_base.specs.Waiting.{split_filter, split_first, with_value}
use Rattle.lot_base.specs.declared.token.RequeueOp.{RequeueOp}
use Rattle.lot_base.specs.declared.token.UnparkToken.{UnparkToken}
use Rattle.lot_base.proofs.ValueLemmas.{map-with_value, with_value-same_value}
use Rattle.lot_simulator.specs.declared.interleaved.FineAnswer.TheVariants as fine
use Rattle.lot_simulator.specs.declared.interleaved.FineStep.TheVariants.{Begin}
use Rattle.lot_machine.specs.declared.step.Answer.{Answer}
use Rattle.lot_machine.specs.declared.step.Answer.TheVariants as answer
use Rattle.lot_machine.specs.declared.step.Op.{Op}
use Rattle.lot_machine.specs.declared.step.Op.TheVariants.{One, All as AllOp, Filter, Requeue}
use Rattle.lot_machine.specs.declared.numbers.TheConstants.{MAX_THREADS}
use Rattle.lot_simulator.specs.FineLot.{IsFineLot, fine_state, fine_thread_at, plain_lot, plain_threads}
use Rattle.lot_simulator.specs.FineLotState.{FineLotState, FineThreadState}
use Rattle.lot_simulator.specs.InterleavedState.{FineState, Caller}
use Rattle.lot_simulator.specs.InterleavedSteps.{IsFineStep, after_begin, can_begin, is_held, keys_of}
use Rattle.lot_simulator.specs.InterleavedSteps.{key_words_after, with_key_words, with_tokens}
use Rattle.lot_simulator.specs.InterleavedView.{sequential_view}
use Rattle.lot_simulator.specs.Lot.{machine, statuses, thread_at, thread_keys, thread_records, uses}
use Rattle.lot_simulator.specs.LotState.{ThreadState}
use Rattle.lot_machine.specs.Machine.{Machine, Waiter, after_requeue, after_unpark, entries_of, times_in}
use Rattle.lot_simulator.specs.Private.Commit.{threads_with_key, threads_with_keys}
use Rattle.lot_simulator.specs.Private.FineCaller.{taken_threads}
use Rattle.lot_simulator.specs.Private.FineSection.{IsTakenBy, fine_threads_with_key}
use Rattle.lot_simulator.specs.Private.FineSection.{fine_threads_with_keys}
use Rattle.lot_simulator.specs.Private.FineSection.{threads_by}
use Rattle.lot_machine.specs.Operation.{split_of, token_of}
use Rattle.lot_simulator.specs.Represents.{Represents, nodes_in, waiter_of, waiters_in}
use Rattle.lot_machine.specs.Steps.{IsUnpark}
use Rattle.lot_simulator.specs.Table.{IsRowStep}
use Rattle.lot_simulator.proofs.CommitLemmas.{below_from_status, ne-free-queued}
use Rattle.lot_simulator.proofs.FineStateLemmas.{DoneStep, at_false, at_true, plain-length, plain-set, plain_at}
use Rattle.lot_simulator.proofs.FineStateLemmas.{part-set}
use Rattle.lot_simulator.proofs.InterleavingLemmas.{IsFineConsistent-step}
use Rattle.lot_simulator.proofs.KeyLemmas.{keys-moved, keys-not_moved, length-moved, numbers-moved, records-moved}
use Rattle.lot_simulator.proofs.KeyLemmas.{statuses-moved, uses-moved}
use Rattle.lot_simulator.proofs.LotLemmas.{answer-filter, answer-first, answer-requeue}
use Rattle.lot_simulator.proofs.LotLemmas.{saturated-all}
use Rattle.lot_machine.proofs.MachineLemmas.{length-le_from_MatchesStatus}
use Rattle.lot_machine.proofs.StandingLemmas.{same_machine}
use Rattle.lot_machine.proofs.SplitLemmas.{AreParts, AreParts-all, AreParts-by, AreParts-filter, AreParts-first}
use Rattle.lot_simulator.proofs.NodeSplitLemmas.{map-with_new_key}
use Rattle.lot_simulator.proofs.NodeSplitLemmas.{split_by-map, split_filter-map, split_first-map}
use Rattle.lot_simulator.proofs.NodeSplitLemmas.{waiter_split as waiters_of}
use Rattle.lot_machine.proofs.WaiterLemmas.{has_any-none, has_any-some}
use Rattle.lot_simulator.proofs.BeginLemmas.{queued_own}

-- the threads of nodes that were handed a token
taken_threads-with_token : (token : UnparkToken) (nodes : List NodeFields)
    → taken_threads (map (with_token token) nodes) ≡ with_tokens token (map waiter_of nodes)
taken_threads-with_token token [] = refl
taken_threads-with_token token (node ∷ nodes) =
    ap (λ rest. record { number = node.number; token = token } ∷ rest) (taken_threads-with_token token nodes)

-- one thread, or some, have another key word
module _ (to : ℕ) where
  plain-with_key : (threads : List FineThreadState) (number : ℕ)
      → plain_threads (fine_threads_with_key threads number to) ≡ threads_with_key (plain_threads threads) number to
  plain-with_key threads number =
      plain-set threads number _
      ∙ ap (λ (t : ThreadState). slice_set (plain_threads threads) number (record t { key = to }))
      (sym (plain_at threads number))

  plain-with_keys : (ns : List ℕ) (threads : List FineThreadState)
      → plain_threads (fine_threads_with_keys to ns threads) ≡ threads_with_keys to ns (plain_threads threads)
  plain-with_keys [] threads = refl
  plain-with_keys (n ∷ ns) threads =
      plain-with_keys ns (fine_threads_with_key threads n to)
      ∙ ap (threads_with_keys to ns) (plain-with_key threads n)

  -- what does not look at the key word
  part-with_key : {A : Type 0} (part : FineThreadState → A)
      → ((t : FineThreadState) → part (record t { thread = record t.thread { key = to } }) ≡ part t)
      → (threads : List FineThreadState) (number j : ℕ)
      → part (fine_thread_at (fine_threads_with_key threads number to) j) ≡ part (fine_thread_at threads j)
  part-with_key part same threads number j =
      ⊎_elim (λ (low : number < length threads). part-set part threads number _ low j
      ∙ with_value-same_value (λ k. part (fine_thread_at threads k)) number _ (same (fine_thread_at threads number)) j)
      (λ (past : length threads ≤ number). ap (λ all. part (fine_thread_at all j)) (set_past threads number _ past))
      (cases_lt number (length threads))

  part-with_keys : {A : Type 0} (part : FineThreadState → A)
      → ((t : FineThreadState) → part (record t { thread = record t.thread { key = to } }) ≡ part t)
      → (ns : List ℕ) (threads : List FineThreadState) (j : ℕ)
      → part (fine_thread_at (fine_threads_with_keys to ns threads) j) ≡ part (fine_thread_at threads j)
  part-with_keys part same [] threads j = refl
  part-with_keys part same (n ∷ ns) threads j =
      part-with_keys part same ns (fine_threads_with_key threads n to) j ∙ part-with_key part same threads n j

  length-with_keys : (ns : List ℕ) (threads : List FineThreadState)
      → length (fine_threads_with_keys to ns threads) ≡ length threads
  length-with_keys [] threads = refl
  length-with_keys (n ∷ ns) threads =
      length-with_keys ns (fine_threads_with_key threads n to) ∙ length-set threads n _

-- a lot with other rows and callers, and where these nodes moved to a key
module _ (lot : FineLotState) (is : IsFineLot lot) (to : ℕ) (moved : List NodeFields)
    (below : (j : ℕ) → times_in j (map waiter_of moved) ≢ 0 → j < length lot.threads)
    (row : List BucketState) (lists : ℕ → List Waiter) (rows : (k : ℕ) → waiters_in row k ≡ lists k)
    (callers : List Caller) where
  abbrev plain : List ThreadState
  plain = plain_threads lot.threads

  abbrev moved_lot : FineLotState
  moved_lot =
      record {
        buckets = row;
        threads = fine_threads_with_keys to (numbers moved) lot.threads;
        callers = callers;
      }

  as_plain : plain_threads moved_lot.threads ≡ threads_with_keys to (numbers moved) plain
  as_plain = plain-with_keys to (numbers moved) lot.threads

  key_word : (j : ℕ) → thread_keys (plain_threads moved_lot.threads) j
      ≡ with_key_words to (map waiter_of moved) (thread_keys plain) j
  key_word j =
      ap (λ ts. thread_keys ts j) as_plain
      ∙ ⊎_elim
      (λ (none : times_in j (map waiter_of moved) ≡ 0). keys-not_moved to moved plain j none
      ∙ sym (cond-false (has_any (entries_of j (map waiter_of moved))) to (thread_keys plain j)
      (has_any-none (entries_of j (map waiter_of moved)) none)))
      (λ (some : times_in j (map waiter_of moved) ≢ 0).
      keys-moved to moved plain
      (λ k among. let low = below k among in omega (arith, low, plain-length lot.threads)) j some
      ∙ sym (cond-true (has_any (entries_of j (map waiter_of moved))) to (thread_keys plain j)
      (has_any-some (entries_of j (map waiter_of moved)) some)))
      (cases_eq (times_in j (map waiter_of moved)) 0)

  fine_state-begun : fine_state moved_lot ≡ record (fine_state lot) {
    threads_view = record (fine_state lot).threads_view { lists = lists };
    key_words = with_key_words to (map waiter_of moved) (fine_state lot).key_words;
    callers = callers;
    size = length row;
  }
  fine_state-begun =
      λ i.
      record {
        threads_view = view i;
        key_words = λ j. key_word j i;
        keys_read = λ j. part-with_keys to (λ t. t.key_read) (λ t. refl) (numbers moved) lot.threads j i;
        slots = λ j. part-with_keys to (λ t. t.slot) (λ t. refl) (numbers moved) lot.threads j i;
        callers = callers;
        size = length row;
      }
    where
      view : machine (plain_lot moved_lot) ≡ record (machine (plain_lot lot)) { lists = lists }
      view =
          same_machine _ _ rows
          (λ j. ap (λ ts. statuses ts j) as_plain ∙ statuses-moved to moved plain j)
          (λ j. ap (λ ts. thread_records ts j) as_plain ∙ records-moved to moved plain j)
          (ap length as_plain ∙ length-moved to moved plain)

  numbers-begun : (j : ℕ) → (thread_at (plain_threads moved_lot.threads) j).number ≡ j
  numbers-begun j = ap (λ ts. (thread_at ts j).number) as_plain ∙ numbers-moved to moved plain is.numbers j

  count-begun : length moved_lot.threads ≤ MAX_THREADS
  count-begun = omega (arith, is.count, length-with_keys to (numbers moved) lot.threads)

  -- a section that begins so
  DoneStep-begun : (caller : ℕ) (op : Op) (given : Answer) (view : Machine)
      → IsUnpark (fine_state lot).threads_view op given view → lists ≡ view.lists
      → with_key_words to (map waiter_of moved) (fine_state lot).key_words
      ≡ key_words_after op (split_of op (fine_state lot).threads_view.lists).moved (fine_state lot).key_words
      → length row ≡ length lot.buckets → Represents row (waiters_in row) → can_begin (fine_state lot) caller ≡ true
      → list_any (is_held (fine_state lot)) (keys_of op) ≡ false → (opened : Caller)
      → callers ≡ slice_set lot.callers caller opened
      → opened ≡ record {
        section = Some (record {
          held = map (λ key. place_of key (length row)) (keys_of op);
          taken = with_tokens (token_of op) (split_of op (fine_state lot).threads_view.lists).taken;
        });
        wakes = 0;
      }
      → DoneStep lot moved_lot (Begin caller op) (fine.Answer given)
  DoneStep-begun caller op given view does lists_are keys size represents can free opened callers_are opened_is =
      record {
        is_lot = record {
          represents = represents;
          numbers = numbers-begun;
          consistent =
              IsFineConsistent-step s (Begin caller op) (fine.Answer given) (fine_state moved_lot) is.consistent step;
          count = count-begun;
        };
        does = step;
      }
    where
      s : FineState
      s = fine_state lot

      opening : ℕ → Caller
      opening buckets = record {
        section = Some (record {
          held = map (λ key. place_of key buckets) (keys_of op);
          taken = with_tokens (token_of op) (split_of op s.threads_view.lists).taken;
        });
        wakes = 0;
      }

      means : fine_state moved_lot ≡ after_begin s caller op view
      means =
          fine_state-begun
          ∙ (λ i. record s {
            threads_view = record s.threads_view { lists = lists_are i };
            key_words = keys i;
            callers = (callers_are ∙ ap (slice_set lot.callers caller) (opened_is ∙ ap opening size)) i;
            size = size i;
          })

      step : IsFineStep s (Begin caller op) (fine.Answer given) (fine_state moved_lot)
      step = at_true _ can (at_false _ free (given, view, does, (refl, means)))

-- the waiters of each key after a requeue
waiters-requeued : (nodes : ℕ → List NodeFields) (from to : ℕ) (split : Split NodeFields) (k : ℕ)
    → map waiter_of (lists_after_requeue nodes from to (split_to to split) k)
    ≡ lists_after_requeue (λ q. map waiter_of (nodes q)) from to (waiters_of split) k
waiters-requeued nodes from to split k =
    map-with_value waiter_of (with_value nodes from split.left) to
    (with_value nodes from split.left to ++ (split_to to split).moved) k
    ∙ (λ i. with_value (λ q. kept q i) to (behind i) k)
  where
    kept : (q : ℕ) → map waiter_of (with_value nodes from split.left q)
        ≡ with_value (λ q. map waiter_of (nodes q)) from (map waiter_of split.left) q
    kept q = map-with_value waiter_of nodes from split.left q

    behind : map waiter_of (with_value nodes from split.left to ++ (split_to to split).moved)
        ≡ with_value (λ q. map waiter_of (nodes q)) from (map waiter_of split.left) to ++ map waiter_of split.moved
    behind =
        map-append waiter_of (with_value nodes from split.left to) (split_to to split).moved
        ∙ ap (λ list. list ++ map waiter_of (split_to to split).moved) (kept to)
        ∙ ap (λ list. with_value (λ q. map waiter_of (nodes q)) from (map waiter_of split.left) to ++ list)
        (map-with_new_key to split.moved)

module _ (lot : FineLotState) (is : IsFineLot lot) where
  abbrev s : FineState
  s = fine_state lot

  abbrev waiters : ℕ → List Waiter
  waiters = s.threads_view.lists

  -- no more threads wait than there are, and so a bucket can count them
  short_list : (key : ℕ) → length (waiters key) ≤ length lot.threads
  short_list key =
      let short = length-le_from_MatchesStatus s.key_words (sequential_view s) key is.consistent.view in
      omega (arith, short, plain-length lot.threads)

  few : (key : ℕ) → length (waiters_in lot.buckets key) ≤ 2 ^ 64 - 1
  few key = omega (arith, short_list key, is.count)

  -- those that a requeue moves are the lot's threads
  moved-below : (from : ℕ) (op : RequeueOp) (j : ℕ)
      → times_in j (map waiter_of (split_by op (nodes_in lot.buckets from)).moved) ≢ 0 → j < length lot.threads
  moved-below from op j some =
      let parts : AreParts (waiters_of (split_by op (nodes_in lot.buckets from))) (waiters from) =
      subst (λ parted. AreParts parted (waiters from)) (sym (split_by-map op (nodes_in lot.buckets from)))
      (AreParts-by op (waiters from)) in
      let stands : 0 < times_in j (waiters from) = omega (arith, parts.counts j, some) in
      let low = below_from_status (plain_threads lot.threads) j
      (ne-free-queued (statuses (plain_threads lot.threads) j) (queued_own s is.consistent j from stands)) in
      omega (arith, low, plain-length lot.threads)

  -- a section takes no more threads than there are
  pub few-taken : (op : Op) (row : List BucketState) (given : Answer) (taken : List NodeFields)
      → IsTakenBy op lot.buckets row given taken → length taken ≤ MAX_THREADS
  few-taken op row given taken done =
      let short : length (split_of op (nodes_in lot.buckets)).taken ≤ length lot.threads = few-parted op in
      let same = ap length done.nodes ∙ length-map (split_of op (nodes_in lot.buckets)).taken
      (with_token (token_of op)) in
      omega (arith, short, same, is.count)
    where
      part : (split : Split NodeFields) (parted : Split Waiter) (key : ℕ) → waiters_of split ≡ parted
          → AreParts parted (waiters key) → length split.taken ≤ length lot.threads
      part split parted key same parts =
          let taken_are = sym (length-map split.taken waiter_of)
          ∙ ap (λ (sp : Split Waiter). length sp.taken) same in
          omega (arith, taken_are, parts.lengths, short_list key)

      few-parted : (op : Op) → length (split_of op (nodes_in lot.buckets)).taken ≤ length lot.threads
      few-parted (One key token) =
          part (split_first (nodes_in lot.buckets key)) (split_first (waiters key)) key
          (split_first-map (nodes_in lot.buckets key)) (AreParts-first (waiters key))
      few-parted (AllOp key token) =
          part (split_all (nodes_in lot.buckets key)) (split_all (waiters key)) key refl (AreParts-all (waiters key))
      few-parted (Filter key decisions token) =
          part (split_filter decisions.items (nodes_in lot.buckets key))
          (split_filter decisions.items (waiters key)) key
          (split_filter-map decisions.items (nodes_in lot.buckets key))
          (AreParts-filter decisions.items (waiters key))
      few-parted (Requeue from to by token) =
          part (split_by by (nodes_in lot.buckets from)) (split_by by (waiters from)) from
          (split_by-map by (nodes_in lot.buckets from)) (AreParts-by by (waiters from))

  -- of one key some were taken, and nobody moved
  waiters-left : (row : List BucketState) (key : ℕ) (split : Split NodeFields) (parted : Split Waiter)
      → waiters_of split ≡ parted → IsRowStep lot.buckets row (with_value (nodes_in lot.buckets) key split.left)
      → (k : ℕ) → waiters_in row k ≡ with_value waiters key parted.left k
  waiters-left row key split parted same rows k =
      ap (map waiter_of) (rows.nodes k)
      ∙ map-with_value waiter_of (nodes_in lot.buckets) key split.left k
      ∙ ap (λ (sp : Split Waiter). with_value waiters key sp.left k) same

  nobody-moved : (j : ℕ) → times_in j (map waiter_of []) ≢ 0 → j < length lot.threads
  nobody-moved j some = absurd (some refl)

  module _ (caller : ℕ) (row : List BucketState) (given : Answer) (taken : List NodeFields) (opened : Caller)
      (can : can_begin s caller ≡ true) where
    abbrev callers : List Caller
    callers = slice_set lot.callers caller opened

    -- the threads that the section has
    opened-by : (op : Op) (split : Split NodeFields) → waiters_of split ≡ split_of op waiters
        → taken ≡ map (with_token (token_of op)) split.taken
        → opened ≡ record {
          section = Some (record {
            held = map (λ key. place_of key (length row)) (keys_of op);
            taken = taken_threads taken;
          });
          wakes = 0;
        }
        → opened ≡ record {
          section = Some (record {
            held = map (λ key. place_of key (length row)) (keys_of op);
            taken = with_tokens (token_of op) (split_of op waiters).taken;
          });
          wakes = 0;
        }
    opened-by op split same nodes opened_is =
        opened_is
        ∙ ap (λ ts. record {
          section = Some (record { held = map (λ key. place_of key (length row)) (keys_of op); taken = ts });
          wakes = 0;
        })
        (ap taken_threads nodes ∙ taken_threads-with_token (token_of op) split.taken
        ∙ ap (λ (sp : Split Waiter). with_tokens (token_of op) sp.taken) same)

    pub DoneStep-begin : (op : Op) → IsTakenBy op lot.buckets row given taken
        → list_any (is_held s) (keys_of op) ≡ false
        → opened ≡ record {
          section = Some (record {
            held = map (λ key. place_of key (length row)) (keys_of op);
            taken = taken_threads taken;
          });
          wakes = 0;
        }
        → DoneStep lot
        (record {
          buckets = row;
          threads = threads_by op (split_of op (nodes_in lot.buckets)) lot.threads;
          callers = slice_set lot.callers caller opened;
        })
        (Begin caller op) (fine.Answer given)
    DoneStep-begin (One key token) done free opened_is =
        let nodes = nodes_in lot.buckets key in
        let same = split_first-map nodes in
        DoneStep-begun lot is key [] nobody-moved row (with_value waiters key (split_first (waiters key)).left)
        (waiters-left row key (split_first nodes) (split_first (waiters key)) same done.rows) callers caller
        (One key token) given (after_unpark s.threads_view key (split_first (waiters key)) token)
        (done.answer ∙ ap answer.Unpark (answer-first lot.buckets key), refl) refl refl done.rows.count
        done.rows.represents can
        free opened refl (opened-by (One key token) (split_first nodes) same done.nodes opened_is)
    DoneStep-begin (AllOp key token) done free opened_is =
        let nodes = nodes_in lot.buckets key in
        DoneStep-begun lot is key [] nobody-moved row (with_value waiters key (split_all (waiters key)).left)
        (waiters-left row key (split_all nodes) (split_all (waiters key)) refl done.rows) callers caller
        (AllOp key token) given (after_unpark s.threads_view key (split_all (waiters key)) token)
        (done.answer ∙ ap answer.Count (saturated-all lot.buckets key (few key)), refl) refl refl done.rows.count
        done.rows.represents can
        free opened refl (opened-by (AllOp key token) (split_all nodes) refl done.nodes opened_is)
    DoneStep-begin (Filter key decisions token) done free opened_is =
        let nodes = nodes_in lot.buckets key in
        let same = split_filter-map decisions.items nodes in
        DoneStep-begun lot is key [] nobody-moved row
        (with_value waiters key (split_filter decisions.items (waiters key)).left)
        (waiters-left row key (split_filter decisions.items nodes) (split_filter decisions.items (waiters key)) same
        done.rows) callers caller
        (Filter key decisions token) given
        (after_unpark s.threads_view key (split_filter decisions.items (waiters key)) token)
        (done.answer ∙ ap answer.Unpark (answer-filter lot.buckets key (few key) decisions.items), refl) refl refl
        done.rows.count
        done.rows.represents can free opened refl
        (opened-by (Filter key decisions token) (split_filter decisions.items nodes) same done.nodes opened_is)
    DoneStep-begin (Requeue from to by token) done free opened_is =
        let nodes = nodes_in lot.buckets from in
        let same = split_by-map by nodes in
        DoneStep-begun lot is to (split_by by nodes).moved (moved-below from by) row
        (lists_after_requeue waiters from to (split_by by (waiters from)))
        (λ k. ap (map waiter_of) (done.rows.nodes k)
        ∙ waiters-requeued (nodes_in lot.buckets) from to (split_by by nodes) k
        ∙ ap (λ (sp : Split Waiter). lists_after_requeue waiters from to sp k) same) callers caller
        (Requeue from to by token) given
        (after_requeue s.threads_view from to (split_by by (waiters from)) token)
        (done.answer ∙ ap answer.Unpark (answer-requeue lot.buckets from (few from) by), refl) refl
        (ap (λ (sp : Split Waiter). with_key_words to sp.moved s.key_words) same) done.rows.count
        done.rows.represents can free opened refl
        (opened-by (Requeue from to by token) (split_by by nodes) same done.nodes opened_is)

-- the uses of the numbers do not change
pub uses-begin : (lot : FineLotState) (op : Op)
    → uses (plain_threads (threads_by op (split_of op (nodes_in lot.buckets)) lot.threads))
    ≡ uses (plain_threads lot.threads)
uses-begin lot (One key token) = refl
uses-begin lot (AllOp key token) = refl
uses-begin lot (Filter key decisions token) = refl
uses-begin lot (Requeue from to by token) =
    let moved = (split_by by (nodes_in lot.buckets from)).moved in
    ap uses (plain-with_keys to (numbers moved) lot.threads) ∙ uses-moved to moved (plain_threads lot.threads)
