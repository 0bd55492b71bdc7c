-- What the nodes of a bucket say of the threads that stand at its place.
use Rattle.std.proofs.Common.{◌≡◌, ◌≢◌, ℕ, ◌<◌, ◌≤◌, ◌^◌, ◌==◌, Bool, true, false, cond, List, [], ◌∷◌, ◌++◌, map}
use Rattle.std.proofs.Common.{length, refl, sym, ap, ◌∙◌, subst, arith}
use Rattle.std.proofs.lemmas.List.{length-map, map-append}
use Rattle.std.specs.Fn.{Mut}
use Rattle.lot_base.specs.declared.token.FilterOp.{FilterOp}
use Rattle.lot_base.specs.declared.token.FilterOp.TheVariants.{Unpark, Skip, Stop}
use Rattle.lot_base.specs.declared.token.ParkToken.{ParkToken}
use Rattle.lot_base.specs.declared.token.RequeueOp.{RequeueOp}
use Rattle.lot_base.specs.declared.token.UnparkToken.{UnparkToken}
use Rattle.lot_base.specs.Filter.{IsFiltered}
use Rattle.lot_base.specs.NodeFields.{NodeFields}
use Rattle.lot_base.specs.NodeLists.{lists_of, ChangesOnly, with_token, with_new_key, split_to, saturated}
use Rattle.lot_base.specs.NodeLists.{with_saturated_counts}
use Rattle.lot_base.specs.Place.{place_of}
use Rattle.lot_base.specs.Waiting.{Split, with_value, split_first, split_all, split_filter, split_by, result_of}
use Rattle.lot_base.specs.Waiting.{requeue_result, lists_after_requeue}
use Rattle.lot_base.proofs.FilterLemmas.{unpark≢stop, skip≢stop}
use Rattle.lot_base.proofs.ValueLemmas.{map-with_value}
use Rattle.lot_machine.specs.declared.status.Status.TheVariants as status
use Rattle.lot_machine.specs.declared.step.Answer.{Answer}
use Rattle.lot_machine.specs.declared.step.Answer.TheVariants as answer
use Rattle.lot_machine.specs.declared.step.Op.{Op}
use Rattle.lot_machine.specs.declared.step.Op.TheVariants as op
use Rattle.lot_machine.specs.declared.step.Step.TheVariants as step
use Rattle.lot_history.specs.declared.view.Standing.{Standing}
use Rattle.lot_history.specs.declared.view.Piece.{Piece}
use Rattle.lot_history.specs.declared.view.Piece.TheVariants.{Lists, Thread, Timing}
use Rattle.lot_history.specs.Moves.{Moves, IsFilter}
use Rattle.lot_history.specs.Pieces.{at_key, waiter_of, threads_taken, standing_of, standing_in}
use Rattle.lot_history.proofs.EnterLemmas.{enters}
use Rattle.lot_history.proofs.FrameLemmas.{framed}
use Rattle.lot_history.proofs.ListsLemmas.{with_key, moved_to}
use Rattle.lot_history.proofs.AcrossLemmas.{requeues_within, requeues_across}
use Rattle.lot_history.proofs.SplitLemmas.{split_map, split_first-map, split_filter-map, split_by-map, result_of-map}
use Rattle.lot_history.proofs.SplitLemmas.{requeue_result-map, parted_by}
use Rattle.lot_history.proofs.SplitLemmas.{requeue_result-exact}
use Rattle.lot_history.proofs.TakeLemmas.{few_waiting, unparks_one, unparks_all, unparks_filter}
use Rattle.lot_history.proofs.ThreadLemmas.{Is, answers}
use Rattle.lot_history.proofs.TimesLemmas.{ChangesKey}

-- lists of nodes, as threads that stand

pub at_key-nodes : (nodes : List NodeFields) (k : ℕ) → at_key k (standing_in nodes) ≡ standing_in (lists_of nodes k)
at_key-nodes [] k = refl
at_key-nodes (node ∷ nodes) k = either (node.key == k) (at_key-nodes nodes k)
  where
    either : (b : Bool) → at_key k (standing_in nodes) ≡ standing_in (lists_of nodes k)
        → cond b (standing_of node ∷ at_key k (standing_in nodes)) (at_key k (standing_in nodes))
        ≡ standing_in (cond b (node ∷ lists_of nodes k) (lists_of nodes k))
    either true same = ap (λ (l : List Standing). standing_of node ∷ l) same
    either false same = same

-- the list of every key
abbrev lists_at : List NodeFields → ℕ → List Standing
lists_at nodes k = at_key k (standing_in nodes)

lists_at-is : (nodes : List NodeFields) → (λ k. standing_in (lists_of nodes k)) ≡ lists_at nodes
lists_at-is nodes =
    let same : lists_at nodes ≡ (λ k. standing_in (lists_of nodes k)) = λ i k. at_key-nodes nodes k i in sym same

pub changes_nodes : (old new : List NodeFields) (key : ℕ) (nodes : List NodeFields) → ChangesOnly old new key nodes
    → ChangesKey (standing_in old) (standing_in new) key (standing_in nodes)
changes_nodes old new key nodes lists k =
    at_key-nodes new k
    ∙ (ap (λ (ns : List NodeFields). standing_in ns) (lists k)
    ∙ (map-with_value standing_of (lists_of old) key nodes k
    ∙ ap (λ (f : ℕ → List Standing). with_value f key (standing_in nodes) k) (lists_at-is old)))

pub moved_nodes : (key : ℕ) (nodes : List NodeFields)
    → standing_in (map (with_new_key key) nodes) ≡ map (with_key key) (standing_in nodes)
moved_nodes key [] = refl
moved_nodes key (node ∷ nodes) =
    ap (λ (l : List Standing). with_key key (standing_of node) ∷ l) (moved_nodes key nodes)

-- who is handed a token stands no longer, and the token does not matter
pub taken_nodes : (token : UnparkToken) (nodes : List NodeFields)
    → threads_taken token (standing_in (map (with_token token) nodes)) ≡ threads_taken token (standing_in nodes)
taken_nodes token [] = refl
taken_nodes token (node ∷ nodes) =
    ap (λ (ps : List Piece). Thread node.number (status.Taken token) ∷ ps) (taken_nodes token nodes)

pub lists_after_requeue-map : {A B : Type 0} (f : A → B) (lists : ℕ → List A) (from to : ℕ) (split : Split A) (k : ℕ)
    → map f (lists_after_requeue lists from to split k)
    ≡ lists_after_requeue (λ q. map f (lists q)) from to (split_map f split) k
lists_after_requeue-map {A} {B} f lists from to split k =
    map-with_value f kept to (kept to ++ split.moved) k
    ∙ (ap (λ (l : List B). with_value (λ q. map f (kept q)) to l k) (map-append f (kept to) split.moved)
    ∙ ap (λ (g : ℕ → List B). with_value g to (g to ++ map f split.moved) k)
    (λ i q. map-with_value f lists from split.left q i))
  where
    kept : ℕ → List A
    kept = with_value lists from split.left

pub requeued_nodes : (old new : List NodeFields) (from to : ℕ) (split : Split NodeFields)
    → ((k : ℕ) → lists_of new k ≡ lists_after_requeue (lists_of old) from to (split_to to split) k) → (k : ℕ)
    → at_key k (standing_in new)
    ≡ lists_after_requeue (λ q. at_key q (standing_in old)) from to (moved_to to (split_map standing_of split)) k
requeued_nodes old new from to split lists k =
    at_key-nodes new k
    ∙ (ap (λ (ns : List NodeFields). standing_in ns) (lists k)
    ∙ (lists_after_requeue-map standing_of (lists_of old) from to (split_to to split) k
    ∙ (ap (λ (f : ℕ → List Standing). lists_after_requeue f from to (split_map standing_of (split_to to split)) k)
    (lists_at-is old)
    ∙ ap (λ (moved : List Standing). lists_after_requeue (lists_at old) from to
    (record { taken = standing_in split.taken; moved = moved; left = standing_in split.left }) k)
    (moved_nodes to split.moved))))

-- a filter decides on no more waiters than there are
pub filtered_length : {F : Type 0} (calls : Mut F (ParkToken × Unit {0}) FilterOp) (filter : F)
    (tokens : List ParkToken) (decisions : List FilterOp) → IsFiltered calls filter tokens decisions
    → length decisions ≤ length tokens
filtered_length calls filter [] decisions none =
    let same : length decisions ≡ 0 = ap (λ (ds : List FilterOp). length ds) none in omega arith
filtered_length calls filter (token ∷ tokens) [] none = absurd none
filtered_length calls filter (token ∷ tokens) (Unpark ∷ decisions) (next, called, stops, goes) =
    let rest = filtered_length calls next tokens decisions (goes unpark≢stop) in omega arith
filtered_length calls filter (token ∷ tokens) (Skip ∷ decisions) (next, called, stops, goes) =
    let rest = filtered_length calls next tokens decisions (goes skip≢stop) in omega arith
filtered_length calls filter (token ∷ tokens) (Stop ∷ decisions) (next, called, stops, goes) =
    let same : length decisions ≡ 0 = ap (λ (ds : List FilterOp). length ds) (stops refl) in omega arith

-- a thread's node enters a bucket
pub enters_node : (max_threads size place : ℕ) (old : List NodeFields) (node : NodeFields) (was_timed : Bool)
    (rest : List Piece) → place_of node.key size ≡ place
    → Moves max_threads (Is (step.Enter node.number node.key true node.park_token node.timed) answer.Entered)
    (Lists size place (standing_in old) ∷ Thread node.number status.Running ∷ Timing node.number was_timed ∷ rest)
    (Lists size place (standing_in (old ++ node ∷ [])) ∷ Timing node.number node.timed ∷ rest)
enters_node max_threads size place old node was_timed rest here =
    subst (λ (l : List Standing).
    Moves max_threads (Is (step.Enter node.number node.key true node.park_token node.timed) answer.Entered)
    (Lists size place (standing_in old) ∷ Thread node.number status.Running ∷ Timing node.number was_timed ∷ rest)
    (Lists size place l ∷ Timing node.number node.timed ∷ rest))
    (sym (map-append standing_of old (node ∷ [])))
    (enters max_threads size place (standing_in old) node.number node.key node.park_token was_timed node.timed rest here)

-- unparks, as a bucket tells of them
module _ (max_threads size place key : ℕ) (old new : List NodeFields) (token : UnparkToken) (rest : List Piece)
    (here : place_of key size ≡ place) where
  abbrev waiting : List NodeFields
  waiting = lists_of old key

  abbrev before : List Piece
  before = Lists size place (standing_in old) ∷ []

  abbrev pub Unparks : Op → Answer → List NodeFields → Type 0
  Unparks which given taken = Moves max_threads (Is (step.Unpark which) given)
      (Lists size place (standing_in old) ∷ rest)
      (Lists size place (standing_in new) ∷ (threads_taken token (standing_in taken) ++ rest))

  pub takes_one : ChangesOnly old new key (split_first waiting).left
      → Unparks (op.One key token) (answer.Unpark (result_of (split_first waiting))) (split_first waiting).taken
  takes_one lists =
      let same : split_first (at_key key (standing_in old)) ≡ split_map standing_of (split_first waiting) =
      ap (λ (l : List Standing). split_first l) (at_key-nodes old key) ∙ sym (split_first-map standing_of waiting) in
      framed max_threads (Is (step.Unpark (op.One key token)) (answer.Unpark (result_of (split_first waiting)))) before
      (Lists size place (standing_in new) ∷ threads_taken token (standing_in (split_first waiting).taken)) rest
      (subst (λ given. Moves max_threads (Is (step.Unpark (op.One key token)) given) before
      (Lists size place (standing_in new) ∷ threads_taken token (standing_in (split_first waiting).taken)))
      (ap answer.Unpark (result_of-map standing_of (split_first waiting)))
      (subst (λ (s : Split Standing). ChangesKey (standing_in old) (standing_in new) key s.left
      → Moves max_threads (Is (step.Unpark (op.One key token)) (answer.Unpark (result_of s))) before
      (Lists size place (standing_in new) ∷ threads_taken token s.taken)) same
      (unparks_one max_threads size place key (standing_in old) (standing_in new) token here)
      (changes_nodes old new key (split_first waiting).left lists)))

  pub takes_all : ChangesOnly old new key (split_all waiting).left
      → Unparks (op.All key token) (answer.Count (saturated (length waiting))) (split_all waiting).taken
  takes_all lists =
      framed max_threads (Is (step.Unpark (op.All key token)) (answer.Count (saturated (length waiting)))) before
      (Lists size place (standing_in new) ∷ threads_taken token (standing_in waiting)) rest
      (answers max_threads (step.Unpark (op.All key token)) (answer.Count (length (standing_in waiting)))
      (answer.Count (saturated (length waiting))) before
      (Lists size place (standing_in new) ∷ threads_taken token (standing_in waiting))
      (λ m finds. ap answer.Count
      (let few = few_waiting max_threads size place key (standing_in old) [] m here finds in
      let machine = length-map (at_key key (standing_in old)) waiter_of in
      let same = ap (λ (l : List Standing). length l) (at_key-nodes old key) in
      let nodes = length-map waiting standing_of in
      omega (arith, few, finds.few, machine, same, nodes)))
      (subst (λ (l : List Standing).
      Moves max_threads (Is (step.Unpark (op.All key token)) (answer.Count (length l))) before
      (Lists size place (standing_in new) ∷ threads_taken token l)) (at_key-nodes old key)
      (unparks_all max_threads size place key (standing_in old) (standing_in new) token here
      (changes_nodes old new key [] lists))))

  pub takes_filter : (decisions : List FilterOp) → max_threads < 2 ^ 63 → length decisions ≤ length waiting
      → ChangesOnly old new key (split_filter decisions waiting).left
      → Moves max_threads
      (IsFilter key decisions token (with_saturated_counts (result_of (split_filter decisions waiting))))
      (Lists size place (standing_in old) ∷ rest)
      (Lists size place (standing_in new)
      ∷ (threads_taken token (standing_in (split_filter decisions waiting).taken) ++ rest))
  takes_filter decisions most short lists =
      let chosen : Split NodeFields = split_filter decisions waiting in
      let here_waiting : List Standing = at_key key (standing_in old) in
      let same : split_filter decisions here_waiting ≡ split_map standing_of chosen =
      ap (λ (l : List Standing). split_filter decisions l) (at_key-nodes old key)
      ∙ sym (split_filter-map standing_of decisions waiting) in
      let after : List Piece =
      Lists size place (standing_in new) ∷ threads_taken token (standing_in chosen.taken) in
      let all = ap (λ (l : List Standing). length l) (at_key-nodes old key) in
      let nodes = length-map waiting standing_of in
      framed max_threads (IsFilter key decisions token (with_saturated_counts (result_of chosen))) before after rest
      (subst (λ result. Moves max_threads (IsFilter key decisions token (with_saturated_counts result)) before after)
      (result_of-map standing_of chosen)
      (subst (λ (s : Split Standing). ChangesKey (standing_in old) (standing_in new) key s.left
      → Moves max_threads (IsFilter key decisions token (with_saturated_counts (result_of s))) before
      (Lists size place (standing_in new) ∷ threads_taken token s.taken)) same
      (unparks_filter max_threads size place key (standing_in old) (standing_in new) token here decisions most
      (omega (arith, all, nodes, short))) (changes_nodes old new key chosen.left lists)))

-- requeues, as buckets tell of them
module _ (max_threads size place from to : ℕ) (old new : List NodeFields) (chosen : RequeueOp) (token : UnparkToken)
    (rest : List Piece) (from_here : place_of from size ≡ place) where
  abbrev requeued : Split NodeFields
  requeued = split_by chosen (lists_of old from)

  abbrev here_waiting : List Standing
  here_waiting = at_key from (standing_in old)

  abbrev pub Requeues : List Piece → List Piece → Type 0
  Requeues before after = Moves max_threads
      (Is (step.Unpark (op.Requeue from to chosen token))
      (answer.Unpark (with_saturated_counts (requeue_result chosen requeued)))) before after

  same : split_by chosen here_waiting ≡ split_map standing_of requeued
  same = ap (λ (l : List Standing). split_by chosen l) (at_key-nodes old from)
      ∙ sym (split_by-map standing_of chosen (lists_of old from))

  -- the exact result is what buckets answer
  as_answered : (others after : List Piece)
      → Moves max_threads
      (Is (step.Unpark (op.Requeue from to chosen token))
      (answer.Unpark (requeue_result chosen (split_map standing_of requeued))))
      (Lists size place (standing_in old) ∷ others) after
      → Requeues ((Lists size place (standing_in old) ∷ others) ++ rest) (after ++ rest)
  as_answered others after moves =
      let given : Answer = answer.Unpark (with_saturated_counts (requeue_result chosen requeued)) in
      framed max_threads (Is (step.Unpark (op.Requeue from to chosen token)) given)
      (Lists size place (standing_in old) ∷ others) after rest
      (answers max_threads (step.Unpark (op.Requeue from to chosen token))
      (answer.Unpark (requeue_result chosen (split_map standing_of requeued))) given
      (Lists size place (standing_in old) ∷ others) after
      (λ m finds. ap answer.Unpark
      (ap (λ (s : Split Standing). requeue_result chosen s) (sym same)
      ∙ (sym (requeue_result-exact (split_by chosen here_waiting) here_waiting (parted_by here_waiting chosen)
      (let few = few_waiting max_threads size place from (standing_in old) others m from_here finds in
      omega (arith, few, finds.few)) chosen)
      ∙ (ap (λ (s : Split Standing). with_saturated_counts (requeue_result chosen s)) same
      ∙ ap with_saturated_counts (requeue_result-map standing_of chosen requeued))))) moves)

  pub requeues_one : place_of to size ≡ place
      → ((k : ℕ) → lists_of new k ≡ lists_after_requeue (lists_of old) from to (split_to to requeued) k)
      → Requeues (Lists size place (standing_in old) ∷ rest)
      (Lists size place (standing_in new) ∷ (threads_taken token (standing_in requeued.taken) ++ rest))
  requeues_one to_here lists =
      as_answered [] (Lists size place (standing_in new) ∷ threads_taken token (standing_in requeued.taken))
      (subst (λ (s : Split Standing). ((k : ℕ)
      → at_key k (standing_in new) ≡ lists_after_requeue (lists_at old) from to (moved_to to s) k)
      → Moves max_threads
      (Is (step.Unpark (op.Requeue from to chosen token)) (answer.Unpark (requeue_result chosen s)))
      (Lists size place (standing_in old) ∷ []) (Lists size place (standing_in new) ∷ threads_taken token s.taken)) same
      (requeues_within max_threads from to (standing_in old) chosen token size place (standing_in new) from_here
      to_here)
      (requeued_nodes old new from to requeued lists))

  pub requeues_two : (other : ℕ) (target target_new : List NodeFields) → other ≢ place → place_of to size ≡ other
      → ChangesOnly old new from requeued.left
      → ChangesOnly target target_new to (lists_of target to ++ (split_to to requeued).moved)
      → Requeues (Lists size place (standing_in old) ∷ Lists size other (standing_in target) ∷ rest)
      (Lists size place (standing_in new) ∷ Lists size other (standing_in target_new)
      ∷ (threads_taken token (standing_in requeued.taken) ++ rest))
  requeues_two other target target_new apart to_there lists targets =
      let behind : standing_in (lists_of target to ++ (split_to to requeued).moved)
      ≡ at_key to (standing_in target) ++ map (with_key to) (standing_in requeued.moved) =
      map-append standing_of (lists_of target to) (map (with_new_key to) requeued.moved)
      ∙ (ap (λ (l : List Standing). l ++ standing_in (map (with_new_key to) requeued.moved))
      (sym (at_key-nodes target to))
      ∙ ap (λ (l : List Standing). at_key to (standing_in target) ++ l) (moved_nodes to requeued.moved)) in
      as_answered (Lists size other (standing_in target) ∷ [])
      (Lists size place (standing_in new) ∷ Lists size other (standing_in target_new)
      ∷ threads_taken token (standing_in requeued.taken))
      (subst (λ (s : Split Standing). ChangesKey (standing_in old) (standing_in new) from s.left
      → ChangesKey (standing_in target) (standing_in target_new) to
      (at_key to (standing_in target) ++ map (with_key to) s.moved)
      → Moves max_threads
      (Is (step.Unpark (op.Requeue from to chosen token)) (answer.Unpark (requeue_result chosen s)))
      (Lists size place (standing_in old) ∷ Lists size other (standing_in target) ∷ [])
      (Lists size place (standing_in new) ∷ Lists size other (standing_in target_new) ∷ threads_taken token s.taken))
      same
      (requeues_across max_threads from to (standing_in old) chosen token size place other (standing_in new)
      (standing_in target) (standing_in target_new) apart from_here to_there)
      (changes_nodes old new from requeued.left lists)
      (subst (ChangesKey (standing_in target) (standing_in target_new) to) behind
      (changes_nodes target target_new to (lists_of target to ++ (split_to to requeued).moved) targets)))
