-- The unparks of one waiter, of all, and of those that a filter chooses.
use Rattle.std.proofs.Common.{◌≡◌, ℕ, ◌<◌, ◌≤◌, ◌^◌, List, [], ◌∷◌, map, length, refl, sym, ap, ◌∙◌, subst, arith}
use Rattle.std.proofs.lemmas.List.{length-map}
use Rattle.std.specs.Prelude.{Vec}
use denote.RawPtr.{null_ptr}
use Rattle.std.specs.declared.alloc.Global.{Global}
use Rattle.lot_base.specs.declared.token.FilterOp.{FilterOp}
use Rattle.lot_base.specs.declared.token.UnparkResult.{UnparkResult}
use Rattle.lot_base.specs.declared.token.UnparkToken.{UnparkToken}
use Rattle.lot_base.specs.NodeLists.{with_saturated_counts}
use Rattle.lot_base.specs.Place.{place_of}
use Rattle.lot_base.specs.Waiting.{Split, split_first, split_all, split_filter, result_of}
use Rattle.lot_base.proofs.FilterLemmas.{split_filter-moves_nobody}
use Rattle.lot_machine.specs.declared.step.Answer.{Answer}
use Rattle.lot_machine.specs.declared.step.Answer.TheVariants as answer
use Rattle.lot_machine.specs.declared.step.Op.TheVariants as op
use Rattle.lot_machine.specs.declared.step.Step.{Step}
use Rattle.lot_machine.specs.declared.step.Step.TheVariants as step
use Rattle.lot_machine.specs.Machine.{Machine, Waiter, after_unpark}
use Rattle.lot_machine.proofs.MachineLemmas.{length-le_from_MatchesStatus}
use Rattle.lot_machine.proofs.StandingLemmas.{after_requeue-after_unpark}
use Rattle.lot_history.specs.declared.view.Standing.{Standing}
use Rattle.lot_history.specs.declared.view.Piece.{Piece}
use Rattle.lot_history.specs.declared.view.Piece.TheVariants.{Lists}
use Rattle.lot_history.specs.Moves.{Finds, Moves, IsFilter}
use Rattle.lot_history.specs.Pieces.{at_key, waiter_of, threads_taken}
use Rattle.lot_history.proofs.ListsLemmas.{moved_to, with_key, lists_after_requeue-unmoved}
use Rattle.lot_history.proofs.RequeueLemmas.{passes_within}
use Rattle.lot_history.proofs.SplitLemmas.{IsParted, parted_first, parted_all, parted_filter, waiter_split}
use Rattle.lot_history.proofs.SplitLemmas.{split_first-map, split_filter-map, result_of-map, result_of-exact}
use Rattle.lot_history.proofs.ThreadLemmas.{Is}
use Rattle.lot_history.proofs.TimesLemmas.{ChangesKey}
use Rattle.lot_history.proofs.UnparkLemmas.{Unparks}

-- no list is so long that a `usize` could not tell it
pub few_waiting : (max_threads size place key : ℕ) (standing : List Standing) (rest : List Piece) (m : Machine)
    → place_of key size ≡ place → Finds max_threads (Lists size place standing ∷ rest) m
    → length (map waiter_of (at_key key standing)) ≤ max_threads
few_waiting max_threads size place key standing rest m here finds =
    let short = length-le_from_MatchesStatus finds.consistent.0 m key finds.consistent.1 in
    let same : length (m.lists key) ≡ length (map waiter_of (at_key key standing)) =
    ap (λ (ws : List Waiter). length ws) (finds.so.0 key here).waiters in
    omega (arith, short, same, finds.threads)

-- decisions that lie in memory
vec_of : (decisions : List FilterOp) → length decisions < 2 ^ 63
    → (others : Vec FilterOp Global) × (others.items ≡ decisions)
vec_of decisions small = (
  record {
    ptr = null_ptr;
    len = length decisions;
    cap = length decisions;
    alloc = record { memory = record { seal = tt } };
    items = decisions;
    ok = (refl, omega arith);
    small = small;
  },
  refl,
)

module _ (max_threads size place key : ℕ) (standing after : List Standing) (token : UnparkToken)
    (here : place_of key size ≡ place) where
  abbrev waiting : List Standing
  waiting = at_key key standing

  -- some waiters of the key are taken, and none is moved
  unparks : (split : Split Standing) → IsParted split waiting → split.moved ≡ []
      → ChangesKey standing after key split.left → (said : Step → Answer → Type 0)
      → ((m : Machine) → Finds max_threads (Lists size place standing ∷ []) m → m.lists key ≡ map waiter_of waiting
      → Unparks said m (after_unpark m key (waiter_split split) token))
      → Moves max_threads said (Lists size place standing ∷ [])
      (Lists size place after ∷ threads_taken token split.taken)
  unparks split parts none lists said does =
      passes_within max_threads size place key key standing after split token here here parts
      (λ k. lists k ∙ sym (lists_after_requeue-unmoved (λ q. at_key q standing) key (moved_to key split)
      (ap (map (with_key key)) none) k)) said
      (λ m finds is. subst (Unparks said m)
      (sym (after_requeue-after_unpark m key (waiter_split split) token (ap (map waiter_of) none))) (does m finds is))

  -- the first waiter of the key is taken, if there is one
  pub unparks_one : ChangesKey standing after key (split_first waiting).left
      → Moves max_threads (Is (step.Unpark (op.One key token)) (answer.Unpark (result_of (split_first waiting))))
      (Lists size place standing ∷ []) (Lists size place after ∷ threads_taken token (split_first waiting).taken)
  unparks_one lists =
      let given : Answer = answer.Unpark (result_of (split_first waiting)) in
      unparks (split_first waiting) (parted_first waiting) refl lists (Is (step.Unpark (op.One key token)) given)
      (λ m finds is. let same : waiter_split (split_first waiting) ≡ split_first (m.lists key) =
      split_first-map waiter_of waiting ∙ ap (λ (ws : List Waiter). split_first ws) (sym is) in (
        op.One key token,
        given,
        (refl, refl),
        (
          ap answer.Unpark
              (sym (result_of-map waiter_of (split_first waiting)) ∙ ap (λ (s : Split Waiter). result_of s) same),
          ap (λ (s : Split Waiter). after_unpark m key s token) same,
        ),
      ))

  -- all waiters of the key are taken
  pub unparks_all : ChangesKey standing after key []
      → Moves max_threads (Is (step.Unpark (op.All key token)) (answer.Count (length waiting)))
      (Lists size place standing ∷ []) (Lists size place after ∷ threads_taken token waiting)
  unparks_all lists =
      let given : Answer = answer.Count (length waiting) in
      unparks (split_all waiting) (parted_all waiting) refl lists (Is (step.Unpark (op.All key token)) given)
      (λ m finds is. (
        op.All key token,
        given,
        (refl, refl),
        (
          ap answer.Count (sym (length-map waiting waiter_of) ∙ ap (λ (ws : List Waiter). length ws) (sym is)),
          ap (λ (ws : List Waiter). after_unpark m key (split_all ws) token) (sym is),
        ),
      ))

  -- those are taken that a filter chooses which decides so
  pub unparks_filter : (decisions : List FilterOp) → max_threads < 2 ^ 63 → length decisions ≤ length waiting
      → ChangesKey standing after key (split_filter decisions waiting).left
      → Moves max_threads
      (IsFilter key decisions token (with_saturated_counts (result_of (split_filter decisions waiting))))
      (Lists size place standing ∷ [])
      (Lists size place after ∷ threads_taken token (split_filter decisions waiting).taken)
  unparks_filter decisions most short lists =
      let chosen : Split Standing = split_filter decisions waiting in
      let result : UnparkResult = with_saturated_counts (result_of chosen) in
      unparks chosen (parted_filter waiting decisions) (split_filter-moves_nobody decisions waiting) lists
      (IsFilter key decisions token result)
      (λ m finds is.
      let few = few_waiting max_threads size place key standing [] m here finds in
      let long = length-map waiting waiter_of in
      let (others, are) = vec_of decisions (omega (arith, few, long, short, most)) in
      let same : waiter_split chosen ≡ split_filter others.items (m.lists key) =
      split_filter-map waiter_of decisions waiting
      ∙ (ap (λ (ws : List Waiter). split_filter decisions ws) (sym is)
      ∙ ap (λ (ds : List FilterOp). split_filter ds (m.lists key)) (sym are)) in (
        op.Filter key others token,
        answer.Unpark result,
        (others, are, refl, refl),
        (
          ap answer.Unpark (result_of-exact chosen waiting (parted_filter waiting decisions)
              (omega (arith, few, finds.few))
              ∙ (sym (result_of-map waiter_of chosen) ∙ ap (λ (s : Split Waiter). result_of s) same)),
          ap (λ (s : Split Waiter). after_unpark m key s token) same,
        ),
      ))
