-- Requeues, within one place and across two places of one table.
use Rattle.std.proofs.Common.{◌≡◌, ◌≢◌, ℕ, ◌+◌, ◌<◌, List, [], ◌∷◌, ◌++◌, map, refl, sym, ap}
use Rattle.std.proofs.Common.{◌∙◌, ⊎_elim, arith}
use Rattle.std.proofs.lemmas.Bool.{cases_eq}
use Rattle.lot_base.specs.declared.token.RequeueOp.{RequeueOp}
use Rattle.lot_base.specs.declared.token.UnparkToken.{UnparkToken}
use Rattle.lot_base.specs.Place.{place_of}
use Rattle.lot_base.specs.Waiting.{Split, with_value, split_by, requeue_result, lists_after_requeue}
use Rattle.lot_base.proofs.ValueLemmas.{with_value-same, with_value-other}
use Rattle.lot_machine.specs.declared.step.Answer.{Answer}
use Rattle.lot_machine.specs.declared.step.Answer.TheVariants as answer
use Rattle.lot_machine.specs.declared.step.Step.{Step}
use Rattle.lot_machine.specs.declared.step.Op.TheVariants as op
use Rattle.lot_machine.specs.declared.step.Step.TheVariants as step
use Rattle.lot_machine.specs.Machine.{Machine, Waiter, after_requeue}
use Rattle.lot_history.specs.declared.view.Standing.{Standing}
use Rattle.lot_history.specs.declared.view.Piece.{Piece}
use Rattle.lot_history.specs.declared.view.Piece.TheVariants.{Lists}
use Rattle.lot_history.specs.Moves.{Finds, Moves}
use Rattle.lot_history.specs.Pieces.{thread, times_standing, cover, at_key, waiter_of, AllStand}
use Rattle.lot_history.specs.Pieces.{AllSo, threads_taken}
use Rattle.lot_history.proofs.ListsLemmas.{changes_so, lists_cover, with_key, moved_to, moved_times}
use Rattle.lot_history.proofs.ListsLemmas.{moved_stand}
use Rattle.lot_history.proofs.PieceLemmas.{own_list, times-append, AllStand-append}
use Rattle.lot_history.proofs.SplitLemmas.{IsParted, parted_times, parted_by, waiter_split, split_by-map}
use Rattle.lot_history.proofs.SplitLemmas.{requeue_result-map}
use Rattle.lot_history.proofs.ThreadLemmas.{Is}
use Rattle.lot_history.proofs.TimesLemmas.{ChangesKey, HasKey, all_at_key, changed_times}
use Rattle.lot_history.proofs.UnparkLemmas.{Unparks, passes}
use Rattle.lot_history.proofs.RequeueLemmas.{all_to_key, waiters_to_key, left_stand, passes_within}

module _ (max_threads size place other from to : ℕ) (standing after target target_after : List Standing)
    (split : Split Standing) (token : UnparkToken) (apart : other ≢ place) (from_here : place_of from size ≡ place)
    (to_there : place_of to size ≡ other) (parts : IsParted split (at_key from standing))
    (lists : ChangesKey standing after from split.left)
    (targets : ChangesKey target target_after to (at_key to target ++ map (with_key to) split.moved)) where
  abbrev old : List Piece
  old = Lists size place standing ∷ Lists size other target ∷ []

  abbrev new : List Piece
  new = Lists size place after ∷ Lists size other target_after ∷ []

  abbrev behind : List Standing
  behind = at_key to target ++ map (with_key to) split.moved

  fewer : (number : ℕ)
      → times_standing number after + times_standing number target_after + times_standing number split.taken
      ≡ times_standing number standing + times_standing number target
  fewer number = omega (
    arith,
    changed_times standing from split.left (parts.left (HasKey from) (all_at_key from standing)) after lists number,
    changed_times target to behind (all_to_key to target split.moved) target_after targets number,
    times-append number (at_key to target) (map (with_key to) split.moved),
    moved_times to number split.moved,
    parted_times split (at_key from standing) parts number,
  )

  module _ (m : Machine) (so : AllSo m old) where
    abbrev next : Machine
    next = after_requeue m from to (waiter_split split) token

    abbrev kept : ℕ → List Waiter
    kept = with_value m.lists from (map waiter_of split.left)

    stand : AllStand m split.left × AllStand m split.moved
    stand = left_stand m split (at_key from standing) parts (so.0 from from_here).wait

    now : (k : ℕ) → place_of k size ≡ place → next.lists k ≡ kept k
    now k here = with_value-other kept to (kept to ++ map waiter_of split.moved) k
        (λ same. apart (sym to_there ∙ (ap (λ q. place_of q size) (sym same) ∙ here)))

    kept_there : (k : ℕ) → place_of k size ≡ other → kept k ≡ m.lists k
    kept_there k there = with_value-other m.lists from (map waiter_of split.left) k
        (λ same. apart (sym there ∙ (ap (λ q. place_of q size) same ∙ from_here)))

    to_waiters : kept to ++ map waiter_of split.moved ≡ map waiter_of behind
    to_waiters = ap (λ (ws : List Waiter). ws ++ map waiter_of split.moved)
        (kept_there to to_there ∙ (so.1.0 to to_there).waiters) ∙ sym (waiters_to_key to target split.moved)

    now_there : (k : ℕ) → place_of k size ≡ other → next.lists k ≡ with_value m.lists to (map waiter_of behind) k
    now_there k there =
        ⊎_elim
        (λ (same : k ≡ to). with_value-same kept to (kept to ++ map waiter_of split.moved) k same
        ∙ (to_waiters ∙ sym (with_value-same m.lists to (map waiter_of behind) k same)))
        (λ (elsewhere : k ≢ to). with_value-other kept to (kept to ++ map waiter_of split.moved) k elsewhere
        ∙ (kept_there k there ∙ sym (with_value-other m.lists to (map waiter_of behind) k elsewhere)))
        (cases_eq k to)

    both_so : ((number : ℕ) → 0 < cover (thread number) new → m.status number ≡ next.status number) → AllSo next new
    both_so alike = (
      changes_so size place from standing after split.left lists m next so.0 now stand.0
          (λ number more. alike number (omega (arith, more))),
      (
        changes_so size other to target target_after behind targets m next so.1.0 now_there
            (AllStand-append m (at_key to target) (map (with_key to) split.moved) (so.1.0 to to_there).wait
            (moved_stand m to split.moved stand.1)) (λ number more. alike number (omega (arith, more))),
        tt,
      ),
    )

  -- waiters of one key are taken, or moved to a key of another place
  pub passes_across : (said : Step → Answer → Type 0)
      → ((m : Machine) → Finds max_threads old m → m.lists from ≡ map waiter_of (at_key from standing)
      → Unparks said m (after_requeue m from to (waiter_split split) token))
      → Moves max_threads said (Lists size place standing ∷ Lists size other target ∷ [])
      (Lists size place after ∷ Lists size other target_after ∷ threads_taken token split.taken)
  passes_across =
      passes max_threads from to old new (at_key from standing) split token parts
      (λ name free. omega (
        arith,
        lists_cover size place standing after name free,
        lists_cover size other target target_after name free,
      )) (λ number. omega (arith, fewer number)) (λ key. refl)
      (omega (arith, own_list from size place standing from_here))
      (omega (arith, own_list to size other target to_there)) (λ m so. so.0 from from_here) both_so

-- the step of a requeue
module _ (max_threads from to : ℕ) (standing : List Standing) (chosen : RequeueOp) (token : UnparkToken) where
  abbrev waiting : List Standing
  waiting = at_key from standing

  abbrev pub requeued : Split Standing
  requeued = split_by chosen waiting

  abbrev IsRequeue : Step → Answer → Type 0
  IsRequeue = Is (step.Unpark (op.Requeue from to chosen token)) (answer.Unpark (requeue_result chosen requeued))

  leads : (m : Machine) → m.lists from ≡ map waiter_of waiting
      → Unparks IsRequeue m (after_requeue m from to (waiter_split requeued) token)
  leads m lists =
      let same : waiter_split requeued ≡ split_by chosen (m.lists from) = split_by-map waiter_of chosen waiting
      ∙ ap (λ (ws : List Waiter). split_by chosen ws) (sym lists) in (
        op.Requeue from to chosen token,
        answer.Unpark (requeue_result chosen requeued),
        (refl, refl),
        (
          ap answer.Unpark (sym (requeue_result-map waiter_of chosen requeued)
              ∙ ap (λ (s : Split Waiter). requeue_result chosen s) same),
          ap (λ (s : Split Waiter). after_requeue m from to s token) same,
        ),
      )

  pub requeues_within : (size place : ℕ) (after : List Standing) → place_of from size ≡ place
      → place_of to size ≡ place
      → ((k : ℕ) → at_key k after ≡ lists_after_requeue (λ q. at_key q standing) from to (moved_to to requeued) k)
      → Moves max_threads IsRequeue (Lists size place standing ∷ [])
      (Lists size place after ∷ threads_taken token requeued.taken)
  requeues_within size place after from_here to_here lists =
      passes_within max_threads size place from to standing after requeued token from_here to_here
      (parted_by waiting chosen) lists IsRequeue (λ m finds. leads m)

  pub requeues_across : (size place other : ℕ) (after target target_after : List Standing) → other ≢ place
      → place_of from size ≡ place → place_of to size ≡ other → ChangesKey standing after from requeued.left
      → ChangesKey target target_after to (at_key to target ++ map (with_key to) requeued.moved)
      → Moves max_threads IsRequeue (Lists size place standing ∷ Lists size other target ∷ [])
      (Lists size place after ∷ Lists size other target_after ∷ threads_taken token requeued.taken)
  requeues_across size place other after target target_after apart from_here to_there lists targets =
      passes_across max_threads size place other from to standing after target target_after requeued token apart
      from_here to_there (parted_by waiting chosen) lists targets IsRequeue (λ m finds. leads m)
