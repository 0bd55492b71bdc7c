-- Waiters of one key are taken, each of which is a piece of its own then, or moved to a second key.
use Rattle.std.proofs.Common.{◌≡◌, ◌≢◌, ℕ, ◌+◌, ◌<◌, false, List, [], ◌∷◌, ◌++◌, map, refl, sym, ap, ◌∙◌, ⊎_elim, arith}
use Rattle.std.proofs.lemmas.Bool.{cases_eq}
use Rattle.lot_base.specs.declared.token.UnparkToken.{UnparkToken}
use Rattle.lot_base.specs.Waiting.{Split, with_value}
use Rattle.lot_base.proofs.ValueLemmas.{with_value-other}
use Rattle.lot_machine.specs.declared.status.Status.TheVariants as status
use Rattle.lot_machine.specs.declared.step.Answer.{Answer}
use Rattle.lot_machine.specs.declared.step.Op.{Op}
use Rattle.lot_machine.specs.declared.step.Step.{Step}
use Rattle.lot_machine.specs.declared.step.Step.TheVariants as step
use Rattle.lot_machine.specs.Machine.{Machine, Waiter, after_requeue}
use Rattle.lot_machine.specs.Status.{is_registered}
use Rattle.lot_machine.specs.Steps.{IsUnpark}
use Rattle.lot_machine.proofs.WaiterLemmas.{statuses_with_taken-among, statuses_with_taken-other}
use Rattle.lot_history.specs.declared.view.Standing.{Standing}
use Rattle.lot_history.specs.declared.view.Piece.{Piece}
use Rattle.lot_history.specs.Moves.{Finds, Moves}
use Rattle.lot_history.specs.Pieces.{Name, list, title, dealing, thread, records, timing, numbers, times_standing, cover, Alike, waiter_of}
use Rattle.lot_history.specs.Pieces.{IsList, AllSo, threads_taken}
use Rattle.lot_history.proofs.ListsLemmas.{is_thread}
use Rattle.lot_history.proofs.PieceLemmas.{own_thread, AllSo-append, cover-append, stands-registered, times_in-waiters}
use Rattle.lot_history.proofs.SplitLemmas.{waiter_split, IsParted, parted_times}

cover-taken : (token : UnparkToken) (taken : List Standing) (number : ℕ)
    → cover (thread number) (threads_taken token taken) ≡ times_standing number taken
cover-taken token [] number = refl
cover-taken token (each ∷ taken) number = omega (arith, cover-taken token taken number)

-- nothing else is covered by them
cover-taken_other : (token : UnparkToken) (taken : List Standing) (name : Name) → is_thread name ≡ false
    → cover name (threads_taken token taken) ≡ 0
cover-taken_other token [] name other = refl
cover-taken_other token (each ∷ taken) (list key) other = omega (arith, cover-taken_other token taken (list key) other)
cover-taken_other token (each ∷ taken) (title key) other =
    omega (arith, cover-taken_other token taken (title key) other)
cover-taken_other token (each ∷ taken) (dealing key) other =
    omega (arith, cover-taken_other token taken (dealing key) other)
cover-taken_other token (each ∷ taken) (records number) other =
    omega (arith, cover-taken_other token taken (records number) other)
cover-taken_other token (each ∷ taken) (timing number) other =
    omega (arith, cover-taken_other token taken (timing number) other)
cover-taken_other token (each ∷ taken) numbers other = omega (arith, cover-taken_other token taken numbers other)
cover-taken_other token (each ∷ taken) (thread number) other = absurd (cc)

-- from the machine an unpark of which this is said leads to the next
abbrev pub Unparks : (Step → Answer → Type 0) → Machine → Machine → Type 0
Unparks said m next = (which : Op) × (given : Answer) × said (step.Unpark which) given × IsUnpark m which given next

-- `old` are the places of both keys, and `new` what becomes of them
module _ (max_threads from to : ℕ) (old new : List Piece) (waiting : List Standing) (split : Split Standing)
    (token : UnparkToken) (parts : IsParted split waiting)
    (lists_same : (name : Name) → is_thread name ≡ false → cover name new ≡ cover name old)
    (threads_less : (number : ℕ)
    → cover (thread number) new + times_standing number split.taken ≡ cover (thread number) old)
    (untitled : (key : ℕ) → cover (title key) old ≡ cover (list key) old)
    (owns_from : 0 < cover (list from) old) (owns_to : 0 < cover (list to) old)
    (is_list : (m : Machine) → AllSo m old → IsList m from waiting)
    (becomes : (m : Machine) → AllSo m old → ((number : ℕ) → 0 < cover (thread number) new
    → m.status number ≡ (after_requeue m from to (waiter_split split) token).status number)
    → AllSo (after_requeue m from to (waiter_split split) token) new) where
  abbrev new_pieces : List Piece
  new_pieces = new ++ threads_taken token split.taken

  apart : (name : Name) → is_thread name ≡ false → cover name new_pieces ≡ cover name old
  apart name other = omega (
    arith,
    cover-append name new (threads_taken token split.taken),
    cover-taken_other token split.taken name other,
    lists_same name other,
  )

  same_cover : (name : Name) → cover name new_pieces ≡ cover name old
  same_cover (list key) = apart (list key) refl
  same_cover (title key) = apart (title key) refl
  same_cover (dealing key) = apart (dealing key) refl
  same_cover (records number) = apart (records number) refl
  same_cover (timing number) = apart (timing number) refl
  same_cover numbers = apart numbers refl
  same_cover (thread number) = omega (
    arith,
    cover-append (thread number) new (threads_taken token split.taken),
    cover-taken token split.taken number,
    threads_less number,
  )

  module _ (m : Machine) (finds : Finds max_threads old m) where
    abbrev next : Machine
    next = after_requeue m from to (waiter_split split) token

    abbrev kept : ℕ → List Waiter
    kept = with_value m.lists from (map waiter_of split.left)

    other_status : (number : ℕ) → times_standing number split.taken ≡ 0 → m.status number ≡ next.status number
    other_status number none =
        sym (statuses_with_taken-other token (map waiter_of split.taken) m.status number
        (times_in-waiters number split.taken ∙ none))

    taken_status : (number : ℕ) → 0 < times_standing number split.taken → next.status number ≡ status.Taken token
    taken_status number more =
        statuses_with_taken-among token (map waiter_of split.taken) m.status number
        (λ none. let same = times_in-waiters number split.taken in absurd (omega arith))

    taken_so : (part : List Standing)
        → ((number : ℕ) → 0 < times_standing number part → 0 < times_standing number split.taken)
        → AllSo next (threads_taken token part)
    taken_so [] among = tt
    taken_so (each ∷ part) among = (
      taken_status each.number (among each.number (omega (arith, first each part))),
      taken_so part (λ number more. among number (omega arith)),
    )
      where
        first : (each : Standing) (part : List Standing) → 0 < times_standing each.number (each ∷ part)
        first each part = let one = own_thread each.number each.number (status.Taken token) refl in omega arith

    other_list : (key : ℕ) → cover (list key) old ≡ 0 → m.lists key ≡ next.lists key
    other_list key none =
        ⊎_elim
        (λ (same : key ≡ to). let own = ap (λ q. cover (list q) old) same in absurd (omega (arith, own, owns_to)))
        (λ (not_to : key ≢ to). ⊎_elim
        (λ (same : key ≡ from). let own = ap (λ q. cover (list q) old) same in absurd (omega (arith, own, owns_from)))
        (λ (not_from : key ≢ from). sym (with_value-other kept to (kept to ++ map waiter_of split.moved) key not_to
        ∙ with_value-other m.lists from (map waiter_of split.left) key not_from))
        (cases_eq key from))
        (cases_eq key to)

    alike : (name : Name) → cover name old ≡ 0 → Alike m next name
    alike (list key) none = other_list key none
    alike (title key) none = other_list key (sym (untitled key) ∙ none)
    alike (dealing key) none = tt
    alike (thread number) none = other_status number (omega (arith, threads_less number, none))
    alike (records number) none = refl
    alike (timing number) none = λ timed waits.
        ⊎_elim (λ (nobody : times_standing number split.taken ≡ 0). other_status number nobody ∙ waits)
        (λ (some : times_standing number split.taken ≢ 0). let taken : status.Taken token ≡ status.Waiting timed =
        sym (taken_status number (omega arith)) ∙ waits in absurd (cc (taken)))
        (cases_eq (times_standing number split.taken) 0)
    alike numbers none = λ number.
        ⊎_elim (λ (nobody : times_standing number split.taken ≡ 0). ap is_registered (other_status number nobody))
        (λ (some : times_standing number split.taken ≢ 0). let all = parted_times split waiting parts number in
        stands-registered m number waiting (is_list m finds.so).wait (omega arith)
        ∙ sym (ap is_registered (taken_status number (omega arith))))
        (cases_eq (times_standing number split.taken) 0)

    -- who is still there has not been taken
    still : (number : ℕ) → 0 < cover (thread number) new → m.status number ≡ next.status number
    still number more = other_status number
        (omega (arith, threads_less number, finds.once (thread number), more))

    uncovered : (name : Name) → cover name new_pieces ≡ 0 → Alike m next name
    uncovered name none = alike name (omega (arith, same_cover name, none))

  pub passes : (said : Step → Answer → Type 0)
      → ((m : Machine) → Finds max_threads old m → m.lists from ≡ map waiter_of waiting
      → Unparks said m (after_requeue m from to (waiter_split split) token))
      → Moves max_threads said old (new ++ threads_taken token split.taken)
  passes said does = record {
    cover = same_cover;
    step = λ m finds. let (which, given, is_said, leads) = does m finds (is_list m finds.so).waiters in record {
      step = step.Unpark which;
      answer = given;
      is_said = is_said;
      next = after_requeue m from to (waiter_split split) token;
      does = leads;
      so = AllSo-append (after_requeue m from to (waiter_split split) token) new (threads_taken token split.taken)
          (becomes m finds.so (still m finds)) (taken_so m finds split.taken (λ number more. more));
      others = uncovered m finds;
    };
  }
