-- Registrations, and their end.
use Rattle.std.proofs.Common.{◌≡◌, ◌≢◌, ℕ, ◌+◌, ◌<◌, ◌==◌, Bool, true, false, MatchBool, cond, List, [], ◌∷◌, refl}
use Rattle.std.proofs.Common.{sym, ap, ◌∙◌, length, slice_set, subst, ⊎_elim, arith}
use Rattle.std.proofs.lemmas.List.{get_or-set_same, get_or-set_other}
use Rattle.std.proofs.lemmas.Bool.{cases_eq, eq-eqb, ne_eqb, cond-false, false≢true, true≢false}
use Rattle.lot_base.proofs.ValueLemmas.{with_value-same, with_value-other}
use Rattle.lot_machine.specs.declared.status.Status.{Status}
use Rattle.lot_machine.specs.declared.status.Status.TheVariants as status
use Rattle.lot_machine.specs.declared.step.Answer.TheVariants as answer
use Rattle.lot_machine.specs.declared.step.Step.TheVariants as step
use Rattle.lot_machine.specs.Machine.{Machine, IsLeastFree, with_status, after_retire}
use Rattle.lot_machine.specs.Records.{times_recorded}
use Rattle.lot_machine.specs.Status.{is_registered, is_running}
use Rattle.lot_machine.specs.Steps.{Gives, IsStep}
use Rattle.lot_history.specs.declared.view.Piece.{Piece}
use Rattle.lot_history.specs.declared.view.Piece.TheVariants.{Thread, Records, Numbers, Timing}
use Rattle.lot_history.specs.Moves.{Finds, Moves}
use Rattle.lot_history.specs.Pieces.{Name, list, title, dealing, thread, records, timing, numbers, has_number, IsOneMore, covers, cover, Alike}
use Rattle.lot_history.specs.Pieces.{AllSo}
use Rattle.lot_history.proofs.PieceLemmas.{AllSo-alike}
use Rattle.lot_history.proofs.ThreadLemmas.{Is, stays_moves, turned_timing}

-- a number is registered in a list that has it
pub one_more_set : (uses : List Bool) (number : ℕ) → number < length uses → has_number uses number ≡ false
    → IsOneMore uses number (slice_set uses number true)
one_more_set uses number low free = record {
  free = free;
  numbers = λ k. ⊎_elim
      (λ (same : k ≡ number). ap (has_number (slice_set uses number true)) same
      ∙ (get_or-set_same uses number true false low ∙ sym (with_value-same (has_number uses) number true k same)))
      (λ (other : k ≢ number). get_or-set_other uses number k true false other
      ∙ sym (with_value-other (has_number uses) number true k other))
      (cases_eq k number);
}

-- a number that is not registered is free
Free-from : (s : Status) → is_registered s ≡ false → s ≡ status.Free
Free-from status.Free is = refl
Free-from status.Running is = absurd (true≢false is)
Free-from (status.Waiting timed) is = absurd (true≢false is)
Free-from status.Late is = absurd (true≢false is)
Free-from (status.Taken token) is = absurd (true≢false is)

free_covered : (uses : List Bool) (number : ℕ) → has_number uses number ≡ false
    → covers (thread number) (Numbers uses) ≡ 1
free_covered uses number free = cond-false (has_number uses number) 0 1 free

module _ (uses : List Bool) (number : ℕ) (more : List Bool) (one : IsOneMore uses number more) where
  more_own : (k : ℕ) → k ≡ number → (has_number uses k ≡ false) × (has_number more k ≡ true)
  more_own k same = (
    ap (has_number uses) same ∙ one.free,
    one.numbers k ∙ with_value-same (has_number uses) number true k same,
  )

  more_other : (k : ℕ) → k ≢ number → has_number more k ≡ has_number uses k
  more_other k other = one.numbers k ∙ with_value-other (has_number uses) number true k other

  -- what covers a number that is among the others covers one that is not
  one_more_covered : (k : ℕ) → cond (has_number more k) 0 1 + cond (number == k) 1 0 ≡ cond (has_number uses k) 0 1
  one_more_covered k =
      ⊎_elim
      (λ (same : k ≡ number). rw ((more_own k same).0, (more_own k same).1, eq-eqb number k (sym same)) (omega arith))
      (λ (other : k ≢ number). rw (more_other k other, ne_eqb number k (λ e. other (sym e))) (omega arith))
      (cases_eq k number)

module _ (max_threads : ℕ) (uses : List Bool) (rest : List Piece) where
  -- all numbers are registered
  pub is_full : ((number : ℕ) → number < max_threads → has_number uses number ≡ true)
      → Moves max_threads (Is step.Register answer.Full) (Numbers uses ∷ rest) (Numbers uses ∷ rest)
  is_full full = stays_moves max_threads step.Register answer.Full (Numbers uses ∷ rest) (λ m finds. (
    λ number below free. let low : number < max_threads = subst (λ n. number < n) finds.threads below in
        false≢true (ap is_registered (sym free) ∙ (finds.so.0.0 number ∙ full number low)),
    refl,
  ))

  -- memory is wanting, where a number is free
  pub registers_nothing : (number : ℕ) → number < max_threads → has_number uses number ≡ false
      → Moves max_threads (Is step.Register answer.NoMemory) (Numbers uses ∷ rest) (Numbers uses ∷ rest)
  registers_nothing number below free =
      stays_moves max_threads step.Register answer.NoMemory (Numbers uses ∷ rest) (λ m finds. (
        λ full. full number (subst (λ n. number < n) (sym finds.threads) below)
            (Free-from (m.status number) (finds.so.0.0 number ∙ free)),
        refl,
      ))

  module _ (number : ℕ) (after : List Bool) (below : number < max_threads) (more : IsOneMore uses number after)
      (least : (k : ℕ) → k < number → has_number uses k ≡ true) where
    abbrev old_pieces : List Piece
    old_pieces = Numbers uses ∷ rest

    abbrev new_pieces : List Piece
    new_pieces = Numbers after ∷ Thread number status.Running ∷ Records number [] ∷ Timing number false ∷ rest

    -- the number is covered by its own pieces now
    counted : (k : ℕ) → cond (has_number after k) 0 1 + cond (number == k) 1 0 ≡ cond (has_number uses k) 0 1
    counted = one_more_covered uses number after more

    same_cover : (name : Name) → cover name new_pieces ≡ cover name old_pieces
    same_cover (list k) = omega arith
    same_cover (title k) = omega arith
    same_cover (dealing k) = omega arith
    same_cover (thread k) = omega (arith, counted k)
    same_cover (records k) = omega (arith, counted k)
    same_cover (timing k) = omega (arith, counted k)
    same_cover numbers = omega arith

    module _ (m : Machine) (finds : Finds max_threads old_pieces m) where
      abbrev next : Machine
      next = with_status m number status.Running

      registered : (k : ℕ) → is_registered (next.status k) ≡ has_number after k
      registered k =
          ⊎_elim
          (λ (same : k ≡ number). ap is_registered (with_value-same m.status number status.Running k same)
          ∙ sym (more.numbers k ∙ with_value-same (has_number uses) number true k same))
          (λ (other : k ≢ number). ap is_registered (with_value-other m.status number status.Running k other)
          ∙ (finds.so.0.0 k ∙ sym (more.numbers k ∙ with_value-other (has_number uses) number true k other)))
          (cases_eq k number)

      still_free : (k : ℕ) → has_number after k ≡ false → has_number uses k ≡ false
      still_free k none =
          ⊎_elim (λ (same : k ≡ number). ap (has_number uses) same ∙ more.free)
          (λ (other : k ≢ number). sym (more.numbers k ∙ with_value-other (has_number uses) number true k other) ∙ none)
          (cases_eq k number)

      alike : (name : Name) → cover name (Numbers uses ∷ []) ≡ 0 → Alike m next name
      alike (list k) none = refl
      alike (title k) none = refl
      alike (dealing k) none = tt
      alike (records k) none = refl
      alike (timing k) none = turned_timing m number status.Running (λ timed is. cc (is)) k
      alike numbers none = absurd (omega arith)
      alike (thread k) none =
          sym (with_value-other m.status number status.Running k
          (λ (same : k ≡ number). let one = free_covered uses k (ap (has_number uses) same ∙ more.free) in
          absurd (omega arith)))

      is_least : IsLeastFree m number
      is_least = record {
        below = subst (λ n. number < n) (sym finds.threads) below;
        free = Free-from (m.status number) (finds.so.0.0 number ∙ more.free);
        least = λ k low is_free.
            false≢true (ap is_registered (sym is_free) ∙ (finds.so.0.0 k ∙ least k low));
      }

      -- it does not wait
      timing_so : (timed : Bool) → next.status number ≡ status.Waiting timed → timed ≡ false
      timing_so timed waits = let same : status.Running ≡ status.Waiting timed =
          sym (with_value-same m.status number status.Running number refl) ∙ waits in absurd (cc (same))

      rest_is : AllSo next rest
      rest_is = AllSo-alike m next rest (λ name more. alike name (let once = finds.once name in omega arith)) finds.so.1

      uncovered : (name : Name) → cover name new_pieces ≡ 0 → Alike m next name
      uncovered name none = alike name (let c = same_cover name in omega arith)

    -- the least number that is free is registered
    pub registers : Moves max_threads (Is step.Register (answer.Registered number)) old_pieces new_pieces
    registers = record {
      cover = same_cover;
      step = λ m finds. record {
        step = step.Register;
        answer = answer.Registered number;
        is_said = (refl, refl);
        next = with_status m number status.Running;
        does = (is_least m finds, refl);
        so = (
          (registered m finds, λ k none. finds.so.0.1 k (still_free m finds k none)),
          (
            with_value-same m.status number status.Running number refl,
            (finds.so.0.1 number more.free, (timing_so m finds, rest_is m finds)),
          ),
        );
        others = uncovered m finds;
      };
    }

-- a running thread ends its registration
module _ (max_threads number : ℕ) (keys : List ℕ) (timed : Bool) (uses after : List Bool)
    (one : IsOneMore after number uses) where
  abbrev registered_pieces : List Piece
  registered_pieces = Thread number status.Running ∷ Records number keys ∷ Timing number timed ∷ Numbers uses ∷ []

  retired_cover : (name : Name) → cover name (Numbers after ∷ []) ≡ cover name registered_pieces
  retired_cover (list k) = refl
  retired_cover (title k) = refl
  retired_cover (dealing k) = refl
  retired_cover (thread k) = omega (arith, one_more_covered after number uses one k)
  retired_cover (records k) = omega (arith, one_more_covered after number uses one k)
  retired_cover (timing k) = omega (arith, one_more_covered after number uses one k)
  retired_cover numbers = refl

  -- a number whose thread no piece covers is another
  other_number : (k : ℕ) → cond (has_number after k) 0 1 + 0 ≡ 0 → k ≢ number
  other_number k none same = let free = free_covered after k (more_own after number uses one k same).0 in
      absurd (omega arith)

  module _ (m : Machine) (finds : Finds max_threads registered_pieces m) where
    abbrev retired : Machine
    retired = after_retire m number

    numbers_so : (k : ℕ) → is_registered (retired.status k) ≡ has_number after k
    numbers_so k =
        ⊎_elim
        (λ (same : k ≡ number). ap is_registered (with_value-same m.status number status.Free k same)
        ∙ sym (more_own after number uses one k same).0)
        (λ (other : k ≢ number). ap is_registered (with_value-other m.status number status.Free k other)
        ∙ (finds.so.1.1.1.0.0 k ∙ more_other after number uses one k other))
        (cases_eq k number)

    free_so : (k : ℕ) → has_number after k ≡ false → retired.records k ≡ times_recorded []
    free_so k none =
        ⊎_elim (λ (same : k ≡ number). with_value-same m.records number (times_recorded []) k same)
        (λ (other : k ≢ number). with_value-other m.records number (times_recorded []) k other
        ∙ finds.so.1.1.1.0.1 k (more_other after number uses one k other ∙ none))
        (cases_eq k number)

    alike_retired : (name : Name) → cover name (Numbers after ∷ []) ≡ 0 → Alike m retired name
    alike_retired (list k) none = refl
    alike_retired (title k) none = refl
    alike_retired (dealing k) none = tt
    alike_retired (thread k) none = sym (with_value-other m.status number status.Free k (other_number k none))
    alike_retired (records k) none = sym (with_value-other m.records number (times_recorded []) k (other_number k none))
    alike_retired (timing k) none = turned_timing m number status.Free (λ each is. cc (is)) k
    alike_retired numbers none = absurd (omega arith)

    does : IsStep m (step.Retire number) answer.Retired retired
    does = subst (λ s. MatchBool (is_running s) (Gives retired answer.Retired answer.Retired retired)
        (Gives m answer.Misfit answer.Retired retired)) (sym finds.so.0) (refl, refl)

  pub retires : Moves max_threads (Is (step.Retire number) answer.Retired)
      (Thread number status.Running ∷ Records number keys ∷ Timing number timed ∷ Numbers uses ∷ []) (Numbers after ∷ [])
  retires = record {
    cover = retired_cover;
    step = λ m finds. record {
      step = step.Retire number;
      answer = answer.Retired;
      is_said = (refl, refl);
      next = after_retire m number;
      does = does m finds;
      so = ((numbers_so m finds, free_so m finds), tt);
      others = alike_retired m finds;
    };
  }
