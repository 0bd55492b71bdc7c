-- A running thread records a key once more, or once less.
use Rattle.std.proofs.Common.{◌≡◌, ℕ, List, [], ◌∷◌, MatchBool, refl, sym, ap, ◌∙◌, subst, arith}
use Rattle.lot_base.proofs.ValueLemmas.{with_value-same, with_value-other}
use Rattle.lot_machine.specs.declared.status.Status.TheVariants as status
use Rattle.lot_machine.specs.declared.step.Answer.{Answer}
use Rattle.lot_machine.specs.declared.step.Answer.TheVariants as answer
use Rattle.lot_machine.specs.declared.step.Step.{Step}
use Rattle.lot_machine.specs.declared.step.Step.TheVariants as step
use Rattle.lot_machine.specs.Machine.{Machine, with_records, after_release}
use Rattle.lot_machine.specs.Records.{times_recorded, one_more, one_less}
use Rattle.lot_machine.specs.Status.{is_running}
use Rattle.lot_machine.specs.Steps.{Gives, IsStep, IsAcquire}
use Rattle.lot_history.specs.declared.view.Piece.{Piece}
use Rattle.lot_history.specs.declared.view.Piece.TheVariants.{Thread, Records}
use Rattle.lot_history.specs.Moves.{Moves}
use Rattle.lot_history.specs.Pieces.{Name, list, title, dealing, thread, records, timing, numbers, cover, Alike}
use Rattle.lot_history.proofs.PieceLemmas.{own_records}
use Rattle.lot_history.proofs.ThreadLemmas.{Is, stays_moves}

module _ (max_threads number key : ℕ) (keys after : List ℕ) where
  abbrev old : List Piece
  old = Thread number status.Running ∷ Records number keys ∷ []

  abbrev new : List Piece
  new = Thread number status.Running ∷ Records number after ∷ []

  same_cover : (name : Name) → cover name new ≡ cover name old
  same_cover (list k) = refl
  same_cover (title k) = refl
  same_cover (dealing k) = refl
  same_cover (thread other) = refl
  same_cover (records other) = refl
  same_cover (timing other) = refl
  same_cover numbers = refl

  -- a step that leaves the thread other records
  recorded : (s : Step) (a : Answer)
      → ((m : Machine) → m.status number ≡ status.Running → m.records number ≡ times_recorded keys
      → IsStep m s a (with_records m number (times_recorded after))) → Moves max_threads (Is s a) old new
  recorded s a does = record {
    cover = same_cover;
    step = λ m finds. record {
      step = s;
      answer = a;
      is_said = (refl, refl);
      next = with_records m number (times_recorded after);
      does = does m finds.so.0 finds.so.1.0;
      so = (finds.so.0, (with_value-same m.records number (times_recorded after) number refl, tt));
      others = alike m;
    };
  }
    where
      alike : (m : Machine) (name : Name) → cover name new ≡ 0
          → Alike m (with_records m number (times_recorded after)) name
      alike m (list k) none = refl
      alike m (title k) none = refl
      alike m (dealing k) none = tt
      alike m (thread other) none = refl
      alike m (records other) none = sym (with_value-other m.records number (times_recorded after) other
          (λ same. let own = own_records other number after same in absurd (omega arith)))
      alike m (timing other) none = λ timed waits. waits
      alike m numbers none = λ other. refl

  pub acquires : times_recorded after ≡ one_more (times_recorded keys) key
      → Moves max_threads (Is (step.Acquire number key) answer.Recorded)
      (Thread number status.Running ∷ Records number keys ∷ [])
      (Thread number status.Running ∷ Records number after ∷ [])
  acquires more = recorded (step.Acquire number key) answer.Recorded
      (λ m runs are. subst (λ s. MatchBool (is_running s)
      (IsAcquire m number key answer.Recorded (with_records m number (times_recorded after)))
      (Gives m answer.Misfit answer.Recorded (with_records m number (times_recorded after)))) (sym runs)
      (ap (λ times. with_records m number times) (more ∙ ap (λ times. one_more times key) (sym are))))

  pub releases : times_recorded after ≡ one_less (times_recorded keys) key
      → Moves max_threads (Is (step.Release number key) answer.Released)
      (Thread number status.Running ∷ Records number keys ∷ [])
      (Thread number status.Running ∷ Records number after ∷ [])
  releases less = recorded (step.Release number key) answer.Released
      (λ m runs are. subst (λ s. MatchBool (is_running s)
      (Gives (after_release m number key) answer.Released answer.Released
      (with_records m number (times_recorded after)))
      (Gives m answer.Misfit answer.Released (with_records m number (times_recorded after)))) (sym runs)
      (refl, ap (λ times. with_records m number times) (less ∙ ap (λ times. one_less times key) (sym are))))

-- where memory is wanting, a running thread records nothing
pub acquires_nothing : (max_threads number key : ℕ) (rest : List Piece)
    → Moves max_threads (Is (step.Acquire number key) answer.NoMemory) (Thread number status.Running ∷ rest)
    (Thread number status.Running ∷ rest)
acquires_nothing max_threads number key rest =
    stays_moves max_threads (step.Acquire number key) answer.NoMemory (Thread number status.Running ∷ rest)
    (λ m finds. subst (λ s. MatchBool (is_running s) (IsAcquire m number key answer.NoMemory m)
    (Gives m answer.Misfit answer.NoMemory m)) (sym finds.so.0) refl)
