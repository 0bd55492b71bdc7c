-- A running thread enters the list of a key.
use Rattle.std.proofs.Common.{◌≡◌, ◌≢◌, ℕ, ◌==◌, Bool, true, false, MatchBool, cond, List, [], ◌∷◌, ◌++◌, append-nil}
use Rattle.std.proofs.Common.{refl, sym, ap, ◌∙◌, subst, ⊎_elim, arith}
use Rattle.std.proofs.lemmas.Bool.{cases_eq, eq-eqb, ne_eqb}
use Rattle.std.proofs.lemmas.List.{map-append}
use Rattle.std.proofs.lemmas.List.Elements.{filter-append}
use Rattle.lot_base.specs.declared.token.ParkToken.{ParkToken}
use Rattle.lot_base.specs.Place.{place_of}
use Rattle.lot_base.proofs.ValueLemmas.{with_value-same, with_value-other}
use Rattle.lot_machine.specs.declared.status.Status.TheVariants as status
use Rattle.lot_machine.specs.declared.step.Answer.TheVariants as answer
use Rattle.lot_machine.specs.declared.step.Step.TheVariants as step
use Rattle.lot_machine.specs.Machine.{Machine, after_enter}
use Rattle.lot_machine.specs.Status.{is_running}
use Rattle.lot_machine.specs.Steps.{Gives, IsStep}
use Rattle.lot_history.specs.declared.view.Standing.{Standing}
use Rattle.lot_history.specs.declared.view.Piece.{Piece}
use Rattle.lot_history.specs.declared.view.Piece.TheVariants.{Lists, Thread, Timing}
use Rattle.lot_history.specs.Moves.{Finds, Moves}
use Rattle.lot_history.specs.Pieces.{Name, list, title, dealing, thread, records, timing, numbers, times_standing, cover, Alike, at_key}
use Rattle.lot_history.specs.Pieces.{waiter_of, AllStand, IsList, AllSo}
use Rattle.lot_history.proofs.PieceLemmas.{own_thread, own_timing, own_list, AllSo-alike, stands-alike, times-at_key, times-append}
use Rattle.lot_history.proofs.PieceLemmas.{AllStand-append}
use Rattle.lot_history.proofs.ThreadLemmas.{Is, stays_moves, turned_thread, turned_numbers}

module _ (max_threads size place : ℕ) (standing : List Standing) (number key : ℕ) (park_token : ParkToken)
    (was_timed timed : Bool) (rest : List Piece) where
  -- the thread as it stands in the list then
  abbrev pub entered : Standing
  entered = record { key = key; number = number; park_token = park_token; timed = timed; late = false }

  abbrev before : List Piece
  before = Lists size place standing ∷ Thread number status.Running ∷ Timing number was_timed ∷ rest

  abbrev after : List Piece
  after = Lists size place (standing ++ entered ∷ []) ∷ Timing number timed ∷ rest

  -- what changes of them
  abbrev old : List Piece
  old = Lists size place standing ∷ Thread number status.Running ∷ Timing number was_timed ∷ []

  same_cover : (name : Name) → cover name after ≡ cover name before
  same_cover (list k) = omega arith
  same_cover (title k) = omega arith
  same_cover (dealing k) = omega arith
  same_cover (thread other) = omega (arith, times-append other standing (entered ∷ []))
  same_cover (records other) = omega arith
  same_cover (timing other) = omega arith
  same_cover numbers = omega arith

  module _ (here : place_of key size ≡ place) (m : Machine) (finds : Finds max_threads before m) where
    abbrev next : Machine
    next = after_enter m number key park_token timed

    running : m.status number ≡ status.Running
    running = finds.so.1.0

    -- the thread stood nowhere in the piece
    absent : times_standing number standing ≡ 0
    absent =
        let once = finds.once (thread number) in
        let one = own_thread number number status.Running refl in
        omega arith

    other_list : (k : ℕ) → cover (list k) old ≡ 0 → m.lists k ≡ next.lists k
    other_list k none =
        ⊎_elim
        (λ (same : k ≡ key). let one = own_list k size place standing (ap (λ q. place_of q size) same ∙ here) in
        absurd (omega arith))
        (λ (other : k ≢ key). sym (with_value-other m.lists key _ k other))
        (cases_eq k key)

    alike : (name : Name) → cover name old ≡ 0 → Alike m next name
    alike (list k) none = other_list k none
    alike (title k) none = other_list k none
    alike (dealing k) none = tt
    alike (thread other) none =
        turned_thread m number status.Running (status.Waiting timed) running refl refl other (omega arith)
    alike (records other) none = refl
    alike (timing other) none = λ each waits. sym (with_value-other m.status number (status.Waiting timed) other
        (λ same. let own = own_timing other number was_timed same in absurd (omega arith))) ∙ waits
    alike numbers none = turned_numbers m number status.Running (status.Waiting timed) running refl refl

    at_own : (k : ℕ) → k ≡ key → at_key k (standing ++ entered ∷ []) ≡ at_key k standing ++ entered ∷ []
    at_own k same = filter-append (λ (each : Standing). each.key == k) standing (entered ∷ [])
        ∙ ap (λ b. at_key k standing ++ cond b (entered ∷ []) []) (eq-eqb key k (sym same))

    at_other : (k : ℕ) → k ≢ key → at_key k (standing ++ entered ∷ []) ≡ at_key k standing
    at_other k other = filter-append (λ (each : Standing). each.key == k) standing (entered ∷ [])
        ∙ (ap (λ b. at_key k standing ++ cond b (entered ∷ []) []) (ne_eqb key k (λ e. other (sym e)))
        ∙ append-nil (at_key k standing))

    still : (k : ℕ) → AllStand m (at_key k standing) → AllStand next (at_key k standing)
    still k wait = stands-alike m next (at_key k standing)
        (λ j more. sym (with_value-other m.status number (status.Waiting timed) j
        (λ (same : j ≡ number). let less = times-at_key j k standing in
        let none : times_standing j standing ≡ 0 = ap (λ n. times_standing n standing) same ∙ absent in
        absurd (omega arith)))) wait

    lists_so : (k : ℕ) → place_of k size ≡ place → IsList next k (at_key k (standing ++ entered ∷ []))
    lists_so k there =
        let was : IsList m k (at_key k standing) = finds.so.0 k there in
        ⊎_elim
        (λ (same : k ≡ key). subst (IsList next k) (sym (at_own k same)) (record {
          waiters = with_value-same m.lists key (m.lists key ++ waiter_of entered ∷ []) k same
              ∙ (ap (λ q. m.lists q ++ waiter_of entered ∷ []) (sym same)
              ∙ (ap (λ w. w ++ waiter_of entered ∷ []) was.waiters
              ∙ sym (map-append waiter_of (at_key k standing) (entered ∷ []))));
          wait = AllStand-append next (at_key k standing) (entered ∷ []) (still k was.wait)
              (with_value-same m.status number (status.Waiting timed) number refl, tt);
        }))
        (λ (other : k ≢ key). subst (IsList next k) (sym (at_other k other)) (record {
          waiters = with_value-other m.lists key (m.lists key ++ waiter_of entered ∷ []) k other ∙ was.waiters;
          wait = still k was.wait;
        }))
        (cases_eq k key)

    does : IsStep m (step.Enter number key true park_token timed) answer.Entered next
    does = subst (λ s. MatchBool (is_running s) (Gives next answer.Entered answer.Entered next)
        (Gives m answer.Misfit answer.Entered next)) (sym running) (refl, refl)

    rest_is : AllSo next rest
    rest_is = AllSo-alike m next rest
        (λ name more. alike name (let once = finds.once name in omega arith)) finds.so.1.1.1

    timing_so : (other : Bool) → next.status number ≡ status.Waiting other → other ≡ timed
    timing_so other waits = let same : status.Waiting timed ≡ status.Waiting other =
        sym (with_value-same m.status number (status.Waiting timed) number refl) ∙ waits in cc (same)

    uncovered : (name : Name) → cover name after ≡ 0 → Alike m next name
    uncovered name none = alike name (let c = same_cover name in omega arith)

  pub enters : place_of key size ≡ place
      → Moves max_threads (Is (step.Enter number key true park_token timed) answer.Entered) before after
  enters here = record {
    cover = same_cover;
    step = λ m finds. record {
      step = step.Enter number key true park_token timed;
      answer = answer.Entered;
      is_said = (refl, refl);
      next = after_enter m number key park_token timed;
      does = does here m finds;
      so = (lists_so here m finds, (timing_so here m finds, rest_is here m finds));
      others = uncovered here m finds;
    };
  }

-- a running thread is not let in, where the validation answered false
pub stays_out : (max_threads number key : ℕ) (park_token : ParkToken) (timed : Bool) (rest : List Piece)
    → Moves max_threads (Is (step.Enter number key false park_token timed) answer.Invalid)
    (Thread number status.Running ∷ rest) (Thread number status.Running ∷ rest)
stays_out max_threads number key park_token timed rest =
    stays_moves max_threads (step.Enter number key false park_token timed) answer.Invalid
    (Thread number status.Running ∷ rest)
    (λ m finds. subst (λ s. MatchBool (is_running s) (Gives m answer.Invalid answer.Invalid m)
    (Gives m answer.Misfit answer.Invalid m)) (sym finds.so.0) (refl, refl))
