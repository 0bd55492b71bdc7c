-- A thread whose deadline has passed leaves the list where it stands.
use Rattle.std.proofs.Common.{◌≡◌, ◌≢◌, ℕ, ◌+◌, ◌<◌, ◌≤◌, ◌==◌, Bool, true, false, MatchBool, not, cond, find, Some}
use Rattle.std.proofs.Common.{List, [], ◌∷◌, map, All, refl, sym, ap, ◌∙◌, subst, ⊎_elim, arith}
use Rattle.std.proofs.lemmas.Bool.{cases_eq, eq-eqb, ne_eqb, eqb-true, cond-true, cond-false}
use Rattle.lot_base.specs.Place.{place_of}
use Rattle.lot_base.specs.Waiting.{with_value, without_first, has_any}
use Rattle.lot_base.proofs.RemoveLemmas.{All-without_first}
use Rattle.lot_base.proofs.ValueLemmas.{with_value-same, with_value-other}
use Rattle.lot_machine.specs.declared.status.Status.TheVariants as status
use Rattle.lot_machine.specs.declared.step.Answer.{Answer}
use Rattle.lot_machine.specs.declared.step.Answer.TheVariants as answer
use Rattle.lot_machine.specs.declared.step.Step.TheVariants as step
use Rattle.lot_machine.specs.Machine.{Machine, Waiter, StandsAt, times_in, with_status, after_timeout}
use Rattle.lot_machine.specs.Status.{awaits_deadline}
use Rattle.lot_machine.specs.Steps.{Gives, IsStep, IsResolve}
use Rattle.lot_machine.proofs.SplitLemmas.{has_any-map}
use Rattle.lot_machine.proofs.StandingLemmas.{StandsAt-standing}
use Rattle.lot_history.specs.declared.view.Standing.{Standing}
use Rattle.lot_history.specs.declared.view.Piece.{Piece}
use Rattle.lot_history.specs.declared.view.Piece.TheVariants.{Lists, Thread}
use Rattle.lot_history.specs.Moves.{Finds, Moves}
use Rattle.lot_history.specs.Pieces.{Name, list, title, dealing, thread, records, timing, numbers, times_standing, cover, Alike, at_key}
use Rattle.lot_history.specs.Pieces.{waiter_of, status_of, AllStand, IsList, IsSo}
use Rattle.lot_history.proofs.ListsLemmas.{changes_so}
use Rattle.lot_history.proofs.PieceLemmas.{StandsIn, stand_all, all_stand, own_list, times-at_key, times_in-waiters}
use Rattle.lot_history.proofs.ThreadLemmas.{Is, turned_thread, turned_timing, turned_numbers}
use Rattle.lot_history.proofs.TimesLemmas.{ChangesKey, HasKey, all_at_key, others_of, others-other}
use Rattle.lot_history.proofs.TimesLemmas.{others-times, changed_times}

-- a list without its first that passes a test, something else in place of each
pub without_first-map : {A B : Type 0} (f : A → B) (p : A → Bool) (q : B → Bool) → ((x : A) → q (f x) ≡ p x)
    → (xs : List A) → map f (without_first p xs) ≡ without_first q (map f xs)
without_first-map f p q same [] = refl
without_first-map {A} {B} f p q same (x ∷ xs) = rw (same x) (either (p x) (without_first-map f p q same xs))
  where
    either : (b : Bool) → map f (without_first p xs) ≡ without_first q (map f xs)
        → map f (cond b xs (x ∷ without_first p xs)) ≡ cond b (map f xs) (f x ∷ without_first q (map f xs))
    either true rest = refl
    either false rest = ap (λ (l : List B). f x ∷ l) rest

pub find-map : {A B : Type 0} (f : A → B) (p : A → Bool) (q : B → Bool) → ((x : A) → q (f x) ≡ p x) → (xs : List A)
    (found : A) → find p xs ≡ Some found → find q (map f xs) ≡ Some (f found)
find-map f p q same [] found = λ is. absurd (cc (is))
find-map {A} {B} f p q same (x ∷ xs) found = rw (same x) (either (p x) (find-map f p q same xs found))
  where
    either : (b : Bool) → (find p xs ≡ Some found → find q (map f xs) ≡ Some (f found))
        → cond b (Some x) (find p xs) ≡ Some found → cond b (Some (f x)) (find q (map f xs)) ≡ Some (f found)
    either true rest is = ap (λ (y : A). Some (f y)) (cc (is))
    either false rest is = rest is

-- the thread of this number
abbrev pub is_number : ℕ → Standing → Bool
is_number number each = each.number == number

module _ (number : ℕ) where
  -- the thread of the number is late
  abbrev pub late_of : Standing → Standing
  late_of each = record each { late = cond (is_number number each) true each.late }

  abbrev pub with_late : List Standing → List Standing
  with_late standing = map late_of standing

  pub late_times : (other : ℕ) (standing : List Standing)
      → times_standing other (with_late standing) ≡ times_standing other standing
  late_times other [] = refl
  late_times other (each ∷ standing) = omega (arith, late_times other standing)

  pub late_waiters : (standing : List Standing) → map waiter_of (with_late standing) ≡ map waiter_of standing
  late_waiters [] = refl
  late_waiters (each ∷ standing) = ap (λ (l : List Waiter). waiter_of each ∷ l) (late_waiters standing)

  pub late_at_key : (k : ℕ) (standing : List Standing) → at_key k (with_late standing) ≡ with_late (at_key k standing)
  late_at_key k [] = refl
  late_at_key k (each ∷ standing) = either (each.key == k) (late_at_key k standing)
    where
      either : (b : Bool) → at_key k (with_late standing) ≡ with_late (at_key k standing)
          → cond b (late_of each ∷ at_key k (with_late standing)) (at_key k (with_late standing))
          ≡ with_late (cond b (each ∷ at_key k standing) (at_key k standing))
      either true same = ap (λ (l : List Standing). late_of each ∷ l) same
      either false same = same

  -- it stands there first, or it is another
  own_first : (each : Standing) (standing : List Standing) → each.number ≡ number
      → times_standing number (each ∷ standing) ≡ 1 + times_standing number standing
  own_first each standing own =
      let one : ◌≡◌ {A = ℕ} (cond (each.number == number) 1 0) 1 =
      cond-true (each.number == number) 1 0 (eq-eqb each.number number own) in omega arith

  other_first : (each : Standing) (standing : List Standing) → each.number ≢ number
      → times_standing number (each ∷ standing) ≡ times_standing number standing
  other_first each standing other =
      let none : ◌≡◌ {A = ℕ} (cond (each.number == number) 1 0) 0 =
      cond-false (each.number == number) 1 0 (ne_eqb each.number number other) in omega arith

  late_own : (each : Standing) → each.number ≡ number → status_of (late_of each) ≡ status.Late
  late_own each own = rw (eq-eqb each.number number own) refl

  late_other : (each : Standing) → each.number ≢ number → late_of each ≡ each
  late_other each other = λ i. record each {
    late = cond-false (each.number == number) true each.late (ne_eqb each.number number other) i;
  }

  -- where it stands nowhere, nobody is late
  late_nobody : (standing : List Standing) → times_standing number standing ≡ 0 → with_late standing ≡ standing
  late_nobody [] none = refl
  late_nobody (each ∷ standing) none =
      ⊎_elim (λ (own : each.number ≡ number). let one = own_first each standing own in absurd (omega arith))
      (λ (other : each.number ≢ number). let less = other_first each standing other in
      ap (λ (x : Standing). x ∷ with_late standing) (late_other each other)
      ∙ ap (λ (l : List Standing). each ∷ l) (late_nobody standing (omega arith)))
      (cases_eq each.number number)

  -- the machine has it so once its deadline has passed
  late_stand : (m : Machine) (standing : List Standing) → AllStand m standing
      → AllStand (with_status m number status.Late) (with_late standing)
  late_stand m [] _ = tt
  late_stand m (each ∷ standing) (first, rest) = (
    ⊎_elim
        (λ (own : each.number ≡ number). with_value-same m.status number status.Late each.number own
        ∙ sym (late_own each own))
        (λ (other : each.number ≢ number). with_value-other m.status number status.Late each.number other
        ∙ (first ∙ sym (ap status_of (late_other each other))))
        (cases_eq each.number number),
    late_stand m standing rest,
  )

  -- and has it late
  late_status : (m : Machine) (standing : List Standing) → AllStand m (with_late standing)
      → 0 < times_standing number standing → m.status number ≡ status.Late
  late_status m [] _ some = absurd (omega arith)
  late_status m (each ∷ standing) (first, rest) some =
      ⊎_elim
      (λ (own : each.number ≡ number). ap (λ n. m.status n) (sym own) ∙ (first ∙ late_own each own))
      (λ (other : each.number ≢ number). let less = other_first each standing other in
      late_status m standing rest (omega arith))
      (cases_eq each.number number)

  -- one that is found
  found_times : (standing : List Standing) (found : Standing) → find (is_number number) standing ≡ Some found
      → (other : ℕ) → times_standing other standing
      ≡ cond (number == other) 1 0 + times_standing other (without_first (is_number number) standing)
  found_times [] found is other = absurd (cc (is))
  found_times (each ∷ standing) found is other =
      either (is_number number each) refl (found_times standing found) is
    where
      either : (b : Bool) → (each.number == number) ≡ b
          → (find (is_number number) standing ≡ Some found → (other : ℕ) → times_standing other standing
          ≡ cond (number == other) 1 0 + times_standing other (without_first (is_number number) standing))
          → cond b (Some each) (find (is_number number) standing) ≡ Some found
          → times_standing other (each ∷ standing) ≡ cond (number == other) 1 0
          + times_standing other (cond b standing (each ∷ without_first (is_number number) standing))
      either true own rest found_is =
          ap (λ n. cond (n == other) 1 0 + times_standing other standing) (eqb-true each.number number own)
      either false apart rest found_is = omega (arith, rest found_is other)

  pub found_status : (m : Machine) (standing : List Standing) (found : Standing)
      → find (is_number number) standing ≡ Some found → AllStand m standing → m.status number ≡ status_of found
  found_status m [] found is _ = absurd (cc (is))
  found_status m (each ∷ standing) found is (first, rest) =
      either (is_number number each) refl (λ e. found_status m standing found e rest) is
    where
      either : (b : Bool) → (each.number == number) ≡ b
          → (find (is_number number) standing ≡ Some found → m.status number ≡ status_of found)
          → cond b (Some each) (find (is_number number) standing) ≡ Some found → m.status number ≡ status_of found
      either true own behind found_is = let same : each ≡ found = cc (found_is) in
          ap (λ n. m.status n) (sym (eqb-true each.number number own)) ∙ (first ∙ ap status_of same)
      either false apart behind found_is = behind found_is

own_time : (number : ℕ) → ◌≡◌ {A = ℕ} (cond (number == number) 1 0) 1
own_time number = cond-true (number == number) 1 0 (eq-eqb number number refl)

module _ (max_threads size place key number : ℕ) (standing : List Standing) (found : Standing)
    (here : place_of key size ≡ place) (finds_it : find (is_number number) (at_key key standing) ≡ Some found) where
  abbrev waiting : List Standing
  waiting = at_key key standing

  abbrev left : List Standing
  left = without_first (is_number number) waiting

  stands_here : 0 < times_standing number waiting
  stands_here = omega (arith, found_times number waiting found finds_it number, own_time number)

  stands : 0 < times_standing number standing
  stands = omega (arith, stands_here, times-at_key number key standing)

  module _ (timed : found.timed ≡ true) (waits : found.late ≡ false) where
    abbrev old : List Piece
    old = Lists size place standing ∷ []

    abbrev new : List Piece
    new = Lists size place (with_late number standing) ∷ []

    same_cover : (name : Name) → cover name new ≡ cover name old
    same_cover (list k) = refl
    same_cover (title k) = refl
    same_cover (dealing k) = refl
    same_cover (thread other) = omega (arith, late_times number other standing)
    same_cover (records other) = refl
    same_cover (timing other) = refl
    same_cover numbers = refl

    module _ (m : Machine) (finds : Finds max_threads old m) where
      abbrev next : Machine
      next = with_status m number status.Late

      was : m.status number ≡ status.Waiting true
      was = found_status number m waiting found finds_it (finds.so.0 key here).wait ∙ rw (waits, timed) refl

      lists_so : IsSo next (Lists size place (with_late number standing))
      lists_so k there =
          let list : IsList m k (at_key k standing) = finds.so.0 k there in
          subst (IsList next k) (sym (late_at_key number k standing)) (record {
            waiters = list.waiters ∙ sym (late_waiters number (at_key k standing));
            wait = late_stand number m (at_key k standing) list.wait;
          })

      alike : (name : Name) → cover name new ≡ 0 → Alike m next name
      alike (list k) none = refl
      alike (title k) none = refl
      alike (dealing k) none = tt
      alike (thread other) none = sym (with_value-other m.status number status.Late other
          (λ same. let own = ap (λ n. times_standing n standing) same in
          absurd (omega (arith, own, stands, late_times number other standing, none))))
      alike (records other) none = refl
      alike (timing other) none = turned_timing m number status.Late (λ each is. cc (is)) other
      alike numbers none = turned_numbers m number (status.Waiting true) status.Late was refl refl

      does : IsStep m (step.Deadline number) answer.Late next
      does = subst (λ s. MatchBool (awaits_deadline s) (Gives next answer.Late answer.Late next)
          (Gives m answer.Misfit answer.Late next)) (sym was) (refl, refl)

    -- its deadline passes
    pub passes_deadline : Moves max_threads (Is (step.Deadline number) answer.Late) (Lists size place standing ∷ [])
        (Lists size place (with_late number standing) ∷ [])
    passes_deadline = record {
      cover = same_cover;
      step = λ m finds. record {
        step = step.Deadline number;
        answer = answer.Late;
        is_said = (refl, refl);
        next = with_status m number status.Late;
        does = does m finds;
        so = (lists_so m finds, tt);
        others = alike m finds;
      };
    }

  module _ (after : List Standing) (lists : ChangesKey standing after key left) where
    abbrev late : List Piece
    late = Lists size place (with_late number standing) ∷ []

    abbrev back : List Piece
    back = Lists size place after ∷ Thread number status.Running ∷ []

    left_of_key : All (HasKey key) left
    left_of_key = All-without_first (HasKey key) (is_number number) waiting (all_at_key key standing)

    fewer : (other : ℕ) → times_standing other after + cond (number == other) 1 0 ≡ times_standing other standing
    fewer other = omega (
      arith,
      changed_times standing key left left_of_key after lists other,
      found_times number waiting found finds_it other,
    )

    back_cover : (name : Name) → cover name back ≡ cover name late
    back_cover (list k) = omega arith
    back_cover (title k) = omega arith
    back_cover (dealing k) = omega arith
    back_cover (thread other) = omega (arith, fewer other, late_times number other standing)
    back_cover (records other) = omega arith
    back_cover (timing other) = omega arith
    back_cover numbers = omega arith

    abbrev given : Answer
    given = answer.TimedOut key (not (has_any left))

    module _ (m : Machine) (finds : Finds max_threads late m) where
      abbrev next_back : Machine
      next_back = after_timeout m number key

      once : times_standing number standing ≤ 1
      once = omega (arith, finds.once (thread number), late_times number number standing)

      was_list : IsList m key (with_late number waiting)
      was_list = subst (IsList m key) (late_at_key number key standing) (finds.so.0 key here)

      was_waiters : m.lists key ≡ map waiter_of waiting
      was_waiters = was_list.waiters ∙ late_waiters number waiting

      was_late : m.status number ≡ status.Late
      was_late = late_status number m waiting was_list.wait stands_here

      gone : times_standing number after ≡ 0
      gone = omega (arith, fewer number, own_time number, once)

      left_none : times_standing number left ≡ 0
      left_none = omega (
        arith,
        found_times number waiting found finds_it number,
        own_time number,
        times-at_key number key standing,
        once,
      )

      -- it stands at no other key
      elsewhere : (k : ℕ) → k ≢ key → with_late number (at_key k standing) ≡ at_key k standing
      elsewhere k other = late_nobody number (at_key k standing)
          (let same = ap (λ (l : List Standing). times_standing number l) (others-other key k standing other) in
          omega (
            arith,
            same,
            times-at_key number k (others_of key standing),
            others-times key number standing,
            stands_here,
            once,
          ))

      late_lists : ChangesKey (with_late number standing) after key left
      late_lists k =
          ⊎_elim
          (λ (same : k ≡ key). lists k ∙ (with_value-same (λ q. at_key q standing) key left k same
          ∙ sym (with_value-same (λ q. at_key q (with_late number standing)) key left k same)))
          (λ (other : k ≢ key). lists k ∙ (with_value-other (λ q. at_key q standing) key left k other
          ∙ (sym (elsewhere k other) ∙ (sym (late_at_key number k standing)
          ∙ sym (with_value-other (λ q. at_key q (with_late number standing)) key left k other)))))
          (cases_eq k key)

      left_stand : AllStand m left
      left_stand = subst (AllStand m)
          (sym (without_first-map (late_of number) (is_number number) (is_number number) (λ x. refl) waiting)
          ∙ late_nobody number left left_none)
          (all_stand m (without_first (is_number number) (with_late number waiting))
          (All-without_first (StandsIn m) (is_number number) (with_late number waiting)
          (stand_all m (with_late number waiting) was_list.wait)))

      left_waiters : without_first (λ (w : Waiter). w.number == number) (m.lists key) ≡ map waiter_of left
      left_waiters =
          ap (λ (ws : List Waiter). without_first (λ (w : Waiter). w.number == number) ws) was_waiters
          ∙ sym (without_first-map waiter_of (is_number number) (λ (w : Waiter). w.number == number) (λ x. refl)
          waiting)

      stands_at : StandsAt m number key
      stands_at = StandsAt-standing finds.consistent.0 m number key finds.consistent.1.standing
          (let same = ap (λ (ws : List Waiter). times_in number ws) was_waiters in
          omega (arith, same, times_in-waiters number waiting, stands_here))

      does_back : IsStep m (step.Resolve number) given next_back
      does_back = subst (λ s. IsResolve m number s given next_back) (sym was_late) (
        key,
        stands_at,
        (
          ap (λ b. answer.TimedOut key (not b))
              (sym (has_any-map waiter_of left) ∙ ap (λ (ws : List Waiter). has_any ws) (sym left_waiters)),
          refl,
        ),
      )

      after_so : IsSo next_back (Lists size place after)
      after_so = changes_so size place key (with_late number standing) after left late_lists m next_back finds.so.0
          (λ k there. ap (λ (ws : List Waiter). with_value m.lists key ws k) left_waiters) left_stand
          (λ other more. sym (with_value-other m.status number status.Running other
          (λ same. let own = ap (λ n. times_standing n after) same in absurd (omega (arith, own, gone, more)))))

      other_list : (k : ℕ) → cover (list k) back ≡ 0 → m.lists k ≡ next_back.lists k
      other_list k none = sym (with_value-other m.lists key
          (without_first (λ (w : Waiter). w.number == number) (m.lists key)) k
          (λ same. let own = own_list k size place after (ap (λ q. place_of q size) same ∙ here) in
          absurd (omega (arith, own, none))))

      alike_back : (name : Name) → cover name back ≡ 0 → Alike m next_back name
      alike_back (list k) none = other_list k none
      alike_back (title k) none = other_list k none
      alike_back (dealing k) none = tt
      alike_back (thread other) none =
          turned_thread m number status.Late status.Running was_late refl refl other (omega (arith, none))
      alike_back (records other) none = refl
      alike_back (timing other) none = turned_timing m number status.Running (λ each is. cc (is)) other
      alike_back numbers none = turned_numbers m number status.Late status.Running was_late refl refl

    -- it leaves the list, and runs
    pub times_out : Moves max_threads (Is (step.Resolve number) (answer.TimedOut key (not (has_any left))))
        (Lists size place (with_late number standing) ∷ []) (Lists size place after ∷ Thread number status.Running ∷ [])
    times_out = record {
      cover = back_cover;
      step = λ m finds. record {
        step = step.Resolve number;
        answer = answer.TimedOut key (not (has_any left));
        is_said = (refl, refl);
        next = after_timeout m number key;
        does = does_back m finds;
        so = (after_so m finds, (with_value-same m.status number status.Running number refl, tt));
        others = alike_back m finds;
      };
    }
