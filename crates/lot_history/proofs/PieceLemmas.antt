-- What pieces cover, and that they stay so where a machine is alike in that.
use Rattle.std.proofs.Common.{◌≡◌, ◌≢◌, ℕ, ◌+◌, ◌<◌, ◌≤◌, ◌==◌, Bool, true, false, cond, map, List, [], ◌∷◌, ◌++◌}
use Rattle.std.specs.Prelude.{nat_lt}
use Rattle.std.proofs.Common.{All, length, refl, sym, ap, ◌∙◌, ⊎_elim, arith}
use Rattle.std.proofs.lemmas.Bool.{cases_eq, eq-eqb, ne_eqb, lt-ltb, le-ltb, cond-true, cond-false}
use Rattle.std.proofs.lemmas.List.Elements.{All-nil, All-cons, All-head, All-tail}
use Rattle.lot_base.specs.Place.{place_of}
use Rattle.lot_machine.specs.declared.status.Status.{Status}
use Rattle.lot_machine.specs.declared.status.Status.TheVariants as status
use Rattle.lot_machine.specs.Machine.{Machine, times_in, entries_of}
use Rattle.lot_machine.specs.Status.{is_registered}
use Rattle.lot_history.specs.declared.view.Standing.{Standing}
use Rattle.lot_history.specs.declared.view.Piece.{Piece}
use Rattle.lot_history.specs.declared.view.Piece.TheVariants.{Lists, Thread, Records, Numbers, TitledLists, Title, Undealt, Timing}
use Rattle.lot_history.specs.Pieces.{Name, list, title, thread, records, timing, numbers, covers, cover, times_standing, Alike}
use Rattle.lot_history.specs.Pieces.{waiter_of, status_of, AllStand, IsList, AreLists, at_key, numbers_of, IsSo, AllSo}

pub cover-append : (name : Name) (ps qs : List Piece) → cover name (ps ++ qs) ≡ cover name ps + cover name qs
cover-append name [] qs = omega arith
cover-append name (p ∷ ps) qs = omega (arith, cover-append name ps qs)

pub AllSo-append : (m : Machine) (ps qs : List Piece) → AllSo m ps → AllSo m qs → AllSo m (ps ++ qs)
AllSo-append m [] qs _ others = others
AllSo-append m (p ∷ ps) qs (first, rest) others = (first, AllSo-append m ps qs rest others)

pub AllSo-parts : (m : Machine) (ps qs : List Piece) → AllSo m (ps ++ qs) → AllSo m ps × AllSo m qs
AllSo-parts m [] qs so = (tt, so)
AllSo-parts m (p ∷ ps) qs (first, rest) = let parts = AllSo-parts m ps qs rest in ((first, parts.0), parts.1)

-- what a piece is about

pub own_thread : (number other : ℕ) (s : Status) → number ≡ other → covers (thread number) (Thread other s) ≡ 1
own_thread number other s same = cond-true (other == number) 1 0 (eq-eqb other number (sym same))

pub own_records : (number other : ℕ) (keys : List ℕ) → number ≡ other
    → covers (records number) (Records other keys) ≡ 1
own_records number other keys same = cond-true (other == number) 1 0 (eq-eqb other number (sym same))

pub own_timing : (number other : ℕ) (timed : Bool) → number ≡ other → covers (timing number) (Timing other timed) ≡ 1
own_timing number other timed same = cond-true (other == number) 1 0 (eq-eqb other number (sym same))

pub own_list : (key size place : ℕ) (standing : List Standing) → place_of key size ≡ place
    → covers (list key) (Lists size place standing) ≡ 1
own_list key size place standing here = cond-true (place_of key size == place) 1 0 (eq-eqb (place_of key size) place here)

pub own_title : (key other : ℕ) (who : List ℕ) → key ≡ other → covers (title other) (Title key who) ≡ 1
own_title key other who same = cond-true (key == other) 1 0 (eq-eqb key other same)

-- two machines that are alike in each name which is covered
abbrev pub AlikeWhere : Machine → Machine → (Name → ℕ) → Type 0
AlikeWhere m next count = (name : Name) → 0 < count name → Alike m next name

stands-first : (each : Standing) (standing : List Standing) → 0 < times_standing each.number (each ∷ standing)
stands-first each standing = rw (eq-eqb each.number each.number refl) (omega arith)

pub stands-alike : (m next : Machine) (standing : List Standing)
    → ((number : ℕ) → 0 < times_standing number standing → m.status number ≡ next.status number)
    → AllStand m standing → AllStand next standing
stands-alike m next [] alike _ = tt
stands-alike m next (each ∷ standing) alike (first, rest) = (
  sym (alike each.number (stands-first each standing)) ∙ first,
  stands-alike m next standing (λ number more. alike number (omega arith)) rest,
)

-- the status that a thread has where it stands
abbrev pub StandsIn : Machine → Standing → Type 0
StandsIn m each = m.status each.number ≡ status_of each

pub stand_all : (m : Machine) (standing : List Standing) → AllStand m standing → All (StandsIn m) standing
stand_all m [] _ = All-nil (StandsIn m)
stand_all m (each ∷ standing) (first, rest) =
    All-cons (StandsIn m) each standing first (stand_all m standing rest)

pub all_stand : (m : Machine) (standing : List Standing) → All (StandsIn m) standing → AllStand m standing
all_stand m [] all = tt
all_stand m (each ∷ standing) all = (
  All-head (StandsIn m) each standing all,
  all_stand m standing (All-tail (StandsIn m) each standing all),
)

-- those of a key are among all
pub times-at_key : (number key : ℕ) (standing : List Standing)
    → times_standing number (at_key key standing) ≤ times_standing number standing
times-at_key number key [] = omega arith
times-at_key number key (each ∷ standing) = either (each.key == key) (times-at_key number key standing)
  where
    either : (b : Bool) → times_standing number (at_key key standing) ≤ times_standing number standing
        → times_standing number (cond b (each ∷ at_key key standing) (at_key key standing))
        ≤ times_standing number (each ∷ standing)
    either true less = omega arith
    either false less = omega arith

-- the lists of a place stay so
lists-alike : (m next : Machine) (size place : ℕ) (standing : List Standing)
    → ((key : ℕ) → place_of key size ≡ place → m.lists key ≡ next.lists key)
    → ((number : ℕ) → 0 < times_standing number standing → m.status number ≡ next.status number)
    → AreLists m size place standing → AreLists next size place standing
lists-alike m next size place standing lists threads are key here =
    let was : IsList m key (at_key key standing) = are key here in record {
      waiters = sym (lists key here) ∙ was.waiters;
      wait = stands-alike m next (at_key key standing)
          (λ number more. let less = times-at_key number key standing in threads number (omega arith)) was.wait;
    }

pub own_undealt : (key from below : ℕ) → from ≤ key → key < below → covers (title key) (Undealt from below) ≡ 1
own_undealt key from below first last =
    cond-false (nat_lt key from) 0 (cond (nat_lt key below) 1 0) (le-ltb key from first)
    ∙ cond-true (nat_lt key below) 1 0 (lt-ltb key below last)

-- a piece stays so
pub IsSo-alike : (m next : Machine) (piece : Piece) → AlikeWhere m next (λ name. covers name piece) → IsSo m piece
    → IsSo next piece
IsSo-alike m next (Lists size place standing) alike is =
    lists-alike m next size place standing
    (λ key here. alike (list key) (rw (eq-eqb (place_of key size) place here) (omega arith)))
    (λ number more. alike (thread number) more) is
IsSo-alike m next (Thread number status) alike is =
    sym (alike (thread number) (rw (eq-eqb number number refl) (omega arith))) ∙ is
IsSo-alike m next (Records number keys) alike is =
    sym (alike (records number) (rw (eq-eqb number number refl) (omega arith))) ∙ is
IsSo-alike m next (Numbers uses) alike (registered, free) = (
  λ number. sym (alike numbers (omega arith) number) ∙ registered number,
  λ number none. sym (alike (records number) (rw none (omega arith))) ∙ free number none,
)
IsSo-alike m next (TitledLists limit size place standing) alike is =
    lists-alike m next size place standing
    (λ key here. alike (list key) (rw (eq-eqb (place_of key size) place here) (omega arith)))
    (λ number more. alike (thread number) more) is
IsSo-alike m next (Title key who) alike is =
    ap numbers_of (sym (alike (title key) (rw (eq-eqb key key refl) (omega arith)))) ∙ is
IsSo-alike m next (Undealt from below) alike is = λ key first last.
    sym (alike (title key) (rw (own_undealt key from below first last) (omega arith))) ∙ is key first last
IsSo-alike m next (Timing number timed) alike is = λ other waits.
    is other (alike (timing number) (rw (eq-eqb number number refl) (omega arith)) other waits)

pub AllSo-alike : (m next : Machine) (pieces : List Piece) → AlikeWhere m next (λ name. cover name pieces)
    → AllSo m pieces → AllSo next pieces
AllSo-alike m next [] alike _ = tt
AllSo-alike m next (p ∷ ps) alike (first, rest) = (
  IsSo-alike m next p (λ name some. alike name (omega arith)) first,
  AllSo-alike m next ps (λ name some. alike name (omega arith)) rest,
)

-- threads in a list that goes on

pub times-append : (number : ℕ) (xs ys : List Standing)
    → times_standing number (xs ++ ys) ≡ times_standing number xs + times_standing number ys
times-append number [] ys = omega arith
times-append number (x ∷ xs) ys = omega (arith, times-append number xs ys)

pub AllStand-append : (m : Machine) (xs ys : List Standing) → AllStand m xs → AllStand m ys → AllStand m (xs ++ ys)
AllStand-append m [] ys _ others = others
AllStand-append m (x ∷ xs) ys (first, rest) others = (first, AllStand-append m xs ys rest others)

-- how often a thread stands in a list, by its machine's waiters
pub times_in-waiters : (number : ℕ) (standing : List Standing)
    → times_in number (map waiter_of standing) ≡ times_standing number standing
times_in-waiters number [] = refl
times_in-waiters number (each ∷ standing) = either (each.number == number) (times_in-waiters number standing)
  where
    either : (b : Bool) → times_in number (map waiter_of standing) ≡ times_standing number standing
        → length (cond b (waiter_of each ∷ entries_of number (map waiter_of standing)) (entries_of number (map waiter_of standing)))
        ≡ cond b 1 0 + times_standing number standing
    either true same = omega arith
    either false same = omega arith

-- threads that stand in a list are registered
pub stands-registered : (m : Machine) (number : ℕ) (standing : List Standing) → AllStand m standing
    → 0 < times_standing number standing → is_registered (m.status number) ≡ true
stands-registered m number [] _ some = absurd (omega arith)
stands-registered m number (each ∷ standing) (first, rest) more =
    ⊎_elim
    (λ (same : each.number ≡ number). ap (λ n. is_registered (m.status n)) (sym same)
    ∙ (ap is_registered first ∙ registered each.late))
    (λ (other : each.number ≢ number). stands-registered m number standing rest
    (behind other more))
    (cases_eq each.number number)
  where
    behind : each.number ≢ number → 0 < times_standing number (each ∷ standing) → 0 < times_standing number standing
    behind other = rw (ne_eqb each.number number other) (λ some. omega arith)

    registered : (late : Bool) → is_registered (cond late status.Late (status.Waiting each.timed)) ≡ true
    registered true = refl
    registered false = refl
