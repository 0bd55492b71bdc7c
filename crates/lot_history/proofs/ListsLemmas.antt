-- The lists of a place, where one of them is another.
use Rattle.std.proofs.Common.{◌≡◌, ◌≢◌, ℕ, ◌<◌, Bool, true, false, List, [], ◌∷◌, ◌++◌, map, refl, sym, ap, ◌∙◌}
use Rattle.std.proofs.Common.{subst, ⊎_elim, arith}
use Rattle.std.proofs.lemmas.Bool.{cases_eq}
use Rattle.std.proofs.lemmas.List.{append-nil}
use Rattle.lot_base.specs.Place.{place_of}
use Rattle.lot_base.specs.Waiting.{Split, with_value, lists_after_requeue}
use Rattle.lot_base.proofs.ValueLemmas.{with_value-same, with_value-other}
use Rattle.lot_machine.specs.Machine.{Machine, Waiter}
use Rattle.lot_history.specs.declared.view.Standing.{Standing}
use Rattle.lot_history.specs.declared.view.Piece.TheVariants.{Lists}
use Rattle.lot_history.specs.Pieces.{Name, list, title, dealing, thread, records, timing, numbers, covers, times_standing, at_key, waiter_of}
use Rattle.lot_history.specs.Pieces.{AllStand, IsList, IsSo}
use Rattle.lot_history.proofs.PieceLemmas.{stands-alike, times-at_key}
use Rattle.lot_history.proofs.TimesLemmas.{ChangesKey}

-- the machine has the place so, where it has this list at the key, and the others as before
pub changes_so : (size place key : ℕ) (standing after waiting : List Standing) → ChangesKey standing after key waiting
    → (m next : Machine) → IsSo m (Lists size place standing)
    → ((k : ℕ) → place_of k size ≡ place → next.lists k ≡ with_value m.lists key (map waiter_of waiting) k)
    → AllStand m waiting
    → ((number : ℕ) → 0 < times_standing number after → m.status number ≡ next.status number)
    → IsSo next (Lists size place after)
changes_so size place key standing after waiting lists m next so now wait alike k here =
    ⊎_elim
    (λ (same : k ≡ key). let is : at_key k after ≡ waiting =
    lists k ∙ with_value-same (λ q. at_key q standing) key waiting k same in record {
      waiters = now k here
          ∙ (with_value-same m.lists key (map waiter_of waiting) k same ∙ ap (map waiter_of) (sym is));
      wait = still k (subst (AllStand m) (sym is) wait);
    })
    (λ (other : k ≢ key). let is : at_key k after ≡ at_key k standing =
    lists k ∙ with_value-other (λ q. at_key q standing) key waiting k other in
    let was : IsList m k (at_key k standing) = so k here in record {
      waiters = now k here
          ∙ (with_value-other m.lists key (map waiter_of waiting) k other
          ∙ (was.waiters ∙ ap (map waiter_of) (sym is)));
      wait = still k (subst (AllStand m) (sym is) was.wait);
    })
    (cases_eq k key)
  where
    still : (k : ℕ) → AllStand m (at_key k after) → AllStand next (at_key k after)
    still k = stands-alike m next (at_key k after)
        (λ number more. alike number (let less = times-at_key number k after in omega arith))

-- what else than threads a place covers
abbrev pub is_thread : Name → Bool
is_thread (thread number) = true
is_thread _ = false

pub lists_cover : (size place : ℕ) (standing after : List Standing) (name : Name) → is_thread name ≡ false
    → covers name (Lists size place after) ≡ covers name (Lists size place standing)
lists_cover size place standing after (list key) other = refl
lists_cover size place standing after (title key) other = refl
lists_cover size place standing after (dealing key) other = refl
lists_cover size place standing after (thread number) other = absurd (cc)
lists_cover size place standing after (records number) other = refl
lists_cover size place standing after (timing number) other = refl
lists_cover size place standing after numbers other = refl

-- a thread that moves to another key
abbrev pub with_key : ℕ → Standing → Standing
with_key key each = record each { key = key }

abbrev pub moved_to : ℕ → Split Standing → Split Standing
moved_to key split = record split { moved = map (with_key key) split.moved }

pub moved_times : (key number : ℕ) (moved : List Standing)
    → times_standing number (map (with_key key) moved) ≡ times_standing number moved
moved_times key number [] = refl
moved_times key number (each ∷ moved) = omega (arith, moved_times key number moved)

pub moved_waiters : (key : ℕ) (moved : List Standing)
    → map waiter_of (map (with_key key) moved) ≡ map waiter_of moved
moved_waiters key [] = refl
moved_waiters key (each ∷ moved) = ap (λ (l : List Waiter). waiter_of each ∷ l) (moved_waiters key moved)

pub moved_stand : (m : Machine) (key : ℕ) (moved : List Standing) → AllStand m moved
    → AllStand m (map (with_key key) moved)
moved_stand m key [] _ = tt
moved_stand m key (each ∷ moved) (first, rest) = (first, moved_stand m key moved rest)

-- where none moved
pub lists_after_requeue-unmoved : {A : Type 0} (lists : ℕ → List A) (key : ℕ) (split : Split A) → split.moved ≡ []
    → (k : ℕ) → lists_after_requeue lists key key split k ≡ with_value lists key split.left k
lists_after_requeue-unmoved {A} lists key split none k =
    ⊎_elim
    (λ (same : k ≡ key). with_value-same kept key (kept key ++ split.moved) k same
    ∙ (ap (λ (moved : List A). kept key ++ moved) none ∙ (append-nil (kept key) ∙ ap kept (sym same))))
    (with_value-other kept key (kept key ++ split.moved) k)
    (cases_eq k key)
  where
    kept : ℕ → List A
    kept = with_value lists key split.left
