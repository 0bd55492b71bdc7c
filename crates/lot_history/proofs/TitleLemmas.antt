-- Where keys have titles: what holds of a step without them holds of it with them, if each title among the pieces tells
-- who stands in its key's list then.
use Rattle.std.proofs.Common.{◌≡◌, ◌≢◌, ℕ, ◌+◌, ◌<◌, ◌≤◌, ◌==◌, Bool, true, false, cond, List, [], ◌∷◌, ◌++◌, map}
use Rattle.std.proofs.Common.{refl, sym, ap, ◌∙◌, ⊎_elim, arith, append-nil}
use Rattle.std.specs.Prelude.{⊤}
use Rattle.std.proofs.lemmas.Bool.{cases_eq, eq-eqb, ne_eqb}
use Rattle.lot_base.specs.Place.{place_of}
use Rattle.lot_machine.specs.declared.step.Answer.{Answer}
use Rattle.lot_machine.specs.declared.step.Step.{Step}
use Rattle.lot_machine.specs.Machine.{Machine, Waiter}
use Rattle.lot_history.specs.declared.view.Piece.{Piece}
use Rattle.lot_history.specs.declared.view.Piece.TheVariants.{Lists, Thread, Records, Numbers, TitledLists, Title, Undealt, Timing}
use Rattle.lot_history.specs.declared.view.Standing.{Standing}
use Rattle.lot_history.specs.Moves.{SameCover, Finds, Reaches, Moves, Regroups}
use Rattle.lot_history.specs.Pieces.{Name, list, title, dealing, thread, records, timing, numbers, covers, cover, Alike, at_key}
use Rattle.lot_history.specs.Pieces.{waiter_of, numbers_of, AreLists, AllSo}

-- who stands in the list of the key, as these pieces have it
abbrev pub standing_at : ℕ → List Piece → List Standing
standing_at key [] = []
standing_at key (Lists size place standing ∷ pieces) =
    cond (place_of key size == place) (at_key key standing) [] ++ standing_at key pieces
standing_at key (TitledLists limit size place standing ∷ pieces) =
    cond (place_of key size == place) (at_key key standing) [] ++ standing_at key pieces
standing_at key (_ ∷ pieces) = standing_at key pieces

-- the pieces as they are where no key has a title
abbrev pub without_titles : List Piece → List Piece
without_titles [] = []
without_titles (TitledLists limit size place standing ∷ pieces) = Lists size place standing ∷ without_titles pieces
without_titles (Title key who ∷ pieces) = without_titles pieces
without_titles (Undealt from below ∷ pieces) = without_titles pieces
without_titles (piece ∷ pieces) = piece ∷ without_titles pieces

-- the title tells who stands in the list of its key, which is among these pieces
pub record Tells (pieces : List Piece) (key : ℕ) (who : List ℕ) : Type 0 where
  pub owns : 0 < cover (list key) pieces
  pub stand : who ≡ map (λ each. each.number) (standing_at key pieces)

-- and so does each title among them; all of them were dealt
abbrev pub AllTell : List Piece → List Piece → Type 0
AllTell pieces [] = ⊤
AllTell pieces (Title key who ∷ titles) = Tells pieces key who × AllTell pieces titles
AllTell pieces (Undealt from below ∷ titles) = ⊥
AllTell pieces (_ ∷ titles) = AllTell pieces titles

-- the waiters of a key, as these pieces have it
abbrev pub waiting_at : ℕ → List Piece → List Waiter
waiting_at key pieces = map waiter_of (standing_at key pieces)

-- from these pieces to those no list changes whose title is not among them, and the titles tell who stands in the
-- others
pub record KeepsTitles (before after : List Piece) : Type 0 where
  pub titles : (key : ℕ) → cover (title key) after ≡ cover (title key) before
  pub dealings : (key : ℕ) → cover (dealing key) after ≡ cover (dealing key) before
  pub others : (key : ℕ) → cover (title key) after ≡ 0 → waiting_at key after ≡ waiting_at key before
  pub tell : AllTell after after

-- what pieces cover beside titles, they cover without them

abbrev is_of_title : Name → Bool
is_of_title (title key) = true
is_of_title (dealing key) = true
is_of_title _ = false

titled_same : (limit size place : ℕ) (standing : List Standing) (name : Name) → is_of_title name ≡ false
    → covers name (Lists size place standing) ≡ covers name (TitledLists limit size place standing)
titled_same limit size place standing (list key) other = refl
titled_same limit size place standing (title key) other = absurd (cc)
titled_same limit size place standing (dealing key) other = absurd (cc)
titled_same limit size place standing (thread number) other = refl
titled_same limit size place standing (records number) other = refl
titled_same limit size place standing (timing number) other = refl
titled_same limit size place standing numbers other = refl

title_none : (key : ℕ) (stand : List ℕ) (name : Name) → is_of_title name ≡ false → covers name (Title key stand) ≡ 0
title_none key stand (list k) other = refl
title_none key stand (title k) other = absurd (cc)
title_none key stand (dealing k) other = absurd (cc)
title_none key stand (thread number) other = refl
title_none key stand (records number) other = refl
title_none key stand (timing number) other = refl
title_none key stand numbers other = refl

undealt_none : (from below : ℕ) (name : Name) → is_of_title name ≡ false → covers name (Undealt from below) ≡ 0
undealt_none from below (list k) other = refl
undealt_none from below (title k) other = absurd (cc)
undealt_none from below (dealing k) other = absurd (cc)
undealt_none from below (thread number) other = refl
undealt_none from below (records number) other = refl
undealt_none from below (timing number) other = refl
undealt_none from below numbers other = refl

plain_cover : (name : Name) → is_of_title name ≡ false → (pieces : List Piece)
    → cover name (without_titles pieces) ≡ cover name pieces
plain_cover name other [] = refl
plain_cover name other (Lists size place standing ∷ pieces) = omega (arith, plain_cover name other pieces)
plain_cover name other (Thread number status ∷ pieces) = omega (arith, plain_cover name other pieces)
plain_cover name other (Records number keys ∷ pieces) = omega (arith, plain_cover name other pieces)
plain_cover name other (Timing number timed ∷ pieces) = omega (arith, plain_cover name other pieces)
plain_cover name other (Numbers uses ∷ pieces) = omega (arith, plain_cover name other pieces)
plain_cover name other (TitledLists limit size place standing ∷ pieces) =
    omega (arith, titled_same limit size place standing name other, plain_cover name other pieces)
plain_cover name other (Title key stand ∷ pieces) =
    omega (arith, title_none key stand name other, plain_cover name other pieces)
plain_cover name other (Undealt from below ∷ pieces) =
    omega (arith, undealt_none from below name other, plain_cover name other pieces)

-- and of titles, those of the lists that they have
plain_title : (key : ℕ) (pieces : List Piece) → cover (title key) (without_titles pieces) ≡ cover (list key) pieces
plain_title key [] = refl
plain_title key (Lists size place standing ∷ pieces) = omega (arith, plain_title key pieces)
plain_title key (Thread number status ∷ pieces) = omega (arith, plain_title key pieces)
plain_title key (Records number keys ∷ pieces) = omega (arith, plain_title key pieces)
plain_title key (Timing number timed ∷ pieces) = omega (arith, plain_title key pieces)
plain_title key (Numbers uses ∷ pieces) = omega (arith, plain_title key pieces)
plain_title key (TitledLists limit size place standing ∷ pieces) = omega (arith, plain_title key pieces)
plain_title key (Title other stand ∷ pieces) = omega (arith, plain_title key pieces)
plain_title key (Undealt from below ∷ pieces) = omega (arith, plain_title key pieces)

plain_dealing : (key : ℕ) (pieces : List Piece)
    → cover (dealing key) (without_titles pieces) ≡ cover (list key) pieces
plain_dealing key [] = refl
plain_dealing key (Lists size place standing ∷ pieces) = omega (arith, plain_dealing key pieces)
plain_dealing key (Thread number status ∷ pieces) = omega (arith, plain_dealing key pieces)
plain_dealing key (Records number keys ∷ pieces) = omega (arith, plain_dealing key pieces)
plain_dealing key (Timing number timed ∷ pieces) = omega (arith, plain_dealing key pieces)
plain_dealing key (Numbers uses ∷ pieces) = omega (arith, plain_dealing key pieces)
plain_dealing key (TitledLists limit size place standing ∷ pieces) = omega (arith, plain_dealing key pieces)
plain_dealing key (Title other stand ∷ pieces) = omega (arith, plain_dealing key pieces)
plain_dealing key (Undealt from below ∷ pieces) = omega (arith, plain_dealing key pieces)

-- what is so of pieces is so of them without titles
plain_so : (m : Machine) (pieces : List Piece) → AllSo m pieces → AllSo m (without_titles pieces)
plain_so m [] so = tt
plain_so m (Lists size place standing ∷ pieces) (first, rest) = (first, plain_so m pieces rest)
plain_so m (Thread number status ∷ pieces) (first, rest) = (first, plain_so m pieces rest)
plain_so m (Records number keys ∷ pieces) (first, rest) = (first, plain_so m pieces rest)
plain_so m (Timing number timed ∷ pieces) (first, rest) = (first, plain_so m pieces rest)
plain_so m (Numbers uses ∷ pieces) (first, rest) = (first, plain_so m pieces rest)
plain_so m (TitledLists limit size place standing ∷ pieces) (first, rest) = (first, plain_so m pieces rest)
plain_so m (Title key stand ∷ pieces) (first, rest) = plain_so m pieces rest
plain_so m (Undealt from below ∷ pieces) (first, rest) = plain_so m pieces rest

pub plain_finds : (max_threads : ℕ) (pieces : List Piece) (m : Machine) → Finds max_threads pieces m
    → Finds max_threads (without_titles pieces) m
plain_finds max_threads pieces m finds = record {
  few = finds.few;
  threads = finds.threads;
  consistent = finds.consistent;
  once = once;
  so = plain_so m pieces finds.so;
}
  where
    once : (name : Name) → cover name (without_titles pieces) ≤ 1
    once (list key) = omega (arith, plain_cover (list key) refl pieces, finds.once (list key))
    once (title key) = omega (arith, plain_title key pieces, finds.once (list key))
    once (dealing key) = omega (arith, plain_dealing key pieces, finds.once (list key))
    once (thread number) = omega (arith, plain_cover (thread number) refl pieces, finds.once (thread number))
    once (records number) = omega (arith, plain_cover (records number) refl pieces, finds.once (records number))
    once (timing number) = omega (arith, plain_cover (timing number) refl pieces, finds.once (timing number))
    once numbers = omega (arith, plain_cover numbers refl pieces, finds.once numbers)

-- the list of a key is as the pieces have it

none-or : (b : Bool) (first rest : List Standing) (count : ℕ) → cond b 1 0 + count ≡ 0 → (count ≡ 0 → rest ≡ [])
    → cond b first [] ++ rest ≡ []
none-or true first rest count none nobody = absurd (omega (arith, none))
none-or false first rest count none nobody = nobody (omega (arith, none))

nobody : (key : ℕ) (pieces : List Piece) → cover (list key) pieces ≡ 0 → standing_at key pieces ≡ []
nobody key [] none = refl
nobody key (Lists size place standing ∷ pieces) none =
    none-or (place_of key size == place) (at_key key standing) (standing_at key pieces) (cover (list key) pieces) none
    (nobody key pieces)
nobody key (Thread number status ∷ pieces) none = nobody key pieces (omega (arith, none))
nobody key (Records number keys ∷ pieces) none = nobody key pieces (omega (arith, none))
nobody key (Timing number timed ∷ pieces) none = nobody key pieces (omega (arith, none))
nobody key (Numbers uses ∷ pieces) none = nobody key pieces (omega (arith, none))
nobody key (TitledLists limit size place standing ∷ pieces) none =
    none-or (place_of key size == place) (at_key key standing) (standing_at key pieces) (cover (list key) pieces) none
    (nobody key pieces)
nobody key (Title other stand ∷ pieces) none = nobody key pieces (omega (arith, none))
nobody key (Undealt from below ∷ pieces) none = nobody key pieces (omega (arith, none))

module _ (m : Machine) (key : ℕ) where
  list_or : (size place : ℕ) (standing : List Standing) (pieces : List Piece) → AreLists m size place standing
      → cond (place_of key size == place) 1 0 + cover (list key) pieces ≡ 1
      → (cover (list key) pieces ≡ 1 → m.lists key ≡ map waiter_of (standing_at key pieces))
      → m.lists key
      ≡ map waiter_of (cond (place_of key size == place) (at_key key standing) [] ++ standing_at key pieces)
  list_or size place standing pieces are one rest =
      ⊎_elim
      (λ (same : place_of key size ≡ place). let here = eq-eqb (place_of key size) place same in
      let both : 1 + cover (list key) pieces ≡ 1 =
      sym (ap (λ b. cond b 1 0 + cover (list key) pieces) here) ∙ one in
      let all : cond (place_of key size == place) (at_key key standing) [] ++ standing_at key pieces
      ≡ at_key key standing =
      ap (λ b. cond b (at_key key standing) [] ++ standing_at key pieces) here
      ∙ (ap (λ (l : List Standing). at_key key standing ++ l) (nobody key pieces (omega (arith, both)))
      ∙ append-nil (at_key key standing)) in
      (are key same).waiters ∙ ap (map waiter_of) (sym all))
      (λ (other : place_of key size ≢ place). let there = ne_eqb (place_of key size) place other in
      let both : 0 + cover (list key) pieces ≡ 1 =
      sym (ap (λ b. cond b 1 0 + cover (list key) pieces) there) ∙ one in
      rest (omega (arith, both))
      ∙ ap (map waiter_of) (sym (ap (λ b. cond b (at_key key standing) [] ++ standing_at key pieces) there)))
      (cases_eq (place_of key size) place)

  pub list_is : (pieces : List Piece) → AllSo m (without_titles pieces) → cover (list key) pieces ≡ 1
      → m.lists key ≡ map waiter_of (standing_at key pieces)
  list_is [] so one = absurd (omega (arith, one))
  list_is (Lists size place standing ∷ pieces) so one =
      list_or size place standing pieces so.0 one (list_is pieces so.1)
  list_is (Thread number status ∷ pieces) so one = list_is pieces so.1 (omega (arith, one))
  list_is (Records number keys ∷ pieces) so one = list_is pieces so.1 (omega (arith, one))
  list_is (Timing number timed ∷ pieces) so one = list_is pieces so.1 (omega (arith, one))
  list_is (Numbers uses ∷ pieces) so one = list_is pieces so.1 (omega (arith, one))
  list_is (TitledLists limit size place standing ∷ pieces) so one =
      list_or size place standing pieces so.0 one (list_is pieces so.1)
  list_is (Title other stand ∷ pieces) so one = list_is pieces so (omega (arith, one))
  list_is (Undealt from below ∷ pieces) so one = list_is pieces so (omega (arith, one))

pub numbers_of-waiters : (standing : List Standing)
    → numbers_of (map waiter_of standing) ≡ map (λ each. each.number) standing
numbers_of-waiters [] = refl
numbers_of-waiters (each ∷ standing) =
    ap (λ (ns : List ℕ). each.number ∷ ns) (numbers_of-waiters standing)

-- what is so of pieces without titles is so of them, if the titles tell who stands in their lists
titled_so : (m : Machine) (all pieces : List Piece) → AllTell all pieces
    → ((key : ℕ) (stand : List ℕ) → Tells all key stand → numbers_of (m.lists key) ≡ stand)
    → AllSo m (without_titles pieces) → AllSo m pieces
titled_so m all [] tell told so = tt
titled_so m all (Lists size place standing ∷ pieces) tell told so = (so.0, titled_so m all pieces tell told so.1)
titled_so m all (Thread number status ∷ pieces) tell told so = (so.0, titled_so m all pieces tell told so.1)
titled_so m all (Records number keys ∷ pieces) tell told so = (so.0, titled_so m all pieces tell told so.1)
titled_so m all (Timing number timed ∷ pieces) tell told so = (so.0, titled_so m all pieces tell told so.1)
titled_so m all (Numbers uses ∷ pieces) tell told so = (so.0, titled_so m all pieces tell told so.1)
titled_so m all (TitledLists limit size place standing ∷ pieces) tell told so =
    (so.0, titled_so m all pieces tell told so.1)
titled_so m all (Title key stand ∷ pieces) tell told so =
    (told key stand tell.0, titled_so m all pieces tell.1 told so)
titled_so m all (Undealt from below ∷ pieces) tell told so = absurd tell

module _ (max_threads : ℕ) (before after : List Piece) (keeps : KeepsTitles before after)
    (plain : SameCover (without_titles before) (without_titles after)) where
  same_list : (key : ℕ) → cover (list key) after ≡ cover (list key) before
  same_list key = sym (plain_cover (list key) refl after) ∙ (plain (list key) ∙ plain_cover (list key) refl before)

  same_cover : (name : Name) → cover name after ≡ cover name before
  same_cover (list key) = same_list key
  same_cover (title key) = keeps.titles key
  same_cover (dealing key) = keeps.dealings key
  same_cover (thread number) = sym (plain_cover (thread number) refl after)
      ∙ (plain (thread number) ∙ plain_cover (thread number) refl before)
  same_cover (records number) = sym (plain_cover (records number) refl after)
      ∙ (plain (records number) ∙ plain_cover (records number) refl before)
  same_cover (timing number) = sym (plain_cover (timing number) refl after)
      ∙ (plain (timing number) ∙ plain_cover (timing number) refl before)
  same_cover numbers =
      sym (plain_cover numbers refl after) ∙ (plain numbers ∙ plain_cover numbers refl before)

  module _ (m : Machine) (finds : Finds max_threads before m) where
    -- a list among the pieces is among them once
    own_once : (key : ℕ) → 0 < cover (list key) after → cover (list key) after ≡ 1
    own_once key own = omega (arith, own, same_list key, finds.once (list key))

    told : (next : Machine) → AllSo next (without_titles after) → (key : ℕ) (stand : List ℕ)
        → Tells after key stand → numbers_of (next.lists key) ≡ stand
    told next so key stand tells =
        ap numbers_of (list_is next key after so (own_once key tells.owns))
        ∙ (numbers_of-waiters (standing_at key after) ∙ sym tells.stand)

    after_so : (next : Machine) → AllSo next (without_titles after) → AllSo next after
    after_so next so = titled_so next after after keeps.tell (told next so) so

    -- a list stays as it is whose title is not among them
    untitled : (next : Machine) → AllSo next (without_titles after)
        → ((name : Name) → cover name (without_titles after) ≡ 0 → Alike m next name) → (key : ℕ)
        → cover (title key) after ≡ 0 → m.lists key ≡ next.lists key
    untitled next so others key none =
        ⊎_elim
        (λ (free : cover (list key) after ≡ 0). others (list key) (plain_cover (list key) refl after ∙ free))
        (λ (own : cover (list key) after ≢ 0). let one = own_once key (omega (arith, own)) in
        list_is m key before (plain_so m before finds.so) (sym (same_list key) ∙ one)
        ∙ (sym (keeps.others key none) ∙ sym (list_is next key after so one)))
        (cases_eq (cover (list key) after) 0)

    uncovered : (next : Machine) → AllSo next (without_titles after)
        → ((name : Name) → cover name (without_titles after) ≡ 0 → Alike m next name) → (name : Name)
        → cover name after ≡ 0 → Alike m next name
    uncovered next so others (list key) none = others (list key) (plain_cover (list key) refl after ∙ none)
    uncovered next so others (title key) none = untitled next so others key none
    uncovered next so others (dealing key) none = tt
    uncovered next so others (thread number) none =
        others (thread number) (plain_cover (thread number) refl after ∙ none)
    uncovered next so others (records number) none =
        others (records number) (plain_cover (records number) refl after ∙ none)
    uncovered next so others (timing number) none =
        others (timing number) (plain_cover (timing number) refl after ∙ none)
    uncovered next so others numbers none = others numbers (plain_cover numbers refl after ∙ none)

-- a step
pub under_titles : (max_threads : ℕ) (said : Step → Answer → Type 0) (before after : List Piece)
    → KeepsTitles before after → Moves max_threads said (without_titles before) (without_titles after)
    → Moves max_threads said before after
under_titles max_threads said before after keeps moves = record {
  cover = same_cover max_threads before after keeps moves.cover;
  step = λ m finds.
      let to : Reaches m said (without_titles after) = moves.step m (plain_finds max_threads before m finds) in record {
        step = to.step;
        answer = to.answer;
        is_said = to.is_said;
        next = to.next;
        does = to.does;
        so = after_so max_threads before after keeps moves.cover m finds to.next to.so;
        others = uncovered max_threads before after keeps moves.cover m finds to.next to.so to.others;
      };
}

-- the same parts in other pieces
pub regroups_titled : (max_threads : ℕ) (before after : List Piece) → KeepsTitles before after
    → Regroups max_threads (without_titles before) (without_titles after) → Regroups max_threads before after
regroups_titled max_threads before after keeps same = record {
  cover = same_cover max_threads before after keeps same.cover;
  so = λ m finds. after_so max_threads before after keeps same.cover m finds m
      (same.so m (plain_finds max_threads before m finds));
}
