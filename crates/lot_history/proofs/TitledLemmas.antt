-- Steps where keys have titles, each with the titles before it and after it.
use Rattle.std.proofs.Common.{◌≡◌, ◌≢◌, ℕ, ◌+◌, ◌≤◌, ◌==◌, Bool, true, false, cond, Some, List, []}
use Rattle.std.proofs.Common.{Option, None, ◌∷◌, ◌++◌, map, refl, sym, ap, ◌∙◌, subst, ⊎_elim, arith, append-nil}
use Rattle.std.proofs.lemmas.Bool.{cases_eq, eq-eqb, ne_eqb, le-ltb, cond-true, cond-false}
use Rattle.std.proofs.lemmas.List.{map-append}
use Rattle.lot_base.specs.declared.token.ParkToken.{ParkToken}
use Rattle.lot_base.specs.declared.token.UnparkToken.{UnparkToken}
use Rattle.lot_base.specs.Place.{place_of}
use Rattle.lot_base.proofs.ValueLemmas.{with_value-same, with_value-other}
use Rattle.lot_machine.specs.declared.status.Status.{Status}
use Rattle.lot_machine.specs.declared.status.Status.TheVariants as status
use Rattle.lot_machine.specs.declared.step.Answer.{Answer}
use Rattle.lot_machine.specs.declared.step.Answer.TheVariants as answer
use Rattle.lot_machine.specs.declared.step.Step.{Step}
use Rattle.lot_machine.specs.declared.step.Step.TheVariants as step
use Rattle.lot_machine.specs.Machine.{Waiter}
use Rattle.lot_history.specs.declared.view.Piece.{Piece}
use Rattle.lot_history.specs.declared.view.Piece.TheVariants.{Lists, Thread, TitledLists, Title, Timing}
use Rattle.lot_history.specs.declared.view.Standing.{Standing}
use Rattle.lot_history.specs.Moves.{Moves}
use Rattle.lot_history.specs.Pieces.{list, title, dealing, covers, cover, at_or_above, at_key, waiter_of, threads_taken}
use Rattle.lot_history.specs.Titles.{MayChange, with_title, retold, title_of, entering}
use Rattle.lot_history.proofs.EnterLemmas.{enters}
use Rattle.lot_history.proofs.PieceLemmas.{own_list, own_title}
use Rattle.lot_history.proofs.ThreadLemmas.{Is}
use Rattle.lot_history.proofs.TimesLemmas.{ChangesKey, at_own, at_other, at_key-append}
use Rattle.lot_history.proofs.TitleLemmas.{standing_at, without_titles, AllTell, under_titles}

-- pieces that have neither a list nor a title
pub record AreBeside (pieces : List Piece) : Type 1 where
  pub lists : (key : ℕ) → cover (list key) pieces ≡ 0
  pub titles : (key : ℕ) → cover (title key) pieces ≡ 0
  pub dealings : (key : ℕ) → cover (dealing key) pieces ≡ 0
  pub nobody : (key : ℕ) → standing_at key pieces ≡ []
  pub tell : (all : List Piece) → AllTell all pieces
  pub same : without_titles pieces ≡ pieces

pub none_beside : AreBeside []
none_beside = record {
  lists = λ key. refl;
  titles = λ key. refl;
  dealings = λ key. refl;
  nobody = λ key. refl;
  tell = λ all. tt;
  same = refl;
}

pub thread_beside : (number : ℕ) (status : Status) (pieces : List Piece) → AreBeside pieces
    → AreBeside (Thread number status ∷ pieces)
thread_beside number status pieces beside = record {
  lists = λ key. omega (arith, beside.lists key);
  titles = λ key. omega (arith, beside.titles key);
  dealings = λ key. omega (arith, beside.dealings key);
  nobody = beside.nobody;
  tell = beside.tell;
  same = ap (λ (ps : List Piece). Thread number status ∷ ps) beside.same;
}

pub timing_beside : (number : ℕ) (timed : Bool) (pieces : List Piece) → AreBeside pieces
    → AreBeside (Timing number timed ∷ pieces)
timing_beside number timed pieces beside = record {
  lists = λ key. omega (arith, beside.lists key);
  titles = λ key. omega (arith, beside.titles key);
  dealings = λ key. omega (arith, beside.dealings key);
  nobody = beside.nobody;
  tell = beside.tell;
  same = ap (λ (ps : List Piece). Timing number timed ∷ ps) beside.same;
}

pub taken_beside : (token : UnparkToken) (taken : List Standing) → AreBeside (threads_taken token taken)
taken_beside token [] = none_beside
taken_beside token (each ∷ taken) =
    thread_beside each.number (status.Taken token) (threads_taken token taken) (taken_beside token taken)

-- a running thread, with what says how it waits
pub running_beside : (number : ℕ) (timed : Bool)
    → AreBeside (Thread number status.Running ∷ Timing number timed ∷ [])
running_beside number timed =
    thread_beside number status.Running (Timing number timed ∷ []) (timing_beside number timed [] none_beside)

-- the waiters of each key but this one are as they were
abbrev pub SameElsewhere : List Standing → List Standing → ℕ → Type 0
SameElsewhere standing after key =
    (k : ℕ) → k ≢ key → map waiter_of (at_key k after) ≡ map waiter_of (at_key k standing)

pub changes-elsewhere : (standing after waiting : List Standing) (key : ℕ) → ChangesKey standing after key waiting
    → SameElsewhere standing after key
changes-elsewhere standing after waiting key lists k other =
    ap (map waiter_of) (lists k ∙ with_value-other (λ q. at_key q standing) key waiting k other)

-- whom the pieces have of a place

pub same_joined : (first second other another : List Standing) → map waiter_of first ≡ map waiter_of second
    → map waiter_of other ≡ map waiter_of another → map waiter_of (first ++ other) ≡ map waiter_of (second ++ another)
same_joined first second other another same too =
    map-append waiter_of first other ∙ (ap (λ (ws : List Waiter). ws ++ map waiter_of other) same
    ∙ (ap (λ (ws : List Waiter). map waiter_of second ++ ws) too ∙ sym (map-append waiter_of second another)))

abbrev pub stands_at : ℕ → ℕ → ℕ → List Standing → List Standing
stands_at size place k all = cond (place_of k size == place) (at_key k all) []

pub same_stand : (size place k : ℕ) (standing after : List Standing)
    → map waiter_of (at_key k after) ≡ map waiter_of (at_key k standing)
    → map waiter_of (stands_at size place k after) ≡ map waiter_of (stands_at size place k standing)
same_stand size place k standing after same = either (place_of k size == place)
  where
    either : (b : Bool) → map waiter_of (cond b (at_key k after) []) ≡ map waiter_of (cond b (at_key k standing) [])
    either true = same
    either false = refl

pub all_stand_here : (size place k : ℕ) (standing : List Standing) → place_of k size ≡ place
    → stands_at size place k standing ≡ at_key k standing
all_stand_here size place k standing here =
    cond-true (place_of k size == place) (at_key k standing) [] (eq-eqb (place_of k size) place here)

pub none_stand_elsewhere : (size place k : ℕ) (standing : List Standing) → place_of k size ≢ place
    → stands_at size place k standing ≡ []
none_stand_elsewhere size place k standing there =
    cond-false (place_of k size == place) (at_key k standing) [] (ne_eqb (place_of k size) place there)

-- the title of a key is another than that of this one
other_key : (key k : ℕ) (stand : List ℕ) → covers (title k) (Title key stand) ≡ 0 → k ≢ key
other_key key k stand none same = let one = own_title key k stand (sym same) in absurd (omega (arith, none, one))

module _ (max_threads limit size place : ℕ) (standing after : List Standing) (old new : List Piece)
    (beside : AreBeside old) (further : AreBeside new) (said : Step → Answer → Type 0)
    (moves : Moves max_threads said (Lists size place standing ∷ old) (Lists size place after ∷ new)) where
  same_where : (k : ℕ) → map waiter_of (at_key k after) ≡ map waiter_of (at_key k standing)
      → map waiter_of (stands_at size place k after ++ standing_at k new)
      ≡ map waiter_of (stands_at size place k standing ++ standing_at k old)
  same_where k same =
      same_joined (stands_at size place k after) (stands_at size place k standing) (standing_at k new)
      (standing_at k old) (same_stand size place k standing after same)
      (ap (map waiter_of) (further.nobody k ∙ sym (beside.nobody k)))

  -- the list of a key of the place
  all_here : (key : ℕ) → place_of key size ≡ place
      → stands_at size place key after ++ standing_at key new ≡ at_key key after
  all_here key here =
      ap (λ (l : List Standing). stands_at size place key after ++ l) (further.nobody key)
      ∙ (append-nil (stands_at size place key after) ∙ all_stand_here size place key after here)

  plain : Moves max_threads said (Lists size place standing ∷ without_titles old)
      (Lists size place after ∷ without_titles new)
  plain = subst (λ (ps : List Piece). Moves max_threads said (Lists size place standing ∷ ps)
      (Lists size place after ∷ without_titles new)) (sym beside.same)
      (subst (λ (ps : List Piece). Moves max_threads said (Lists size place standing ∷ old)
      (Lists size place after ∷ ps)) (sym further.same) moves)

  -- a step that leaves the waiters of each key needs no title
  pub moves_unchanged : ((k : ℕ) → map waiter_of (at_key k after) ≡ map waiter_of (at_key k standing))
      → Moves max_threads said (TitledLists limit size place standing ∷ old) (TitledLists limit size place after ∷ new)
  moves_unchanged same =
      under_titles max_threads said (TitledLists limit size place standing ∷ old)
      (TitledLists limit size place after ∷ new) (record {
        titles = λ k. omega (arith, beside.titles k, further.titles k);
        dealings = λ k. omega (arith, beside.dealings k, further.dealings k);
        others = λ k none. same_where k (same k);
        tell = further.tell (TitledLists limit size place after ∷ new);
      }) plain

  -- nor does one that changes the list of a key which has none
  pub moves_untitled : (key : ℕ) → SameElsewhere standing after key → limit ≤ key → place_of key size ≡ place
      → Moves max_threads said (TitledLists limit size place standing ∷ old) (TitledLists limit size place after ∷ new)
  moves_untitled key elsewhere above here =
      under_titles max_threads said (TitledLists limit size place standing ∷ old)
      (TitledLists limit size place after ∷ new) (record {
        titles = λ k. omega (arith, beside.titles k, further.titles k);
        dealings = λ k. omega (arith, beside.dealings k, further.dealings k);
        others = λ k none. same_where k (elsewhere k (other k none));
        tell = further.tell (TitledLists limit size place after ∷ new);
      }) plain
    where
      own : at_or_above limit key (place_of key size == place) ≡ 1
      own = rw (le-ltb key limit above, eq-eqb (place_of key size) place here) refl

      other : (k : ℕ) → at_or_above limit k (place_of k size == place) + cover (title k) new ≡ 0 → k ≢ key
      other k none same =
          let one : at_or_above limit k (place_of k size == place)
          ≡ at_or_above limit key (place_of key size == place) =
          ap (λ q. at_or_above limit q (place_of q size == place)) same in absurd (omega (arith, none, one, own))

  -- the list of a key changes, with its title
  pub moves_titled : (key : ℕ) (stand : List ℕ) → SameElsewhere standing after key → place_of key size ≡ place
      → Moves max_threads said (TitledLists limit size place standing ∷ Title key stand ∷ old)
      (TitledLists limit size place after ∷ title_of key after ∷ new)
  moves_titled key stand elsewhere here =
      under_titles max_threads said (TitledLists limit size place standing ∷ Title key stand ∷ old)
      (TitledLists limit size place after ∷ title_of key after ∷ new) (record {
        titles = λ k. omega (arith, beside.titles k, further.titles k);
        dealings = λ k. omega (arith, beside.dealings k, further.dealings k);
        others = λ k none. same_where k (elsewhere k (other_key key k [] (omega (arith, none))));
        tell = (
          record {
            owns = omega (arith, own_list key size place after here);
            stand = ap (λ (l : List Standing). map (λ each. each.number) l) (sym (all_here key here));
          },
          further.tell (TitledLists limit size place after ∷ title_of key after ∷ new),
        );
      }) plain

  -- the list of a key changes, with its title where it has one
  pub moves_keyed : (key : ℕ) (right : Option (List ℕ)) → MayChange limit key right → SameElsewhere standing after key
      → place_of key size ≡ place
      → Moves max_threads said (TitledLists limit size place standing ∷ with_title key right old)
      (TitledLists limit size place after ∷ with_title key (retold key after right) new)
  moves_keyed key None above elsewhere here = moves_untitled key elsewhere above here
  moves_keyed key (Some told) _ elsewhere here = moves_titled key told elsewhere here

-- a thread that enters stands behind the others of its key
pub enters_key : (standing : List Standing) (each : Standing)
    → ChangesKey standing (standing ++ each ∷ []) each.key (at_key each.key standing ++ each ∷ [])
enters_key standing each k =
    at_key-append k standing (each ∷ [])
    ∙ ⊎_elim
    (λ (same : k ≡ each.key). ap (λ (l : List Standing). at_key k standing ++ l) (at_own each [] k (sym same))
    ∙ (ap (λ q. at_key q standing ++ each ∷ []) same
    ∙ sym (with_value-same (λ q. at_key q standing) each.key (at_key each.key standing ++ each ∷ []) k same)))
    (λ (other : k ≢ each.key). ap (λ (l : List Standing). at_key k standing ++ l)
    (at_other each [] k (λ same. other (sym same)))
    ∙ (append-nil (at_key k standing)
    ∙ sym (with_value-other (λ q. at_key q standing) each.key (at_key each.key standing ++ each ∷ []) k other)))
    (cases_eq k each.key)

-- a running thread enters the list of a key
pub enters_titled : (max_threads limit size place : ℕ) (standing : List Standing) (stand : List ℕ)
    (number key : ℕ) (park_token : ParkToken) (was_timed timed : Bool) → place_of key size ≡ place
    → Moves max_threads (Is (step.Enter number key true park_token timed) answer.Entered)
    (TitledLists limit size place standing ∷ Title key stand ∷ Thread number status.Running ∷ Timing number was_timed ∷ [])
    (TitledLists limit size place (standing ++ entering number key park_token timed ∷ [])
    ∷ title_of key (standing ++ entering number key park_token timed ∷ []) ∷ Timing number timed ∷ [])
enters_titled max_threads limit size place standing stand number key park_token was_timed timed here =
    let each = entering number key park_token timed in
    moves_titled max_threads limit size place standing (standing ++ each ∷ [])
    (Thread number status.Running ∷ Timing number was_timed ∷ []) (Timing number timed ∷ [])
    (running_beside number was_timed) (timing_beside number timed [] none_beside)
    (Is (step.Enter number key true park_token timed) answer.Entered)
    (enters max_threads size place standing number key park_token was_timed timed [] here) key stand
    (changes-elsewhere standing (standing ++ each ∷ []) (at_key key standing ++ each ∷ []) key
    (enters_key standing each))
    here
