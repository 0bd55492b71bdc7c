-- Steps of buckets where keys have titles, by who has the lists of their places and may change those of their keys.
use Rattle.std.proofs.Common.{◌≡◌, ◌≢◌, ℕ, ◌+◌, ◌==◌, Bool, cond, List, [], ◌∷◌, ◌++◌}
use Rattle.std.proofs.Common.{map, Option, None, Some, refl, sym, ap, ◌∙◌, subst, arith, append-nil}
use Rattle.std.proofs.lemmas.Bool.{eq-eqb, le-ltb, cond-true}
use Rattle.std.proofs.lemmas.List.{map-append}
use Rattle.lot_base.specs.declared.token.UnparkToken.{UnparkToken}
use Rattle.lot_base.specs.NodeFields.{NodeFields}
use Rattle.lot_base.specs.NodeLists.{lists_of, ChangesOnly, split_to}
use Rattle.lot_base.specs.Place.{place_of}
use Rattle.lot_base.specs.Waiting.{Split, with_value, lists_after_requeue}
use Rattle.lot_base.proofs.ValueLemmas.{with_value-other}
use Rattle.lot_machine.specs.declared.status.Status.TheVariants as status
use Rattle.lot_machine.specs.declared.step.Answer.{Answer}
use Rattle.lot_machine.specs.declared.step.Step.{Step}
use Rattle.lot_history.specs.declared.view.Piece.{Piece}
use Rattle.lot_history.specs.declared.view.Piece.TheVariants.{Lists, Thread, TitledLists, Timing}
use Rattle.lot_history.specs.declared.view.Standing.{Standing}
use Rattle.lot_history.specs.Moves.{Moves}
use Rattle.lot_history.specs.Pieces.{title, dealing, cover, at_or_above, at_key, waiter_of, threads_taken}
use Rattle.lot_history.specs.Pieces.{standing_of, standing_in}
use Rattle.lot_history.specs.Titles.{MayChange, with_title, retold}
use Rattle.lot_history.proofs.NodeLemmas.{at_key-nodes, changes_nodes}
use Rattle.lot_history.proofs.PieceLemmas.{own_list}
use Rattle.lot_history.proofs.TimeoutLemmas.{with_late, late_at_key, late_waiters}
use Rattle.lot_history.proofs.TitledLemmas.{AreBeside, SameElsewhere, none_beside, thread_beside, timing_beside, running_beside, taken_beside}
use Rattle.lot_history.proofs.TitledLemmas.{changes-elsewhere, same_joined, stands_at, same_stand, all_stand_here}
use Rattle.lot_history.proofs.TitledLemmas.{none_stand_elsewhere, moves_unchanged, moves_keyed, enters_key}
use Rattle.lot_history.proofs.TitleLemmas.{standing_at, without_titles, Tells, AllTell, under_titles}

-- one key

taken_besides : (token : UnparkToken) (taken : List Standing) → AreBeside (threads_taken token taken ++ [])
taken_besides token taken = subst AreBeside (sym (append-nil (threads_taken token taken))) (taken_beside token taken)

module _ (max_threads limit size place key : ℕ) (right : Option (List ℕ)) (may : MayChange limit key right)
    (here : place_of key size ≡ place) where
  -- an unpark that leaves these in the key's list
  pub takes_keyed : (old new left : List NodeFields) (token : UnparkToken) (taken : List Standing)
      (said : Step → Answer → Type 0) → ChangesOnly old new key left
      → Moves max_threads said (Lists size place (standing_in old) ∷ [])
      (Lists size place (standing_in new) ∷ (threads_taken token taken ++ []))
      → Moves max_threads said (TitledLists limit size place (standing_in old) ∷ with_title key right [])
      (TitledLists limit size place (standing_in new)
      ∷ with_title key (retold key (standing_in new) right) (threads_taken token taken ++ []))
  takes_keyed old new left token taken said lists moves =
      moves_keyed max_threads limit size place (standing_in old) (standing_in new) [] (threads_taken token taken ++ [])
      none_beside (taken_besides token taken) said moves key right may
      (changes-elsewhere (standing_in old) (standing_in new) (standing_in left) key
      (changes_nodes old new key left lists)) here

  -- a thread enters
  pub enters_keyed : (old : List NodeFields) (node : NodeFields) (was_timed : Bool) (said : Step → Answer → Type 0)
      → node.key ≡ key
      → Moves max_threads said
      (Lists size place (standing_in old) ∷ Thread node.number status.Running ∷ Timing node.number was_timed ∷ [])
      (Lists size place (standing_in (old ++ node ∷ [])) ∷ Timing node.number node.timed ∷ [])
      → Moves max_threads said
      (TitledLists limit size place (standing_in old)
      ∷ with_title key right (Thread node.number status.Running ∷ Timing node.number was_timed ∷ []))
      (TitledLists limit size place (standing_in (old ++ node ∷ []))
      ∷ with_title key (retold key (standing_in (old ++ node ∷ [])) right) (Timing node.number node.timed ∷ []))
  enters_keyed old node was_timed said same moves =
      let new : List Standing = standing_in (old ++ node ∷ []) in
      moves_keyed max_threads limit size place (standing_in old) new
      (Thread node.number status.Running ∷ Timing node.number was_timed ∷ []) (Timing node.number node.timed ∷ [])
      (running_beside node.number was_timed) (timing_beside node.number node.timed [] none_beside) said moves key right may
      (subst (SameElsewhere (standing_in old) new) same
      (subst (λ (l : List Standing). SameElsewhere (standing_in old) l node.key)
      (sym (map-append standing_of old (node ∷ [])))
      (changes-elsewhere (standing_in old) (standing_in old ++ standing_of node ∷ [])
      (at_key node.key (standing_in old) ++ standing_of node ∷ []) node.key
      (enters_key (standing_in old) (standing_of node))))) here

  -- the waiters of each key are as they were before a deadline passed
  same_late : (number k : ℕ) (standing : List Standing)
      → map waiter_of (at_key k (with_late number standing)) ≡ map waiter_of (at_key k standing)
  same_late number k standing =
      ap (map waiter_of) (late_at_key number k standing) ∙ late_waiters number (at_key k standing)

  -- a thread whose deadline has passed leaves
  pub leaves_keyed : (old new left : List NodeFields) (number : ℕ) (said : Step → Answer → Type 0)
      → ChangesOnly old new key left
      → Moves max_threads said (Lists size place (with_late number (standing_in old)) ∷ [])
      (Lists size place (standing_in new) ∷ Thread number status.Running ∷ [])
      → Moves max_threads said
      (TitledLists limit size place (with_late number (standing_in old)) ∷ with_title key right [])
      (TitledLists limit size place (standing_in new)
      ∷ with_title key (retold key (standing_in new) right) (Thread number status.Running ∷ []))
  leaves_keyed old new left number said lists moves =
      moves_keyed max_threads limit size place (with_late number (standing_in old)) (standing_in new) []
      (Thread number status.Running ∷ []) none_beside (thread_beside number status.Running [] none_beside) said moves
      key right may
      (λ k other. changes-elsewhere (standing_in old) (standing_in new) (standing_in left) key
      (changes_nodes old new key left lists) k other ∙ sym (same_late number k (standing_in old))) here

-- its deadline passes, for which nobody needs a title
pub late_titled : (max_threads limit size place number : ℕ) (standing : List Standing) (said : Step → Answer → Type 0)
    → Moves max_threads said (Lists size place standing ∷ []) (Lists size place (with_late number standing) ∷ [])
    → Moves max_threads said (TitledLists limit size place standing ∷ [])
    (TitledLists limit size place (with_late number standing) ∷ [])
late_titled max_threads limit size place number standing said moves =
    moves_unchanged max_threads limit size place standing (with_late number standing) [] [] none_beside none_beside said
    moves
    (λ k. ap (map waiter_of) (late_at_key number k standing) ∙ late_waiters number (at_key k standing))

-- two keys

-- pieces that have nobody, of which some may be titles, and what they are without them
record AreBesides (pieces plain : List Piece) : Type 0 where
  pub nobody : (key : ℕ) → standing_at key pieces ≡ []
  pub dealings : (key : ℕ) → cover (dealing key) pieces ≡ 0
  pub same : without_titles pieces ≡ plain

plain_besides : (pieces : List Piece) → AreBeside pieces → AreBesides pieces pieces
plain_besides pieces beside =
    record { nobody = beside.nobody; dealings = beside.dealings; same = beside.same }

titled_besides : (key : ℕ) (right : Option (List ℕ)) (pieces plain : List Piece) → AreBesides pieces plain
    → AreBesides (with_title key right pieces) plain
titled_besides key None pieces plain beside = beside
titled_besides key (Some told) pieces plain beside = record {
  nobody = beside.nobody;
  dealings = λ k. omega (arith, beside.dealings k);
  same = beside.same;
}

abbrev title_covers : ℕ → Option (List ℕ) → ℕ → ℕ
title_covers key None k = 0
title_covers key (Some told) k = cond (key == k) 1 0

none_before : (count : ℕ) → count ≡ 0 + count
none_before count = omega arith

titles_before : (key k : ℕ) (right : Option (List ℕ)) (pieces : List Piece)
    → cover (title k) (with_title key right pieces) ≡ title_covers key right k + cover (title k) pieces
titles_before key k None pieces = none_before (cover (title k) pieces)
titles_before key k (Some told) pieces = refl

titles_after : (key k : ℕ) (right : Option (List ℕ)) (standing : List Standing) (pieces : List Piece)
    → cover (title k) (with_title key (retold key standing right) pieces)
    ≡ title_covers key right k + cover (title k) pieces
titles_after key k None standing pieces = none_before (cover (title k) pieces)
titles_after key k (Some told) standing pieces = refl

-- a key whose title nobody has, where it has one, is another than one that he may change
another_key : (limit size place key k : ℕ) (right : Option (List ℕ)) → MayChange limit key right
    → place_of key size ≡ place → at_or_above limit k (place_of k size == place) ≡ 0 → title_covers key right k ≡ 0
    → k ≢ key
another_key limit size place key k None above here none _ same =
    let own : at_or_above limit key (place_of key size == place) ≡ 1 =
    rw (le-ltb key limit above, eq-eqb (place_of key size) place here) refl in
    let one : at_or_above limit k (place_of k size == place) ≡ at_or_above limit key (place_of key size == place) =
    ap (λ q. at_or_above limit q (place_of q size == place)) same in absurd (omega (arith, none, one, own))
another_key limit size place key k (Some told) _ here _ none same =
    let own : title_covers key (Some told) k ≡ 1 = cond-true (key == k) 1 0 (eq-eqb key k (sym same)) in
    absurd (omega (arith, none, own))

tell_title : (all : List Piece) (key : ℕ) (right : Option (List ℕ)) (standing : List Standing) (pieces : List Piece)
    → Tells all key (map (λ each. each.number) (at_key key standing)) → AllTell all pieces
    → AllTell all (with_title key (retold key standing right) pieces)
tell_title all key None standing pieces tells rest = rest
tell_title all key (Some told) standing pieces tells rest = (tells, rest)

module _ (max_threads limit from to : ℕ) (right target : Option (List ℕ)) (may : MayChange limit from right)
    (may_to : MayChange limit to target) (new : List Piece) (further : AreBeside new) (said : Step → Answer → Type 0)
  where
    abbrev before : List Piece
    before = with_title from right (with_title to target [])

    abbrev behind : List Standing → List Standing → List Piece
    behind after there = with_title from (retold from after right) (with_title to (retold to there target) new)

    beside_before : AreBesides before []
    beside_before = titled_besides from right (with_title to target []) []
        (titled_besides to target [] [] (plain_besides [] none_beside))

    beside_behind : (after there : List Standing) → AreBesides (behind after there) new
    beside_behind after there =
        titled_besides from (retold from after right) (with_title to (retold to there target) new) new
        (titled_besides to (retold to there target) new new (plain_besides new further))

    titles_of_before : (k : ℕ) → cover (title k) before ≡ title_covers from right k + title_covers to target k
    titles_of_before k =
        omega (arith, titles_before from k right (with_title to target []), titles_before to k target [])

    titles_of_behind : (after there : List Standing) (k : ℕ)
        → cover (title k) (behind after there) ≡ title_covers from right k + title_covers to target k
    titles_of_behind after there k = omega (
      arith,
      titles_after from k right after (with_title to (retold to there target) new),
      titles_after to k target there new,
      further.titles k,
    )

    -- both in one place
    module _ (size place : ℕ) (standing after : List Standing)
        (moves : Moves max_threads said (Lists size place standing ∷ []) (Lists size place after ∷ new))
        (from_here : place_of from size ≡ place) (to_here : place_of to size ≡ place)
        (elsewhere : (k : ℕ) → k ≢ from → k ≢ to
        → map waiter_of (at_key k after) ≡ map waiter_of (at_key k standing)) where
      abbrev all : List Piece
      all = TitledLists limit size place after ∷ behind after after

      tells_here : (key : ℕ) → place_of key size ≡ place
          → Tells all key (map (λ each. each.number) (at_key key after))
      tells_here key here = record {
        owns = omega (arith, own_list key size place after here);
        stand = ap (λ (l : List Standing). map (λ each. each.number) l)
            (sym (ap (λ (l : List Standing). stands_at size place key after ++ l) ((beside_behind after after).nobody key)
            ∙ (append-nil (stands_at size place key after) ∙ all_stand_here size place key after here)));
      }

      same_where : (k : ℕ) → map waiter_of (at_key k after) ≡ map waiter_of (at_key k standing)
          → map waiter_of (stands_at size place k after ++ standing_at k (behind after after))
          ≡ map waiter_of (stands_at size place k standing ++ standing_at k before)
      same_where k same =
          same_joined (stands_at size place k after) (stands_at size place k standing)
          (standing_at k (behind after after)) (standing_at k before) (same_stand size place k standing after same)
          (ap (map waiter_of) ((beside_behind after after).nobody k ∙ sym (beside_before.nobody k)))

      plain : Moves max_threads said (Lists size place standing ∷ without_titles before)
          (Lists size place after ∷ without_titles (behind after after))
      plain = subst (λ (ps : List Piece). Moves max_threads said (Lists size place standing ∷ ps)
          (Lists size place after ∷ without_titles (behind after after))) (sym beside_before.same)
          (subst (λ (ps : List Piece). Moves max_threads said (Lists size place standing ∷ [])
          (Lists size place after ∷ ps)) (sym (beside_behind after after).same) moves)

      pub moves_keyed_both : Moves max_threads said (TitledLists limit size place standing ∷ before)
          (TitledLists limit size place after ∷ behind after after)
      moves_keyed_both =
          under_titles max_threads said (TitledLists limit size place standing ∷ before) all (record {
            titles = λ k. omega (arith, titles_of_before k, titles_of_behind after after k);
            dealings = λ k. omega (arith, beside_before.dealings k, (beside_behind after after).dealings k);
            others = λ k none. same_where k (elsewhere k
                (another_key limit size place from k right may from_here
                (omega (arith, none)) (omega (arith, none, titles_of_behind after after k)))
                (another_key limit size place to k target may_to to_here
                (omega (arith, none)) (omega (arith, none, titles_of_behind after after k))));
            tell = tell_title all from right after (with_title to (retold to after target) new)
                (tells_here from from_here)
                (tell_title all to target after new (tells_here to to_here) (further.tell all));
          }) plain

    -- each in a place of its own
    module _ (size place other : ℕ) (standing after there there_after : List Standing)
        (moves : Moves max_threads said (Lists size place standing ∷ Lists size other there ∷ [])
        (Lists size place after ∷ Lists size other there_after ∷ new)) (apart : other ≢ place)
        (from_here : place_of from size ≡ place) (to_there : place_of to size ≡ other)
        (elsewhere : SameElsewhere standing after from) (elsewhere_there : SameElsewhere there there_after to) where
      abbrev both : List Piece
      both = TitledLists limit size place after ∷ TitledLists limit size other there_after ∷ behind after there_after

      nobody_behind : (k : ℕ) → standing_at k (behind after there_after) ≡ []
      nobody_behind k = (beside_behind after there_after).nobody k

      same_both : (k : ℕ) → k ≢ from → k ≢ to
          → map waiter_of (stands_at size place k after
          ++ (stands_at size other k there_after ++ standing_at k (behind after there_after)))
          ≡ map waiter_of (stands_at size place k standing
          ++ (stands_at size other k there ++ standing_at k before))
      same_both k not_from not_to =
          same_joined (stands_at size place k after) (stands_at size place k standing)
          (stands_at size other k there_after ++ standing_at k (behind after there_after))
          (stands_at size other k there ++ standing_at k before)
          (same_stand size place k standing after (elsewhere k not_from))
          (same_joined (stands_at size other k there_after) (stands_at size other k there)
          (standing_at k (behind after there_after)) (standing_at k before)
          (same_stand size other k there there_after (elsewhere_there k not_to))
          (ap (map waiter_of) (nobody_behind k ∙ sym (beside_before.nobody k))))

      all_from : standing_at from both ≡ at_key from after
      all_from =
          ap (λ (l : List Standing). stands_at size place from after ++ (stands_at size other from there_after ++ l))
          (nobody_behind from)
          ∙ (ap (λ (l : List Standing). stands_at size place from after ++ (l ++ []))
          (none_stand_elsewhere size other from there_after (λ same. apart (sym same ∙ from_here)))
          ∙ (append-nil (stands_at size place from after) ∙ all_stand_here size place from after from_here))

      all_to : standing_at to both ≡ at_key to there_after
      all_to =
          ap (λ (l : List Standing). l ++ (stands_at size other to there_after ++ standing_at to (behind after there_after)))
          (none_stand_elsewhere size place to after (λ same. apart (sym to_there ∙ same)))
          ∙ (ap (λ (l : List Standing). stands_at size other to there_after ++ l) (nobody_behind to)
          ∙ (append-nil (stands_at size other to there_after)
          ∙ all_stand_here size other to there_after to_there))

      plain_both : Moves max_threads said
          (Lists size place standing ∷ Lists size other there ∷ without_titles before)
          (Lists size place after ∷ Lists size other there_after ∷ without_titles (behind after there_after))
      plain_both = subst (λ (ps : List Piece). Moves max_threads said
          (Lists size place standing ∷ Lists size other there ∷ ps)
          (Lists size place after ∷ Lists size other there_after ∷ without_titles (behind after there_after)))
          (sym beside_before.same)
          (subst (λ (ps : List Piece). Moves max_threads said
          (Lists size place standing ∷ Lists size other there ∷ [])
          (Lists size place after ∷ Lists size other there_after ∷ ps)) (sym (beside_behind after there_after).same) moves)

      pub moves_keyed_across : Moves max_threads said
          (TitledLists limit size place standing ∷ TitledLists limit size other there ∷ before) both
      moves_keyed_across =
          under_titles max_threads said
          (TitledLists limit size place standing ∷ TitledLists limit size other there ∷ before) both (record {
            titles = λ k. omega (arith, titles_of_before k, titles_of_behind after there_after k);
            dealings = λ k. omega (arith, beside_before.dealings k, (beside_behind after there_after).dealings k);
            others = λ k none. same_both k
                (another_key limit size place from k right may from_here
                (omega (arith, none)) (omega (arith, none, titles_of_behind after there_after k)))
                (another_key limit size other to k target may_to to_there
                (omega (arith, none)) (omega (arith, none, titles_of_behind after there_after k)));
            tell = tell_title both from right after (with_title to (retold to there_after target) new)
                (record {
                  owns = omega (arith, own_list from size place after from_here);
                  stand = ap (λ (l : List Standing). map (λ each. each.number) l) (sym all_from);
                })
                (tell_title both to target there_after new
                (record {
                  owns = omega (arith, own_list to size other there_after to_there);
                  stand = ap (λ (l : List Standing). map (λ each. each.number) l) (sym all_to);
                }) (further.tell both));
          }) plain_both

-- requeues, as buckets tell of them
module _ (max_threads limit size place from to : ℕ) (old new : List NodeFields) (split : Split NodeFields)
    (token : UnparkToken) (taken : List Standing) (said : Step → Answer → Type 0) (right target : Option (List ℕ))
    (may : MayChange limit from right) (may_to : MayChange limit to target) (from_here : place_of from size ≡ place)
  where
    abbrev left_in_place : ℕ → List NodeFields
    left_in_place = with_value (lists_of old) from split.left

    pub requeues_keyed : place_of to size ≡ place
        → ((k : ℕ) → lists_of new k ≡ lists_after_requeue (lists_of old) from to (split_to to split) k)
        → Moves max_threads said (Lists size place (standing_in old) ∷ [])
        (Lists size place (standing_in new) ∷ (threads_taken token taken ++ []))
        → Moves max_threads said
        (TitledLists limit size place (standing_in old) ∷ with_title from right (with_title to target []))
        (TitledLists limit size place (standing_in new)
        ∷ with_title from (retold from (standing_in new) right)
        (with_title to (retold to (standing_in new) target) (threads_taken token taken ++ [])))
    requeues_keyed to_here lists moves =
        moves_keyed_both max_threads limit from to right target may may_to (threads_taken token taken ++ [])
        (taken_besides token taken) said size place (standing_in old) (standing_in new) moves from_here to_here
        (λ k not_from not_to. ap (map waiter_of) (at_key-nodes new k
        ∙ (ap (λ (ns : List NodeFields). standing_in ns) (lists k
        ∙ (with_value-other left_in_place to (left_in_place to ++ (split_to to split).moved) k not_to
        ∙ with_value-other (lists_of old) from split.left k not_from))
        ∙ sym (at_key-nodes old k))))

    pub requeues_keyed_across : (other : ℕ) (there there_new : List NodeFields) → other ≢ place
        → place_of to size ≡ other → ChangesOnly old new from split.left
        → ChangesOnly there there_new to (lists_of there to ++ (split_to to split).moved)
        → Moves max_threads said
        (Lists size place (standing_in old) ∷ Lists size other (standing_in there) ∷ [])
        (Lists size place (standing_in new) ∷ Lists size other (standing_in there_new)
        ∷ (threads_taken token taken ++ []))
        → Moves max_threads said
        (TitledLists limit size place (standing_in old) ∷ TitledLists limit size other (standing_in there)
        ∷ with_title from right (with_title to target []))
        (TitledLists limit size place (standing_in new) ∷ TitledLists limit size other (standing_in there_new)
        ∷ with_title from (retold from (standing_in new) right)
        (with_title to (retold to (standing_in there_new) target) (threads_taken token taken ++ [])))
    requeues_keyed_across other there there_new apart to_there lists targets moves =
        moves_keyed_across max_threads limit from to right target may may_to (threads_taken token taken ++ [])
        (taken_besides token taken) said size place other (standing_in old) (standing_in new) (standing_in there)
        (standing_in there_new) moves apart from_here to_there
        (changes-elsewhere (standing_in old) (standing_in new) (standing_in split.left) from
        (changes_nodes old new from split.left lists))
        (changes-elsewhere (standing_in there) (standing_in there_new)
        (standing_in (lists_of there to ++ (split_to to split).moved)) to
        (changes_nodes there there_new to (lists_of there to ++ (split_to to split).moved) targets))
