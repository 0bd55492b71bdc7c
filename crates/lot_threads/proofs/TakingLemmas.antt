-- What sections do to a bucket, where the pieces of its lists and of those that were taken go by its nodes.
use Rattle.std.proofs.Common.{◌≡◌, ℕ, ◌≤◌, Option, None, List, [], ◌∷◌, ◌++◌, append-nil, map, refl, sym, ap, ◌∙◌, subst}
use Rattle.lot_base.specs.BucketState.{BucketState, KeepsPlace}
use Rattle.lot_base.specs.NodeFields.{NodeFields}
use Rattle.lot_base.specs.NodeLists.{lists_of, ChangesOnly, split_to, with_token}
use Rattle.lot_base.specs.Place.{place_of}
use Rattle.lot_base.specs.Waiting.{Split, lists_after_requeue}
use Rattle.lot_base.specs.declared.token.UnparkToken.{UnparkToken}
use Rattle.lot_machine.specs.declared.status.Status.TheVariants.{Taken}
use Rattle.lot_machine.specs.declared.step.Answer.{Answer}
use Rattle.lot_machine.specs.declared.step.Op.{Op}
use Rattle.lot_machine.specs.declared.step.Step.{Step}
use Rattle.lot_machine.specs.declared.step.Step.TheVariants.{Unpark}
use Rattle.lot_history.specs.declared.view.Piece.{Piece}
use Rattle.lot_history.specs.declared.view.Piece.TheVariants.{Lists, TitledLists, Thread}
use Rattle.lot_history.specs.Moves.{Moves}
use Rattle.lot_history.specs.Pieces.{standing_in, threads_taken}
use Rattle.lot_history.specs.Titles.{MayChange, with_title, retold}
use Rattle.lot_history.proofs.KeyedLemmas.{requeues_keyed, takes_keyed}
use Rattle.lot_history.proofs.ThreadLemmas.{Is, said_moves, says}
use Rattle.lot_threads.specs.Cells.{lists_in, threads_in}

-- those that were taken have the token in their nodes
taken_threads : (token : UnparkToken) (nodes : List NodeFields)
    → threads_taken token (standing_in nodes) ≡ threads_in (map (with_token token) nodes)
taken_threads token [] = refl
taken_threads token (node ∷ nodes) =
    ap (λ (pieces : List Piece). Thread node.number (Taken token) ∷ pieces) (taken_threads token nodes)

pub taken_pieces : (token : UnparkToken) (chosen taken : List NodeFields) → taken ≡ map (with_token token) chosen
    → threads_in taken ≡ threads_taken token (standing_in chosen) ++ []
taken_pieces token chosen taken is =
    ap threads_in is
    ∙ (sym (taken_threads token chosen) ∙ sym (append-nil (threads_taken token (standing_in chosen))))

module _ (bound limit : ℕ) (old new : BucketState) (token : UnparkToken) (chosen taken : List NodeFields)
    (keeps : KeepsPlace old new) (is_taken : taken ≡ map (with_token token) chosen) where
  abbrev plain_after : List Piece
  plain_after = Lists old.size old.place (standing_in new.nodes) ∷ (threads_taken token (standing_in chosen) ++ [])

  module _ (key : ℕ) (right : Option (List ℕ)) where
    -- who has what it takes to change the key's list, before the unpark and after it
    abbrev before : List Piece
    before = lists_in limit old ∷ with_title key right []

    abbrev behind : List Piece → List Piece
    behind pieces = with_title key (retold key (standing_in new.nodes) right) pieces

    pieces_after : lists_in limit new ∷ behind (threads_in taken)
        ≡ TitledLists limit old.size old.place (standing_in new.nodes)
        ∷ behind (threads_taken token (standing_in chosen) ++ [])
    pieces_after = rw (keeps.place, keeps.size, taken_pieces token chosen taken is_taken) refl

    module _ (may : MayChange limit key right) (here : place_of key old.size ≡ old.place) (left : List NodeFields)
        (lists : ChangesOnly old.nodes new.nodes key left) where
      -- an unpark of which this is known
      pub taking_said : (first said : Step → Answer → Type 0) → ((s : Step) (a : Answer) → first s a → said s a)
          → Moves bound first (Lists old.size old.place (standing_in old.nodes) ∷ []) plain_after
          → Moves bound said before (lists_in limit new ∷ behind (threads_in taken))
      taking_said first said more moves =
          subst (λ (pieces : List Piece). Moves bound said before pieces) (sym pieces_after)
          (takes_keyed bound limit old.size old.place key right may here old.nodes new.nodes left token
          (standing_in chosen) said lists
          (says bound first said (Lists old.size old.place (standing_in old.nodes) ∷ []) plain_after more moves))

      -- one that takes these nodes
      pub taking_moves : (which : Op) (given : Answer) (said : Step → Answer → Type 0) → said (Unpark which) given
          → Moves bound (Is (Unpark which) given) (Lists old.size old.place (standing_in old.nodes) ∷ []) plain_after
          → Moves bound said before (lists_in limit new ∷ behind (threads_in taken))
      taking_moves which given said is_said moves =
          taking_said (Is (Unpark which) given) said
          (λ s a is. subst (λ t. said t a) (sym is.0) (subst (said (Unpark which)) (sym is.1) is_said)) moves

  -- a requeue onto a key of the bucket, where neither key has a title
  pub requeuing_moves : (from to : ℕ) → limit ≤ from → limit ≤ to → place_of from old.size ≡ old.place
      → place_of to old.size ≡ old.place → (split : Split NodeFields)
      → ((k : ℕ) → lists_of new.nodes k ≡ lists_after_requeue (lists_of old.nodes) from to (split_to to split) k)
      → (which : Op) (given : Answer) (said : Step → Answer → Type 0) → said (Unpark which) given
      → Moves bound (Is (Unpark which) given) (Lists old.size old.place (standing_in old.nodes) ∷ []) plain_after
      → Moves bound said (lists_in limit old ∷ []) (lists_in limit new ∷ threads_in taken)
  requeuing_moves from to above to_above from_here to_here split lists which given said is_said moves =
      subst (λ (pieces : List Piece). Moves bound said (lists_in limit old ∷ []) pieces) (sym (pieces_after from None))
      (requeues_keyed bound limit old.size old.place from to old.nodes new.nodes split token (standing_in chosen) said
      None None above to_above from_here to_here lists
      (said_moves bound (Unpark which) given said (Lists old.size old.place (standing_in old.nodes) ∷ []) plain_after
      (Lists old.size old.place (standing_in old.nodes) ∷ []) plain_after refl refl is_said moves))
