-- All places of a table, and their growth and trim.
use Rattle.std.proofs.Common.{◌≡◌, ℕ, zero, suc, ◌+◌, ◌*◌, ◌^◌, ◌<◌, ◌≤◌, List, [], ◌∷◌, refl, sym, ap, ◌∙◌}
use Rattle.std.proofs.Common.{subst, arith}
use Rattle.std.proofs.lemmas.List.Elements.{All-nil}
use Rattle.std.proofs.lemmas.Nat.{pow-add}
use Rattle.lot_history.specs.Moves.{Regroups}
use Rattle.lot_history.specs.declared.view.Piece.{Piece}
use Rattle.lot_history.specs.declared.view.Piece.TheVariants.{Lists}
use Rattle.lot_history.specs.declared.view.Standing.{Standing}
use Rattle.lot_history.specs.Pieces.{row_pieces}
use Rattle.lot_history.proofs.FrameLemmas.{beside, chained, kept_pieces}
use Rattle.lot_history.proofs.GrowthLemmas.{HasPlace, IsHalved, grows, shrinks}

module _ (size bits : ℕ) (few : bits < 16) (power : size ≡ 2 ^ bits) (max_threads : ℕ) (row new : ℕ → List Standing)
  where
    -- each place from this one on is cut in two
    abbrev AreHalved : ℕ → ℕ → Type 0
    AreHalved first count = (place : ℕ) → first ≤ place → place < first + count
        → IsHalved size place (row place) (new (2 * place)) (new (2 * place + 1))

    -- the two places of each of them
    abbrev pairs : ℕ → ℕ → List Piece
    pairs first zero = []
    pairs first (suc count) =
        Lists (2 * size) (2 * first) (new (2 * first)) ∷ Lists (2 * size) (2 * first + 1) (new (2 * first + 1))
        ∷ pairs (first + 1) count

    pairs-are : (first count : ℕ) → pairs first count ≡ row_pieces (2 * size) (2 * first) (2 * count) new
    pairs-are first zero = refl
    pairs-are first (suc count) =
        let place : 2 * first + 1 + 1 ≡ 2 * (first + 1) = omega arith in
        let more : suc (suc (2 * count)) ≡ 2 * suc count = omega arith in
        ap (λ (ps : List Piece). Lists (2 * size) (2 * first) (new (2 * first))
        ∷ Lists (2 * size) (2 * first + 1) (new (2 * first + 1)) ∷ ps)
        (pairs-are (first + 1) count ∙ ap (λ p. row_pieces (2 * size) p (2 * count) new) (sym place))
        ∙ ap (λ n. row_pieces (2 * size) (2 * first) n new) more

    cut : (first count : ℕ) → AreHalved first count
        → Regroups max_threads (row_pieces size first count row) (pairs first count)
    cut first zero halved = kept_pieces max_threads []
    cut first (suc count) halved =
        beside max_threads (Lists size first (row first) ∷ [])
        (Lists (2 * size) (2 * first) (new (2 * first)) ∷ Lists (2 * size) (2 * first + 1) (new (2 * first + 1)) ∷ [])
        (row_pieces size (first + 1) count row) (pairs (first + 1) count)
        (grows size first bits few power max_threads (row first) (new (2 * first)) (new (2 * first + 1))
        (halved first (omega arith) (omega arith)))
        (cut (first + 1) count (λ place low high. halved place (omega arith) (omega arith)))

    joined : (first count : ℕ) → AreHalved first count
        → Regroups max_threads (pairs first count) (row_pieces size first count row)
    joined first zero halved = kept_pieces max_threads []
    joined first (suc count) halved =
        beside max_threads
        (Lists (2 * size) (2 * first) (new (2 * first)) ∷ Lists (2 * size) (2 * first + 1) (new (2 * first + 1)) ∷ [])
        (Lists size first (row first) ∷ []) (pairs (first + 1) count) (row_pieces size (first + 1) count row)
        (shrinks size first bits few power max_threads (row first) (new (2 * first)) (new (2 * first + 1))
        (halved first (omega arith) (omega arith)))
        (joined (first + 1) count (λ place low high. halved place (omega arith) (omega arith)))

    module _ (halved : (place : ℕ) → place < size
        → IsHalved size place (row place) (new (2 * place)) (new (2 * place + 1))) where
      from_first : AreHalved 0 size
      from_first place low high = halved place (omega arith)

      all_pairs : pairs 0 size ≡ row_pieces (2 * size) 0 (2 * size) new
      all_pairs = pairs-are 0 size

      -- a table of twice the size
      pub row_grows : Regroups max_threads (row_pieces size 0 size row) (row_pieces (2 * size) 0 (2 * size) new)
      row_grows = subst (Regroups max_threads (row_pieces size 0 size row)) all_pairs (cut 0 size from_first)

      -- and one of half the size
      pub row_shrinks : Regroups max_threads (row_pieces (2 * size) 0 (2 * size) new) (row_pieces size 0 size row)
      row_shrinks = subst (λ (ps : List Piece). Regroups max_threads ps (row_pieces size 0 size row)) all_pairs
          (joined 0 size from_first)

-- nobody stands in a new table, whose lists were one place
abbrev pub nobody : ℕ → List Standing
nobody place = []

nobody_halved : (size place : ℕ) → IsHalved size place (nobody place) (nobody (2 * place)) (nobody (2 * place + 1))
nobody_halved size place = record {
  low_place = All-nil (HasPlace (2 * size) (2 * place));
  high_place = All-nil (HasPlace (2 * size) (2 * place + 1));
  lists = λ k. refl;
}

pub new_row : (max_threads bits : ℕ) → bits ≤ 16
    → Regroups max_threads (Lists 1 0 [] ∷ []) (row_pieces (2 ^ bits) 0 (2 ^ bits) nobody)
new_row max_threads zero few = kept_pieces max_threads (Lists 1 0 [] ∷ [])
new_row max_threads (suc bits) few =
    let double : 2 * 2 ^ bits ≡ 2 ^ suc bits =
    let one = pow-add 2 bits 1 in let next : bits + 1 ≡ suc bits = omega arith in
    let power = ap (λ n. 2 ^ n) next in omega arith in
    subst (λ size. Regroups max_threads (Lists 1 0 [] ∷ []) (row_pieces size 0 size nobody)) double
    (chained max_threads (Lists 1 0 [] ∷ []) (row_pieces (2 ^ bits) 0 (2 ^ bits) nobody)
    (row_pieces (2 * 2 ^ bits) 0 (2 * 2 ^ bits) nobody) (new_row max_threads bits (omega arith))
    (row_grows (2 ^ bits) bits (omega arith) refl max_threads nobody nobody
    (λ place low. nobody_halved (2 ^ bits) place)))
