-- A place of a table is two places of one of twice the size.
use Rattle.std.proofs.Common.{◌≡◌, ◌≢◌, ◌⊎◌, ℕ, ◌+◌, ◌*◌, ◌^◌, ◌<◌, ◌≤◌, ◌==◌, Bool, true, false, cond, List, [], ◌∷◌, ◌++◌}
use Rattle.std.proofs.Common.{All, filter, inl, inr, refl, sym, ap, ◌∙◌, subst, ⊎_elim, arith, append-nil}
use Rattle.std.proofs.lemmas.Bool.{cases_eq, cases_lt, eq-eqb, ne_eqb, lt-ltb, le-ltb, cond-true, cond-false}
use Rattle.std.proofs.lemmas.List.{map-append}
use Rattle.std.proofs.lemmas.List.Elements.{All-nil, All-cons, All-head, All-tail, All-map}
use Rattle.lot_base.specs.NodeFields.{NodeFields}
use Rattle.lot_base.specs.NodeLists.{lists_of}
use Rattle.lot_base.specs.Place.{place_of}
use Rattle.lot_history.specs.Pieces.{standing_of, standing_in}
use Rattle.lot_history.specs.declared.view.Standing.{Standing}
use Rattle.lot_history.specs.declared.view.Piece.{Piece}
use Rattle.lot_history.specs.declared.view.Piece.TheVariants.{Lists, TitledLists}
use Rattle.lot_history.specs.Moves.{Regroups}
use Rattle.lot_history.specs.Pieces.{Name, list, title, dealing, thread, records, timing, numbers, at_or_above}
use Rattle.lot_history.specs.Pieces.{times_standing, cover, at_key, IsList}
use Rattle.lot_history.proofs.NodeLemmas.{at_key-nodes}
use Rattle.lot_history.proofs.PieceLemmas.{times-append}
use Rattle.lot_history.proofs.PlaceLemmas.{place_of-half}
use Rattle.lot_history.proofs.TimesLemmas.{at_own, at_other, at_key-append, same_times}
use Rattle.lot_history.proofs.TitleLemmas.{waiting_at, regroups_titled}

-- a thread stands at a key of the place
abbrev pub HasPlace : ℕ → ℕ → Standing → Type 0
HasPlace size place each = place_of each.key size ≡ place

-- those that do
abbrev pub at_place : ℕ → ℕ → List Standing → List Standing
at_place size place standing = filter (λ each. place_of each.key size == place) standing

pub all_at_place : (size place : ℕ) (standing : List Standing)
    → All (HasPlace size place) (at_place size place standing)
all_at_place size place [] = All-nil (HasPlace size place)
all_at_place size place (x ∷ xs) =
    ⊎_elim
    (λ (same : place_of x.key size ≡ place). subst (All (HasPlace size place))
    (sym (cond-true (place_of x.key size == place) (x ∷ at_place size place xs) (at_place size place xs)
    (eq-eqb (place_of x.key size) place same)))
    (All-cons (HasPlace size place) x (at_place size place xs) same (all_at_place size place xs)))
    (λ (other : place_of x.key size ≢ place). subst (All (HasPlace size place))
    (sym (cond-false (place_of x.key size == place) (x ∷ at_place size place xs) (at_place size place xs)
    (ne_eqb (place_of x.key size) place other))) (all_at_place size place xs))
    (cases_eq (place_of x.key size) place)

-- a key of another place has nobody
at_key-elsewhere : (size place k : ℕ) (standing : List Standing) → All (HasPlace size place) standing
    → place_of k size ≢ place → at_key k standing ≡ []
at_key-elsewhere size place k [] all other = refl
at_key-elsewhere size place k (x ∷ xs) all other =
    at_other x xs k
    (λ same. other (ap (λ q. place_of q size) (sym same) ∙ All-head (HasPlace size place) x xs all))
    ∙ at_key-elsewhere size place k xs (All-tail (HasPlace size place) x xs all) other

-- and one of the place all
at_key-here : (size place k : ℕ) (standing : List Standing) → place_of k size ≡ place
    → at_key k (at_place size place standing) ≡ at_key k standing
at_key-here size place k [] here = refl
at_key-here size place k (x ∷ xs) here =
    ⊎_elim
    (λ (same : x.key ≡ k).
    ap (at_key k)
    (cond-true (place_of x.key size == place) (x ∷ at_place size place xs) (at_place size place xs)
    (eq-eqb (place_of x.key size) place (ap (λ q. place_of q size) same ∙ here)))
    ∙ (at_own x (at_place size place xs) k same
    ∙ (ap (λ (l : List Standing). x ∷ l) (at_key-here size place k xs here) ∙ sym (at_own x xs k same))))
    (λ (other : x.key ≢ k). either (place_of x.key size == place) other ∙ (at_key-here size place k xs here
    ∙ sym (at_other x xs k other)))
    (cases_eq x.key k)
  where
    either : (b : Bool) → x.key ≢ k
        → at_key k (cond b (x ∷ at_place size place xs) (at_place size place xs)) ≡ at_key k (at_place size place xs)
    either true other = at_other x (at_place size place xs) k other
    either false other = refl

module _ (size place : ℕ) where
  -- of the threads that stand at a place some stand at the one, and the others at the other, of its two places in a
  -- table of twice the size
  pub record IsHalved (standing low high : List Standing) : Type 0 where
    pub low_place : All (HasPlace (2 * size) (2 * place)) low
    pub high_place : All (HasPlace (2 * size) (2 * place + 1)) high
    pub lists : (k : ℕ) → at_key k standing ≡ at_key k low ++ at_key k high

  module _ (bits : ℕ) (few : bits < 16) (power : size ≡ 2 ^ bits) where
    -- a key of the place is of one of the two
    place_below : (k : ℕ) → place_of k size ≡ place
        → (place_of k (2 * size) ≡ 2 * place) ⊎ (place_of k (2 * size) ≡ 2 * place + 1)
    place_below k here =
        let half = place_of-half k size bits few power in
        ⊎_elim (λ (same : place_of k (2 * size) ≡ 2 * place). inl same)
        (λ (other : place_of k (2 * size) ≢ 2 * place). inr (omega (arith, half, here, other)))
        (cases_eq (place_of k (2 * size)) (2 * place))

    place_low : (k : ℕ) → place_of k (2 * size) ≡ 2 * place → place_of k size ≡ place
    place_low k there = let half = place_of-half k size bits few power in omega (arith, half, there)

    place_high : (k : ℕ) → place_of k (2 * size) ≡ 2 * place + 1 → place_of k size ≡ place
    place_high k there = let half = place_of-half k size bits few power in omega (arith, half, there)

    -- the threads of a place, by the places of their keys
    pub halves : (standing : List Standing) → All (HasPlace size place) standing
        → IsHalved standing (at_place (2 * size) (2 * place) standing) (at_place (2 * size) (2 * place + 1) standing)
    halves standing all = record {
      low_place = all_at_place (2 * size) (2 * place) standing;
      high_place = all_at_place (2 * size) (2 * place + 1) standing;
      lists = λ k. ⊎_elim
          (λ (here : place_of k size ≡ place). ⊎_elim (at_low k) (at_high k) (place_below k here))
          (λ (other : place_of k size ≢ place). at_key-elsewhere size place k standing all other
          ∙ sym (ap (λ (l : List Standing). l ++ at_key k high) (none_low k (λ there. other (place_low k there)))
          ∙ none_high k (λ there. other (place_high k there))))
          (cases_eq (place_of k size) place);
    }
      where
        low : List Standing
        low = at_place (2 * size) (2 * place) standing

        high : List Standing
        high = at_place (2 * size) (2 * place + 1) standing

        none_low : (k : ℕ) → place_of k (2 * size) ≢ 2 * place → at_key k low ≡ []
        none_low k other =
            at_key-elsewhere (2 * size) (2 * place) k low (all_at_place (2 * size) (2 * place) standing) other

        none_high : (k : ℕ) → place_of k (2 * size) ≢ 2 * place + 1 → at_key k high ≡ []
        none_high k other = at_key-elsewhere (2 * size) (2 * place + 1) k high
            (all_at_place (2 * size) (2 * place + 1) standing) other

        at_low : (k : ℕ) → place_of k (2 * size) ≡ 2 * place → at_key k standing ≡ at_key k low ++ at_key k high
        at_low k there = sym (ap (λ (l : List Standing). at_key k low ++ l)
            (none_high k (λ same. absurd (omega (arith, same, there))))
            ∙ (append-nil (at_key k low) ∙ at_key-here (2 * size) (2 * place) k standing there))

        at_high : (k : ℕ) → place_of k (2 * size) ≡ 2 * place + 1
            → at_key k standing ≡ at_key k low ++ at_key k high
        at_high k there = sym (ap (λ (l : List Standing). l ++ at_key k high)
            (none_low k (λ same. absurd (omega (arith, same, there))))
            ∙ at_key-here (2 * size) (2 * place + 1) k standing there)

    module _ (max_threads : ℕ) (standing low high : List Standing) (halved : IsHalved standing low high) where
      abbrev whole : List Piece
      whole = Lists size place standing ∷ []

      abbrev both : List Piece
      both = Lists (2 * size) (2 * place) low ∷ Lists (2 * size) (2 * place + 1) high ∷ []

      times : (number : ℕ)
          → times_standing number low + times_standing number high ≡ times_standing number standing
      times number =
          let same = same_times number standing (low ++ high)
          (λ k. halved.lists k ∙ sym (at_key-append k low high)) in omega (arith, same, times-append number low high)

      places : (k : ℕ) → cond (place_of k (2 * size) == 2 * place) 1 0
          + cond (place_of k (2 * size) == 2 * place + 1) 1 0 ≡ cond (place_of k size == place) 1 0
      places k =
          ⊎_elim
          (λ (here : place_of k size ≡ place). ⊎_elim
          (λ (there : place_of k (2 * size) ≡ 2 * place).
          let other : place_of k (2 * size) ≢ 2 * place + 1 = λ same. absurd (omega (arith, same, there)) in
          rw (
            eq-eqb (place_of k size) place here,
            eq-eqb (place_of k (2 * size)) (2 * place) there,
            ne_eqb (place_of k (2 * size)) (2 * place + 1) other,
          ) refl)
          (λ (there : place_of k (2 * size) ≡ 2 * place + 1).
          let other : place_of k (2 * size) ≢ 2 * place = λ same. absurd (omega (arith, same, there)) in
          rw (
            eq-eqb (place_of k size) place here,
            ne_eqb (place_of k (2 * size)) (2 * place) other,
            eq-eqb (place_of k (2 * size)) (2 * place + 1) there,
          ) refl)
          (place_below k here))
          (λ (other : place_of k size ≢ place). rw (
            ne_eqb (place_of k size) place other,
            ne_eqb (place_of k (2 * size)) (2 * place) (λ there. other (place_low k there)),
            ne_eqb (place_of k (2 * size)) (2 * place + 1) (λ there. other (place_high k there)),
          ) refl)
          (cases_eq (place_of k size) place)

      same_cover : (name : Name) → cover name both ≡ cover name whole
      same_cover (list k) = omega (arith, places k)
      same_cover (title k) = omega (arith, places k)
      same_cover (dealing k) = omega (arith, places k)
      same_cover (thread number) = omega (arith, times number)
      same_cover (records number) = refl
      same_cover (timing number) = refl
      same_cover numbers = refl

      -- a key below a limit is covered by neither
      places_above : (limit k : ℕ) → at_or_above limit k (place_of k (2 * size) == 2 * place)
          + at_or_above limit k (place_of k (2 * size) == 2 * place + 1)
          ≡ at_or_above limit k (place_of k size == place)
      places_above limit k =
          ⊎_elim (λ (below : k < limit). rw (lt-ltb k limit below) refl)
          (λ (above : limit ≤ k). rw (le-ltb k limit above) (places k))
          (cases_lt k limit)

      -- a key of either place has those that it had
      low_list : (k : ℕ) → place_of k (2 * size) ≡ 2 * place → at_key k standing ≡ at_key k low
      low_list k there = halved.lists k
          ∙ (ap (λ (l : List Standing). at_key k low ++ l)
          (at_key-elsewhere (2 * size) (2 * place + 1) k high halved.high_place
          (λ same. absurd (omega (arith, same, there)))) ∙ append-nil (at_key k low))

      high_list : (k : ℕ) → place_of k (2 * size) ≡ 2 * place + 1 → at_key k standing ≡ at_key k high
      high_list k there = halved.lists k
          ∙ ap (λ (l : List Standing). l ++ at_key k high)
          (at_key-elsewhere (2 * size) (2 * place) k low halved.low_place
          (λ same. absurd (omega (arith, same, there))))

      -- and so has each key
      both_lists : (k : ℕ) → waiting_at k (TitledLists 0 (2 * size) (2 * place) low
          ∷ TitledLists 0 (2 * size) (2 * place + 1) high ∷ [])
          ≡ waiting_at k (TitledLists 0 size place standing ∷ [])
      both_lists k =
          ⊎_elim
          (λ (here : place_of k size ≡ place). ⊎_elim
          (λ (there : place_of k (2 * size) ≡ 2 * place).
          let other : place_of k (2 * size) ≢ 2 * place + 1 = λ same. absurd (omega (arith, same, there)) in
          rw (
            eq-eqb (place_of k size) place here,
            eq-eqb (place_of k (2 * size)) (2 * place) there,
            ne_eqb (place_of k (2 * size)) (2 * place + 1) other,
            low_list k there,
          ) refl)
          (λ (there : place_of k (2 * size) ≡ 2 * place + 1).
          let other : place_of k (2 * size) ≢ 2 * place = λ same. absurd (omega (arith, same, there)) in
          rw (
            eq-eqb (place_of k size) place here,
            ne_eqb (place_of k (2 * size)) (2 * place) other,
            eq-eqb (place_of k (2 * size)) (2 * place + 1) there,
            high_list k there,
          ) refl)
          (place_below k here))
          (λ (other : place_of k size ≢ place). rw (
            ne_eqb (place_of k size) place other,
            ne_eqb (place_of k (2 * size)) (2 * place) (λ there. other (place_low k there)),
            ne_eqb (place_of k (2 * size)) (2 * place + 1) (λ there. other (place_high k there)),
          ) refl)
          (cases_eq (place_of k size) place)

      -- where a table grows
      pub grows : Regroups max_threads (Lists size place standing ∷ [])
          (Lists (2 * size) (2 * place) low ∷ Lists (2 * size) (2 * place + 1) high ∷ [])
      grows = record {
        cover = same_cover;
        so = λ m finds. (
          λ k there. subst (IsList m k) (low_list k there) (finds.so.0 k (place_low k there)),
          (λ k there. subst (IsList m k) (high_list k there) (finds.so.0 k (place_high k there)), tt),
        );
      }

      -- where it is trimmed
      pub shrinks : Regroups max_threads
          (Lists (2 * size) (2 * place) low ∷ Lists (2 * size) (2 * place + 1) high ∷ [])
          (Lists size place standing ∷ [])
      shrinks = record {
        cover = λ name. sym (same_cover name);
        so = λ m finds. (
          λ k here. ⊎_elim
              (λ (there : place_of k (2 * size) ≡ 2 * place).
              subst (IsList m k) (sym (low_list k there)) (finds.so.0 k there))
              (λ (there : place_of k (2 * size) ≡ 2 * place + 1).
              subst (IsList m k) (sym (high_list k there)) (finds.so.1.0 k there))
              (place_below k here),
          tt,
        );
      }

      -- where keys have titles
      pub grows_titled : (limit : ℕ) → Regroups max_threads (TitledLists limit size place standing ∷ [])
          (TitledLists limit (2 * size) (2 * place) low ∷ TitledLists limit (2 * size) (2 * place + 1) high ∷ [])
      grows_titled limit =
          regroups_titled max_threads (TitledLists limit size place standing ∷ [])
          (TitledLists limit (2 * size) (2 * place) low ∷ TitledLists limit (2 * size) (2 * place + 1) high ∷ [])
          (record {
            titles = λ k. omega (arith, places_above limit k);
            dealings = λ k. omega (arith, places_above limit k);
            others = λ k none. both_lists k;
            tell = tt;
          }) grows

      pub shrinks_titled : (limit : ℕ) → Regroups max_threads
          (TitledLists limit (2 * size) (2 * place) low ∷ TitledLists limit (2 * size) (2 * place + 1) high ∷ [])
          (TitledLists limit size place standing ∷ [])
      shrinks_titled limit =
          regroups_titled max_threads
          (TitledLists limit (2 * size) (2 * place) low ∷ TitledLists limit (2 * size) (2 * place + 1) high ∷ [])
          (TitledLists limit size place standing ∷ []) (record {
            titles = λ k. omega (arith, places_above limit k);
            dealings = λ k. omega (arith, places_above limit k);
            others = λ k none. sym (both_lists k);
            tell = tt;
          }) shrinks

-- the nodes of a place are those of its two places
pub halved_nodes : (size place : ℕ) (nodes low high : List NodeFields)
    → All (λ node. place_of node.key (2 * size) ≡ 2 * place) low
    → All (λ node. place_of node.key (2 * size) ≡ 2 * place + 1) high
    → ((k : ℕ) → lists_of nodes k ≡ lists_of low k ++ lists_of high k)
    → IsHalved size place (standing_in nodes) (standing_in low) (standing_in high)
halved_nodes size place nodes low high low_place high_place lists = record {
  low_place = All-map (HasPlace (2 * size) (2 * place)) standing_of low low_place;
  high_place = All-map (HasPlace (2 * size) (2 * place + 1)) standing_of high high_place;
  lists = λ k. at_key-nodes nodes k
      ∙ (ap (λ (ns : List NodeFields). standing_in ns) (lists k)
      ∙ (map-append standing_of (lists_of low k) (lists_of high k)
      ∙ (ap (λ (l : List Standing). l ++ standing_in (lists_of high k)) (sym (at_key-nodes low k))
      ∙ ap (λ (l : List Standing). at_key k (standing_in low) ++ l) (sym (at_key-nodes high k)))));
}
