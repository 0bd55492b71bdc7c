-- A bucket cut in two, and two put together.
use Rattle.std.proofs.Common.{◌≡◌, ◌≢◌, ℕ, ◌+◌, ◌*◌, ◌/◌, ◌^◌, ◌≤◌, ◌==◌, List, [], ◌∷◌, ◌++◌, All, refl, sym, ap, ◌∙◌}
use Rattle.std.proofs.Common.{subst, ⊎_elim, arith, append-nil, append_assoc}
use Rattle.std.proofs.Math.Nat.{pow-le-pow_right}
use Rattle.std.proofs.lemmas.Bool.{cases_eq, ne_eqb, cond-false}
use Rattle.std.proofs.lemmas.List.Elements.{All-append, All-cons, All-head, All-nil, All-tail}
use Rattle.std.proofs.lemmas.Nat.{pow-add}
use Rattle.lot_base.specs.BucketState.{BucketState, IsBucketAt}
use Rattle.lot_base.specs.NodeFields.{NodeFields}
use Rattle.lot_base.specs.NodeLists.{lists_of}
use Rattle.lot_base.specs.Place.{IsTableSize, place_of}
use Rattle.lot_base.proofs.FilterLemmas.{lists_of-append}
use Rattle.lot_history.specs.Moves.{Regroups}
use Rattle.lot_history.specs.Pieces.{standing_in}
use Rattle.lot_history.proofs.GrowthLemmas.{IsHalved, grows_titled, halved_nodes, shrinks_titled}
use Rattle.lot_history.proofs.PlaceLemmas.{place_of-half}
use Rattle.lot_threads.specs.Cells.{IsBelow, lists_in}
use Rattle.lot_threads.specs.Halves.{AreHalves, IsHalfSize}

module _ (size : ℕ) (half : IsHalfSize size) where
  pub half_table : IsTableSize size
  half_table = record {
    bits = half.bits;
    at_least_4 = half.at_least_4;
    at_most_16 = omega (arith, half.below_16);
    is_power = half.is_power;
  }

  pub double_table : IsTableSize (2 * size)
  double_table = record {
    bits = half.bits + 1;
    at_least_4 = omega (arith, half.at_least_4);
    at_most_16 = omega (arith, half.below_16);
    is_power = let one = pow-add 2 half.bits 1 in omega (arith, one, half.is_power);
  }

  pub half_small : size ≤ 32768
  half_small =
      let most : 2 ^ half.bits ≤ 2 ^ 15 = pow-le-pow_right {n = 2} (omega arith) {i = half.bits} {j = 15}
      (omega (arith, half.below_16)) in
      omega (arith, most, half.is_power)

  pub place_up : (key : ℕ) → place_of key (2 * size) / 2 ≡ place_of key size
  place_up key = place_of-half key size half.bits half.below_16 half.is_power

  -- a key of a place that is not of the first of its two places is of the second
  pub second_place : (place key : ℕ) → place_of key size ≡ place → place_of key (2 * size) ≢ 2 * place
      → place_of key (2 * size) ≡ 2 * place + 1
  second_place place key own other = let up = place_up key in omega (arith, up, own, other)

-- nobody waits on a key of another place
none_there : (size place k : ℕ) (nodes : List NodeFields) → All (λ node. place_of node.key size ≡ place) nodes
    → place_of k size ≢ place → lists_of nodes k ≡ []
none_there size place k [] all other = refl
none_there size place k (node ∷ nodes) all other =
    cond-false (node.key == k) (node ∷ lists_of nodes k) (lists_of nodes k) (ne_eqb node.key k (λ same.
    other (ap (λ key. place_of key size) (sym same) ∙ All-head (λ n. place_of n.key size ≡ place) node nodes all)))
    ∙ none_there size place k nodes (All-tail (λ n. place_of n.key size ≡ place) node nodes all) other

-- a node that goes from the front of one list to the end of another
passed_on : (to : List NodeFields) (node : NodeFields) (more : List NodeFields) (k : ℕ)
    → lists_of to k ++ lists_of (node ∷ more) k ≡ lists_of (to ++ node ∷ []) k ++ lists_of more k
passed_on to node more k =
    ap (λ (l : List NodeFields). lists_of to k ++ l) (lists_of-append (node ∷ []) more k)
    ∙ (sym (append_assoc (lists_of to k) (lists_of (node ∷ []) k) (lists_of more k))
    ∙ ap (λ (l : List NodeFields). l ++ lists_of more k) (sym (lists_of-append to (node ∷ []) k)))

passed_by : (node : NodeFields) (more : List NodeFields) (k : ℕ) → node.key ≢ k
    → lists_of (node ∷ more) k ≡ lists_of more k
passed_by node more k other =
    cond-false (node.key == k) (node ∷ lists_of more k) (lists_of more k) (ne_eqb node.key k other)

-- nodes of threads of the lot
pub record AreBelow (bound : ℕ) (rest low high : List NodeFields) : Type 0 where
  pub rest_below : All (IsBelow bound) rest
  pub low_below : All (IsBelow bound) low
  pub high_below : All (IsBelow bound) high

module _ (size place : ℕ) where
  -- of the nodes of a bucket these have gone to its two places, and the rest has not
  pub record IsSpreading (nodes rest low high : List NodeFields) : Type 0 where
    pub low_place : All (λ node. place_of node.key (2 * size) ≡ 2 * place) low
    pub high_place : All (λ node. place_of node.key (2 * size) ≡ 2 * place + 1) high
    pub at_low : (k : ℕ) → place_of k (2 * size) ≡ 2 * place → lists_of nodes k ≡ lists_of low k ++ lists_of rest k
    pub at_high : (k : ℕ) → place_of k (2 * size) ≢ 2 * place
        → lists_of nodes k ≡ lists_of high k ++ lists_of rest k
    pub below : (bound : ℕ) → All (IsBelow bound) nodes → AreBelow bound rest low high

  abbrev InLow : NodeFields → Type 0
  InLow node = place_of node.key (2 * size) ≡ 2 * place

  abbrev InHigh : NodeFields → Type 0
  InHigh node = place_of node.key (2 * size) ≡ 2 * place + 1

  pub spread-start : (nodes low high : List NodeFields) → low ≡ [] → high ≡ [] → IsSpreading nodes nodes low high
  spread-start nodes low high no_low no_high = rw (no_low, no_high) (record {
    low_place = All-nil InLow;
    high_place = All-nil InHigh;
    at_low = λ k there. refl;
    at_high = λ k other. refl;
    below = λ bound all. record {
      rest_below = all;
      low_below = All-nil (IsBelow bound);
      high_below = All-nil (IsBelow bound);
    };
  })

  module _ (nodes rest low high : List NodeFields) (so : IsSpreading nodes rest low high) where
    pub spread-low : (node : NodeFields) (more : List NodeFields) → rest ≡ node ∷ more
        → place_of node.key (2 * size) ≡ 2 * place → IsSpreading nodes more (low ++ node ∷ []) high
    spread-low node more is here = record {
      low_place = All-append InLow low (node ∷ []) so.low_place (All-cons InLow node [] here (All-nil InLow));
      high_place = so.high_place;
      at_low = λ k there. so.at_low k there
          ∙ (ap (λ (ns : List NodeFields). lists_of low k ++ lists_of ns k) is ∙ passed_on low node more k);
      at_high = λ k other. so.at_high k other
          ∙ ap (λ (l : List NodeFields). lists_of high k ++ l) (ap (λ (ns : List NodeFields). lists_of ns k) is
          ∙ passed_by node more k (λ same. other (ap (λ key. place_of key (2 * size)) (sym same) ∙ here)));
      below = λ bound all.
          let all_so = so.below bound all in
          let left = subst (All (IsBelow bound)) is all_so.rest_below in
          record {
            rest_below = All-tail (IsBelow bound) node more left;
            low_below = All-append (IsBelow bound) low (node ∷ []) all_so.low_below
                (All-cons (IsBelow bound) node [] (All-head (IsBelow bound) node more left) (All-nil (IsBelow bound)));
            high_below = all_so.high_below;
          };
    }

    pub spread-high : (node : NodeFields) (more : List NodeFields) → rest ≡ node ∷ more
        → place_of node.key (2 * size) ≡ 2 * place + 1 → IsSpreading nodes more low (high ++ node ∷ [])
    spread-high node more is here = record {
      low_place = so.low_place;
      high_place = All-append InHigh high (node ∷ []) so.high_place (All-cons InHigh node [] here (All-nil InHigh));
      at_low = λ k there. so.at_low k there
          ∙ ap (λ (l : List NodeFields). lists_of low k ++ l) (ap (λ (ns : List NodeFields). lists_of ns k) is
          ∙ passed_by node more k
          (λ same. absurd (let found = ap (λ key. place_of key (2 * size)) same in omega (arith, found, here, there))));
      at_high = λ k other. so.at_high k other
          ∙ (ap (λ (ns : List NodeFields). lists_of high k ++ lists_of ns k) is ∙ passed_on high node more k);
      below = λ bound all.
          let all_so = so.below bound all in
          let left = subst (All (IsBelow bound)) is all_so.rest_below in
          record {
            rest_below = All-tail (IsBelow bound) node more left;
            low_below = all_so.low_below;
            high_below = All-append (IsBelow bound) high (node ∷ []) all_so.high_below
                (All-cons (IsBelow bound) node [] (All-head (IsBelow bound) node more left) (All-nil (IsBelow bound)));
          };
    }

    pub spread-end : rest ≡ [] → AreHalves size place nodes low high
    spread-end is = record {
      low_place = so.low_place;
      high_place = so.high_place;
      lists = λ k. ⊎_elim
          (λ (here : place_of k (2 * size) ≡ 2 * place). so.at_low k here
          ∙ ap (λ (l : List NodeFields). lists_of low k ++ l) (ap (λ (ns : List NodeFields). lists_of ns k) is
          ∙ sym (none_there (2 * size) (2 * place + 1) k high so.high_place
          (λ same. absurd (omega (arith, same, here))))))
          (λ (other : place_of k (2 * size) ≢ 2 * place). so.at_high k other
          ∙ (ap (λ (ns : List NodeFields). lists_of high k ++ lists_of ns k) is
          ∙ (append-nil (lists_of high k)
          ∙ ap (λ (l : List NodeFields). l ++ lists_of high k)
          (sym (none_there (2 * size) (2 * place) k low so.low_place other)))))
          (cases_eq (place_of k (2 * size)) (2 * place));
    }

module _ (bound limit size place : ℕ) (bucket low high : BucketState) (half : IsHalfSize size)
    (at : IsBucketAt place size bucket) (low_at : IsBucketAt (2 * place) (2 * size) low)
    (high_at : IsBucketAt (2 * place + 1) (2 * size) high)
    (halves : AreHalves size place bucket.nodes low.nodes high.nodes) where
  halved : IsHalved size place (standing_in bucket.nodes) (standing_in low.nodes) (standing_in high.nodes)
  halved = halved_nodes size place bucket.nodes low.nodes high.nodes halves.low_place halves.high_place halves.lists

  -- the pieces where a bucket is cut in two
  pub cut_regroups : Regroups bound (lists_in limit bucket ∷ []) (lists_in limit low ∷ lists_in limit high ∷ [])
  cut_regroups = rw (at.place, at.size, low_at.place, low_at.size, high_at.place, high_at.size)
      (grows_titled size place half.bits half.below_16 half.is_power bound (standing_in bucket.nodes)
      (standing_in low.nodes) (standing_in high.nodes) halved limit)

  -- and where it is put together
  pub joined_regroups : Regroups bound (lists_in limit low ∷ lists_in limit high ∷ []) (lists_in limit bucket ∷ [])
  joined_regroups = rw (at.place, at.size, low_at.place, low_at.size, high_at.place, high_at.size)
      (shrinks_titled size place half.bits half.below_16 half.is_power bound (standing_in bucket.nodes)
      (standing_in low.nodes) (standing_in high.nodes) halved limit)

-- the nodes of one place behind those of the other
pub joined_halves : (size place : ℕ) (nodes : List NodeFields) (low high : BucketState)
    → nodes ≡ low.nodes ++ high.nodes → IsBucketAt (2 * place) (2 * size) low
    → IsBucketAt (2 * place + 1) (2 * size) high → All (λ node. place_of node.key low.size ≡ low.place) low.nodes
    → All (λ node. place_of node.key high.size ≡ high.place) high.nodes
    → AreHalves size place nodes low.nodes high.nodes
joined_halves size place nodes low high is low_at high_at low_all high_all = record {
  low_place = subst (λ p. All (λ node. place_of node.key (2 * size) ≡ p) low.nodes) low_at.place
      (subst (λ n. All (λ node. place_of node.key n ≡ low.place) low.nodes) low_at.size low_all);
  high_place = subst (λ p. All (λ node. place_of node.key (2 * size) ≡ p) high.nodes) high_at.place
      (subst (λ n. All (λ node. place_of node.key n ≡ high.place) high.nodes) high_at.size high_all);
  lists = λ k. ap (λ (ns : List NodeFields). lists_of ns k) is ∙ lists_of-append low.nodes high.nodes k;
}
