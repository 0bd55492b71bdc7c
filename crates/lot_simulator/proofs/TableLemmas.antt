-- Rows of buckets.
use Rattle.std.proofs.Common.{◌≡◌, ◌≢◌, ℕ, ◌-◌, ◌<◌, ◌≤◌, List, [], ◌∷◌, ◌++◌, length}
use Rattle.std.proofs.Common.{length-append, get_or, slice_set, refl, sym, ap, ◌∙◌, ⊎_elim}
use Rattle.std.proofs.Common.{arith}
use Rattle.std.proofs.Math.ListN.{length-set}
use Rattle.std.proofs.lemmas.Bool.{cases_eq, cases_lt}
use Rattle.std.proofs.lemmas.List.{get_or_past, get_or_read, get_or_append_left, get_or-append_right}
use Rattle.lot_base.specs.BucketState.{BucketState}
use Rattle.lot_simulator.specs.Represents.{bucket_at}
use Rattle.lot_simulator.specs.Table.{IsRowOf, AreEmpty}
use Rattle.lot_simulator.proofs.RowLemmas.{bucket_at-set_same, bucket_at-set_other}

-- one empty bucket more
pub AreEmpty-push : (size : ℕ) (row : List BucketState) (bucket : BucketState)
    → bucket ≡ record { place = length row; size = size; nodes = [] } → AreEmpty size row
    → AreEmpty size (row ++ bucket ∷ [])
AreEmpty-push size row bucket is empty i low =
    ⊎_elim (λ (same : i ≡ length row). get_or-append_right row (bucket ∷ []) (length row) i _ refl (omega arith)
    ∙
    (let first : i - length row ≡ 0 = omega arith in
    ap (λ k. get_or (bucket ∷ []) k (record { place = i; size = 0; nodes = [] })) first) ∙ is
    ∙ ap (λ k. record { place = k; size = size; nodes = [] }) (sym same))
    (λ (other : i ≢ length row). get_or_append_left row (bucket ∷ []) _ i (within other) ∙ empty i (within other))
    (cases_eq i (length row))
  where
    within : i ≢ length row → i < length row
    within other = omega (arith, length-append row (bucket ∷ []))

pub nodes-empty : (size : ℕ) (row : List BucketState) → AreEmpty size row → (i : ℕ) → (bucket_at row i).nodes ≡ []
nodes-empty size row empty i =
    ⊎_elim (λ (low : i < length row). ap (λ b. b.nodes) (empty i low))
    (λ (past : length row ≤ i). ap (λ b. b.nodes) (get_or_past row i (record { place = i; size = 0; nodes = [] }) past))
    (cases_lt i (length row))

-- a bucket of the same place and size in the place of another
pub IsRowOf-set : (size : ℕ) (row : List BucketState) (place : ℕ) (bucket : BucketState) → place < size
    → bucket.place ≡ place → bucket.size ≡ size → IsRowOf size row → IsRowOf size (slice_set row place bucket)
IsRowOf-set size row place bucket below at sized is_row = record {
  count = length-set row place bucket ∙ is_row.count;
  places = λ i low. ⊎_elim (λ (same : i ≡ place). ap (λ k. (bucket_at (slice_set row place bucket) k).place) same
      ∙ ap (λ b. b.place) here ∙ at
      ∙ sym same) (λ (other : i ≢ place). ap (λ b. b.place) (bucket_at-set_other row place bucket i other)
      ∙ is_row.places i low) (cases_eq i place);
  sizes = λ i low. ⊎_elim (λ (same : i ≡ place). ap (λ k. (bucket_at (slice_set row place bucket) k).size) same
      ∙ ap (λ b. b.size) here
      ∙ sized) (λ (other : i ≢ place). ap (λ b. b.size) (bucket_at-set_other row place bucket i other)
      ∙ is_row.sizes i low) (cases_eq i place);
}
  where
    here : bucket_at (slice_set row place bucket) place ≡ bucket
    here = bucket_at-set_same row place bucket (omega (arith, is_row.count))

-- a bucket that was read has its own place
pub read_in_place : (row : List BucketState) (i : ℕ) (bucket : BucketState) → i < length row
    → bucket ≡ get_or row i bucket → IsRowOf (length row) row → (bucket.place ≡ i) × (bucket.size ≡ length row)
read_in_place row i bucket below read is_row =
    let here : bucket ≡ bucket_at row i = get_or_read row i bucket below read _ in
    (ap (λ b. b.place) here ∙ is_row.places i below, ap (λ b. b.size) here ∙ is_row.sizes i below)
