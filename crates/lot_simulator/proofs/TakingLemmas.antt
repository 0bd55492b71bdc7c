-- What a step takes out of a table: a bucket is taken, some nodes of one key leave it, and it is put back.
use Rattle.std.proofs.Common.{◌≡◌, ℕ, List, [], length, map, refl, sym, subst, slice_set, All}
use Rattle.std.proofs.lemmas.List.Elements.{All-drop, All-nil}
use Rattle.lot_base.specs.BucketState.{BucketState, KeepsPlace}
use Rattle.lot_base.specs.NodeFields.{NodeFields}
use Rattle.lot_base.specs.NodeLists.{lists_of, ChangesOnly, has_number, with_token}
use Rattle.lot_base.specs.Place.{IsTableSize, place_of}
use Rattle.lot_base.specs.Waiting.{Split, split_first, split_all, split_filter, with_value, without_first}
use Rattle.lot_base.specs.declared.token.FilterOp.{FilterOp}
use Rattle.lot_base.specs.declared.token.UnparkToken.{UnparkToken}
use Rattle.lot_base.proofs.FilterLemmas.{All-left_by, split_filter-moves_nobody}
use Rattle.lot_base.proofs.RemoveLemmas.{All-without_first}
use Rattle.lot_simulator.specs.Represents.{bucket_at, nodes_in, waiter_of, waiters_in, Represents}
use Rattle.lot_simulator.specs.Table.{IsRowStep, IsTakenFrom}
use Rattle.lot_simulator.proofs.RowLemmas.{IsRowStep-put, All-nodes_in}
use Rattle.lot_machine.proofs.SplitLemmas.{AreParts, AreParts-first, AreParts-all, AreParts-filter}
use Rattle.lot_simulator.proofs.NodeSplitLemmas.{waiter_split}
use Rattle.lot_simulator.proofs.NodeSplitLemmas.{split_first-map, split_filter-map}

-- a bucket that was taken out of a table, and what went back in its place
pub record IsTaking (row : List BucketState) (key : ℕ) (before after : BucketState)
    (left : List NodeFields) : Type 0 where
  pub table : IsTableSize (length row)
  pub taken : before ≡ bucket_at row (place_of key (length row))
  pub at : before.place ≡ place_of key (length row)
  pub back : after.place ≡ before.place
  pub lists : ChangesOnly before.nodes after.nodes key left

pub IsTaking-from : (row : List BucketState) (key : ℕ) (before after : BucketState) (left : List NodeFields)
    → IsTableSize before.size → before.size ≡ length row → before ≡ bucket_at row (place_of key (length row))
    → before.place ≡ place_of key (length row) → KeepsPlace before after → ChangesOnly before.nodes after.nodes key left
    → IsTaking row key before after left
IsTaking-from row key before after left table sized taken at back lists =
    record { table = subst IsTableSize sized table; taken = taken; at = at; back = back.place; lists = lists }

-- a split of the nodes of a key, some of which may be taken and none is moved
pub record IsUnparkSplit (nodes : List NodeFields) (split : Split NodeFields) : Type 1 where
  pub nobody : split.moved ≡ []
  pub parts : AreParts (waiter_split split) (map waiter_of nodes)
  pub left : (P : NodeFields → Type 0) → All P nodes → All P split.left

pub IsUnparkSplit-first : (nodes : List NodeFields) → IsUnparkSplit nodes (split_first nodes)
IsUnparkSplit-first nodes = record {
  nobody = refl;
  parts = subst (λ split. AreParts split (map waiter_of nodes)) (sym (split_first-map nodes))
      (AreParts-first (map waiter_of nodes));
  left = λ P all. All-drop P 1 nodes all;
}

pub IsUnparkSplit-all : (nodes : List NodeFields) → IsUnparkSplit nodes (split_all nodes)
IsUnparkSplit-all nodes =
    record { nobody = refl; parts = AreParts-all (map waiter_of nodes); left = λ P all. All-nil P }

pub IsUnparkSplit-filter : (decisions : List FilterOp) (nodes : List NodeFields)
    → IsUnparkSplit nodes (split_filter decisions nodes)
IsUnparkSplit-filter decisions nodes = record {
  nobody = split_filter-moves_nobody decisions nodes;
  parts = subst (λ split. AreParts split (map waiter_of nodes)) (sym (split_filter-map decisions nodes))
      (AreParts-filter decisions (map waiter_of nodes));
  left = λ P all. All-left_by P decisions nodes all;
}

-- some were taken out of the bucket of a key, which was put back
pub IsTakenFrom-put : (by : List NodeFields → Split NodeFields) (row : List BucketState) (key : ℕ)
    (before empty after : BucketState) (token : UnparkToken) (taken : List NodeFields)
    → Represents row (waiters_in row) → IsTaking row key before after (by (lists_of before.nodes key)).left
    → IsUnparkSplit (lists_of before.nodes key) (by (lists_of before.nodes key))
    → taken ≡ map (with_token token) (by (lists_of before.nodes key)).taken
    → IsTakenFrom row (slice_set (slice_set row before.place empty) after.place after) key (by (nodes_in row key)) token
    taken
IsTakenFrom-put by row key before empty after token taken represents taking unpark nodes =
    subst (λ (bucket : BucketState). IsTakenFrom row new key (by (lists_of bucket.nodes key)) token taken) taking.taken
    (record {
      rows = IsRowStep-put row key before empty after split.left taking.table represents taking.taken taking.at
          taking.back taking.lists
          (unpark.left InPlace
          (subst (λ (bucket : BucketState). All InPlace (lists_of bucket.nodes key)) (sym taking.taken)
          (All-nodes_in row key taking.table represents)));
      nodes = nodes;
    })
  where
    new : List BucketState
    new = slice_set (slice_set row before.place empty) after.place after

    split : Split NodeFields
    split = by (lists_of before.nodes key)

    InPlace : NodeFields → Type 0
    InPlace node = place_of node.key (length row) ≡ place_of key (length row)

-- the first node of a number was taken out of the bucket of a key, which was put back
pub IsRowStep-removed : (row : List BucketState) (number key : ℕ) (before empty after : BucketState)
    → Represents row (waiters_in row)
    → IsTaking row key before after (without_first (has_number number) (lists_of before.nodes key))
    → IsRowStep row (slice_set (slice_set row before.place empty) after.place after)
    (with_value (nodes_in row) key (without_first (has_number number) (nodes_in row key)))
IsRowStep-removed row number key before empty after represents taking =
    IsRowStep-put row key before empty after (without_first (has_number number) (nodes_in row key)) taking.table
    represents taking.taken taking.at taking.back
    (subst (λ (bucket : BucketState). ChangesOnly before.nodes after.nodes key
    (without_first (has_number number) (lists_of bucket.nodes key))) taking.taken taking.lists)
    (All-without_first (λ node. place_of node.key (length row) ≡ place_of key (length row))
    (has_number number) (nodes_in row key) (All-nodes_in row key taking.table represents))
