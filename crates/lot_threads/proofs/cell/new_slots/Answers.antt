use Rattle.std.proofs.Common.{◌≡◌, ℕ, ◌+◌, ◌^◌, ◌≤◌, [], ◌∷◌, length, length-append, arith, ap, ◌∙◌}
use Rattle.std.proofs.Math.Nat.{pow-le-pow_right}
use Rattle.std.proofs.lemmas.Nat.{pow-add}
use Rattle.atomic_table.specs.Seated.{TableId}
use Rattle.lot_threads.specs.Cells.{IsSlotAt, home_of, row_tag}
use Rattle.lot_threads.proofs.RowLemmas.{EachAt-push}
use Rattle.lot_threads.proofs.cell.new_slots.Goals as goal

pub overflow_mul-key : goal.overflow_mul-key
overflow_mul-key c =
    let most : 2 ^ (c.loop-index._index + 4) ≤ 2 ^ 16 = pow-le-pow_right {n = 2} (omega arith)
    {i = c.loop-index._index + 4} {j = 16} (omega arith) in
    omega (arith, most, c.loop-index.invariant.size)

pub loop-index-preserved : goal.loop-index-preserved
loop-index-preserved c =
    let so_far = c.loop-index.invariant in
    let index = c.loop-index._index in
    let rows = c.loop-index.rows.items in
    let key = c.loop-index.key in
    let slot = c.new.result in
    let home = home_of c.args.home in
    let max_threads = c.args.max_threads in
    let limit = c.args.limit in
    let pushed = c.in_ok-push.ensures.items in
    let number : index ≡ 0 + length rows = omega (arith, so_far.count) in
    let own : IsSlotAt home max_threads limit (0 + length rows) slot =
    c.new.ensures ∙ (c.of.ensures ∙ (ap (λ (h : TableId). row_tag h key.max_threads key.limit key.size) so_far.home
    ∙ (ap (λ (n : ℕ). row_tag home n key.limit key.size) so_far.threads
    ∙ (ap (λ (n : ℕ). row_tag home max_threads n key.size) so_far.limit
    ∙ ap (λ (n : ℕ). row_tag home max_threads limit n) (so_far.size ∙ ap (λ n. 2 ^ (n + 4)) number))))) in
    record {
      size =
          let one = pow-add 2 (index + 4) 1 in
          let same : index + 1 + 4 ≡ index + 4 + 1 = omega arith in
          let power = ap (λ n. 2 ^ n) same in omega (arith, one, power, so_far.size);
      threads = so_far.threads;
      limit = so_far.limit;
      home = so_far.home;
      count = omega (arith, ap length pushed, length-append rows (slot ∷ []), so_far.count);
      each = rw pushed (EachAt-push (IsSlotAt home max_threads limit) 0 rows slot own so_far.each);
    }
