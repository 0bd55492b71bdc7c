-- Parts of a queue.
use Rattle.std.proofs.Common.{◌≡◌, ◌≢◌, ℕ, ◌+◌, ◌≤◌, ◌/◌, ◌%◌, ◌==◌, Bool, true, false, List, [], ◌∷◌, ◌++◌}
use Rattle.std.proofs.Common.{length, drop, take, refl, sym, ap, ◌∙◌, length-append, arith}
use Rattle.std.specs.Prelude.{slice_get, Some}
use Rattle.std.proofs.lemmas.List.{append_assoc, drop_more, take_more}
use Rattle.std.proofs.lemmas.Option.{slice_get_within, get_or_from_slice_get}
use Rattle.std.proofs.lemmas.Bool.{eq-eqb, ne_eqb}
use Rattle.lot_base.specs.Waiting.{Split}
use Rattle.lot_litmus.specs.declared.queue.Entry.{Entry}
use Rattle.lot_litmus.specs.Queues.{placed, with_part, no_parts, parted, has_thread, without_thread}

-- one goes to its part, and the rest behind it
pub record Joined {A : Type 0} (split one rest : Split A) : Type 0 where
  pub taken : split.taken ≡ one.taken ++ rest.taken
  pub moved : split.moved ≡ one.moved ++ rest.moved
  pub left : split.left ≡ one.left ++ rest.left

pub placed-joined : {A : Type 0} (is_taken is_moved : Bool) (x : A) (rest : Split A)
    → Joined (placed is_taken is_moved x rest) (placed is_taken is_moved x no_parts) rest
placed-joined true is_moved x rest = record { taken = refl; moved = refl; left = refl }
placed-joined false true x rest = record { taken = refl; moved = refl; left = refl }
placed-joined false false x rest = record { taken = refl; moved = refl; left = refl }

-- a list at one of its elements
pub drop_here : {A : Type 0} (xs : List A) (i : ℕ) (x : A) → slice_get xs i ≡ Some x → drop i xs ≡ x ∷ drop (i + 1) xs
drop_here xs i x here =
    drop_more xs i x (slice_get_within xs i x here)
    ∙ ap (λ y. y ∷ drop (i + 1) xs) (get_or_from_slice_get xs i x x here)

pub take_here : {A : Type 0} (xs : List A) (i : ℕ) (x : A) → slice_get xs i ≡ Some x
    → take (i + 1) xs ≡ take i xs ++ x ∷ []
take_here xs i x here =
    take_more xs i x (slice_get_within xs i x here)
    ∙ ap (λ y. take i xs ++ y ∷ []) (get_or_from_slice_get xs i x x here)

-- one more was parted
pub parted-joined : {A : Type 0} (taken moved : ℕ) (xs : List A) (i : ℕ) (x : A) → slice_get xs i ≡ Some x
    → Joined (parted taken moved (drop i xs)) (with_part taken moved x no_parts)
    (parted (taken / 2) (moved / 2) (drop (i + 1) xs))
parted-joined taken moved xs i x here =
    rw (drop_here xs i x here) (placed-joined (taken % 2 == 1) (moved % 2 == 1) x
    (parted (taken / 2) (moved / 2) (drop (i + 1) xs)))

-- of what is still to come one went behind what there is
pub moved_over : {A : Type 0} (all before after one rest whole : List A) → all ≡ before ++ whole → whole ≡ one ++ rest
    → after ≡ before ++ one → all ≡ after ++ rest
moved_over all before after one rest whole is split grown =
    is ∙ ap (λ xs. before ++ xs) split ∙ sym (append_assoc before one rest) ∙ ap (λ xs. xs ++ rest) (sym grown)

pub record Short {A : Type 0} (one : Split A) : Type 0 where
  pub taken : length one.taken ≤ 1
  pub moved : length one.moved ≤ 1
  pub left : length one.left ≤ 1

pub placed-short : {A : Type 0} (is_taken is_moved : Bool) (x : A) → Short (placed is_taken is_moved x no_parts)
placed-short true is_moved x = record { taken = omega arith; moved = omega arith; left = omega arith }
placed-short false true x = record { taken = omega arith; moved = omega arith; left = omega arith }
placed-short false false x = record { taken = omega arith; moved = omega arith; left = omega arith }

pub longer_by_one : {A : Type 0} (before after one : List A) (i : ℕ) → after ≡ before ++ one → length one ≤ 1
    → length before ≤ i → length after ≤ i + 1
longer_by_one before after one i grown short below =
    let long = ap length grown ∙ length-append before one in omega (arith, long, short, below)

pub has_thread-here : (thread : ℕ) (entries : List Entry) (i : ℕ) (entry : Entry) → slice_get entries i ≡ Some entry
    → entry.thread.number ≡ thread → has_thread thread (drop i entries) ≡ true
has_thread-here thread entries i entry here same =
    let is = eq-eqb entry.thread.number thread same in rw (drop_here entries i entry here) (rw is refl)

pub has_thread-past : (thread : ℕ) (entries : List Entry) (i : ℕ) (entry : Entry) → slice_get entries i ≡ Some entry
    → entry.thread.number ≢ thread
    → has_thread thread (drop i entries) ≡ has_thread thread (drop (i + 1) entries)
has_thread-past thread entries i entry here other =
    let is = ne_eqb entry.thread.number thread other in rw (drop_here entries i entry here) (rw is refl)

pub without_thread-here : (thread : ℕ) (entries : List Entry) (i : ℕ) (entry : Entry) → slice_get entries i ≡ Some entry
    → entry.thread.number ≡ thread → without_thread thread (drop i entries) ≡ drop (i + 1) entries
without_thread-here thread entries i entry here same =
    let is = eq-eqb entry.thread.number thread same in rw (drop_here entries i entry here) (rw is refl)

pub without_thread-past : (thread : ℕ) (entries : List Entry) (i : ℕ) (entry : Entry) → slice_get entries i ≡ Some entry
    → entry.thread.number ≢ thread
    → without_thread thread (drop i entries) ≡ entry ∷ without_thread thread (drop (i + 1) entries)
without_thread-past thread entries i entry here other =
    let is = ne_eqb entry.thread.number thread other in rw (drop_here entries i entry here) (rw is refl)
