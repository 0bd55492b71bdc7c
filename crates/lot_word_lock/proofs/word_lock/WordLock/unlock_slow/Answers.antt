use Rattle.std.proofs.Common.{◌≡◌, ℕ, length, ap, arith}
use Rattle.lot_word_lock.specs.declared.word_lock.view.View.{View}
use Rattle.lot_word_lock.specs.WordView.{seen_by}
use Rattle.lot_word_lock.proofs.WordKeeps.{seen_from}
use Rattle.lot_word_lock.proofs.word_lock.WordLock.unlock_slow.Goals as goal

-- what is seen after the word has changed has another place behind the newest
goes_on : (n link : ℕ) (v : View) → (link ≡ 1 → n ≡ 0) → n ≡ length (seen_by v) → length (seen_by v) ≡ 1 → link ≡ 1 → ⊥
goes_on n link v alone same one last = let none = alone last in absurd (omega arith)

pub remove_oldest-requires-then-found-word-clause-places : goal.remove_oldest-requires-then-found-word-clause-places
remove_oldest-requires-then-found-word-clause-places g c =
    let more = c.release_to_zero-found.ensures.holds c.if-found-word.true in
    let again = c.first_link-link-then-found-word in
    let before = c.first_link-link.new.caller.seat.me.0.1 in
    let one = ap (λ (v : View). length (seen_by v)) (c.first_link-link.ensures.last c.if-link-ne-OLDEST.false) in
    let link = goes_on (length (seen_by before)) again.result before
    (λ e. again.ensures.alone e (length (seen_by before)) more) (λ i. length (seen_by before)) one in (
      (seen_from c.release_to_zero-found.new.caller.seat.me.0.1 more.0 more.1 c.release_to_zero-found.result more.2
          more.3 more.4).1,
      (again.ensures.next link).0,
    )

pub remove_oldest-requires-then-found-word-clause-holds : goal.remove_oldest-requires-then-found-word-clause-holds
remove_oldest-requires-then-found-word-clause-holds g c =
    let more = c.release_to_zero-found.ensures.holds c.if-found-word.true in
    let again = c.first_link-link-then-found-word in
    let before = c.first_link-link.new.caller.seat.me.0.1 in
    let one = ap (λ (v : View). length (seen_by v)) (c.first_link-link.ensures.last c.if-link-ne-OLDEST.false) in
    let link = goes_on (length (seen_by before)) again.result before
    (λ e. again.ensures.alone e (length (seen_by before)) more) (λ i. length (seen_by before)) one in
    (again.ensures.next link).1
