use Rattle.std.proofs.Common.{ℕ, ◌≡◌, ◌≤◌, ◌<◌, ◌^◌, ◌*◌, ◌∙◌, sym, ap, subst}
use Rattle.lot_base.specs.Place.{place_of}
use Rattle.lot_base.proofs.PlaceLemmas.{exponent_of_power}
use Rattle.lot_base.proofs.bucket.place.Goals as goal
use Rattle.lot_base.proofs.bucket.place.Goals.{After-ilog2}

-- the logarithm of the size is the number of its bits
log_of_size : (c : After-ilog2) → c.ilog2.result ≡ c.requires.bits
log_of_size c = exponent_of_power c.requires.bits c.ilog2.result
    (let P : ℕ → Type 0 = λ n. 2 ^ c.ilog2.result ≤ n in subst P c.requires.is_power c.ilog2.ensures.power_le)
    (let P : ℕ → Type 0 = λ n. n < 2 * 2 ^ c.ilog2.result in subst P c.requires.is_power c.ilog2.ensures.next_power_gt)

pub place_by_bits-requires-clause-least : goal.place_by_bits-requires-clause-least
place_by_bits-requires-clause-least c =
    let P : ℕ → Type 0 = λ n. 4 ≤ n in
    subst P (sym (log_of_size (goal.at.place_by_bits-requires-clause-least c).After-ilog2)) c.requires.at_least_4

pub place_by_bits-requires-clause-most : goal.place_by_bits-requires-clause-most
place_by_bits-requires-clause-most c =
    let P : ℕ → Type 0 = λ n. n ≤ 16 in
    subst P (sym (log_of_size (goal.at.place_by_bits-requires-clause-most c).After-ilog2)) c.requires.at_most_16

pub returns-clause-value : goal.returns-clause-value
returns-clause-value c =
    let log : c.ilog2.result ≡ c.requires.bits = log_of_size (goal.at.returns-clause-value c).After-ilog2 in
    c.place_by_bits.ensures.value
    ∙ ap (place_of c.args.key) (ap (λ n. 2 ^ n) log ∙ sym c.requires.is_power)
