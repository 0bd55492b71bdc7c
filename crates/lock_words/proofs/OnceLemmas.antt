-- The steps on the word of a `Once` keep its rule, and the rule gives its law.
use Rattle.std.proofs.Common.{◌≡◌, ℕ, ◌+◌, ◌≤◌, Bool, true, false, List, [], ◌∷◌, ◌++◌, eqb, length, get_or, set, sym, refl, subst, arith}
use Rattle.std.proofs.Common.{length-set, get_or-set_same}
use mathlib.Core.Logic.{dite}
use mathlib.Core.Option.{none}
use native.Mathlib.Decide.{ℕ_discrete}
use lib.Seq.{set-get_or}
use prog.Atomic.{either}
use Rattle.atomic_table.specs.Table.{State, Me, Act, keeps, step, stepped, carried_after, Valid, Allows, Enters, opening}
use Rattle.atomic_table.proofs.Lists.{exchanged, set_again}
use Rattle.lot_word_lock.specs.WordPlaces.{total}
use Rattle.lot_word_lock.proofs.WordCounts.{total-append, total-set, one_term, two_terms}
use Rattle.lock_words.specs.OnceRule.{begun_it, CountsBegun, BeginsOnce, ArriveTells, BeginTells}

abbrev Seats : Type 0
Seats = State (Unit {0}) Bool

-- a new once
pub opens : CountsBegun (opening (0 ∷ []) [] false)
opens = record { long = omega arith; word = refl; one = omega arith }

-- a new caller
pub arrives : (n i : ℕ) (m : Me (Unit {0}) Bool) → Enters CountsBegun n i (λ r w. ArriveTells (step n i 0 0 none) m r (w, []))
arrives n i m s o wide _ =
    let same : total begun_it (s.views ++ false ∷ []) ≡ total begun_it s.views =
    omega (arith, total-append begun_it s.views (false ∷ [])) in
    let word = o.word in
    let one = o.one in
    (false, record { long = o.long; word = omega arith; one = omega arith }, refl)

abbrev Goes : Seats → ℕ → Me (Unit {0}) Bool → (ℕ → Me (Unit {0}) Bool → Type 0) → ℕ → Type 0
Goes s id m then k = (w : Bool) × (a : Act (Unit {0})) × Valid s.homes m.1 a × CountsBegun (stepped s 0 k id m.1 w a)
    × then (get_or s.words 0 0) (w, carried_after m.1 a)

-- the caller that changes the word has begun
pub begins : (n id : ℕ) (m : Me (Unit {0}) Bool)
    → Allows CountsBegun n id m 0 (λ y. either (eqb y 0) 1 y) (BeginTells (step n 0 0 1 none) m)
begins n id m s o wide me _ =
    let v : Bool = m.0 in
    let word = o.word in
    let long = o.long in
    exchanged (get_or s.words 0 0) 0 1 (Goes s id m (BeginTells (step n 0 0 1 none) m))
    (λ hit.
    let ws : List ℕ = set s.words 0 1 in
    let here : get_or ws 0 0 ≡ 1 = get_or-set_same s.words 0 1 0 (omega arith) in
    let mine : begun_it v ≤ total begun_it s.views = one_term begun_it s.views id v me in
    let after : total begun_it (set s.views id true) + begun_it v ≡ total begun_it s.views + 1 =
    total-set begun_it s.views id v true me in
    let longer : length ws ≡ length s.words = length-set s.words 0 1 in
    (true, keeps, tt, record { long = omega arith; word = omega arith; one = omega arith }, λ _. refl))
    (λ miss. (
      v,
      keeps,
      tt,
      subst (λ (words : List ℕ). CountsBegun (record { words = words; homes = s.homes; views = set s.views id v }))
          (sym (set-get_or s.words 0 0))
          (subst (λ (vs : List Bool). CountsBegun (record { words = s.words; homes = s.homes; views = vs }))
          (sym (set_again s.views id v me)) o),
      λ hit. absurd (miss hit),
    ))

-- two callers that have begun are one
pub begins_once : (s : Seats) → CountsBegun s → BeginsOnce s
begins_once s o i j at_i at_j = dite (ℕ_discrete i j) (λ e. e) (λ ne.
    let two : 2 ≤ total begun_it s.views = two_terms begun_it s.views i j true true (λ e. ne (sym e)) at_i at_j in
    let one = o.one in
    absurd (omega arith))
