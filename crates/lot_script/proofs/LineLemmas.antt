-- The lines of bytes, one after another.
use Rattle.std.proofs.Common.{◌≡◌, ◌≢◌, ℕ, ◌==◌, ◌≤◌, ◌<◌, suc, zero, false, List, [], ◌∷◌, ◌++◌, length, refl, sym, ap}
use Rattle.std.proofs.Common.{◌∙◌, arith, zero-lt-suc, append-nil, append_assoc, subst, Option, Some, None}
use Rattle.std.specs.Prelude.{IfSome, Ok}
use Rattle.lot_script.specs.declared.script.input.Behind.{Behind}
use Rattle.lot_script.specs.declared.script.input.Behind.TheVariants as behind
use Rattle.lot_script.specs.Private.Turns.{IsPartRead, HasNoFeed}
use Rattle.std.specs.Io.KnownBytes.{Consumes}
use Rattle.lot_script.specs.declared.script.input.TheConstants.{MAX_LINE}
use Rattle.std.specs.List.{onto_first}
use Rattle.std.proofs.lemmas.Bool.{cond-false, ne_eqb}
use Rattle.lot_script.specs.Lines.{lines_of}

-- two texts without a line feed, one behind the other
HasNoFeed-append : (front rest : List ℕ) → HasNoFeed front → HasNoFeed rest → HasNoFeed (front ++ rest)
HasNoFeed-append [] rest none more = more
HasNoFeed-append (byte ∷ front) rest none more = (none.0, HasNoFeed-append front rest none.1 more)

other_first : (b : ℕ) (bytes : List ℕ) → b ≢ 10 → lines_of (b ∷ bytes) ≡ onto_first b (lines_of bytes)
other_first b bytes other = cond-false (b == 10) _ _ (ne_eqb b 10 other)

-- a line that ends at a line feed
pub lines_of-line : (line rest : List ℕ) → HasNoFeed line → lines_of (line ++ 10 ∷ rest) ≡ line ∷ lines_of rest
lines_of-line [] rest none = refl
lines_of-line (b ∷ line) rest none =
    other_first b (line ++ 10 ∷ rest) none.0 ∙ ap (onto_first b) (lines_of-line line rest none.1)

-- a last line that does not
pub lines_of-last : (line : List ℕ) → HasNoFeed line → 0 < length line → lines_of line ≡ line ∷ []
lines_of-last [] none some = absurd (omega arith)
lines_of-last (b ∷ []) none some = other_first b [] none.0
lines_of-last (b ∷ c ∷ line) none some =
    other_first b (c ∷ line) none.0 ∙ ap (onto_first b) (lines_of-last (c ∷ line) none.1 (omega arith))

longer_by_one : (b n : ℕ) (lines : List (List ℕ))
    → (0 < n → (long : List ℕ) × (n ≤ length long) × (more : List (List ℕ)) × (lines ≡ long ∷ more))
    → (long : List ℕ) × (suc n ≤ length long) × (more : List (List ℕ)) × (onto_first b lines ≡ long ∷ more)
longer_by_one b zero [] h = (b ∷ [], omega arith, [], refl)
longer_by_one b (suc n) [] h = absurd (cc ((h (zero-lt-suc n)).3))
longer_by_one b zero (line ∷ lines) h = (b ∷ line, omega arith, lines, refl)
longer_by_one b (suc n) (line ∷ lines) h =
    let found = h (zero-lt-suc n) in
    let same : line ≡ found.0 = cc (found.3) in
    (b ∷ line, omega (arith, found.1, ap length same), lines, refl)

-- the first line is as long as what it begins with
pub lines_of-long : (front rest : List ℕ) → HasNoFeed front → 0 < length front
    → (long : List ℕ) × (length front ≤ length long) × (more : List (List ℕ)) × (lines_of (front ++ rest) ≡ long ∷ more)
lines_of-long [] rest none some = absurd (omega arith)
lines_of-long (b ∷ front) rest none some =
    let found = longer_by_one b (length front) (lines_of (front ++ rest)) (lines_of-long front rest none.1) in
    (found.0, found.1, found.2, other_first b (front ++ rest) none.0 ∙ found.3)

-- a line that was read in two parts
HasNoFeed-whole : (old part line : List ℕ) → HasNoFeed old → HasNoFeed part → line ≡ old ++ part → HasNoFeed line
HasNoFeed-whole old part line none more is = subst HasNoFeed (sym is) (HasNoFeed-append old part none more)

cut_at : (old part line feed rest xs ys : List ℕ) → xs ≡ old ++ ys → line ≡ old ++ part → ys ≡ (part ++ feed) ++ rest
    → xs ≡ line ++ (feed ++ rest)
cut_at old part line feed rest xs ys first is second =
    first ∙ ap (λ (t : List ℕ). old ++ t) (second ∙ append_assoc part feed rest) ∙ sym (append_assoc old part (feed ++ rest))
    ∙ ap (λ (t : List ℕ). t ++ (feed ++ rest)) (sym is)

-- a line feed ends the line that was read
pub read_to_feed : (a b c : Option (List ℕ)) (old line : List ℕ) → HasNoFeed old → Consumes a b old
    → IsPartRead b c old (Ok behind.Feed) line
    → IfSome a (λ bytes. (rest : List ℕ) × (c ≡ Some rest) × (lines_of bytes ≡ line ∷ lines_of rest))
read_to_feed None b c old line none front part = tt
read_to_feed (Some xs) None c old line none front part = absurd front
read_to_feed (Some xs) (Some ys) None old line none front part = absurd part.3
read_to_feed (Some xs) (Some ys) (Some zs) old line none front part = (
  zs,
  refl,
  ap lines_of (cut_at old part.0 line (10 ∷ []) zs xs ys front part.1 part.3)
      ∙ lines_of-line line zs (HasNoFeed-whole old part.0 line none part.2 part.1),
)

-- so does the end of the input
pub read_to_end : (a b c : Option (List ℕ)) (old line : List ℕ) → HasNoFeed old → Consumes a b old
    → IsPartRead b c old (Ok behind.End) line → 0 < length line
    → IfSome a (λ bytes. (rest : List ℕ) × (c ≡ Some rest) × (lines_of bytes ≡ line ∷ lines_of rest))
read_to_end None b c old line none front part some = tt
read_to_end (Some xs) None c old line none front part some = absurd front
read_to_end (Some xs) (Some ys) None old line none front part some = absurd part.2
read_to_end (Some xs) (Some ys) (Some zs) old line none front part some =
    let (same, end, kept) = part in
    let all : xs ≡ line = front ∙ ap (λ (t : List ℕ). old ++ t) end ∙ append-nil old ∙ sym same in
    let nothing : zs ≡ [] = kept ∙ end in (
      zs,
      refl,
      ap lines_of all ∙ lines_of-last line (subst HasNoFeed (sym same) none) some
          ∙ sym (ap (λ (t : List ℕ). line ∷ lines_of t) nothing),
    )

-- a line that is too long
too_long : (xs line rest : List ℕ) → HasNoFeed line → MAX_LINE < length line → xs ≡ line ++ rest
    → (long : List ℕ) × (MAX_LINE < length long) × (more : List (List ℕ)) × (lines_of xs ≡ long ∷ more)
too_long xs line rest none over is =
    let found = lines_of-long line rest none (omega arith) in
    (found.0, omega (arith, found.1), found.2, ap lines_of is ∙ found.3)

pub read_too_much : (a b c : Option (List ℕ)) (old line : List ℕ) (found : Behind) → HasNoFeed old
    → length old ≤ MAX_LINE → Consumes a b old → IsPartRead b c old (Ok found) line → MAX_LINE < length line
    → IfSome a (λ bytes. (long : List ℕ) × (MAX_LINE < length long) × (rest : List (List ℕ)) ×
    (lines_of bytes ≡ long ∷ rest))
read_too_much None b c old line found none short front part over = tt
read_too_much (Some xs) None c old line found none short front part over = absurd front
read_too_much (Some xs) (Some ys) c old line behind.End none short front part over =
    absurd (omega (arith, ap length part.0))
read_too_much (Some xs) (Some ys) None old line behind.Feed none short front part over = absurd part.3
read_too_much (Some xs) (Some ys) (Some zs) old line behind.Feed none short front part over =
    too_long xs line (10 ∷ zs) (HasNoFeed-whole old part.0 line none part.2 part.1) over
    (cut_at old part.0 line (10 ∷ []) zs xs ys front part.1 part.3)
read_too_much (Some xs) (Some ys) None old line behind.Unknown none short front part over = absurd part.3
read_too_much (Some xs) (Some ys) (Some zs) old line behind.Unknown none short front part over =
    too_long xs line zs (HasNoFeed-whole old part.0 line none part.2 part.1) over
    (cut_at old part.0 line [] zs xs ys front part.1 (part.3 ∙ ap (λ (t : List ℕ). t ++ zs) (sym (append-nil part.0))))

pub some_unless_empty : (n : ℕ) → false ≡ (n == 0) → 0 < n
some_unless_empty zero some = absurd (cc some)
some_unless_empty (suc n) some = omega arith
