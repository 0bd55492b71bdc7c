-- A registration and a trim have one answer, but for want of memory, and the table's size after them is one.
use Rattle.std.proofs.Common.{◌≡◌, ◌≢◌, ℕ, zero, suc, ◌+◌, ◌*◌, ◌<◌, ◌≤◌, Bool, true, false, MatchBool, max, min}
use Rattle.std.proofs.Common.{refl, sym, ap, ◌∙◌, subst, arith, ⊎_elim, ◌⊎◌, inl, inr, not}
use Rattle.std.proofs.lemmas.Bool.{cases_Bool, cases_lt, and_cases, and_parts, false≢true, true≢false}
use Rattle.std.proofs.lemmas.Grind.{pow_more}
use Rattle.std.specs.Prelude.{◌&&◌}
use Rattle.lot_machine.specs.declared.step.Answer.{Answer}
use Rattle.lot_machine.specs.declared.step.Answer.TheVariants as answer
use Rattle.lot_machine.specs.declared.step.Step.TheVariants as machine
use Rattle.lot_machine.specs.Machine.{Machine, IsFull, threads_of}
use Rattle.lot_machine.specs.Size.{IsNextPowerOfTwo, IsLeastSize, IsSizeAfter, IsTooLarge}
use Rattle.lot_machine.specs.Steps as steps
use Rattle.lot_machine.proofs.AnswerLemmas.{HasAnswer-step, IsStep-same_answer}
use Rattle.lot_machine.proofs.NumberLemmas.{IsNextPowerOfTwo-fixes}
use Rattle.lot_simulator.specs.declared.interleaved.FineAnswer.{FineAnswer}
use Rattle.lot_simulator.specs.declared.interleaved.FineAnswer.TheVariants as fine
use Rattle.lot_simulator.specs.InterleavedState.{FineState}
use Rattle.lot_simulator.specs.InterleavedSteps.{FineGives, IsFineRegister, IsFineTrim, is_any_open, is_full}
use Rattle.lot_simulator.specs.InterleavedSteps.{is_growth_blocked}
use Rattle.lot_simulator.specs.InterleavedView.{IsFineConsistent, sequential_view}
use Rattle.lot_simulator.proofs.InterleavedLemmas.{machine_answer}
use Rattle.lot_simulator.proofs.OneAnswerLemmas.{OneAnswer, one-gives}
use Rattle.lot_simulator.proofs.RegisterLemmas.{free_own, free_view, has_room}

-- there is a least power of two that is not below a number
next_power : (n : ℕ) → (power : ℕ) × IsNextPowerOfTwo (n + 1) power
next_power zero = (1, record { is_power = (0, refl); not_below = omega arith; least = omega arith })
next_power (suc n) =
    let (power, is) = next_power n in
    ⊎_elim (λ (grows : power < suc n + 1). (
      2 * power,
      record {
        is_power = let (bits, power_is) = is.is_power in
            (bits + 1, let more = pow_more 2 bits in omega (arith, power_is, more));
        not_below = omega (arith, is.not_below);
        least = omega (arith, grows);
      },
    ))
    (λ (stays : suc n + 1 ≤ power).
    (power, record { is_power = is.is_power; not_below = stays; least = omega (arith, is.least) }))
    (cases_lt power (suc n + 1))

next_power_of : (n : ℕ) → 0 < n → (power : ℕ) × IsNextPowerOfTwo n power
next_power_of zero some = absurd (omega (arith, some))
next_power_of (suc n) some =
    let same : n + 1 ≡ suc n = omega arith in
    subst (λ k. (power : ℕ) × IsNextPowerOfTwo k power) same (next_power n)

-- the size of the table after a registration
size_after : (given : Answer) (threads old : ℕ) → (size : ℕ) × IsSizeAfter machine.Register given threads old size
size_after (answer.Registered number) threads old =
    ⊎_elim (λ (grows : old < 3 * threads).
    let (size, is) = next_power_of (3 * threads) (omega (arith, grows)) in
    (size, record { kept = λ stays. absurd (omega (arith, stays, grows)); grown = λ _. is }))
    (λ (stays : 3 * threads ≤ old).
    (old, record { kept = λ _. refl; grown = λ grows. absurd (omega (arith, stays, grows)) }))
    (cases_lt old (3 * threads))
size_after _ threads old = (old, refl)

abbrev mem : FineAnswer
mem = fine.Answer answer.NoMemory

abbrev trimmed : FineAnswer
trimmed = fine.Answer answer.Trimmed

module _ (s : FineState) where
  abbrev m : Machine
  m = s.threads_view

  -- a registration is answered in the threads' view as in the sequential one
  register_seen : IsFineConsistent s → (given : Answer) (view : Machine) → steps.IsRegister m given view
      → (left : Machine) × steps.IsRegister (sequential_view s) given left
  register_seen c (answer.Registered number) view (least, _) = (
    _,
    (
      record {
        below = least.below;
        free = free_view s c number least.free;
        least = λ k low free. least.least k low (free_own s c k free);
      },
      refl,
    ),
  )
  register_seen c answer.Full view (full, _) = (_, ((λ k low free. full k low (free_own s c k free)), refl))
  register_seen c answer.NoMemory view (room, _) =
      (_, ((λ full. room (λ k low free. full k low (free_view s c k free))), refl))
  register_seen c _ view none = absurd none

  register_own : IsFineConsistent s → (given : Answer) (left : Machine) → steps.IsRegister (sequential_view s) given left
      → (view : Machine) × steps.IsRegister m given view
  register_own c (answer.Registered number) left (least, _) = (
    _,
    (
      record {
        below = least.below;
        free = free_own s c number least.free;
        least = λ k low free. least.least k low (free_view s c k free);
      },
      refl,
    ),
  )
  register_own c answer.Full left (full, _) = (_, ((λ k low free. full k low (free_view s c k free)), refl))
  register_own c answer.NoMemory left (room, _) =
      (_, ((λ full. room (λ k low free. full k low (free_own s c k free))), refl))
  register_own c _ left none = absurd none

  -- that is not blocked
  abbrev ByRule : FineAnswer → FineState → Type 0
  ByRule given new =
      (by_rule : Answer) × (view : Machine) × (size : ℕ) × steps.IsStep m machine.Register by_rule view
      × IsSizeAfter machine.Register by_rule (threads_of view) s.size size
      × FineGives (record s { threads_view = view; size = size }) (fine.Answer by_rule) given new

  one_by_rule : OneAnswer (IsFineConsistent s) mem s ByRule (IsFull m → ⊥)
  one_by_rule = record {
    some = some;
    same = λ c given other new left (by_rule, view, _, does, _, (is, _)) (by_other, other_view, _, also, _, (other_is, _))
        fits fits_also. is ∙ ap fine.Answer (same c by_rule by_other view other_view does also
        (λ wants. fits (is ∙ ap fine.Answer wants)) (λ wants. fits_also (other_is ∙ ap fine.Answer wants)))
        ∙ sym other_is;
    wants = λ new (by_rule, view, size, does, sized, (is, new_is)).
        wants new by_rule view size (sym (ap machine_answer is)) does sized new_is;
    may = λ new room same. (answer.NoMemory, m, s.size, (room, refl), refl, (refl, same));
  }
    where
      some : IsFineConsistent s → (given : FineAnswer) × (given ≢ mem) × (new : FineState) × ByRule given new
      some c =
          let (by_rule, other, left, does) = HasAnswer-step (sequential_view s) machine.Register (s.key_words, c.view) in
          let (view, own) = register_own c by_rule left does in
          let (size, sized) = size_after by_rule (threads_of view) s.size in (
            fine.Answer by_rule,
            (λ same. other (ap machine_answer same)),
            _,
            (by_rule, view, size, own, sized, (refl, refl)),
          )

      same : IsFineConsistent s → (by_rule by_other : Answer) (view other_view : Machine) → steps.IsRegister m by_rule view
          → steps.IsRegister m by_other other_view → by_rule ≢ answer.NoMemory → by_other ≢ answer.NoMemory
          → by_rule ≡ by_other
      same c by_rule by_other view other_view does also fits fits_also =
          let (seen, does_seen) = register_seen c by_rule view does in
          let (also_seen, other_seen) = register_seen c by_other other_view also in
          IsStep-same_answer (sequential_view s) machine.Register by_rule by_other seen also_seen (s.key_words, c.view)
          does_seen other_seen fits fits_also

      wants : (new : FineState) (by_rule : Answer) (view : Machine) (size : ℕ) → by_rule ≡ answer.NoMemory
          → steps.IsRegister m by_rule view → IsSizeAfter machine.Register by_rule (threads_of view) s.size size
          → new ≡ record s { threads_view = view; size = size } → (IsFull m → ⊥) × (new ≡ s)
      wants new by_rule view size is does sized new_is =
          let (room, left) = subst (λ a. steps.IsRegister m a view) is does in
          let kept : size ≡ s.size =
          subst (λ a. IsSizeAfter machine.Register a (threads_of view) s.size size) is sized in (
            room,
            new_is ∙ ap (λ v. record s { threads_view = v; size = size }) left
                ∙ ap (λ n. record s { size = n }) kept,
          )

  -- where the numbers are counted as full, none is free
  full_counted : is_full s ≡ true → IsFull m
  full_counted full k low free = false≢true (sym (has_room s k low free) ∙ full)

  pub one-register : OneAnswer (IsFineConsistent s) mem s (IsFineRegister s) ((IsFull m → ⊥) × (is_growth_blocked s ≡ false))
  one-register = at (not (is_full s) && is_growth_blocked s) refl
    where
      Rule : Bool → FineAnswer → FineState → Type 0
      Rule blocked given new = MatchBool blocked (FineGives s fine.Blocked given new) (ByRule given new)

      blocks : OneAnswer (IsFineConsistent s) mem s (Rule true) ⊥
      blocks = one-gives (IsFineConsistent s) mem s fine.Blocked s (λ same. cc)

      not_blocked : (not (is_full s) && is_growth_blocked s) ≡ false → (IsFull m → ⊥) → is_growth_blocked s ≡ false
      not_blocked passes room =
          ⊎_elim (λ (full : not (is_full s) ≡ false). absurd (room (full_counted
          (⊎_elim (λ (is : is_full s ≡ true). is)
          (λ (is : is_full s ≡ false). absurd (true≢false (sym (ap not is) ∙ full)))
          (cases_Bool (is_full s))))))
          (λ (free : is_growth_blocked s ≡ false). free)
          (and_cases (not (is_full s)) (is_growth_blocked s) passes)

      at : (blocked : Bool) → (not (is_full s) && is_growth_blocked s) ≡ blocked
          → OneAnswer (IsFineConsistent s) mem s (Rule blocked) ((IsFull m → ⊥) × (is_growth_blocked s ≡ false))
      at true is = record {
        some = blocks.some;
        same = blocks.same;
        wants = λ new does. absurd (blocks.wants new does).0;
        may = λ new (room, free) same.
            absurd (false≢true (sym free ∙ (and_parts (not (is_full s)) (is_growth_blocked s) is).1));
      }
      at false is = record {
        some = one_by_rule.some;
        same = one_by_rule.same;
        wants = λ new does. let (room, same) = one_by_rule.wants new does in ((room, not_blocked is room), same);
        may = λ new (room, free) same. one_by_rule.may new room same;
      }

  abbrev TooLarge : Type 0
  TooLarge = IsTooLarge (threads_of s.threads_view) s.size

  -- what a trim may be answered but `NoMemory`
  abbrev TrimAnswer : FineAnswer → Type 0
  TrimAnswer given = ((given ≡ fine.Blocked) × TooLarge × (is_any_open s ≡ true))
      ⊎ ((given ≡ trimmed) × (TooLarge → is_any_open s ≡ false))

  trim_by : (by_rule : Answer) (view : Machine) → by_rule ≢ answer.NoMemory → steps.IsTrim s.threads_view by_rule view
      → by_rule ≡ answer.Trimmed
  trim_by answer.Trimmed view other does = refl
  trim_by answer.NoMemory view other does = absurd (other refl)
  trim_by _ view other none = absurd none

  trim_answer : (given : FineAnswer) (new : FineState) → IsFineTrim s given new → given ≢ mem → TrimAnswer given
  trim_answer fine.Blocked new (too_large, some, _) other = inl (refl, too_large, some)
  trim_answer (fine.Answer by_rule) new (closed, view, _, does, _, _) other =
      inr (ap fine.Answer (trim_by by_rule view (λ wants. other (ap fine.Answer wants)) does), closed)
  trim_answer _ new none other = absurd none

  trim-same : (given other : FineAnswer) → TrimAnswer given → TrimAnswer other → given ≡ other
  trim-same given other is also =
      ⊎_elim (λ (blocked : (given ≡ fine.Blocked) × TooLarge × (is_any_open s ≡ true)).
      ⊎_elim (λ (too : (other ≡ fine.Blocked) × TooLarge × (is_any_open s ≡ true)). blocked.0 ∙ sym too.0)
      (λ (does : (other ≡ trimmed) × (TooLarge → is_any_open s ≡ false)).
      absurd (true≢false (sym blocked.2 ∙ does.1 blocked.1)))
      also)
      (λ (does : (given ≡ trimmed) × (TooLarge → is_any_open s ≡ false)).
      ⊎_elim (λ (blocked : (other ≡ fine.Blocked) × TooLarge × (is_any_open s ≡ true)).
      absurd (true≢false (sym blocked.2 ∙ does.1 blocked.1)))
      (λ (too : (other ≡ trimmed) × (TooLarge → is_any_open s ≡ false)). does.0 ∙ sym too.0)
      also)
      is

  abbrev HasTrimAnswer : Type 0
  HasTrimAnswer = (given : FineAnswer) × (given ≢ mem) × (new : FineState) × IsFineTrim s given new

  trim-some : (least : ℕ) → IsLeastSize (threads_of s.threads_view) least → HasTrimAnswer
  trim-some least is_least =
      ⊎_elim (λ (smaller : least < s.size).
      ⊎_elim (λ (some : is_any_open s ≡ true).
      (fine.Blocked, (λ same. cc), s, ((least, is_least, smaller), some, refl)))
      (λ (closed : is_any_open s ≡ false). does (λ _. closed))
      (cases_Bool (is_any_open s)))
      (λ (fits : s.size ≤ least). does (λ (another, is_another, smaller).
      let same = IsNextPowerOfTwo-fixes (3 * max (threads_of s.threads_view) 3) least another is_least is_another in
      absurd (omega (arith, same, smaller, fits))))
      (cases_lt least s.size)
    where
      does : (TooLarge → is_any_open s ≡ false) → HasTrimAnswer
      does closed = (
        trimmed,
        (λ same. cc),
        record s { size = min least s.size },
        (closed, s.threads_view, min least s.size, refl, (least, is_least, refl), refl),
      )

  pub one-trim : OneAnswer (IsFineConsistent s) mem s (IsFineTrim s) (TooLarge × (is_any_open s ≡ false))
  one-trim = record {
    some = λ c. let (least, is_least) = next_power_of (3 * max (threads_of s.threads_view) 3) (omega arith) in
        trim-some least is_least;
    same = λ c given other new left does also fits fits_also.
        trim-same given other (trim_answer given new does fits) (trim_answer other left also fits_also);
    wants = λ new (closed, view, size, left, (too_large, kept), new_is).
        let large : TooLarge = subst (λ v. IsTooLarge (threads_of v) s.size) left too_large in (
          (large, closed large),
          new_is ∙ ap (λ v. record s { threads_view = v; size = size }) left
              ∙ ap (λ n. record s { size = n }) kept,
        );
    may = λ new (too_large, closed) same. ((λ _. closed), s.threads_view, s.size, refl, (too_large, refl), same);
  }
