use Rattle.std.proofs.Common.{◌≡◌, ◌∙◌, ◌<◌, Err, sym, ap, refl, subst, length, List, ℕ, get_or, slice_set, arith}
use Rattle.std.proofs.lemmas.List.{get_or_read, length-map}
use Rattle.lot_simulator.specs.Lot.{thread_at, machine, uses, use_of}
use Rattle.lot_simulator.specs.LotState.{LotState, ThreadState}
use Rattle.lot_machine.specs.Machine.{IsFull, IsLeastFree, threads_of, with_status}
use Rattle.lot_machine.specs.Size.{IsSizeFor}
use Rattle.lot_machine.specs.Numbers.{count_registered}
use Rattle.lot_machine.specs.declared.status.Status.TheVariants.{Running}
use Rattle.lot_machine.specs.declared.numbers.Use.TheVariants.{Registered}
use Rattle.lot_simulator.proofs.CommitLemmas.{uses-set}
use Rattle.lot_simulator.proofs.LotThreadLemmas.{lot_of, IsLotStep}
use Rattle.lot_simulator.proofs.LotLemmas.{IsLotStep-registered}
use Rattle.lot_simulator.proofs.UseLemmas.{IsFull-counted, counted-IsFull, IsLeastFree-given, threads_of-uses}
use Rattle.lot_simulator.proofs.lot.Lot.register.Goals as goal
use Rattle.lot_simulator.proofs.lot.Lot.register.Goals.{After-self-1}

pub returns-then-registered-len-clause-full : goal.returns-then-registered-len-clause-full
returns-then-registered-len-clause-full c =
    let all = ap count_registered (sym c.self.invariant.1) ∙ sym c.registered.ensures ∙ (omega arith) in (
      λ _. subst (λ (lot : LotState). IsFull (machine lot)) c.self.view_is (IsFull-counted (lot_of c.self.inside) all),
      λ _. refl,
    )

pub returns-in_err-node-clause-full : goal.returns-in_err-node-clause-full
returns-in_err-node-clause-full c = (
  λ refused. let other = rw refused at c.from_residual.ensures.1 in absurd cc,
  λ full. let all = counted-IsFull (lot_of c.self.inside)
      (subst (λ (lot : LotState). IsFull (machine lot)) (sym c.self.view_is) full) in
      absurd (omega (arith, all, ap count_registered c.self.invariant.1, c.registered.ensures)),
)

pub returns-in_err-number-clause-full : goal.returns-in_err-number-clause-full
returns-in_err-number-clause-full c =
    let count = length-map c.self.inside.threads.items (λ (t : ThreadState). use_of t.status) in (
      λ refused. let same = rw refused at c.from_residual-in_err-number.ensures.1 in
          let all = c.in_err-number.ensures.full.0 (ap Err (sym same)) in
          absurd (omega (arith, all, ap length c.self.invariant.1, count, c.registered.ensures)),
      λ full. let all = counted-IsFull (lot_of c.self.inside)
          (subst (λ (lot : LotState). IsFull (machine lot)) (sym c.self.view_is) full) in
          absurd (omega (arith, all, ap count_registered c.self.invariant.1, c.registered.ensures)),
    )

-- a thread that was read is that of its number
read : (threads : List ThreadState) (number : ℕ) (thread : ThreadState) → number < length threads
    → thread ≡ get_or threads number thread → thread ≡ thread_at threads number
read threads number thread below at = get_or_read threads number thread below at _

pub register-requires-2-clause-number : goal.register-requires-2-clause-number
register-requires-2-clause-number c =
    let least = IsLeastFree-given (lot_of c.self.inside) c.self.inside.table.numbers c.in_ok-number.number
    c.self.invariant.1 c.in_ok-number.ensures.number.0 in
    sym (ap (λ thread. thread.number)
    (read c.self.inside.threads.items c.in_ok-number.number c.index_mut.result.now least.below
    c.index_mut.ensures.value) ∙ c.self.invariant.0.numbers c.in_ok-number.number)

pub register-requires-2-clause-free : goal.register-requires-2-clause-free
register-requires-2-clause-free c =
    let least = IsLeastFree-given (lot_of c.self.inside) c.self.inside.table.numbers c.in_ok-number.number
    c.self.invariant.1 c.in_ok-number.ensures.number.0 in
    ap (λ thread. thread.status)
    (read c.self.inside.threads.items c.in_ok-number.number c.index_mut.result.now least.below
    c.index_mut.ensures.value) ∙ least.free

least : (c : After-self-1) → IsLeastFree (machine (lot_of c.self.inside)) c.in_ok-number.number
least c =
    IsLeastFree-given (lot_of c.self.inside) c.self.inside.table.numbers c.in_ok-number.number c.self.invariant.1
    c.in_ok-number.ensures.number.0

after : (c : After-self-1) → c.register-2.new.self
    ≡ record (thread_at c.self.inside.threads.items c.in_ok-number.number) { status = Running }
after c =
    c.register-2.ensures ∙ ap (λ (thread : ThreadState). record thread { status = Running })
    (read c.self.inside.threads.items c.in_ok-number.number c.index_mut.result.now
    (least c).below c.index_mut.ensures.value)

step : (c : After-self-1)
    →
    IsLotStep
    (record {
      buckets = c.register.new.self.cells;
      threads = slice_set c.self.inside.threads.items c.in_ok-number.number c.register-2.new.self;
    }) (with_status (machine (lot_of c.self.inside)) c.in_ok-number.number Running)
step c =
    let number = c.in_ok-number.number in
    let now = after c in
    rw now
    (IsLotStep-registered (lot_of c.self.inside) c.register.new.self.cells number
    (record (thread_at c.self.inside.threads.items number) { status = Running })
    c.in_ok-number.ensures.lists
    c.self.invariant.0 (least c).below (c.self.invariant.0.numbers number) (least c).free refl refl)

numbers : (c : After-self-1) → c.register.new.self.numbers
    ≡ uses (slice_set c.self.inside.threads.items c.in_ok-number.number c.register-2.new.self)
numbers c =
    let now = after c in
    rw now
    (c.in_ok-number.ensures.number.1 ∙ ap (λ numbers. slice_set numbers c.in_ok-number.number Registered)
    c.self.invariant.1 ∙ sym (uses-set c.self.inside.threads.items c.in_ok-number.number _))

pub invariant_of-self-2 : goal.invariant_of-self-2
invariant_of-self-2 c = ((step c).is_lot, numbers c)

pub returns-clause-full : goal.returns-clause-full
returns-clause-full c = (
  λ refused. absurd cc,
  λ full. let all : IsFull (machine (lot_of c.self.inside)) =
      subst (λ (lot : LotState). IsFull (machine lot)) (sym c.self.view_is) full in
      absurd (all c.in_ok-number.number (least c).below (least c).free),
)

pub returns-clause-ok : goal.returns-clause-ok
returns-clause-ok c = (rw (← c.self.view_is) (least c), rw (← c.self.view_is) (step c).means)

pub returns-clause-size : goal.returns-clause-size
returns-clause-size c =
    let new : LotState =
    record {
      buckets = c.register.new.self.cells;
      threads = slice_set c.self.inside.threads.items c.in_ok-number.number c.register-2.new.self;
    } in
    let counted : count_registered c.register.new.self.numbers ≡ threads_of (machine new) =
    ap count_registered (numbers c) ∙ threads_of-uses new in
    rw (← c.self.view_is)
    (subst (λ threads. IsSizeFor threads (length c.self.inside.table.cells) (length c.register.new.self.cells)) counted
    c.in_ok-number.ensures.size)
