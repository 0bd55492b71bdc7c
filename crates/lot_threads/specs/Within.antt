-- Closures that are called in a critical section, and so are lent what has the bucket's piece.
use Rattle.std.specs.Prelude.{◌≡◌, ℕ, Bool, true, false, List, Vec, [], ◌∷◌, map}
use Rattle.std.specs.Fn.{Mut, Once}
use Rattle.std.specs.declared.alloc.Global.{Global}
use denote.Ref.{Bor}
use Rattle.lot_base.specs.BucketState.{BucketState}
use Rattle.lot_base.specs.Filter.{IsFilterCallable, IsFiltered, park_tokens}
use Rattle.lot_base.specs.NodeFields.{NodeFields}
use Rattle.lot_base.specs.NodeLists.{lists_of, with_saturated_counts}
use Rattle.lot_base.specs.declared.token.FilterOp.{FilterOp}
use Rattle.lot_base.specs.Place.{place_of}
use Rattle.lot_base.specs.Waiting.{split_filter, split_first, result_of}
use Rattle.lot_base.specs.declared.token.ParkResult.{ParkResult}
use Rattle.lot_base.specs.declared.token.ParkResult.TheVariants as result
use Rattle.lot_base.specs.declared.token.ParkToken.{ParkToken}
use Rattle.lot_base.specs.declared.token.UnparkResult.{UnparkResult}
use Rattle.lot_base.specs.declared.token.UnparkToken.{UnparkToken}
use Rattle.lot_machine.specs.declared.step.Answer.{Answer}
use Rattle.lot_machine.specs.declared.step.Step.{Step}
use Rattle.lot_machine.specs.Machine.{Machine, Waiter}
use Rattle.lot_machine.specs.declared.step.Answer.TheVariants as answer
use Rattle.lot_machine.specs.declared.step.Answer.TheVariants.{Entered, Invalid}
use Rattle.lot_machine.specs.declared.step.Op.TheVariants.{Filter, One}
use Rattle.lot_machine.specs.declared.step.Step.TheVariants.{Return, Unpark}
use Rattle.lot_history.specs.declared.history.History.{History}
use Rattle.lot_history.specs.declared.history.Witness.{Witness}
use Rattle.lot_history.specs.declared.view.Piece.{Piece}
use Rattle.lot_history.specs.declared.view.Piece.TheVariants.{TitledLists}
use Rattle.lot_history.specs.declared.view.Standing.{Standing}
use Rattle.lot_history.specs.Pieces.{AllSo, at_key, waiter_of}
use Rattle.lot_history.specs.Witness.{Extends, Found, IsStill, id_of, limit_of, pieces_in}
use Rattle.lot_threads.specs.Cells.{Has, lists_in}
use Rattle.lot_threads.specs.Filters.{MayFind, tokens_in}
use Rattle.lot_threads.specs.Late.{late_pieces}
use Rattle.lot_threads.specs.Members.{Leaves, MemberState, entry_step}
use Rattle.lot_threads.specs.declared.told.Entry.{Entry}
use Rattle.lot_threads.specs.declared.critical_section.CriticalSection.{CriticalSection}

-- the threads in the list of the key, in order, as these pieces of a bucket have them
abbrev pub waiting_in : List Piece → ℕ → List Waiter
waiting_in (TitledLists limit size place standing ∷ []) key = map waiter_of (at_key key standing)
waiting_in _ key = []

-- the threads that wait on the key in a critical section, in order
abbrev pub waiters_in : CriticalSection → ℕ → List Waiter
waiters_in section key = waiting_in (pieces_in section.part) key

-- a critical section of the key's bucket in this history
pub record IsSectionOf (history : History) (key : ℕ) (section : CriticalSection) : Type 0 where
  pub size : ℕ
  pub place : ℕ
  pub standing : List Standing
  pub bucket : Has (id_of history) (TitledLists (limit_of history) size place standing ∷ []) section.part
  pub here : place_of key size ≡ place

-- a step found a machine that was as these pieces say
pub record FindsPieces (history : History) (pieces : List Piece) (old new : Witness) : Type 0 where
  pub found : Found history old new
  pub so : AllSo found.machine pieces

module _ {C : Type 0} (c : Once C (Bor CriticalSection × (UnparkResult × Unit {0})) UnparkToken) where
  -- the callback of an unpark may be called in a critical section of the key's bucket, with what takes the first waiter
  abbrev pub MayCallBack : C → History → ℕ → Type 0
  MayCallBack callback history key = (section : Bor CriticalSection) → IsSectionOf history key section.now
      → c.pre callback (section, (result_of (split_first (waiters_in section.now key)), tt))

  -- the unpark was added with the token that the callback answered; it was called in a critical section in which the
  -- threads waited on the key that the unpark found
  pub record UnparksOne (callback : C) (key : ℕ) (history : History) (old : Witness) (result : UnparkResult)
      (new : Witness) : Type 0 where
    pub section : Bor CriticalSection
    pub within : IsSectionOf history key section.now
    pub token : UnparkToken
    pub called : c.post callback (section, (result, tt)) token
    pub extends : Extends history old (Unpark (One key token)) (answer.Unpark result) new
    pub found : Found history old new
    pub finds : found.machine.lists key ≡ waiters_in section.now key

module _ {F C : Type 0} (f : Mut F (ParkToken × Unit {0}) FilterOp)
    (c : Once C (Bor CriticalSection × (UnparkResult × Unit {0})) UnparkToken) where
  -- in whatever machine the step finds, the filter may be called with the park tokens of the threads in the list of the
  -- key, in order, and after that the callback in the critical section, with the result of what it decided
  pub record MayFilterWithin (filter : F) (callback : C) (key : ℕ) (history : History) (me : Witness) : Type 0 where
    pub may_filter : (m : Machine) → MayFind history me m → IsFilterCallable f filter (tokens_in m key)
    pub may_call_back : (m : Machine) → MayFind history me m → (waiters : List NodeFields)
        → park_tokens waiters ≡ tokens_in m key → (decisions : List FilterOp)
        → IsFiltered f filter (park_tokens waiters) decisions → (section : Bor CriticalSection)
        → IsSectionOf history key section.now
        → c.pre callback (section, (with_saturated_counts (result_of (split_filter decisions waiters)), tt))

  -- with these park tokens the filter decided so, and then the callback was handed the result in a critical section in
  -- which these threads waited on the key, and answered the token
  pub record AreCalledWithin (filter : F) (callback : C) (history : History) (key : ℕ) (waiters : List Waiter)
      (decisions : List FilterOp) (result : UnparkResult) (token : UnparkToken) : Type 0 where
    pub decided : IsFiltered f filter (map (λ waiter. waiter.park_token) waiters) decisions
    pub section : Bor CriticalSection
    pub within : IsSectionOf history key section.now
    pub finds : waiters ≡ waiters_in section.now key
    pub called : c.post callback (section, (result, tt)) token

  -- the step is the unpark by the decisions on the park tokens of a bucket's waiters, in a section that has its part
  pub record IsUnparkWithin (filter : F) (callback : C) (history : History) (bucket : BucketState) (key : ℕ)
      (result : UnparkResult) (s : Step) (a : Answer) : Type 0 where
    pub decisions : Vec FilterOp Global
    pub token : UnparkToken
    pub decided : IsFiltered f filter (park_tokens (lists_of bucket.nodes key)) decisions.items
    pub section : Bor CriticalSection
    pub has : Has (id_of history) (lists_in (limit_of history) bucket ∷ []) section.now.part
    pub called : c.post callback (section, (result, tt)) token
    pub step : s ≡ Unpark (Filter key decisions token)
    pub answer : a ≡ answer.Unpark result

  -- the step was added, and the closures were called so in the section in which it found the machine
  pub record UnparksWithin (filter : F) (callback : C) (key : ℕ) (history : History) (old : Witness) (result : UnparkResult)
      (new : Witness) : Type 0 where
    pub decisions : Vec FilterOp Global
    pub token : UnparkToken
    pub extends : Extends history old (Unpark (Filter key decisions token)) (answer.Unpark result) new
    pub found : Found history old new
    pub calls : AreCalledWithin filter callback history key (found.machine.lists key) decisions.items result token

-- a thread left its list, where the lists of its bucket were these
pub record LeavesFrom (history : History) (pieces : List Piece) (number key : ℕ) (last : Bool) (old new : Witness) : Type 0
  where
    pub leaves : Leaves history number key last old new
    pub finds : FindsPieces history (late_pieces number pieces) leaves.late new

-- a step found a machine in which the same threads wait on the key as in the critical section
pub record FindsWaiters (history : History) (key : ℕ) (section : CriticalSection) (old new : Witness) : Type 0 where
  pub found : Found history old new
  pub waiters : found.machine.lists key ≡ waiters_in section key

module _ {V : Type 0} (v : Once V (Bor CriticalSection × Unit {0}) Bool) where
  -- `validate` may be called in a critical section of the key's bucket
  abbrev pub MayValidate : V → History → ℕ → Type 0
  MayValidate validate history key = (section : Bor CriticalSection) → IsSectionOf history key section.now
      → v.pre validate (section, tt)

  -- it answered so in a critical section of the key's bucket
  pub record Asks (validate : V) (history : History) (key : ℕ) (valid : Bool) : Type 0 where
    pub section : Bor CriticalSection
    pub within : IsSectionOf history key section.now
    pub answers : v.post validate (section, tt) valid

  -- it let the thread in, in a critical section in which those threads waited on the key that the entry found
  pub record Enters (validate : V) (history : History) (entry : Entry) (old new : Witness) : Type 0 where
    pub asks : Asks validate history entry.key true
    pub finds : FindsWaiters history entry.key asks.section.now old new
    pub extends : Extends history old (entry_step entry true) Entered new

  -- or it did not
  pub record Refuses (validate : V) (history : History) (entry : Entry) (old new : Witness) : Type 0 where
    pub asks : Asks validate history entry.key false
    pub extends : Extends history old (entry_step entry false) Invalid new

module _ {T : Type 0} (t : Once T (Bor CriticalSection × (ℕ × (Bool × Unit {0}))) (Unit {0})) where
  -- `timed_out` may be called in a critical section of the key's bucket, whichever key that is
  abbrev pub MayTellTimeout : T → History → Type 0
  MayTellTimeout timed_out history = (key : ℕ) (last : Bool) (section : Bor CriticalSection)
      → IsSectionOf history key section.now → t.pre timed_out (section, (key, (last, tt)))

  -- it was told, in a critical section of the key's bucket, that the thread left the list of the key; the same threads
  -- waited on the key there, this one among them, as the step found
  pub record TellsTimeout (timed_out : T) (history : History) (number key : ℕ) (last : Bool) (old new : Witness)
      : Type 0 where
    pub section : Bor CriticalSection
    pub within : IsSectionOf history key section.now
    pub told : t.post timed_out (section, (key, (last, tt))) tt
    pub leaves : Leaves history number key last old new
    pub finds : FindsWaiters history key section.now leaves.late new

  -- the wait of a thread that was let in ends so
  abbrev pub EndsWithin : T → History → ℕ → Bool → ParkResult → Witness → Witness → Type 0
  EndsWithin timed_out history number timed result.Invalid old new = ⊥
  EndsWithin timed_out history number timed (result.Unparked token) old new =
      Extends history old (Return number) (answer.Unparked token) new
  EndsWithin timed_out history number timed result.TimedOut old new = (timed ≡ true)
      × ((key : ℕ) × (last : Bool) × TellsTimeout timed_out history number key last old new)

-- a thread that comes to park as this member
abbrev pub entry_for : MemberState → ℕ → ParkToken → Bool → Entry
entry_for member key park_token timed =
    record { number = member.number; key = key; park_token = park_token; timed = timed }

-- how a park ends: `validate` was asked in a critical section; where it let the thread in, `before_sleep` was called with
-- the witness as it was once the thread stood in the list, and the wait ended so
module _ {V B T : Type 0} (v : Once V (Bor CriticalSection × Unit {0}) Bool) (b : Once B (Bor Witness × Unit {0}) (Unit {0}))
    (t : Once T (Bor CriticalSection × (ℕ × (Bool × Unit {0}))) (Unit {0})) where
  -- the closures of a park may be called
  pub record MayPark (validate : V) (before_sleep : B) (timed_out : T) (history : History) (key : ℕ) (timed : Bool)
      : Type 0 where
    pub may_validate : MayValidate v validate history key
    pub may_sleep : Asks v validate history key true → (witness : Bor Witness) → b.pre before_sleep (witness, tt)
    pub may_tell : Asks v validate history key true → timed ≡ true → MayTellTimeout t timed_out history

  pub record Parks (validate : V) (before_sleep : B) (timed_out : T) (old : MemberState) (key : ℕ) (park_token : ParkToken)
      (timed : Bool) (given : ParkResult) (new : MemberState) : Type 0 where
    pub entered : Bor Witness
    pub still : IsStill old.history old.witness entered.now
    pub enters : Enters v validate old.history (entry_for old key park_token timed) old.witness entered.now
    pub slept : b.post before_sleep (entered, tt) tt
    pub ends : EndsWithin t timed_out old.history old.number timed given entered.now new.witness

  abbrev pub IsParkedWithin : V → B → T → MemberState → ℕ → ParkToken → Bool → ParkResult → MemberState → Type 0
  IsParkedWithin validate before_sleep timed_out old key park_token timed result.Invalid new =
      Refuses v validate old.history (entry_for old key park_token timed) old.witness new.witness
  IsParkedWithin validate before_sleep timed_out old key park_token timed (result.Unparked token) new =
      Parks validate before_sleep timed_out old key park_token timed (result.Unparked token) new
  IsParkedWithin validate before_sleep timed_out old key park_token timed result.TimedOut new =
      Parks validate before_sleep timed_out old key park_token timed result.TimedOut new
