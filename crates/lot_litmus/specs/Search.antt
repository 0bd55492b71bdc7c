-- What a search knows of the states that it has found.
use Rattle.std.specs.Prelude.{◌≡◌, ℕ, ◌≤◌, Bool, true, false, ◌||◌, ◌==◌, List, [], ◌∷◌, length, slice_get}
use Rattle.std.specs.Prelude.{slice_index_or, Option, Some, None}
use Rattle.lot_litmus.specs.declared.search.Leads.{Leads}
use Rattle.lot_litmus.specs.declared.search.Looked.{Looked}
use Rattle.lot_litmus.specs.declared.search.Looked.TheVariants as looked
use Rattle.lot_litmus.specs.declared.search.Search.{Search}
use Rattle.lot_litmus.specs.declared.state.State.{State}
use Rattle.lot_litmus.specs.declared.test.Test.{Test}
use Rattle.lot_litmus.specs.Schedule.{CanEnd, IsStuck, first_of}
use Rattle.lot_litmus.specs.Steps.{Blocked, Goes, stepped, unended}
use Rattle.lot_litmus.specs.View.{configuration_of}

-- a state that stands for the same is at this index
abbrev pub IsAt : List State → ℕ → State → Type 0
IsAt states j state = (s : State) × (slice_get states j ≡ Some s) × (configuration_of s ≡ configuration_of state)

-- what was found before stays where it is
abbrev pub Grows : List State → List State → Type 0
Grows old new = (i : ℕ) (s : State) → slice_get old i ≡ Some s → slice_get new i ≡ Some s

-- where the thread's step leads from a state: to the state at an index, or it cannot be done
abbrev pub IsLead : Test → List State → State → ℕ → Option (Option ℕ) → Type 0
IsLead test states s thread (Some (Some j)) =
    (next : State) × (slice_get states j ≡ Some next)
    × (stepped test (configuration_of s) thread ≡ Goes (configuration_of next))
IsLead test states s thread _ = stepped test (configuration_of s) thread ≡ Blocked

abbrev pub AreLeads : Test → List State → State → Leads → Type 0
AreLeads test states s leads = (thread : ℕ) → IsLead test states s thread (slice_get leads.to thread)

-- the first state is that at the test's beginning, and it is known where all steps lead from those that were looked at
pub record IsSearch (test : Test) (search : Search) : Type 0 where
  pub first : (s : State) × (slice_get search.states.items 0 ≡ Some s) × (configuration_of s ≡ first_of test)
  pub within : length search.leads.items ≤ length search.states.items
  pub leads : (i : ℕ) (s : State) (leads : Leads) → slice_get search.states.items i ≡ Some s
      → slice_get search.leads.items i ≡ Some leads → AreLeads test search.states.items s leads

-- what a look at the state at an index tells, where the states are more afterwards
abbrev pub HasLooked : Test → List State → List State → ℕ → Looked → Type 0
HasLooked test old new i (looked.Leads leads) = (s : State) → slice_get old i ≡ Some s → AreLeads test new s leads
HasLooked test old new i (looked.Fails thread) = Unit {0}

-- marks of states: whether a step leads to a state that is marked
abbrev pub is_marked : List Bool → Option ℕ → Bool
is_marked marks None = false
is_marked marks (Some j) = slice_index_or marks j false

abbrev pub lead_to_marked : List Bool → List (Option ℕ) → Bool
lead_to_marked marks [] = false
lead_to_marked marks (to ∷ rest) = is_marked marks to || lead_to_marked marks rest

-- whether all threads have ended in a state, or a step leads from there to a state that is marked
abbrev pub is_hopeful : Test → List Bool → Option State → Option Leads → Bool
is_hopeful test marks (Some s) (Some leads) = unended test.codes s.threads == 0 || lead_to_marked marks leads.to
is_hopeful test marks _ _ = false

-- from those that are marked an end can be reached, or from none of the others
abbrev pub AreHopeful : Test → List State → List Bool → Type 0
AreHopeful test states marks =
    (i : ℕ) (s : State) → slice_get states i ≡ Some s → slice_get marks i ≡ Some true
    → CanEnd test (Goes (configuration_of s))

abbrev pub AreLost : Test → List State → List Bool → Type 0
AreLost test states marks =
    (i : ℕ) (s : State) → slice_get states i ≡ Some s → slice_get marks i ≡ Some false
    → IsStuck test (Goes (configuration_of s))
