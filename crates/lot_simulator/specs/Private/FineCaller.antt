-- What a caller of an interleaved lot keeps.
use Rattle.std.specs.Prelude.{ℕ, List, ◌∷◌, [], map}
use Rattle.lot_base.specs.NodeFields.{NodeFields}
use Rattle.lot_simulator.specs.declared.interleaved.caller.Held.{Held}
use Rattle.lot_simulator.specs.declared.interleaved.caller.Held.TheVariants.{One, Two}
use Rattle.lot_simulator.specs.InterleavedState.{TakenThread}

-- the places of the buckets that a section holds
abbrev pub places_of : Held → List ℕ
places_of (One place) = place ∷ []
places_of (Two first second) = first ∷ second ∷ []

-- the thread of a node that was taken
abbrev pub taken_thread : NodeFields → TakenThread
taken_thread node = record { number = node.number; token = node.unpark_token }

abbrev pub taken_threads : List NodeFields → List TakenThread
taken_threads nodes = map taken_thread nodes
