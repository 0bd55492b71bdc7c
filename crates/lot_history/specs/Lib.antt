-- In the order of reading, after the types of src/event.rt and src/view.rt. First what a history is.
pub mod History
-- Then the pieces of the machine, which one seat alone may change, and what a step of a seat with pieces is.
pub mod Pieces
pub mod Moves
-- Then what a seat knows where keys have titles, what a call tells of what its caller knew before and knows then, and
-- histories, witnesses and parts as contracts see them.
pub mod Views
pub mod Titles
pub mod Tells
pub mod Witness
-- Then the rule of a history's table, which each step keeps.
pub mod Rule
-- Last what holds of every history, of whom its unparks take, and of who comes first.
pub mod Laws
pub mod Takings
pub mod Turns
