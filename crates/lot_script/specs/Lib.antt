-- In the order of reading, after the types of src/script/command.rt, reply.rt and fault.rt: what a line is, which lines
-- there are, what each is answered, and what a script is.
pub mod Words
pub mod Lines
pub mod Command
pub mod Reply
pub mod Script
-- Last what only private contracts cite.
pub mod Private
