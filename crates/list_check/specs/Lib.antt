-- Another program's list against a symbol's group.
-- The definitions: the refusals, and what is answered.
pub mod Refusals
pub mod Checked
-- What the code's set of seen operations says.
pub mod Slots
-- What the answers say of motions of space, and by number, place and value.
pub mod Entries
pub mod Answers
pub mod Comparison
pub mod Exactly
pub mod Told
pub mod Numbered
