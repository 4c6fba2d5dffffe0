-- What is answered on the groups of symbols and records.
pub mod Answers
-- The end of a table is a number of the machine.
pub mod Orders
