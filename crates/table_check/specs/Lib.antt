-- The check of a table, and what its verdict means.
pub mod CheckAnswers
pub mod TableVerdict
-- What is answered on a table.
pub mod OnGroup
