-- Conjugates with their conjugators.
pub mod LentConjugates
-- What is answered on a subgroup.
pub mod Answers
