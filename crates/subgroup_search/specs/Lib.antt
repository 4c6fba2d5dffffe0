-- What is answered on the subgroups of a table's group.
pub mod Answers
-- Adjoining an element to a subgroup.
pub mod RightCosets
pub mod Growth
-- The search for subgroups and for representatives of their classes.
pub mod Progress
pub mod SearchLoop
-- From the result of the search to the answer.
pub mod SearchAnswers
