-- Operation lines: how they are spelt, what they denote, how they are read and how they are written.
pub mod Spelling
pub mod Denoted
-- How they are read.
pub mod Reading
pub mod Numbers
pub mod Beginnings
pub mod AtMostOnce
pub mod SpeltRead
pub mod Offending
pub mod Held
pub mod Ended
pub mod Answers
pub mod Moves
pub mod LinesToTry
-- How they are written.
pub mod Writing
pub mod Building
pub mod Placed
pub mod LowestTerms
pub mod WrittenForm
pub mod WrittenLines
pub mod WritingAnswers
-- There and back.
pub mod ReadBack
