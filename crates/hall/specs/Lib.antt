-- What the program writes for the lines that it reads.
pub mod Output
pub mod Answers
pub mod Moved
pub mod Steps
pub mod Example
