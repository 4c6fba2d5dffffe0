-- What each answer says: its number, its place, and its value.
pub mod Answers
