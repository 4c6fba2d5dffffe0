-- The next key from a bound on, how it is searched for, and what it is good for: a list in ascending order of keys.
pub mod NextPlace
pub mod Search
pub mod Ascending
