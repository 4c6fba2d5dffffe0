-- How the test library packs operations into numbers.
pub mod Packed
