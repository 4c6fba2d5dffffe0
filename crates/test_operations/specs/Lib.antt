-- How the test library packs a symbol's group into numbers.
pub mod Packed
