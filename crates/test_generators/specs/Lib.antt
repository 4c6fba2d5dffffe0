-- How the test library packs what a text is read as into numbers.
pub mod Packed
