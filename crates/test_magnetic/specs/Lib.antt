-- How the test library packs what a magnetic text is read as into numbers.
pub mod Packed
