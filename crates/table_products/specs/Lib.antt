-- What is asked of the bytes of a table before a cell is read.
pub mod Sizes
