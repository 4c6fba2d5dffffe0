-- How the test library gives a table by value to C.
pub mod Cells
