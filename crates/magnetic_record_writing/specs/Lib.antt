-- Writing magnetic records: what the code does with the numbers of a list.
pub mod Writing
