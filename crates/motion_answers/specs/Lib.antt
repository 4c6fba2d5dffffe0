-- What is answered on the groups of symbols and records, number by number.
pub mod Sources
pub mod Once
