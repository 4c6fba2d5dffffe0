-- The report of two records, by R13: its definition, how the code makes it, and what it says.
-- The definitions: what is compared, the report, what is answered, and how a report is taken to a record.
pub mod Sheets
pub mod Report
pub mod Compared
pub mod Taking
-- What the code does with the bytes.
pub mod Cursors
pub mod Writing
pub mod Lent
-- What the report says.
pub mod Differences
pub mod Exactly
pub mod Yields
pub mod Answers
pub mod Example
