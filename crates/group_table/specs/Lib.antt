-- Tables of groups of motions: what the table of a list of operations is, and what is answered for a text and for a record.
pub mod Tables
pub mod OperationTables
pub mod Overlay
-- A record's table: its products are found by their codes.
pub mod CodeSearch
pub mod ReadTables
-- A symbol's table, by the steps of its traversal.
pub mod Parents
pub mod StepTables
pub mod SymbolSteps
-- What the tables say of motions.
pub mod TableMotions
pub mod TableGroups
-- A record's table, column by column.
pub mod Columns
