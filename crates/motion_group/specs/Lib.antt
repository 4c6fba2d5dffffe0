-- The cells of their tables: at the front of lent slots, and accepted by the check of a table.
pub mod Cells
pub mod Accepted
