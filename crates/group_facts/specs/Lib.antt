-- What holds between the answers on one group: of its table, of a symbol, of a record.
-- From tables to symbols and records.
pub mod Asked
-- Conjugation composes.
pub mod Composition
-- Counts that fit.
pub mod Counts
-- Lists that passed are one record.
pub mod PassedLists
