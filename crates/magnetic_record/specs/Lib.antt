-- The record of a magnetic group: its bytes, how they are read, and which sets of flagged motions they stand for.
pub mod SecondEdition
pub mod Reading
pub mod Groups
pub mod Halves
pub mod Record
pub mod Acceptance
pub mod MagneticGroups
pub mod RoundTrips
pub mod OneRecord
pub mod SymbolRecords
pub mod OtherEditions
pub mod Example
pub mod Answers
pub mod TextRecords
pub mod Copying
pub mod TextSets
