-- What rotations, translations and operations mean, and what the answers of this room say of them.
-- Meaning: matrices, vectors and motions behind the numbers.
pub mod Meaning
pub mod Digits
pub mod Lanes
pub mod Twelves
pub mod Entries
-- The product, the code, the type, doubles.
pub mod Product
pub mod Columns
pub mod Composed
pub mod Code
pub mod Answer
pub mod RotationType
pub mod UnknownType
pub mod Below
pub mod DigitDeterminant
pub mod Turns
pub mod Doubles
pub mod OffGrid
