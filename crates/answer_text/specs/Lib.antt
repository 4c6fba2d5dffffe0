-- The text that the program writes for one line.
-- The definitions.
pub mod Words
pub mod Text
-- Their laws.
pub mod FirstBytes
pub mod Example
-- What the code does with bytes.
pub mod Lines
pub mod RecordLines
pub mod Places
pub mod Answering
pub mod Growing
