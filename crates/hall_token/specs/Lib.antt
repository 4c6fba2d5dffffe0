-- What one N token means, in the words of the rules: bytes, translations, the reader, and the spelling rules it is held against.
pub mod Front
pub mod Bytes
pub mod Runs
pub mod Translations
pub mod Sums
pub mod Offsets
pub mod RunLetters
pub mod Refusals
pub mod Edges
pub mod Reader
pub mod Stages
pub mod Spelling
pub mod Misspelt
pub mod Answers
