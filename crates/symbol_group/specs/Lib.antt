-- A symbol's group from its text: the answers, their numbers, and what they say.
pub mod Refusals
pub mod Answers
pub mod Slots
pub mod Exactly
pub mod AcceptedTexts
pub mod TextNumbers
pub mod Told
pub mod SymbolsToTry
