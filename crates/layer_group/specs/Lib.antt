-- Layer groups: the copy of a text in capitals, the layer rules, the answers and their numbers, and what they say.
pub mod Refusals
pub mod Capitals
pub mod Copying
pub mod Layers
pub mod Answers
pub mod Slots
pub mod Spelling
pub mod Motions
pub mod Told
