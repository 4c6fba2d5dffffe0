-- What a catalogue answers, call by call, and that its answers are those of the uncut text.
pub mod Answers
pub mod Steps
pub mod Calls
pub mod Exactly
pub mod Numbered
