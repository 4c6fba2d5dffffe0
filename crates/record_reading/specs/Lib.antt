-- Reading records: what the bytes before the end decide, how operations are laid out, and what is found at the end of a buffer.
pub mod Trailer
pub mod Slots
pub mod Found
