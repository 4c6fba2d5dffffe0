-- The lines of a text, and the bytes that are kept of the line that is being read.
pub mod Lines
pub mod Feeding
pub mod Keeping
pub mod Copying
pub mod Storing
pub mod Taking
