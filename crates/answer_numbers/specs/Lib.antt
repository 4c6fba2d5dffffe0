-- An answer as one number, and that nothing is lost by it.
pub mod Packing
