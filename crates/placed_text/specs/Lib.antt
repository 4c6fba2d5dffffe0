-- Texts written into a lent buffer one behind the other.
pub mod Placing
