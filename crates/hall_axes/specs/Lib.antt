-- What the fold, the mark and the letter of an N token mean, in the words of the rules: its axis, and the rotation about it.
pub mod Axes
pub mod AxisRules
pub mod Matrices
pub mod Turning
pub mod TurnTest
pub mod Turns
pub mod OneTurn
pub mod Packed
