-- What is answered on the group of a symbol or a record can be packed.
pub mod MotionBounds
