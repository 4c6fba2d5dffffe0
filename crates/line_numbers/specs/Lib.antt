-- What is answered for a line can be packed.
pub mod LineBounds
