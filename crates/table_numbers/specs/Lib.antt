-- What is answered on the bytes of a table can be packed.
pub mod TableBounds
