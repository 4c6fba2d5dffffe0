-- What is answered on records can be packed.
pub mod RecordBounds
pub mod ComparisonBounds
