-- What can be asked of a symbol's text, plain or of a layer, and that the answers can be packed.
pub mod Answers
pub mod SymbolBounds
pub mod LayerBounds
pub mod Questions
pub mod ListBounds
