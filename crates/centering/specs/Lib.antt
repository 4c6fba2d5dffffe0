-- The letters of R3.4 as data, and what their lattices are.
pub mod Letters
pub mod Lattices
pub mod LatticeLaws
pub mod PointSearch
pub mod Keeps
pub mod Reflections
