-- Mathematics with nothing of crystals in it, each law for any size, order or type.
-- Tests, and members of lists by their indices:
pub mod Truth
pub mod Indices
-- Numbers, matrices and motions:
pub mod Integer
pub mod Matrix
pub mod Motion
pub mod Residue
-- Lists without repeats, in strict order, and closures:
pub mod Distinct
pub mod Sorted
pub mod Closure
pub mod Keyed
pub mod OrderedClosure
pub mod Words
pub mod ShortlexClosure
pub mod Growth
pub mod GrowthClosure
-- Parts of lists that are lent:
pub mod LentParts
-- The first byte at which a text leaves a spelling:
pub mod Prefixes
-- Lattices:
pub mod Lattice
pub mod LatticeMaps
-- Motions told apart by their rotations, and modulo a lattice:
pub mod SameMatrix
pub mod MotionsModulo
-- Finite groups and sets of their elements:
pub mod FiniteGroup
pub mod Sets
pub mod ListOrder
pub mod Counting
