-- Groups on the numbers below n and their subgroups, as the tables and lists of the room above speak of them; nothing here is of its code.
-- What a loop over the elements decides.
pub mod Bounded
-- Groups on the numbers below n, and their tables.
pub mod Groups
pub mod GroupLaws
pub mod Table
pub mod TableCells
pub mod Rows
-- Sets of elements: subgroups, images, conjugates.
pub mod Subsets
pub mod SubgroupLaws
pub mod Images
pub mod Conjugation
pub mod Cosets
pub mod LowMembers
pub mod Removal
pub mod ImageLoop
-- Generators, by which associativity is told.
pub mod Generators
-- Adjoining an element to a subgroup.
pub mod Adjoin
-- Lists of sets in lent slots, and the list order.
pub mod Slots
pub mod SlotBytes
pub mod ListedSets
pub mod Lists
-- The search for subgroups and for representatives of their classes.
pub mod Search
pub mod Representatives
-- Conjugates with their conjugators, and permutations.
pub mod Conjugates
pub mod ConjugateLoop
pub mod Permutations
-- What the lists hold.
pub mod ListedSubgroups
pub mod ListedConjugates
-- The Rust's own procedures, and that their lists are ours.
pub mod RustProcedures
pub mod SameSubgroups
pub mod SameConjugates
pub mod SameClasses
pub mod AsTheRust
-- Counts that fit: orders, classes, and permutations.
pub mod CosetCounts
pub mod ClassCounts
pub mod PermutationProducts
