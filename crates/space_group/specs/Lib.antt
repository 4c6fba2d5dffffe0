-- From generators to a group.
-- What generators generate, and what is answered, of motions of space:
pub mod Refusals
pub mod Generated
-- The list as a program grows it:
pub mod Places
pub mod Traversal
pub mod Resuming
-- That the two are one:
pub mod OperationGrowth
-- The same list as numbers, in lent slots:
pub mod NumberGrowth
pub mod Hints
pub mod NumberSlots
pub mod Listings
-- The answers:
pub mod Slots
pub mod Heads
-- The answers by number and place:
pub mod Told
-- Generators with flags:
pub mod FlaggedGenerators
pub mod FlaggedOutcomes
pub mod FlaggedSlots
pub mod FlaggedSaid
