-- The groups that generators with flags make: when one is answered and when each refusal, the list, its order, the set of flagged motions.
pub mod Generated
pub mod Keys
pub mod Acceptance
pub mod Members
pub mod SetOfMotions
pub mod Unflagged
pub mod Symbols
-- What the entries answer, and the list as numbers:
pub mod Answers
pub mod Numbers
-- The answers by number and place:
pub mod Told
-- Texts without `'`, beside the plain entry:
pub mod Unprimed
