-- Groups grown from generators, in any monoid whose elements have keys, under any limit.
-- What is answered, and what it is promised in the words of:
pub mod Verdicts
pub mod Growing
-- When a list is answered, and when each refusal:
pub mod Acceptance
-- The elements by the forms in which a program holds them, and the loop that grows the forms:
pub mod Forms
pub mod Resuming
-- What the list is: its members, its order, the set that it stands for:
pub mod Members
pub mod WordOrder
pub mod WholeSet
-- The same with a flag:
pub mod Flagged
pub mod FlaggedGrowth
