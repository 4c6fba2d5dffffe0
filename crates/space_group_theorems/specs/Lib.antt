-- From generators to a group: what the answers say of motions of space.
-- When a group is answered, and when each refusal:
pub mod Acceptance
-- What an accepted symbol's list is: its members, its order, its group, and the set of motions:
pub mod Members
pub mod Steps
pub mod WordOrder
pub mod SetOfMotions
-- What the refusals show, and when each is answered, by number and place:
pub mod Witnesses
pub mod Exactly
