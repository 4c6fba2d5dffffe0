-- What the functions of this room answer; sets and slots themselves are of subgroup_laws.
-- Putting a set into a list of slots.
pub mod Insertion
-- Going over a set's members.
pub mod Members
