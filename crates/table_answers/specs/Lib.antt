-- What is answered on the bytes of a table, said from the rules and shown of the definitions that the contracts cite.
-- Number, place and value determine the answer.
pub mod Once
-- The reasons for 21 to 29, what becomes of lent lists, and that one answer and one content is left.
pub mod LentLists
pub mod Reasons
-- What each entry asks, and that its definition answers so.
pub mod Tested
pub mod Entries
pub mod OnGroup
-- What two lent lists hold together.
pub mod ConjugatePairs
