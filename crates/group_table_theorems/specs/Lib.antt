-- Tables of groups of motions: what the answers for a text and for a record say of their sets of motions.
pub mod TableAnswers
