-- The items of records: what they are, and what is answered of them.
pub mod Items
pub mod Rules
