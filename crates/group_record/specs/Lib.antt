-- The group record of R5: its bytes, how they are read, and what group they stand for.
-- The definitions: what a record is, how it is read, which groups it may hold.
pub mod Items
pub mod Editions
pub mod Rules
pub mod OperationItems
pub mod FirstEdition
pub mod ThirdEdition
pub mod BothEditions
pub mod Record
pub mod Groups
pub mod Signs
pub mod Reading
-- Their laws.
pub mod ListedForm
pub mod OneRecord
pub mod GroupLaws
pub mod ReadingTests
pub mod Outcomes
pub mod Converse
pub mod Criterion
pub mod Acceptance
pub mod RefusalNumbers
-- How code goes through items, and that few products decide what is allowed.
pub mod Walk
pub mod Closing
