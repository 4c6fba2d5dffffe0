-- Writing records: what is answered and what the lent buffer holds, and what follows for records of symbols and of what was read.
pub mod Places
pub mod Copying
pub mod SymbolRecords
-- Their laws.
pub mod RoundTrips
pub mod AcceptedSymbols
pub mod SymbolSets
pub mod LayerRecords
pub mod SymbolReading
pub mod WritingNumbers
pub mod LayerReading
pub mod Moving
pub mod OldSoftware
pub mod Example
pub mod ExampleText
-- What the code does with operations and with bytes.
pub mod Selection
pub mod Parts
pub mod WrittenItems
pub mod Writing
