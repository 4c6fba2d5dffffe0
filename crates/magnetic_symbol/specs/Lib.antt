-- What a magnetic Hall symbol's text means: time reversals by the rules, the copy without them byte by byte, the answer; and that these are one.
pub mod TimeReversals
pub mod Reversals
pub mod Answer
pub mod Copying
pub mod TokenCopies
pub mod Tokens
pub mod Texts
pub mod FlagSlots
pub mod Places
pub mod Told
pub mod WrongPrimes
