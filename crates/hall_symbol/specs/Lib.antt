-- What a Hall symbol's text means, in the words of the rules: bytes, tokens, the lattice token, the shift, generators, refusals, and the reader; and the
-- spelling rules that the reader is held against.
pub mod Bytes
pub mod Classes
pub mod Runs
pub mod Tokens
pub mod Cut
pub mod Places
pub mod Lattice
pub mod Shift
pub mod Numbers
pub mod Generators
pub mod Shifting
pub mod Listed
pub mod Origin
pub mod Refusals
pub mod Reader
pub mod Walk
pub mod Spelling
pub mod Parts
pub mod Agreement
pub mod Minus
pub mod Answers
pub mod Told
