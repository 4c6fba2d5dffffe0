-- Which bytes stand for an operation.
pub mod FiveBytes
pub mod OneForm
