-- What a number says, the number of an operation, and the laws by which a product of numbers is the number of the product.
pub mod Number
pub mod Rows
pub mod Fields
pub mod Times
pub mod Moved
pub mod RoundTrip
pub mod Answered
