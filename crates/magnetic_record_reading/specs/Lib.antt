-- Reading magnetic records: how the code goes through items, finds one and multiplies them, and what each test of the trailer leaves of the reading.
pub mod Search
pub mod Numbers
pub mod Trailer
