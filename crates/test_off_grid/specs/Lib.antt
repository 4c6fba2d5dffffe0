-- What the two C functions read off the way back's answer.
pub mod Component
