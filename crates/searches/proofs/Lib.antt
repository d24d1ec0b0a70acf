-- What the proofs of several functions use, and what crates above use.
pub mod Names
pub mod Called
pub mod Parts
pub mod Viewed
pub mod Readable
pub mod Answers
