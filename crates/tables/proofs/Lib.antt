-- What the proofs of several functions use, and what crates above use.
pub mod Hashing
pub mod Tables
pub mod Seeking
pub mod Filling
pub mod Asked
pub mod Answering
pub mod Ending
