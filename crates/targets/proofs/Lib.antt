-- What the proofs of several functions use, and what crates above use.
pub mod Dotted
pub mod Comparing
pub mod Gaining
pub mod Filling
