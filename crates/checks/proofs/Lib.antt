-- What the proofs of several functions use, and what crates above use.
pub mod Cases
pub mod Asked
pub mod Recorded
pub mod Tables
