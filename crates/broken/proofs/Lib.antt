-- What the proofs of several functions use, and the laws that other crates cite.
pub mod Answered
pub mod Among
