-- What the proofs of several functions use, and what crates above use.
pub mod Verdict
pub mod Along
pub mod Walks
pub mod Clear
pub mod Places
pub mod Runs
pub mod Params
