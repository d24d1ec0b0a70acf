-- What the proofs of several functions use, and what crates above use.
pub mod Hashing
pub mod Held
pub mod Clearing
pub mod Walking
pub mod Putting
pub mod Holding
pub mod Sections
pub mod Flows
pub mod Classes
pub mod Passing
