-- What the proofs of several functions use, and what crates above use.
pub mod Slots
pub mod Adding
pub mod Covering
pub mod Bodies
