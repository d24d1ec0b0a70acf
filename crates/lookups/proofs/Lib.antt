-- What the proofs of several functions use.
pub mod Meaning
pub mod Promise
pub mod Answers
pub mod Impostors
pub mod Determined
