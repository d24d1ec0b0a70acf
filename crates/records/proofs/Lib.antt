-- What the proofs of several functions use, and the laws that other crates cite.
pub mod Traces
pub mod Readings
pub mod Tables
pub mod Codes
pub mod Marks
pub mod Walking
pub mod PiecesRead
pub mod Bare
pub mod Places
pub mod Keeping
pub mod Leaving
pub mod Choices
pub mod Fits
pub mod Clearing
pub mod Moved
