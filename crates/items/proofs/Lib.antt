-- What the proofs of several functions use, and the laws that other crates cite.
pub mod Parts
pub mod Sorts
pub mod Numbered
pub mod Searching
pub mod RisingPlaces
pub mod Labels
pub mod Kept
pub mod Filled
pub mod Standing
pub mod StitchesLeft
