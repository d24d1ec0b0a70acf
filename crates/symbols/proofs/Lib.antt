-- The laws on the index.
pub mod Fits
pub mod Labels
pub mod Named
pub mod Owners
pub mod Placed
pub mod Plain
pub mod ReadBack
pub mod Rows
pub mod Searched
pub mod Spelled
pub mod Stored
pub mod Parts
pub mod Visiting
