-- The definitions on the index.
pub mod Index
pub mod Spelled
pub mod Numbers
pub mod Fits
pub mod Rows
pub mod Placed
pub mod Stands
pub mod Visits
pub mod Storing
