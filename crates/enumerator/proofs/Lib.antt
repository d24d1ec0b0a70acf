-- The laws on entries that are visited.
pub mod Entered
pub mod Ready
pub mod Spelled
pub mod Stored
pub mod Visited
