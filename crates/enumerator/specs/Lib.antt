-- The definitions on the index.
pub mod Numbers
pub mod Visited
pub mod Entered
pub mod Laws
