-- The definitions on names.
pub mod Words
pub mod Text
pub mod Reserved
pub mod Targets
pub mod Counted
