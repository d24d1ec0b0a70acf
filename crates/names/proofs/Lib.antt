-- The laws on names.
pub mod Bools
pub mod Words
pub mod Any
pub mod Lists
pub mod Means
pub mod Counted
pub mod Targets
