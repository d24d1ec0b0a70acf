-- The definitions on filters.
pub mod Words
pub mod Names
