-- The definitions on tables.
pub mod Hashes
pub mod Tables
pub mod Functions
pub mod Hints
