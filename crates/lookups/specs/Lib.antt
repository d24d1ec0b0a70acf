-- The definitions on lookups.
pub mod Results
pub mod Meaning
pub mod Lookup
