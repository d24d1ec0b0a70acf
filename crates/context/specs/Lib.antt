-- The definitions on what the steps find.
pub mod Found
pub mod Scopes
