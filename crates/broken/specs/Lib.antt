-- The definitions on rules at one thing.
pub mod Things
pub mod Scopes
