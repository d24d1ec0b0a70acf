-- The laws on messages.
pub mod Wrote
pub mod Length
