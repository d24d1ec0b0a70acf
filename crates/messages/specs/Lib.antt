-- The definitions on messages.
pub mod Messages
