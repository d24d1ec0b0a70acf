-- The definitions on fields.
pub mod Bytes
pub mod Kinds
pub mod Refusals
