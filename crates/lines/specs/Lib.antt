-- The definitions on lines.
pub mod Lines
pub mod Lined
